-- The bytes from a place on, and decoding by the first two.
-- Assumes nothing.
use Prim.Native.Nat.{ℕ, ◌≤◌, ◌<◌}
use mathlib.Core.Path.{◌≡◌, refl, ap, ◌∙◌}
use mathlib.Core.List.{List, [], ◌∷◌}
use native.Mathlib.Omega.{arith}
use lib.Dec.{ltb}
use borrow.Author.Tests.{lt-ltb}
use lib.ListN.{length, get_or, take, drop, length-drop}
use lib.Seq.{get_or-drop}
use Rattle.laws.specs.Choice.{pick}
use Rattle.rows.specs.Row.{Table}
use Rattle.rows.specs.Run.{decode_by, refusal, run_row}

-- of no more than one byte the first is all
pub all_taken : (l : List ℕ) → length l < 2 → take 1 l ≡ l
all_taken [] h = refl
all_taken (a ∷ []) h = refl
all_taken (a ∷ b ∷ l) h = absurd (omega arith)

-- by any table
module _ (t : Table) where
  -- of one byte at most
  few : (bs : List ℕ) → decode_by t (take 1 bs) ≡ pick (ltb 0 (length bs)) (pick (t.known (get_or bs 0 0)) (refusal 1 1) (refusal 4 1)) (refusal 1 0)
  unfolding decode_by
  few [] = refl
  few (a ∷ bs) = rw (lt-ltb 0 (length (a ∷ bs)) (omega arith)) refl

  -- the byte is asked for at its place
  pub few_told : (image : List ℕ) (at : ℕ)
      → decode_by t (take 1 (drop at image)) ≡ pick (ltb at (length image)) (pick (t.known (get_or image at 0)) (refusal 1 1) (refusal 4 1)) (refusal 1 0)
  few_told image at =
      let byte : get_or (drop at image) 0 0 ≡ get_or image at 0 = get_or-drop at image 0 0 ∙ ap (λ i. get_or image i 0) (omega arith) in
      few (drop at image)
      ∙ (λ i. pick (there i) (pick (t.known (byte i)) (refusal 1 1) (refusal 4 1)) (refusal 1 0))
    where
      there : ltb 0 (length (drop at image)) ≡ ltb at (length image)
      there = grind (arith, length-drop at image)

  pub two : (bs : List ℕ) → 2 ≤ length bs → pick (t.known (get_or bs 0 0)) (run_row (t.row_at (get_or bs 0 0) (get_or bs 1 0)) bs) (refusal 4 1) ≡ decode_by t bs
  unfolding decode_by
  two [] h = absurd (omega arith)
  two (a ∷ []) h = absurd (omega arith)
  two (a ∷ b ∷ bs) h = refl
