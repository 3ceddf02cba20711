-- What the bytes behind those taken tell of a read: too few, or the number that the rows read there.
-- Assumes nothing.
use Prim.Native.Nat.{ℕ, ◌+◌, ◌%◌, ◌≤◌, ◌<◌}
use mathlib.Core.Path.{◌≡◌, refl, sym, ap, subst, ◌∙◌}
use mathlib.Core.Bool.{Bool, true, false}
use mathlib.Core.List.{List}
use native.Mathlib.Omega.{arith}
use lib.Dec.{leb}
use lib.ListN.{length, get_or, take, drop}
use lib.Seq.{get_or-drop, get_or-take}
use borrow.Author.Tests.{leb-true, leb-false}
use Rattle.std.specs.Prelude.{Result, Ok, Err}
use Rattle.std.specs.Result.{IsErrAnd}
use Rattle.laws.specs.Choice.{pick}
use Rattle.laws.proofs.Exit.{passed}
use Rattle.record.specs.Answer.{Short, too_few, found}
use Rattle.record.specs.declared.Seen.{Seen}
use Rattle.record.specs.declared.refusal.Refused.{Refused}
use Rattle.rows.specs.Row.{Num}
use Rattle.rows.specs.Run.{reading}
use Rattle.readers.specs.steps.Told.{behind, found_in, reading_in, retold, told}

module _ (n : ℕ) (bs : List ℕ) (s : Seen) where
  abbrev room : Bool
  room = leb (s.taken + n) (length bs)

  abbrev Left : Result (List ℕ) Refused → Type 0
  Left (Ok xs) = (s.taken + n ≤ length bs) × (xs ≡ take n (drop s.taken bs))
  Left (Err e) = (length bs < s.taken + n) × (e ≡ too_few bs)

  left : {x : Result (List ℕ) Refused} → x ≡ behind n bs s.taken → Left x
  left e = subst Left (sym e) (by room refl)
    where
      by : (b : Bool) → room ≡ b → Left (pick b (Ok (take n (drop s.taken bs))) (Err (too_few bs)))
      by true h = (leb-true _ _ h, refl)
      by false h = (leb-false _ _ h, refl)

  module _ {x : Result (List ℕ) Refused} {xs : List ℕ} (is : x ≡ behind n bs s.taken) (ok : x ≡ Ok xs) where
    pub within : s.taken + n ≤ length bs
    within = (subst Left ok (left is)).0

    -- the bytes are those that the rows read
    pub byte : (k : ℕ) → k < n → get_or xs k 0 ≡ get_or bs (s.taken + k) 0
    byte k h = ap (λ ys. get_or ys k 0) (subst Left ok (left is)).1 ∙ get_or-take n (drop s.taken bs) k 0 h ∙ get_or-drop s.taken bs k 0

    pub first_byte : 0 < n → get_or xs 0 0 ≡ get_or bs s.taken 0
    first_byte h = let here : s.taken + 0 ≡ s.taken = omega arith in byte 0 h ∙ ap (λ p. get_or bs p 0) here

  -- a read that finds too few
  pub ends : (k : Num) {x : Result Seen Refused} {r : Result (List ℕ) Refused} {e : Refused} → r ≡ behind n bs s.taken → r ≡ Err e
      → (length bs < s.taken + n → Short ≡ reading k bs s) → IsErrAnd x (λ y. y ≡ e) → x ≡ found_in k bs s
  unfolding reading_in
  ends k a b short h =
      let few = subst Left b (left a) in
      passed h ∙ ap Err few.1 ∙ ap (λ g. found bs (told (retold (s.taken % 256) k) g)) (short few.0)
