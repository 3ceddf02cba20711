-- Two bytes at a place of an image, of each reading by itself: what the function of their group answers is the decoding there, by document 01
-- and, where the code is not changed, by the manual; and what the function of changed rows answers is that by the manual.
-- Assumes nothing.
use Prim.Native.Nat.{ℕ, ◌+◌, ◌/◌, ◌%◌, ◌-◌, ◌≤◌, ◌<◌}
use mathlib.Core.Path.{◌≡◌, sym, ap, subst, ◌∙◌}
use mathlib.Core.Logic.{◌⊎◌}
use mathlib.Core.Bool.{true, false}
use mathlib.Core.List.{List}
use native.Mathlib.Omega.{arith}
use lib.ListN.{length, get_or, take, drop, length-drop}
use lib.Seq.{get_or-drop}
use Rattle.laws.specs.Choice.{pick}
use Rattle.laws.proofs.Agree.{Rest}
use Rattle.laws.proofs.Rest.{rest}
use Rattle.record.specs.Answer.{Answer}
use Rattle.rows.specs.Row.{Row}
use Rattle.rows.specs.Groups.{known, document01}
use Rattle.rows.specs.Run.{decode_by, decode_rows, refusal, run_row}
use Rattle.by_manual.specs.Changed.{change_at}
use Rattle.by_manual.specs.Lists.{is_changed}
use Rattle.by_manual.specs.Table.{by_manual}
use Rattle.decode.proofs.Bytes.{two as by_two}
use Rattle.decode.proofs.First.{keys, unchanged_rest}
use Rattle.decode.proofs.Readings.{changed_known, row_kept}
use Rattle.m16c_decode.proofs.Few.{alike}
use Rattle.m16c_decode.proofs.Grouped.{Grouped}

-- of the groups with a first byte of their own
pub alone : (a b k : ℕ) (bs : List ℕ) (w : Row) → a ≡ k → Grouped k b bs (run_row w bs) → Grouped a b bs (run_row w bs)
alone a b k bs w e g = rw e g

-- of those that have none: none is changed
module _ (a b : ℕ) (bs : List ℕ) (l : a < 256) (r : Rest keys a) (o : (a < 0x74) ⊎ (0x7A ≤ a)) where
  pub unchanged : (h n : ℕ) → is_changed (change_at a h n) ≡ false
  unchanged h n = unchanged_rest h n a l r o

-- the two bytes stand at a place
module _ (image : List ℕ) (at : ℕ) where
  abbrev pub bytes_at : List ℕ
  bytes_at = take (length image - at) (drop at image)

  abbrev pub first_at : ℕ
  first_at = get_or bytes_at 0 0

  abbrev pub second_at : ℕ
  second_at = get_or bytes_at 1 0

  pub a_byte : ((k : ℕ) → get_or image k 0 < 256) → (i : ℕ) → get_or bytes_at i 0 < 256
  a_byte h i = subst (λ x. x < 256) (sym (ap (λ l. get_or l i 0) (rest at image) ∙ get_or-drop at image i 0)) (h (at + i))

  module _ (l : 2 ≤ length image - at) where
    two_there : 2 ≤ length bytes_at
    two_there = omega (arith, ap length (rest at image), length-drop at image)

    pub by_document : {x : Answer} → Grouped first_at second_at bytes_at x → x ≡ decode_rows (drop at image)
    by_document g = g ∙ by_two document01 bytes_at two_there ∙ ap decode_rows (rest at image)

    pub by_manual_lem : {x : Answer} → is_changed (change_at first_at (second_at / 16) (second_at % 16)) ≡ false → Grouped first_at second_at bytes_at x → x ≡ decode_by by_manual (drop at image)
    by_manual_lem u g =
        g ∙ ap (λ r. pick (known first_at) (run_row r bytes_at) (refusal 4 1)) (row_kept first_at second_at u)
        ∙ by_two by_manual bytes_at two_there ∙ ap (decode_by by_manual) (rest at image)

    pub by_changed : first_at < 256 → is_changed (change_at first_at (second_at / 16) (second_at % 16)) ≡ true → run_row (by_manual.row_at first_at second_at) bytes_at ≡ decode_by by_manual (drop at image)
    by_changed h new =
        ap (λ k. pick k (run_row (by_manual.row_at first_at second_at) bytes_at) (refusal 4 1)) (sym (changed_known (second_at / 16) (second_at % 16) first_at h new))
        ∙ by_two by_manual bytes_at two_there ∙ ap (decode_by by_manual) (rest at image)

-- of fewer bytes both readings say the same
pub few_alike : (bs : List ℕ) → length bs < 2 → decode_rows bs ≡ decode_by by_manual bs
few_alike = alike true
