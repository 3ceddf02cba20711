-- The bytes at a place of an image: of fewer than two both readings say the same, and two begin with a code.
-- Assumes nothing.
use Prim.Native.Nat.{ℕ, ◌-◌, ◌≤◌, ◌<◌}
use mathlib.Core.Path.{◌≡◌, refl, sym, ap, ◌∙◌}
use mathlib.Core.Bool.{Bool, true, false}
use mathlib.Core.List.{List, [], ◌∷◌}
use native.Mathlib.Omega.{arith}
use lib.ListN.{length, get_or, take, drop, length-drop}
use Rattle.laws.specs.Choice.{pick}
use Rattle.rows.specs.Row.{Table}
use Rattle.rows.specs.Run.{decode_by, decode_rows, refusal, run_row}
use Rattle.by_manual.specs.Table.{table_by}
use Rattle.by_manual.proofs.Changes.{none_alike, one_alike}
use Rattle.decode.proofs.Bytes.{all_taken, two}
use Rattle.decode.proofs.Readings.{known_by}
use Rattle.m16c_decode.specs.steps.Coded.{coded}

pub alike : (m : Bool) (bs : List ℕ) → length bs < 2 → decode_rows bs ≡ decode_by (table_by m) bs
alike false bs l = refl
alike true [] l = sym none_alike
alike true (a ∷ []) l = sym (one_alike a)
alike true (a ∷ b ∷ bs) l = absurd (omega arith)

-- the first of them is all
pub few : (t : Table) (image : List ℕ) (at : ℕ) → length image - at < 2 → decode_by t (take 1 (drop at image)) ≡ decode_by t (drop at image)
few t image at l = ap (decode_by t) (all_taken (drop at image) (omega (arith, length-drop at image)))

-- and two bytes or more are a code
pub code_told : (m : Bool) {bs there : List ℕ} → bs ≡ there → 2 ≤ length bs → coded (table_by m) (get_or bs 0 0) (get_or bs 1 0) bs ≡ decode_by (table_by m) there
code_told m {bs} e l =
    ap (λ k. pick k (run_row ((table_by m).row_at (get_or bs 0 0) (get_or bs 1 0)) bs) (refusal 4 1)) (known_by m (get_or bs 0 0))
    ∙ two (table_by m) bs l ∙ ap (decode_by (table_by m)) e
