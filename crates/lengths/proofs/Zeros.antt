-- The promise by decoding: fewer than two bytes as they are, of more the first two with five zeros behind them.
-- Assumes nothing.
use Prim.Native.Nat.{ℕ, ◌≤◌, ◌<◌}
use mathlib.Core.Path.{◌≡◌, refl, sym, ap, subst}
use mathlib.Core.Bool.{Bool, true, false}
use mathlib.Core.List.{List, [], ◌∷◌}
use native.Mathlib.Omega.{arith}
use lib.ListN.{length, get_or}
use Rattle.record.specs.Answer.{Answer}
use Rattle.rows.specs.Groups.{known, document01}
use Rattle.rows.specs.Run.{decode_rows}
use Rattle.rows.proofs.Refusals.{outside}
use Rattle.lengths.specs.Length.{OfTwo, LengthOf}
use Rattle.lengths.proofs.Fated.{zeros}
use Rattle.lengths.proofs.Laws.{of_outside}
use Rattle.lengths.proofs.Rule.{zeros_tell}

pub few : (bs : List ℕ) {x : Answer} → length bs < 2 → x ≡ decode_rows bs → LengthOf document01 bs x.refusal 0
few [] l e = (ap (λ y. y.refusal) e, refl)
few (a ∷ []) l e = (ap (λ y. y.refusal) e, refl)
few (a ∷ b ∷ bs) l e = absurd (omega arith)

abbrev TellsTwo : ℕ → ℕ → Answer → Type 0
TellsTwo a b x = OfTwo document01 a b x.refusal x.inst.length

two : (a b : ℕ) → b < 256 → TellsTwo a b (decode_rows (a ∷ b ∷ zeros))
two a b l = by (known a) refl
  where
    by : (x : Bool) → known a ≡ x → TellsTwo a b (decode_rows (a ∷ b ∷ zeros))
    by true e = zeros_tell a b e l
    by false e = rw (outside document01 a (b ∷ zeros) e) (of_outside document01 a (b ∷ zeros) e)

pub more : (bs : List ℕ) {x : Answer} → 2 ≤ length bs → get_or bs 1 0 < 256 → x ≡ decode_rows (get_or bs 0 0 ∷ get_or bs 1 0 ∷ zeros)
    → LengthOf document01 bs x.refusal x.inst.length
more [] l h e = absurd (omega arith)
more (a ∷ []) l h e = absurd (omega arith)
more (a ∷ b ∷ bs) l h e = subst (TellsTwo a b) (sym e) (two a b h)
