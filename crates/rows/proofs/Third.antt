-- No row has a third operand, and so no answer, of any row table.
-- Assumes nothing.
use Prim.Native.Nat.{ℕ}
use mathlib.Core.Path.{◌≡◌, refl, ap}
use mathlib.Core.Bool.{Bool, true, false}
use mathlib.Core.List.{List, [], ◌∷◌}
use lib.Dec.{eqb}
use borrow.Author.Tests.{eqb-true, eqb-false}
use Rattle.laws.proofs.Choice.{pick_holds}
use Rattle.record.specs.Answer.{Answer}
use Rattle.record.specs.declared.Operand.TheVariants.{Nothing}
use Rattle.rows.specs.Row.{Table}
use Rattle.rows.specs.Run.{refusal, decode_by}
use Rattle.rows.proofs.Refusals.{refused_blank}
use Rattle.rows.proofs.Spans.{accepted}

pub no_third : (t : Table) (bs : List ℕ) → (decode_by t bs).inst.op2 ≡ Nothing
unfolding decode_by
no_third t [] = refl
no_third t (a ∷ []) = pick_holds (λ (x : Answer). x.inst.op2 ≡ Nothing) (t.known a) (refusal 1 1) (refusal 4 1) (λ e. refl) (λ e. refl)
no_third t (a ∷ b ∷ bs) = by (eqb (decode_by t (a ∷ b ∷ bs)).refusal 0) refl
  where
    by : (x : Bool) → eqb (decode_by t (a ∷ b ∷ bs)).refusal 0 ≡ x → (decode_by t (a ∷ b ∷ bs)).inst.op2 ≡ Nothing
    by true e = (accepted t a b bs (eqb-true _ 0 e)).made.op2
    by false e = ap (λ r. r.op2) (refused_blank t (a ∷ b ∷ bs) (eqb-false _ 0 e))
