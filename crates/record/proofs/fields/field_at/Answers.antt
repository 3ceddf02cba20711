-- `record::fields::field_at` meets its contract.
-- Assumes nothing.
use mathlib.Core.Path.{◌≡◌, refl, sym, ap, ◌∙◌}
use mathlib.Core.Bool.{Bool, true, false, not}
use Rattle.laws.specs.Choice.{pick}
use Rattle.record.specs.declared.fields.Field.TheVariants.{Nowhere as nowhere}
use Rattle.record.specs.declared.Operand.TheVariants.{Disp8_SP}
use Rattle.record.specs.Same.{same_name, field_of, shared, field_at}
use Rattle.record.proofs.Three.{no_other}
use Rattle.record.proofs.Equal.{equal}
use Rattle.record.proofs.fields.field_at.Goals as goal

flipped : (b : Bool) → not b ≡ pick b false true
flipped true = refl
flipped false = refl

pub returns-then-k-eq0 : goal.returns-then-k-eq0
returns-then-k-eq0 c =
    let r = c.args.r in
    c.shared_field.ensures ∙ ap (shared (field_of r.op0) (field_of r.op1)) (ap not (c.eq-on_stack.ensures ∙ equal r.op0 Disp8_SP) ∙ flipped (same_name r.op0 Disp8_SP))
    ∙ ap (field_at r) (sym c.if-k-eq0.true)

pub returns-then-k-eq1 : goal.returns-then-k-eq1
returns-then-k-eq1 c =
    let r = c.args.r in
    c.shared_field-then-k-eq1.ensures ∙ ap (shared (field_of r.op1) (field_of r.op0)) (c.eq-on_stack.ensures ∙ equal r.op0 Disp8_SP) ∙ ap (field_at r) (sym c.if-k-eq1.true)

pub returns-then-k-eq2 : goal.returns-then-k-eq2
returns-then-k-eq2 c = c.field_of.ensures ∙ ap (field_at c.args.r) (sym c.if-k-eq2.true)

pub returns : goal.returns
returns c = no_other (field_at c.args.r) nowhere (λ k. refl) _ c.if-k-eq0.false c.if-k-eq1.false c.if-k-eq2.false
