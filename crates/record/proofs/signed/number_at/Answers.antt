-- `record::signed::number_at` meets its contract.
-- Assumes nothing.
use mathlib.Core.Path.{ap, ◌∙◌}
use mir.Syntax.{w64}
use mir.Facts.{to_z-of_z}
use Rattle.record.specs.Same.{value_of}
use Rattle.record.specs.Signed.{number_of}
use Rattle.record.proofs.signed.number_at.Goals as goal

pub returns : goal.returns
returns c =
    let r = c.args.r in
    let held = c.value_of.ensures ∙ ap (λ f. value_of f r) c.field_at-field.ensures in
    let value = to_z-of_z {w = w64} (record { sfits = c.number_of.type_inv }) ∙ c.number_of.ensures ∙ (λ i. number_of (c.name_at.ensures i) (held i)) in
    λ i. record { field = c.field_at-field.ensures i; value = value i }
