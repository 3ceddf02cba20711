-- `record::fields::numbers_of` meets its contract: each field holds what the key has.
-- Assumes nothing.
use mathlib.Core.Path.{ap, ◌∙◌}
use Rattle.record.specs.Same.{value_of}
use Rattle.record.proofs.fields.numbers_of.Goals as goal

pub returns : goal.returns
returns c =
    let r = c.args.r in (
      c.value_of.ensures ∙ ap (λ f. value_of f r) c.field_at.ensures,
      c.value_of-2.ensures ∙ ap (λ f. value_of f r) c.field_at-2.ensures,
      c.value_of-3.ensures ∙ ap (λ f. value_of f r) c.field_at-3.ensures,
    )
