-- A choice between an immediate and another operand.
-- Assumes nothing.
use mathlib.Core.Path.{◌≡◌, refl}
use Rattle.laws.specs.Choice.{pick}
use Rattle.record.specs.declared.fields.Field.{Field}
use Rattle.record.specs.declared.fields.Field.TheVariants.{Nowhere as nowhere, Wide as wide, Short as short, Early as early}
use Rattle.encode_rules.specs.steps.Direct.{Choice}
use Rattle.encode_choice.specs.steps.Choose.{on_field}
use Rattle.encode_choice.specs.steps.Coded.{is_wide}

pub on_field_lem : (f : Field) (x y : Choice) → pick (is_wide f) x y ≡ on_field f x y
on_field_lem wide x y = refl
on_field_lem nowhere x y = refl
on_field_lem short x y = refl
on_field_lem early x y = refl
