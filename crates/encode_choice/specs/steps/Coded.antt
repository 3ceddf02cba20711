-- A choice as what the code answers.
use Rattle.std.specs.Prelude.{Bool, true, false, Option, Some, None}
use Rattle.record.specs.declared.fields.Field.{Field}
use Rattle.record.specs.declared.fields.Field.TheVariants.{Nowhere as nowhere, Wide as wide, Short as short, Early as early}
use Rattle.encode_rules.specs.steps.Direct.{Choice, code, nothing}
use Rattle.encode_choice.specs.declared.Code.{Code}

-- the code's two numbers, if there is one
abbrev pub coded : Choice → Option Code
coded (code a b) = Some (record { first = a; second = b })
coded nothing = None

abbrev pub is_wide : Field → Bool
is_wide wide = true
is_wide nowhere = false
is_wide short = false
is_wide early = false
