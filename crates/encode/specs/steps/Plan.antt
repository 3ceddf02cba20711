-- The bytes of a plan: a code and up to two numbers behind it.
use Rattle.std.specs.Prelude.{ℕ, List, ◌∷◌, ◌++◌, Option, Some, None}
use Rattle.encode_rules.specs.steps.Digits.{digits}
use Rattle.encode_rules.specs.Says.{Found, bytes, none}
use Rattle.encode.specs.declared.plan.Plan.{Plan}

abbrev pub planned : Plan → List ℕ
planned p = p.first ∷ p.second ∷ (digits p.number.count p.number.value ++ digits p.rest.count p.rest.value)

abbrev pub found_by : Option Plan → Found
found_by (Some p) = bytes (planned p)
found_by None = none
