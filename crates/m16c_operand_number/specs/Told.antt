-- What m16c_operand_number returns and leaves.
use Rattle.std.specs.Prelude.{ℕ, ◌≡◌, List, ℤ}
use Rattle.record.specs.declared.fields.Field.{Field}
use Rattle.record.specs.declared.fields.Field.TheVariants.{Nowhere as nowhere, Wide as wide, Short as short, Early as early}
use Rattle.record.specs.declared.signed.Number.{Number}
use Rattle.record.specs.Signed.{number_at}
use Rattle.from_numbers.specs.Made.{record_of}

-- the number of operand k of the record that numbers make; the blank record, where they make none, has no operand
abbrev pub asked : List ℕ → ℕ → Number
asked ns k = number_at (record_of ns) k

-- 5 where no field holds a number, else 0
abbrev pub refusal_of : Field → ℕ
refusal_of nowhere = 5
refusal_of wide = 0
refusal_of short = 0
refusal_of early = 0

-- the promise: the number returned, and the number left
pub record TellsNumber (ns : List ℕ) (k r : ℕ) (n : ℤ) : Type 0 where
  pub returned : r ≡ refusal_of (asked ns k).field
  pub left : n ≡ (asked ns k).value
