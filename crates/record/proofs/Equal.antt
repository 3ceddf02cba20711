-- Two operands' tags are equal exactly if their numbers are: `==`, which compares tags, is `same_name`.
-- Assumes nothing.
use mathlib.Core.Path.{◌≡◌, ap₂}
use lib.Dec.{eqb, eqb→eq}
use denote.Enum.Declared.{tag_of}
use denote.Enum.Bare.{sameb}
use Rattle.record.specs.declared.Operand.{Operand}
use Rattle.record.specs.contracts.Operand.{the_type}
use Rattle.record.specs.Numbers.{operand_no}
use Rattle.record.specs.Same.{same_name}
use Rattle.record.proofs.Arms.{every_operand}

tag_told : (a : Operand) → tag_of the_type a ≡ operand_no a
tag_told a = eqb→eq _ _ (every_operand (λ o. eqb (tag_of the_type o) (operand_no o)) tt a)

pub equal : (a b : Operand) → sameb the_type a b ≡ same_name a b
unfolding same_name
equal a b = ap₂ eqb (tag_told a) (tag_told b)
