-- Operand's `From<u32>` meets its contract: an arm is told its number, and the last that it is none of the others.
-- Made by scripts/tables/make-names from the enums of crates/record/src/lib.rt.
-- Assumes nothing.
use borrow.Author.Rules.{rules}
use Rattle.record.specs.declared.Operand.TheVariants.{Nothing}
use Rattle.record.specs.Names.{operands}
use Rattle.record.proofs.Ends.{past, last}
use Rattle.record.proofs.names.OperandFromU32.from.Goals as goal

pub returns-then-n-gt-LAST_OPERAND : goal.returns-then-n-gt-LAST_OPERAND
returns-then-n-gt-LAST_OPERAND c = past operands Nothing _ c.if-n-gt-LAST_OPERAND.true

pub returns-in_default : goal.returns-in_default
returns-in_default c = last operands Nothing 56 _ c.if-n-gt-LAST_OPERAND.false (search rules)
