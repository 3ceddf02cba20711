-- Opcode's `From<u32>` meets its contract: an arm is told its number, and the last that it is none of the others.
-- Made by scripts/tables/make-names from the enums of crates/record/src/lib.rt.
-- Assumes nothing.
use borrow.Author.Rules.{rules}
use Rattle.record.specs.declared.Opcode.TheVariants.{NOP}
use Rattle.record.specs.Names.{opcodes}
use Rattle.record.proofs.Ends.{past, last}
use Rattle.record.proofs.names.OpcodeFromU32.from.Goals as goal

pub returns-then-n-gt-LAST_OPCODE : goal.returns-then-n-gt-LAST_OPCODE
returns-then-n-gt-LAST_OPCODE c = past opcodes NOP _ c.if-n-gt-LAST_OPCODE.true

pub returns-in_default : goal.returns-in_default
returns-in_default c = last opcodes NOP 97 _ c.if-n-gt-LAST_OPCODE.false (search rules)
