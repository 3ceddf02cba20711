-- `readers::general::general_name` meets its contract.
-- Assumes nothing.
use Prim.Native.Nat.{◌%◌}
use borrow.Author.Rules.{rules}
use Rattle.readers.proofs.Names.{word, byte}
use Rattle.readers.proofs.general.general_name.Goals as goal

pub returns-then-byte : goal.returns-then-byte
returns-then-byte c = rw c.if-byte.true (byte (c.args.code % 16) (search rules))

pub returns-else-byte : goal.returns-else-byte
returns-else-byte c = rw c.if-byte.false (word (c.args.code % 16) (search rules))
