-- `readers::long::long_name` meets its contract.
-- Assumes nothing.
use Prim.Native.Nat.{◌%◌}
use borrow.Author.Rules.{rules}
use Rattle.readers.proofs.Names.{long}
use Rattle.readers.proofs.long.long_name.Goals as goal

pub returns : goal.returns
returns c = rw c.long_place.ensures.0 (long (c.args.code % 16) (search rules))
