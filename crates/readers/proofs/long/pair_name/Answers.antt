-- `readers::long::pair_name` meets its contract.
-- Assumes nothing.
use Prim.Native.Nat.{◌%◌}
use borrow.Author.Rules.{rules}
use Rattle.readers.proofs.Names.{pair}
use Rattle.readers.proofs.long.pair_name.Goals as goal

pub returns : goal.returns
returns c w = rw c.pair_place.ensures.0 (pair w (c.args.code % 16) (search rules))
