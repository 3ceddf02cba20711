-- `encode::counts::slot_of` meets its contract.
-- Assumes nothing.
use Rattle.encode.proofs.Sized.{sized_short}
use Rattle.encode.proofs.counts.slot_of.Goals as goal

pub invariant_of-result : goal.invariant_of-result
invariant_of-result c = record { short = sized_short c.args.o c.size_of-size.ensures }
