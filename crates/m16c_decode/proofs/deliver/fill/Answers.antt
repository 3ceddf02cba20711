-- `m16c_decode::deliver::fill` meets its contract.
-- Assumes nothing.
use Rattle.m16c_decode.specs.Decoded.{numbers_of}
use Rattle.m16c_decode.proofs.deliver.fill.Goals as goal

pub returns-in-Err : goal.returns-in-Err
unfolding numbers_of
returns-in-Err c = rw c.in-Err.is (record { returned = c.from.ensures; kept = c.numbers_of-in-Err.ensures })
