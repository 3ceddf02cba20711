-- `m16c_decode::groups::fill_few` meets its contract.
-- Assumes nothing.
use mathlib.Core.Bool.{false}
use Rattle.m16c_decode.proofs.Small.{same_small}
use Rattle.m16c_decode.proofs.groups.fill_few.Goals as goal

pub fill-requires : goal.fill-requires
fill-requires c = same_small (c.decode_few.ensures false) c.requires
