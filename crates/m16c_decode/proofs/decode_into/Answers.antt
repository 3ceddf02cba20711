-- `m16c_decode::decode_into` meets its contract.
-- Assumes nothing.
use native.Mathlib.Omega.{arith}
use Rattle.by_manual.specs.Table.{table_by}
use Rattle.m16c_decode.proofs.Small.{small, same_small, no_room, keeps}
use Rattle.m16c_decode.proofs.decode_into.Goals as goal

pub returns-in_default : goal.returns-in_default
returns-in_default c = no_room (table_by c.args.manual) c.args.image.now c.args.at c.args.out.now (omega (arith, c.in_default.ensures.cases)) c.from.ensures

pub fill-requires : goal.fill-requires
fill-requires c = same_small c.decode_by.ensures (small c.args.manual c.args.image.now c.args.at (λ i. omega (arith, c.type_inv.image i)))

pub returns : goal.returns
returns c = keeps (table_by c.args.manual) c.args.image.now c.args.at c.args.out.now c.in-Some.ensures.cases.enough c.decode_by.ensures c.fill.ensures
