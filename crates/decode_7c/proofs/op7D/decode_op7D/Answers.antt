-- `decode_7c::op7D::decode_op7D` meets its contract.
use Prim.Native.Nat.{◌/◌}
use native.Mathlib.Omega.{arith}
use Rattle.rows.specs.Run.{run_row}
use Rattle.rows.specs.Rows.{row}
use Rattle.decode_7c.proofs.AsRows.{as_rows}
use Rattle.decode_7c.proofs.Table7D.{vacant}
use Rattle.decode_7c.proofs.op7D.decode_op7D.Goals as goal

pub returns-in-6 : goal.returns-in-6
unfolding run_row row
returns-in-6 c = rw (vacant _ (c.args.b / 16) (omega arith) (omega arith)) (grind (arith, as_rows))
