-- `decode_7c::op7D::push_address` meets its contract.
use native.Mathlib.Omega.{arith}
use borrow.Author.Tests.{le-ltb}
use Rattle.rows.specs.Run.{run_row}
use Rattle.rows.specs.Rows.{row}
use Rattle.decode_7c.proofs.AsRows.{as_rows}
use Rattle.decode_7c.proofs.op7D.push_address.Goals as goal

pub returns : goal.returns
unfolding run_row row
returns c = let e = le-ltb _ 8 c.if-n-lt8.false in rw e (grind (arith, as_rows, rw e at c.general.ensures))
