-- `decode_7c::op7C::extend_pair` meets its contract.
use native.Mathlib.Omega.{arith}
use Rattle.record.specs.declared.Width.TheVariants.{B}
use Rattle.rows.specs.Run.{run_row}
use Rattle.rows.specs.Rows.{row}
use Rattle.decode_7c.proofs.AsRows.{as_rows}
use Rattle.decode_7c.proofs.op7C.extend_pair.Goals as goal

pub returns : goal.returns
unfolding run_row row
returns c = grind (arith, as_rows, c.pair_name.ensures B)
