-- `decode_7c::opEB::control_alone` meets its contract.
use native.Mathlib.Omega.{arith}
use Rattle.rows.specs.Run.{run_row}
use Rattle.rows.specs.Rows.{row}
use Rattle.decode_7c.proofs.AsRows.{as_rows}
use Rattle.decode_7c.proofs.opEB.control_alone.Goals as goal

pub returns : goal.returns
unfolding run_row row
returns c = λ bs. grind (arith, as_rows)
