-- `decode_changed::general::word_jump` meets its contract.
-- Assumes nothing.
use native.Mathlib.Omega.{arith}
use Rattle.laws.proofs.Rest.{rest}
use Rattle.rows.specs.Rows.{row}
use Rattle.rows.specs.Run.{run_row}
use Rattle.readers.proofs.RowSteps.{steps}
use Rattle.decode_changed.proofs.general.word_jump.Goals as goal

pub returns-in_err-s : goal.returns-in_err-s
unfolding run_row row
returns-in_err-s c = grind (arith, steps, rw (rest 0 c.args.bs.now) at c.long.ensures)

pub returns : goal.returns
unfolding run_row row
returns c = grind (arith, steps, rw (rest 0 c.args.bs.now) at c.long.ensures)
