-- `decode_7c::op7C::move_nibble` meets its contract.
use native.Mathlib.Omega.{arith}
use borrow.Author.Tests.{lt-ltb, le-ltb}
use Rattle.rows.specs.Run.{run_row}
use Rattle.rows.specs.Rows.{row}
use Rattle.decode_7c.proofs.AsRows.{as_rows}
use Rattle.decode_7c.specs.steps.Op7C.{nibble}
use Rattle.decode_7c.proofs.op7C.move_nibble.Goals as goal
use Rattle.decode_7c.proofs.op7C.move_nibble.Goals.{then-h-lt4, else-h-lt4}

pub returns : goal.returns
unfolding run_row row nibble
returns c = elim c.if-h-lt4.branch [
  | then-h-lt4 w ↦ rw (lt-ltb _ 4 w.if-h-lt4.true) (grind (arith, as_rows))
  | else-h-lt4 w ↦ rw (le-ltb _ 4 w.if-h-lt4.false) (grind (arith, as_rows))
]
