-- `decode_7c::opEB::move_address` meets its contract.
use Prim.Native.Nat.{◌/◌, ◌%◌, ◌<◌}
use mathlib.Core.Path.{◌≡◌}
use native.Mathlib.Omega.{arith}
use borrow.Author.Tests.{lt-ltb}
use Rattle.rows.specs.Run.{run_row}
use Rattle.rows.specs.Rows.{row}
use Rattle.decode_7c.proofs.AsRows.{as_rows}
use Rattle.decode_7c.proofs.opEB.move_address.Goals as goal

pub returns : goal.returns
unfolding run_row row
returns c =
    let low : c.args.b / 16 % 8 < 8 = omega arith in
    let whole : c.args.b / 16 % 8 % 16 ≡ c.args.b / 16 % 8 = omega arith in
    rw (lt-ltb _ 8 low) (grind (arith, as_rows, whole))
