-- `decode_7c::opEB::decode_opEB` meets its contract.
use Prim.Native.Nat.{◌/◌, ◌%◌, ◌<◌}
use mathlib.Core.Path.{◌≡◌}
use native.Mathlib.Omega.{arith}
use borrow.Author.Tests.{lt-ltb}
use Rattle.rows.specs.Rows.{row_EB}
use Rattle.decode_7c.proofs.opEB.decode_opEB.Goals as goal

pub returns-then-b-lt128 : goal.returns-then-b-lt128
unfolding row_EB
returns-then-b-lt128 c =
    let low : c.args.b / 16 < 8 = omega arith in
    let same : c.args.b / 16 % 8 ≡ c.args.b / 16 = omega arith in
    rw (lt-ltb _ 8 low) (rw same at c.row_low.ensures)
