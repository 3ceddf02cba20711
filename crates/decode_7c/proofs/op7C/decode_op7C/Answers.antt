-- `decode_7c::op7C::decode_op7C` meets its contract.
use Prim.Native.Nat.{◌/◌}
use native.Mathlib.Omega.{arith}
use borrow.Author.Rules.{rules}
use Rattle.decode_7c.proofs.Table7C.{nibbles}
use Rattle.decode_7c.proofs.op7C.decode_op7C.Goals as goal

pub returns-in_default : goal.returns-in_default
returns-in_default c = rw (nibbles _ (c.args.b / 16) (omega arith) (search rules)) c.move_nibble.ensures
