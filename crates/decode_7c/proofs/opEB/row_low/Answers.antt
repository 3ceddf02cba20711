-- `decode_7c::opEB::row_low` meets its contract.
use Prim.Native.Nat.{◌%◌}
use borrow.Author.Rules.{rules}
use Rattle.rows.specs.Rows.{row_EB_low}
use Rattle.decode_7c.proofs.TableEB.{addresses}
use Rattle.decode_7c.proofs.opEB.row_low.Goals as goal

pub returns-in-2 : goal.returns-in-2
unfolding row_EB_low
returns-in-2 c = rw c.in-2.is (c.control_alone.ensures _)

pub returns-in-3 : goal.returns-in-3
unfolding row_EB_low
returns-in-3 c = rw c.in-3.is (c.control_alone-in-3.ensures _)

pub returns-in_default : goal.returns-in_default
returns-in_default c = rw (addresses _ (c.args.b % 16) (search rules) (search rules)) c.move_address.ensures
