-- `decode_74::op7B::decode_op7B` meets its contract.
use native.Mathlib.Omega.{arith}
use borrow.Author.Rules.{rules}
use Rattle.record.specs.declared.Width.TheVariants.{W}
use mathlib.Core.Path.{ap}
use Rattle.record.specs.Answer.{answer_of}
use Rattle.rows.specs.Rows.{stc, row_7B}
use Rattle.decode_74.proofs.Halves.{in_upper, in_none, in_lower}
use Rattle.decode_74.proofs.op7B.decode_op7B.Goals as goal

pub returns-then-b-ge128 : goal.returns-then-b-ge128
unfolding row_7B
returns-then-b-ge128 c = in_upper stc W c.args.b c.args.bs.now (search rules) (omega arith) c.store_control.ensures

pub returns-then-b-ge64 : goal.returns-then-b-ge64
unfolding row_7B
returns-then-b-ge64 c = in_none stc W c.args.b c.args.bs.now (omega arith) (omega arith) (ap answer_of c.refuse_for.ensures)

pub returns : goal.returns
unfolding row_7B
returns c = in_lower stc W c.args.b c.args.bs.now (omega arith) c.exchange.ensures
