-- `decode_74::op7A::decode_op7A` meets its contract.
use native.Mathlib.Omega.{arith}
use borrow.Author.Rules.{rules}
use Rattle.record.specs.declared.Width.TheVariants.{B}
use mathlib.Core.Path.{ap}
use Rattle.record.specs.Answer.{answer_of}
use Rattle.rows.specs.Rows.{ldc, row_7A}
use Rattle.decode_74.proofs.Halves.{in_upper, in_none, in_lower}
use Rattle.decode_74.proofs.op7A.decode_op7A.Goals as goal

pub returns-then-b-ge128 : goal.returns-then-b-ge128
unfolding row_7A
returns-then-b-ge128 c = in_upper ldc B c.args.b c.args.bs.now (search rules) (omega arith) c.load_control.ensures

pub returns-then-b-ge64 : goal.returns-then-b-ge64
unfolding row_7A
returns-then-b-ge64 c = in_none ldc B c.args.b c.args.bs.now (omega arith) (omega arith) (ap answer_of c.refuse_for.ensures)

pub returns : goal.returns
unfolding row_7A
returns c = in_lower ldc B c.args.b c.args.bs.now (omega arith) c.exchange.ensures
