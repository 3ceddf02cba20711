-- `decode_74::op7E::decode_op7E` meets its contract.
use Prim.Native.Nat.{ℕ, ◌/◌, ◌%◌, ◌<◌}
use mathlib.Core.Path.{◌≡◌, refl, ap}
use Rattle.record.specs.Answer.{answer_of}
use native.Mathlib.Omega.{arith}
use borrow.Author.Tests.{le-leb, lt-leb, ne_eqb}
use Rattle.readers.proofs.Told.{first}
use Rattle.rows.proofs.Steps.{ends, goes, stops, done}
use Rattle.rows.specs.Row.{InvalidOpcode}
use Rattle.rows.specs.Rows.{row, row_7E}
use Rattle.rows.specs.Run.{run_row}
use Rattle.decode_74.proofs.Table7E.{table_7E, tables_7E, operand_named}
use Rattle.decode_74.proofs.op7E.decode_op7E.Goals as goal

tabled : (b : ℕ) → b < 256 → row_7E (b / 16) (b % 16) ≡ table_7E (b / 16) (b % 16)
tabled b l = tables_7E _ _ (omega arith)

pub returns-then-h-ge14 : goal.returns-then-h-ge14
unfolding run_row row
returns-then-h-ge14 c = rw (tabled c.args.b (omega arith), le-leb _ _ c.if-h-ge14.true) (stops InvalidOpcode _ _ _ _ (ap answer_of c.refuse_for.ensures))

pub returns-then-h-eq2 : goal.returns-then-h-eq2
unfolding run_row row
returns-then-h-eq2 c =
    rw (tabled c.args.b (omega arith), lt-leb _ _ c.if-h-ge14.false, c.if-h-eq2.true)
    (goes _ _ _ _ (first _ _ c.bit.ensures) _ c.in_ok-s.was (operand_named _ _ _ c.conditional.ensures c.bit_name-name.ensures))

pub returns-in_err-s : goal.returns-in_err-s
unfolding run_row row
returns-in_err-s c =
    rw (tabled c.args.b (omega arith), lt-leb _ _ c.if-h-ge14.false)
    (ends _ _ _ _ (first _ _ c.bit.ensures) _ c.from_residual.result c.in_err-s.was c.from_residual.ensures.1)

pub returns : goal.returns
unfolding run_row row
returns c =
    rw (tabled c.args.b (omega arith), lt-leb _ _ c.if-h-ge14.false, ne_eqb _ 2 c.if-h-eq2.false)
    (goes _ _ _ _ (first _ _ c.bit.ensures) _ c.in_ok-s.was (done _ refl _ c.bit_row.ensures refl refl refl c.bit_name-name.ensures refl refl))
