-- `decode_74::op7E::conditional` meets its contract.
use mathlib.Core.Path.{refl, ap}
use Rattle.record.specs.Answer.{answer_of}
use Rattle.rows.proofs.Steps.{unread, holds, fails, done}
use Rattle.decode_74.proofs.Table7E.{low, high, between, last}
use Rattle.decode_74.proofs.op7E.conditional.Goals as goal

pub returns-then-bs-at : goal.returns-then-bs-at
returns-then-bs-at c = unread _ _ _ _ c.if-bs-at.true (ap answer_of c.refuse_for.ensures)

pub returns-then-c-lt7 : goal.returns-then-c-lt7
returns-then-c-lt7 c = holds _ _ _ _ c.if-bs-at.false (low _ c.if-c-lt7.true) (done _ refl _ c.bit_row-row.ensures refl refl refl refl refl refl)

pub returns-then-c-lt248 : goal.returns-then-c-lt248
returns-then-c-lt248 c = fails _ _ _ _ c.if-bs-at.false (between _ c.if-c-lt7.false c.if-c-lt248.true) (ap answer_of c.refuse_for-then-c-lt248.ensures)

pub returns-then-c-lt255 : goal.returns-then-c-lt255
returns-then-c-lt255 c = holds _ _ _ _ c.if-bs-at.false
    (high _ c.if-c-lt248.false c.if-c-lt255.true) (done _ refl _ c.bit_row-row.ensures refl refl refl refl refl refl)

pub returns : goal.returns
returns c = fails _ _ _ _ c.if-bs-at.false (last _ c.if-c-lt255.false) (ap answer_of c.refuse_for-2.ensures)
