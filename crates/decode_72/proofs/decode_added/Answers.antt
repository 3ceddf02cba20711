-- `decode_72::decode_added` meets its contract.
-- Assumes nothing.
use Prim.Native.Nat.{ℕ, ◌/◌, ◌%◌, ◌≤◌}
use mathlib.Core.Path.{◌≡◌, sym, ap, ◌∙◌}
use mathlib.Core.Bool.{false}
use native.Mathlib.Omega.{arith}
use borrow.Author.Tests.{ne_eqb}
use Rattle.record.specs.Answer.{answer_of}
use Rattle.rows.specs.Run.{run_row}
use Rattle.decode_72.specs.steps.Added.{is_list, is_added}
use Rattle.decode_72.proofs.Rows.{two_rows, list_rows}
use Rattle.decode_72.proofs.decode_added.Goals.{else-a-gt193-via-then-a-gt193+else-is_list, else-a-gt193-via-else-a-gt193}
use Rattle.decode_72.proofs.decode_added.Goals as goal

pub returns-then-is_two : goal.returns-then-is_two
unfolding is_added
returns-then-is_two c =
    let is = sym c.is_two.ensures ∙ c.if-is_two.true in
    rw is (c.decode_two.ensures ∙ ap (λ r. run_row r c.args.bs.now) (sym (two_rows (c.args.b / 16) (c.args.b % 16) c.args.a (omega (arith, c.ranges.a)) is)))

pub returns-then-is_list : goal.returns-then-is_list
unfolding is_added
returns-then-is_list c =
    let is = sym c.is_list.ensures ∙ c.if-is_list.true in
    rw (sym c.is_two.ensures ∙ c.if-is_two.false, is)
    (c.decode_list.ensures c.args.bs.now ∙ ap (λ r. run_row r c.args.bs.now) (sym (list_rows (c.args.b / 16) (c.args.b % 16) c.args.a (omega (arith, c.ranges.a)) is)))

-- no list where none is asked for
early : (a : ℕ) → a ≤ 0xC1 → is_list a ≡ false
unfolding is_list
early a l = ne_eqb (a / 2) 0x76 (λ e. omega arith)

pub returns : goal.returns
unfolding is_added
returns c =
    let none : is_list c.args.a ≡ false = elim c.else-a-gt193.branch [
      | else-a-gt193-via-then-a-gt193+else-is_list w ↦ sym w.is_list.ensures ∙ w.if-is_list.false
      | else-a-gt193-via-else-a-gt193 w ↦ early c.args.a w.if-a-gt193.false
    ] in
    rw (sym c.is_two.ensures ∙ c.if-is_two.false, none) (ap answer_of c.refuse_for.ensures)
