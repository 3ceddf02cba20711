-- `decode_74::op74::decode_op74` meets its contract.
use Prim.Native.Nat.{ℕ, ◌/◌, ◌%◌, ◌<◌}
use mathlib.Core.Path.{◌≡◌, refl, sym, ap, ap₂, ◌∙◌}
use native.Mathlib.Omega.{arith}
use Rattle.laws.specs.Choice.{pick}
use Rattle.record.specs.Answer.{answer_of}
use Rattle.rows.specs.Rows.{row74}
use Rattle.readers.proofs.Told.{near, first, behind_general}
use Rattle.rows.proofs.Steps.{ends, goes, stops, done}
use Rattle.rows.specs.Run.{run_row}
use Rattle.rows.specs.Row.{InvalidOperand}
use Rattle.readers.specs.steps.Width.{width_of}
use Rattle.decode_74.proofs.Table74.{tables74, behind}
use Rattle.decode_74.specs.steps.Op74.{first74, rest74, table74}
use Rattle.record.specs.declared.Width.{Width}
use Rattle.decode_74.proofs.op74.decode_op74.Goals as goal

tabled : (w : Width) (b : ℕ) → b < 256 → row74 w (b / 16) (b % 16) ≡ table74 w (b / 16) (b % 16)
tabled w b l = tables74 w _ _ (omega arith)

pub returns-then-stop_74 : goal.returns-then-stop_74
unfolding run_row table74
returns-then-stop_74 c =
    rw (tabled (width_of c.args.byte) c.args.b (omega arith), sym c.stop_74.ensures ∙ c.if-stop_74.true)
    (stops InvalidOperand _ _ _ _ (ap answer_of c.refuse_for.ensures))

-- too few bytes for G(n)
pub returns-in_err-s : goal.returns-in_err-s
unfolding run_row table74
returns-in_err-s c =
    rw (tabled (width_of c.args.byte) c.args.b (omega arith), sym c.stop_74.ensures ∙ c.if-stop_74.false)
    (ends _ _ _ _ (first _ _ c.general.ensures) _ c.from_residual.result c.in_err-s.was c.from_residual.ensures.1)

-- too few bytes for what is behind it
pub returns-in_err-t : goal.returns-in_err-t
unfolding run_row table74
returns-in_err-t c =
    let w = width_of c.args.byte in
    rw (tabled w c.args.b (omega arith), sym c.stop_74.ensures ∙ c.if-stop_74.false)
    (goes _ _ _ _ (first _ _ c.general.ensures) _ c.in_ok-s.was
    (behind (rest74 w (c.args.b / 16)) _ _ _
    (ends _ _ _ _ (near _ _ _ (behind_general (c.args.b % 16) c.args.bs.now c.general.ensures c.in_ok-s.was) c.rest_74.ensures) _ c.from_residual-in_err-t.result c.in_err-t.was
    c.from_residual-in_err-t.ensures.1)))

pub returns : goal.returns
unfolding run_row table74
returns c =
    let w = width_of c.args.byte in
    let f = first74 (c.args.b / 16) in
    rw (tabled w c.args.b (omega arith), sym c.stop_74.ensures ∙ c.if-stop_74.false)
    (goes _ _ _ _ (first _ _ c.general.ensures) _ c.in_ok-s.was
    (behind (rest74 w (c.args.b / 16)) _ _ _
    (goes _ _ _ _ (near _ _ _ (behind_general (c.args.b % 16) c.args.bs.now c.general.ensures c.in_ok-s.was) c.rest_74.ensures) _ c.in_ok-t.was
    (done _ refl _ c.with.ensures refl c.size_74.ensures c.width_of.ensures
    (c.in_order-op0.ensures.0 ∙ ap₂ (pick f) c.general_name-name.ensures c.other_74-other.ensures)
    (c.in_order-op0.ensures.1 ∙ ap₂ (pick f) c.other_74-other.ensures c.general_name-name.ensures) refl))))
