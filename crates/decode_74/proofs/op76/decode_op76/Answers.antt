-- `decode_74::op76::decode_op76` meets its contract.
use Prim.Native.Nat.{ℕ, ◌/◌, ◌%◌, ◌<◌}
use mathlib.Core.Path.{◌≡◌, sym, ◌∙◌}
use native.Mathlib.Omega.{arith}
use Rattle.rows.specs.Rows.{row76}
use Rattle.readers.specs.steps.Width.{width_of}
use Rattle.decode_74.proofs.Table76.{tables76}
use Rattle.decode_74.specs.steps.Op76.{table76}
use Rattle.record.specs.declared.Width.{Width}
use Rattle.decode_74.proofs.op76.decode_op76.Goals as goal

tabled : (w : Width) (b : ℕ) → b < 256 → row76 w (b / 16) (b % 16) ≡ table76 w (b / 16) (b % 16)
tabled w b l = tables76 w _ _ (omega arith)

pub returns-then-has : goal.returns-then-has
returns-then-has c =
    rw (tabled (width_of c.args.byte) c.args.b (omega arith), sym c.has.ensures ∙ c.if-has.true)
    c.immediate_76.ensures

pub returns-then-has-2 : goal.returns-then-has-2
returns-then-has-2 c =
    rw (tabled (width_of c.args.byte) c.args.b (omega arith), sym c.has.ensures ∙ c.if-has.false, sym c.has-2.ensures ∙ c.if-has-2.true)
    c.unary_76.ensures

pub returns : goal.returns
returns c =
    rw (tabled (width_of c.args.byte) c.args.b (omega arith), sym c.has.ensures ∙ c.if-has.false, sym c.has-2.ensures ∙ c.if-has-2.false)
    c.both_76.ensures
