-- `decode::decode_code` meets its contract.
-- Assumes nothing.
use Prim.Native.Nat.{◌/◌, ◌%◌, ◌<◌, ◌≤◌}
use mathlib.Core.Path.{refl, ap, ◌∙◌}
use native.Mathlib.Omega.{arith}
use mathlib.Core.Logic.{◌⊎◌, inl, inr}
use lib.Dec.{eqb}
use Rattle.laws.specs.Choice.{pick}
use Rattle.rows.specs.Rows.{row74, row76, row78}
use Rattle.rows.specs.Groups.{known, rows_of, document01}
use Rattle.laws.proofs.Agree.{Rest}
use Rattle.laws.proofs.Rest.{rest}
use Rattle.rows.specs.Run.{refusal, run_row}
use Rattle.readers.specs.steps.Width.{width_of}
use Rattle.decode_72.specs.steps.Added.{is_added}
use Rattle.by_manual.specs.Changed.{change74, change76, change_at}
use Rattle.decode.specs.steps.Rows.{row_by}
use Rattle.decode.proofs.First.{keys, of_pair, known_rest, unchanged_rest}
use Rattle.decode.proofs.Readings.{row_own}
use Rattle.decode.proofs.decode_code.Goals.{in_default-via-then-a-lt116, in_default-via-else-a-lt116+else-a-lt118+else-a-lt120+else-a-lt122}
use Rattle.decode.proofs.decode_code.Goals as goal

pub returns-in-116 : goal.returns-in-116
unfolding known rows_of change_at
returns-in-116 c =
    let m = c.args.manual in
    let b = c.args.b in
    c.decode_74.ensures
    ∙ of_pair (λ a. row_by (change_at a (b / 16) (b % 16)) m (document01.row_at a b)) c.args.bs.now (λ w. row_by (change74 w (b / 16) (b % 16)) m (row74 w (b / 16) (b % 16))) 0x74 ((tt, refl), refl) c.args.a (omega arith) (omega arith)

pub returns-in-118 : goal.returns-in-118
unfolding known rows_of change_at
returns-in-118 c =
    let m = c.args.manual in
    let b = c.args.b in
    c.decode_76.ensures
    ∙ of_pair (λ a. row_by (change_at a (b / 16) (b % 16)) m (document01.row_at a b)) c.args.bs.now (λ w. row_by (change76 w (b / 16) (b % 16)) m (row76 w (b / 16) (b % 16))) 0x76 ((tt, refl), refl) c.args.a (omega arith) (omega arith)

pub returns-in-120 : goal.returns-in-120
unfolding known rows_of change_at
returns-in-120 c =
    let m = c.args.manual in
    let b = c.args.b in
    c.decode_op78.ensures ∙ ap (run_row (row78 (width_of (eqb (c.args.a % 2) 0)) (b / 16) (b % 16))) (rest 0 c.args.bs.now)
    ∙ of_pair (λ a. row_by (change_at a (b / 16) (b % 16)) m (document01.row_at a b)) c.args.bs.now (λ w. row78 w (b / 16) (b % 16)) 0x78 ((tt, refl), refl) c.args.a (omega arith) (omega arith)

pub returns-in_default : goal.returns-in_default
returns-in_default c =
    let a = c.args.a in
    let b = c.args.b in
    let left : Rest keys a = ((((((tt, λ e. omega arith), λ e. omega arith), λ e. omega arith), λ e. omega arith), λ e. omega arith), λ e. omega arith) in
    let out : (a < 0x74) ⊎ (0x7A ≤ a) =
    elim c.in_default.branch [ in_default-via-then-a-lt116 w ↦ inl (omega arith) | in_default-via-else-a-lt116+else-a-lt118+else-a-lt120+else-a-lt122 w ↦ inr (omega arith) ] in
    let none = unchanged_rest (b / 16) (b % 16) a (omega (arith, c.ranges.a)) left out in
    rw (known_rest a (omega (arith, c.ranges.a)) left out)
    (c.decode_added.ensures ∙ ap (λ r. pick (is_added a) (run_row r c.args.bs.now) (refusal 4 1)) (row_own (change_at a (b / 16) (b % 16)) c.args.manual (document01.row_at a b) none))
