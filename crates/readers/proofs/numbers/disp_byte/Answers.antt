-- `readers::numbers::disp_byte` meets its contract.
-- Assumes nothing.
use Prim.Native.Nat.{◌%◌}
use mathlib.Core.Path.{ap, ◌∙◌}
use native.Mathlib.Omega.{arith}
use Rattle.std.specs.Prelude.{Ok}
use Rattle.rows.specs.Row.{disp}
use Rattle.rows.proofs.Reading.{short, disp1}
use Rattle.readers.specs.steps.Told.{retold, told, reading_in}
use Rattle.record.specs.Answer.{found}
use Rattle.readers.proofs.Found.{within, first_byte, ends}
use Rattle.readers.proofs.numbers.disp_byte.Goals as goal

pub returns-in_err-number : goal.returns-in_err-number
returns-in_err-number c = ends 1 _ _ (disp 1) c.behind.ensures c.in_err-number.was (short _ _ 1 (omega arith)) c.from_residual.ensures.1

pub returns : goal.returns
unfolding reading_in
returns c =
    let bs = c.args.bs.now in
    let s = c.args.s in
    let inside = within 1 bs s c.behind.ensures c.in_ok-number.was in
    let number = first_byte 1 bs s c.behind.ensures c.in_ok-number.was (omega arith) in
    ap Ok c.with_disp.ensures ∙ ap (λ g. found bs (told (retold (s.taken % 256) (disp 1)) g)) (disp1 bs s (omega (arith, inside)) (c.from.ensures ∙ number))
