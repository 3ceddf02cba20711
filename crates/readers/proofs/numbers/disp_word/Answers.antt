-- `readers::numbers::disp_word` meets its contract.
-- Assumes nothing.
use Prim.Native.Nat.{◌%◌}
use mathlib.Core.Path.{ap, ◌∙◌}
use native.Mathlib.Omega.{arith}
use Rattle.std.specs.Prelude.{Ok}
use Rattle.rows.specs.Row.{disp}
use Rattle.rows.proofs.Reading.{short, disp2}
use Rattle.readers.specs.steps.Told.{retold, told, reading_in}
use Rattle.record.specs.Answer.{found}
use Rattle.readers.proofs.Found.{within, byte, first_byte, ends}
use Rattle.readers.proofs.numbers.disp_word.Goals as goal

pub returns-in_err-low : goal.returns-in_err-low
returns-in_err-low c = ends 2 _ _ (disp 2) c.behind.ensures c.in_err-low.was (short _ _ 2 (omega arith)) c.from_residual.ensures.1

pub returns : goal.returns
unfolding reading_in
returns c =
    let bs = c.args.bs.now in
    let s = c.args.s in
    let inside = within 2 bs s c.behind.ensures c.in_ok-low.was in
    let there = byte 2 bs s c.behind.ensures c.in_ok-low.was in
    let low = first_byte 2 bs s c.behind.ensures c.in_ok-low.was (omega arith) in
    let high = there 1 (omega arith) in
    ap Ok c.with_disp.ensures ∙ ap (λ g. found bs (told (retold (s.taken % 256) (disp 2)) g)) (disp2 bs s (omega (arith, inside)) (omega (arith, c.from_le_bytes.ensures, low, high)))
