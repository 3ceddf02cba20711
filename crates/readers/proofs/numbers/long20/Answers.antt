-- `readers::numbers::long20` meets its contract.
-- Assumes nothing.
use Prim.Native.Nat.{◌%◌}
use mathlib.Core.Path.{ap, ◌∙◌}
use native.Mathlib.Omega.{arith}
use lib.Dec.{leb}
use Rattle.std.specs.Prelude.{Ok}
use Rattle.rows.specs.Row.{imm20}
use Rattle.rows.proofs.Reading.{unread, long}
use Rattle.readers.specs.steps.Told.{retold, told, reading_in}
use Rattle.record.specs.Answer.{found}
use Rattle.readers.proofs.Found.{within, byte, first_byte, ends}
use Rattle.readers.proofs.numbers.long20.Goals as goal

pub returns-in_err-low : goal.returns-in_err-low
returns-in_err-low c = ends 3 _ _ imm20 c.behind.ensures c.in_err-low.was (unread _ _ 3 _) c.from_residual.ensures.1

pub returns : goal.returns
unfolding reading_in
returns c =
    let bs = c.args.bs.now in
    let s = c.args.s in
    let inside = within 3 bs s c.behind.ensures c.in_ok-low.was in
    let there = byte 3 bs s c.behind.ensures c.in_ok-low.was in
    let low = first_byte 3 bs s c.behind.ensures c.in_ok-low.was (omega arith) in
    let middle = there 1 (omega arith) in
    let high = there 2 (omega arith) in
    ap Ok c.with_imm.ensures ∙ ap (λ g. found bs (told (retold (s.taken % 256) imm20) g)) (long bs s inside (omega (arith, c.three.ensures, low, middle, high)) (λ k. omega (arith, c.type_inv.bs k)) (ap (λ h. leb 16 h) high))
