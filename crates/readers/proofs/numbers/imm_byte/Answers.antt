-- `readers::numbers::imm_byte` meets its contract.
-- Assumes nothing.
use Prim.Native.Nat.{◌%◌}
use mathlib.Core.Path.{ap, ◌∙◌}
use native.Mathlib.Omega.{arith}
use Rattle.std.specs.Prelude.{Ok}
use Rattle.rows.specs.Row.{imm}
use Rattle.rows.proofs.Reading.{unread, imm1}
use Rattle.readers.specs.steps.Told.{retold, told, reading_in}
use Rattle.record.specs.Answer.{found}
use Rattle.readers.proofs.Found.{within, first_byte, ends}
use Rattle.readers.proofs.numbers.imm_byte.Goals as goal

pub returns-in_err-number : goal.returns-in_err-number
returns-in_err-number c = ends 1 _ _ (imm 1) c.behind.ensures c.in_err-number.was (unread _ _ 1 _) c.from_residual.ensures.1

pub returns : goal.returns
unfolding reading_in
returns c =
    let bs = c.args.bs.now in
    let s = c.args.s in
    let inside = within 1 bs s c.behind.ensures c.in_ok-number.was in
    let number = first_byte 1 bs s c.behind.ensures c.in_ok-number.was (omega arith) in
    ap Ok c.with_imm.ensures ∙ ap (λ g. found bs (told (retold (s.taken % 256) (imm 1)) g)) (imm1 bs s (omega (arith, inside)) (omega (arith, c.from.ensures, number, c.from.type_inv)))
