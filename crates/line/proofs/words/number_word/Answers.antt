-- `line::words::number_word` meets its contract.
-- Assumes nothing.
use Rattle.std.proofs.Common.{◌+◌, ◌*◌, ◌<◌, ℤ, nat_abs, w64, refl, sym, ap, ◌∙◌, arith}
use Rattle.std.proofs.Math.Facts.{to_z-of_z}
use Rattle.record.specs.Signed.{number_of}
use Rattle.record.proofs.Counted.{as_it_is}
use Rattle.line.specs.Characters.{hex}
use Rattle.line.specs.Line.{digits_of, sign_text, number_text}
use Rattle.line.specs.steps.Packed.{pack}
use Rattle.line.proofs.Digits.{numbered, signed, two_digits}
use Rattle.line.proofs.words.number_word.Goals as goal

pub returns-then-is_signed : goal.returns-then-is_signed
unfolding number_text
returns-then-is_signed c =
    let x = c.args.x in
    let n = number_of x c.args.v in
    let is = sym c.is_signed.ensures ∙ c.if-is_signed.true in
    let number = to_z-of_z {w = w64} (record { sfits = c.number_of-n.type_inv }) ∙ c.number_of-n.ensures in
    let sign = c.sign_of.ensures.0 ∙ ap (λ (z : ℤ). pack (sign_text z)) number in
    let shown = c.digits.ensures.0 ∙ ap (λ v. pack (hex 2 v)) (c.unsigned_abs.ensures.value ∙ ap nat_abs number) in
    rw (is, two_digits x is) ((λ i. 0x3D + 0x100 * (sign i + 0x100 * shown i)) ∙ signed 2 (nat_abs n) n (omega arith))

pub returns-then-count-eq0 : goal.returns-then-count-eq0
unfolding number_text
returns-then-count-eq0 c = rw (sym c.digits_of-count.ensures.0 ∙ c.if-count-eq0.true) refl

pub returns : goal.returns
unfolding number_text
returns c =
    let x = c.args.x in
    let v = c.args.v in
    let plain = sym c.is_signed.ensures ∙ c.if-is_signed.false in
    let some : 0 < digits_of x = omega (arith, c.digits_of-count.ensures.0, c.if-count-eq0.false) in
    let shown = c.digits-2.ensures.0 ∙ (λ i. pack (hex (c.digits_of-count.ensures.0 i) ((c.from.ensures ∙ ap nat_abs (sym (as_it_is x plain v))) i))) in
    rw plain ((λ i. 0x3D + 0x100 * shown i) ∙ numbered (digits_of x) (nat_abs (number_of x v)) some)
