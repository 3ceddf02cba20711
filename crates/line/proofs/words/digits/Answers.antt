-- `line::words::digits` meets its contract.
-- Assumes nothing.
use Rattle.std.proofs.Common.{◌≡◌, ◌/◌, ◌%◌, refl, sym, ap, ◌∙◌, arith}
use native.Mathlib.Nat.{div-one}
use Rattle.std.proofs.Math.Numerals.{add-one}
use Rattle.line.specs.Characters.{hex}
use Rattle.line.specs.steps.Packed.{pack}
use Rattle.line.proofs.Digits.{character, five, further}
use Rattle.line.proofs.words.digits.Goals as goal

pub loop-k-init : goal.loop-k-init
loop-k-init c = record { passed = omega arith; packed = refl; left = sym (div-one _) }

pub overflow_mul-word : goal.overflow_mul-word
overflow_mul-word c = omega (arith, five c.loop-k._k c.args.v (omega arith))

pub overflow_add-word : goal.overflow_add-word
overflow_add-word c = omega (arith, five c.loop-k._k c.args.v (omega arith), character (c.loop-k.rest % 16) (omega arith))

pub loop-k-preserved : goal.loop-k-preserved
loop-k-preserved c =
    let k = c.loop-k._k in
    let i = c.loop-k.invariant in record {
      passed = omega arith;
      packed = rw (add-one k) (rw (c.digit_of.ensures, i.packed, i.left));
      left = rw (add-one k) (ap (λ x. x / 16) i.left ∙ further k c.args.v);
    }

pub returns : goal.returns
returns c =
    let n = c.args.n in
    let v = c.args.v in
    let e : c.loop-k._k ≡ n = omega arith in
    (c.loop-k.invariant.packed ∙ ap (λ k. pack (hex k v)) e, omega (arith, five c.loop-k._k v (omega arith)))
