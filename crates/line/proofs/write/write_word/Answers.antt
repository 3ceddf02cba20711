-- `line::write::write_word` meets its contract.
-- Assumes nothing.
use Rattle.std.proofs.Common.{◌≡◌, ◌+◌, ◌-◌, ◌/◌, ◌%◌, ◌<◌, length, sym, ap, ◌∙◌, arith}
use Rattle.laws.specs.Over.{put}
use Rattle.laws.proofs.Over.{put_none, put_one}
use Rattle.line.specs.steps.Packed.{up_to}
use Rattle.line.proofs.Packing.{spent, last, next}
use Rattle.line.proofs.write.write_word.Goals as goal

pub returns-then-rest-eq0 : goal.returns-then-rest-eq0
returns-then-rest-eq0 c =
    let l = c.loop-n in
    let e : up_to (8 - l.n) l.rest ≡ _ = ap (up_to (8 - l.n)) c.if-rest-eq0.true ∙ spent (8 - l.n) in
    (omega (arith, ap length e), sym (put_none l.n l.out) ∙ ap (λ cs. put l.n cs l.out) (sym e) ∙ l.invariant.written)

pub bounds-out-n : goal.bounds-out-n
bounds-out-n c = omega (arith, ap length (next c.loop-n.n c.loop-n.rest (omega arith) c.if-rest-eq0.false))

pub loop-n-preserved : goal.loop-n-preserved
loop-n-preserved c =
    let l = c.loop-n in
    let e = next l.n l.rest (omega arith) c.if-rest-eq0.false in
    let within : l.n < length l.out = omega (arith, ap length e) in record {
      few = omega arith;
      all = omega (arith, ap length e);
      written = sym (put_one l.n l.out (l.rest % 256) (up_to (8 - (l.n + 1)) (l.rest / 256)) within) ∙ ap (λ cs. put l.n cs l.out) (sym e) ∙ l.invariant.written;
    }

pub returns : goal.returns
returns c =
    let l = c.loop-n in
    let e = last l.n l.rest (omega arith) in
    (omega (arith, ap length e), sym (put_none l.n l.out) ∙ ap (λ cs. put l.n cs l.out) (sym e) ∙ l.invariant.written)
