-- `line::write::write_all` meets its contract.
-- Assumes nothing.
use Rattle.std.proofs.Common.{◌+◌, get_or, drop, sym, ap, ◌∙◌, arith, length-drop}
use Rattle.laws.specs.Over.{put}
use Rattle.laws.proofs.Rest.{rest}
use Rattle.laws.proofs.Over.{put_none, written_on}
use Rattle.line.specs.steps.Packed.{chars, text}
use Rattle.line.proofs.Packing.{text_at, text_length, text_end}
use Rattle.line.proofs.write.write_all.Goals as goal

pub write_word-at-requires : goal.write_word-at-requires
write_word-at-requires c =
    let l = c.loop-word in
    rw (rest l.at l.out) (omega (arith, c.requires, length-drop l.at l.out, text_length l.word-index c.args.words.now (omega arith)))

pub loop-word-preserved : goal.loop-word-preserved
loop-word-preserved c =
    let l = c.loop-word in
    let k = l.word-index in
    let ws = c.args.words.now in
    let cs = chars (get_or ws k 0) in
    let w = c.write_word-at in
    let n = text_length k ws (omega arith) in record {
      all = omega (arith, w.ensures.0);
      written =
          sym (written_on l.at l.out cs (omega (arith, c.requires)) w.ensures.1 (text (drop (k + 1) ws)) w.ensures.0)
          ∙ ap (λ xs. put l.at xs l.out) (sym (text_at k ws (omega arith))) ∙ l.invariant.written;
    }

pub returns : goal.returns
returns c =
    let l = c.loop-word in
    let e = text_end l.word-index c.args.words.now (omega arith) in
    sym (put_none l.at l.out) ∙ ap (λ xs. put l.at xs l.out) (sym e) ∙ l.invariant.written
