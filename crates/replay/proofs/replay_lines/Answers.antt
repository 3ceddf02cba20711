-- The lines are counted one behind the other.
use Rattle.std.proofs.Common.{ap, ◌∙◌}
use Rattle.std.specs.Slice.Iter.{chunks_rest, chunks_size}
use Rattle.replay.proofs.Lines.{behind, counted, at_start, at_end}
use Rattle.replay.proofs.replay_lines.Goals as goal

pub loop-line-init : goal.loop-line-init
loop-line-init g c =
    let chunks = c.into_iter-line-iterator.ensures.into_iter_gives in
    let start = at_start c.args.text.now _ c.args.t (ap chunks_rest chunks ∙ c.chunks-line-items.ensures.rest) in
    record { by = ap chunks_size chunks ∙ c.chunks-line-items.ensures.size; rest = start.0; counted = start.1 }

pub loop-line-preserved : goal.loop-line-preserved
loop-line-preserved g c =
    let l = c.loop-line.invariant in
    let size = c.in-Some.ensures.steps.0 in
    let steps = c.in-Some.ensures.steps.1 in
    record {
      by = size ∙ l.by;
      rest = behind c.args.text.now _ _ _ steps.0 l.rest;
      counted = counted c.args.text.now _ _ _ steps.0 l.rest l.by steps.1 l.counted c.replay_line-tally.ensures;
    }

pub returns : goal.returns
returns g c = at_end c.args.text.now _ c.in-None.ensures.steps.1.0 c.loop-line.invariant.counted
