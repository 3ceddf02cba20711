-- The chunks so far are the lines counted so far; what is left begins behind them.
use Rattle.std.proofs.Common.{◌≡◌, ◌-◌, length, drop}
use Rattle.std.specs.Slice.Iter.{chunks_rest, chunks_size}
use Rattle.replay.specs.Tally.{Tallied}
use Rattle.replay.proofs.replay_lines.Given as goal

abbrev pub invariant-loop-line : goal.invariant-loop-line
invariant-loop-line g l = record {
  by : chunks_size l.line-iterator ≡ 49;
  rest : chunks_rest l.line-iterator ≡ drop (length l.text - length (chunks_rest l.line-iterator)) l.text;
  counted : Tallied l.text (length l.text - length (chunks_rest l.line-iterator)) l.initial.tally l.tally;
}
