-- `line::words::digits`, its loop: the word packs the low digits passed, and the rest is what is behind them.
use Rattle.std.proofs.Common.{◌≡◌, ◌/◌, ◌^◌, ◌≤◌}
use Rattle.line.specs.Characters.{hex}
use Rattle.line.specs.steps.Packed.{pack}
use Rattle.line.proofs.words.digits.Given as goal

abbrev pub invariant-loop-k : goal.invariant-loop-k
invariant-loop-k l = record {
  passed : l._k ≤ l.n;
  packed : l.word ≡ pack (hex l._k l.v);
  left : l.rest ≡ l.v / 16 ^ l._k;
}
