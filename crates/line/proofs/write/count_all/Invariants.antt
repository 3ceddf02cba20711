-- `line::write::count_all`, its loop: the characters counted and those of the words left are all.
use Rattle.std.proofs.Common.{◌≡◌, ◌+◌, ◌*◌, ◌≤◌, length, drop}
use Rattle.line.specs.steps.Packed.{text}
use Rattle.line.proofs.write.count_all.Given as goal

abbrev pub invariant-loop-word : goal.invariant-loop-word
invariant-loop-word l = record {
  few : l.n ≤ 8 * l.word-index;
  all : l.n + length (text (drop l.word-index l.words)) ≡ length (text l.words);
}
