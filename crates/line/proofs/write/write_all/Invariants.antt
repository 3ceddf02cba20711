-- `line::write::write_all`, its loop: with the words that are left the buffer is as it is to be.
use Rattle.std.proofs.Common.{◌≡◌, ◌+◌, length, drop}
use Rattle.laws.specs.Over.{over, put}
use Rattle.line.specs.steps.Packed.{text}
use Rattle.line.proofs.write.write_all.Given as goal

abbrev pub invariant-loop-word : goal.invariant-loop-word
invariant-loop-word l = record {
  all : l.at + length (text (drop l.word-index l.words)) ≡ length (text l.words);
  written : put l.at (text (drop l.word-index l.words)) l.out ≡ over (text l.words) l.fn.out;
}
