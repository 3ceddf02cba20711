-- `line::write::write_word`, its loop: with what is still to be written the buffer is as it is to be.
use Rattle.std.proofs.Common.{◌≡◌, ◌+◌, ◌-◌, ◌≤◌, length}
use Rattle.laws.specs.Over.{over, put}
use Rattle.line.specs.steps.Packed.{up_to, chars}
use Rattle.line.proofs.write.write_word.Given as goal

abbrev pub invariant-loop-n : goal.invariant-loop-n
invariant-loop-n l = record {
  few : l.n ≤ 8;
  all : l.n + length (up_to (8 - l.n) l.rest) ≡ length (chars l.word);
  written : put l.n (up_to (8 - l.n) l.rest) l.out ≡ over (chars l.word) l.fn.out;
}

abbrev pub decreases-loop-n : goal.decreases-loop-n
decreases-loop-n l = 8 - l.n
