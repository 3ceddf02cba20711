-- Each question leaves less of the text.
use Rattle.std.proofs.Common.{length}
use Rattle.list_lengths.proofs.tell_all.Given as goal

abbrev pub decreases-loop-rest : goal.decreases-loop-rest
decreases-loop-rest g l = length l.rest
