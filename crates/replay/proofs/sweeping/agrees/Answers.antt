-- No image of a line is refused before the sweep begins.
use Rattle.replay.proofs.Swept.{begun_always}
use Rattle.replay.proofs.sweeping.agrees.Goals as goal

pub returns-in_default : goal.returns-in_default
returns-in_default c = absurd (begun_always c.args.rule c.args.line.now c.in_default.field-0 c.in_default.ensures)
