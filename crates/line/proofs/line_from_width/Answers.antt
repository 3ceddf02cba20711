-- `line::line_from_width` meets its contract.
-- Assumes nothing.
use Rattle.std.proofs.Common.{ap, ◌∙◌}
use Rattle.line.specs.steps.Packed.{text}
use Rattle.line.proofs.Room.{said}
use Rattle.line.proofs.Lined.{from_width_lem}
use Rattle.line.proofs.line_from_width.Goals as goal

pub returns : goal.returns
returns c = said c.args.out.now (ap text c.words_of-words.ensures ∙ from_width_lem c.args.r) c.deliver.ensures
