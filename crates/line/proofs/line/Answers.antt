-- `line::line` meets its contract.
-- Assumes nothing.
use Rattle.std.proofs.Common.{◌∷◌, map, ap, ◌∙◌}
use Rattle.line.specs.steps.Packed.{pack, text, parts}
use Rattle.line.proofs.Room.{said}
use Rattle.line.proofs.Lined.{whole}
use Rattle.line.proofs.line.Goals as goal

pub returns : goal.returns
returns c =
    let r = c.args.r in
    let parted = c.words_of-words.ensures ∙ (λ i. c.place_word.ensures i ∷ c.length_word.ensures i ∷ map pack (parts r)) in
    said c.args.out.now (ap text parted ∙ whole c.args.place r) c.deliver.ensures
