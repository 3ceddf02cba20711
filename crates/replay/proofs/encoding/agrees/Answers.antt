-- Refusal, length and bytes are those of the one outcome that the promise allows.
use Rattle.std.proofs.Common.{◌∙◌}
use Rattle.std.proofs.lemmas.Bool.Decides.{Decides-at}
use Rattle.replay.proofs.Encoded.{told}
use Rattle.replay.proofs.encoding.agrees.Goals as goal

pub returns : goal.returns
returns c =
    Decides-at _ _ c.eq.ensures
    (told c.args.manual c.args.line.now c.record_in-numbers.ensures c.encode_by-refusal.ensures (c.from.ensures ∙ c.digit_at.ensures.0) (c.from-2.ensures ∙ c.digit_at-2.ensures.0) c.bytes_at.ensures)
