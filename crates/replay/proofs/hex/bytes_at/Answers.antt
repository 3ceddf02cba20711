-- Each byte is the text's at its place.
use Rattle.std.proofs.Common.{rules}
use Rattle.replay.proofs.Bytes.{read}
use Rattle.replay.proofs.hex.bytes_at.Goals as goal

pub returns : goal.returns
returns g c = read _ _ _ _ (λ k b q h. search rules) _ _ c.from_fn.ensures.items.long c.from_fn.ensures.items.each
