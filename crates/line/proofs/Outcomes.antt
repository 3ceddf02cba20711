-- The promise of every line leaves one outcome: what is returned, and every byte of the buffer that was passed in.
-- Assumes nothing.
use Prim.Native.Nat.{ℕ}
use mathlib.Core.Path.{◌≡◌, sym, ◌∙◌}
use mathlib.Core.List.{List}
use Rattle.std.specs.Prelude.{Result}
use Rattle.record.specs.declared.refusal.Refusal.{Refusal}
use Rattle.line.specs.Left.{Writes}

pub writes_once : {text buffer : List ℕ} {w v : Result ℕ Refusal} {after later : List ℕ} → Writes text buffer w after → Writes text buffer v later → (w ≡ v) × (after ≡ later)
writes_once a b = (a.returned ∙ sym b.returned, a.kept ∙ sym b.kept)
