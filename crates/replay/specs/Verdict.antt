-- What an answer or a verdict says.
use Rattle.std.specs.Prelude.{◌≡◌, Bool, true}
use Rattle.replay.specs.declared.verdict.Verdict.{Verdict}
use Rattle.replay.specs.declared.verdict.Verdict.TheVariants.{Agrees, Differs, Malformed}

-- an answer is true exactly if P holds
abbrev pub Tells : Bool → Type 0 → Type 0
Tells r P = (r ≡ true → P) × (P → r ≡ true)

-- of a line that is whole or not, and if it is, right or not
abbrev pub Judged : Type 0 → Type 0 → Verdict → Type 0
Judged Whole Right Agrees = Whole × Right
Judged Whole Right Differs = Whole × (Right → ⊥)
Judged Whole Right Malformed = Whole → ⊥
