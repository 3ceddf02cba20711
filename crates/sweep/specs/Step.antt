-- What stands at a place of an image: its end; an instruction, and the bytes that it took; a refusal's number, and the bytes taken.
use Rattle.std.specs.Prelude.{ℕ, Option, Some, None, Result, Ok, Err}
use Rattle.record.specs.declared.Record.{Record}
use Rattle.record.specs.declared.refusal.Refused.{Refused as Refusal}
use Rattle.record.specs.Answer.{number_of}

pub data Step : Type 0 where
  End : Step
  Accepted : Record → ℕ → Step
  Refused : ℕ → ℕ → Step

-- as what decoding there says, nothing at the end
abbrev pub standing : Option (Result Record Refusal) → Step
standing None = End
standing (Some (Ok r)) = Accepted r r.length
standing (Some (Err e)) = Refused (number_of e.why) e.taken
