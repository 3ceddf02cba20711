-- A line with bytes, where the numbers of their record stand (request A5) and how many registers it names (request A7): which text is one,
-- and when it is right.
use Rattle.std.specs.Prelude.{◌≡◌, ℕ, ◌+◌, List}
use Rattle.laws.specs.Text.{spelled}
use Rattle.record.specs.declared.Part.{Part}
use Rattle.record.specs.declared.Parts.{Parts}
use Rattle.record.specs.Parts.{part}
use Rattle.replay.specs.Form.{Gives}
use Rattle.replay.specs.Given.{answer_at}
use Rattle.replay.specs.Hex.{digit_at}

-- bytes given, eight bytes; refusal; offset and width of first, of dispabs, of imm_wide; registers
abbrev pub form : List ℕ
form = spelled "P# ################ # ## ## ## #                \n"

-- the texts that are such a line: not more bytes are given than the eight there
abbrev pub Whole : List ℕ → Type 0
Whole s = Gives form (digit_at s 1) 8 s

abbrev pub part_at : List ℕ → ℕ → Part
part_at s at = part (digit_at s at) (digit_at s (at + 1))

-- the parts that a line says
abbrev pub parts_in : List ℕ → Parts
parts_in s = record { imm_wide = part_at s 28; dispabs = part_at s 25; first = part_at s 22 }

-- the refusal, the parts and the count that the line says are those of the answer
pub record Right (s : List ℕ) : Type 0 where
  pub refusal : (answer_at s 1).refusal ≡ digit_at s 20
  pub parts : (answer_at s 1).inst.parts ≡ parts_in s
  pub registers : (answer_at s 1).inst.registers ≡ digit_at s 31
