-- A line with a record and an operand to ask for: which text is one, and when it is right.
use Rattle.std.specs.Prelude.{ℕ, List, ℤ, pos, neg_ℤ, ◌==◌}
use Rattle.laws.specs.Choice.{pick}
use Rattle.m16c_operand_number.specs.Told.{TellsNumber}
use Rattle.laws.specs.Text.{spelled}
use Rattle.replay.specs.Form.{Has}
use Rattle.replay.specs.Hex.{digit_at, long_at}
use Rattle.replay.specs.Encoding.{record_in}

-- opcode, size, width, operands; imm_wide; dispabs and first, as in a line to encode; operand asked for, refusal; sign, distance from zero
abbrev pub form : List ℕ
form = spelled "N########## ######## ######## # # #     ########\n"

-- the texts that are such a line
abbrev pub Whole : List ℕ → Type 0
Whole s = Has form s

-- the number that a line says: sign 0 for zero and above
abbrev pub number_in : List ℕ → ℤ
number_in s = pick (digit_at s 34 == 0) (pos (long_at s 40)) (neg_ℤ (pos (long_at s 40)))

-- the operand's number is what the line says
abbrev pub Right : List ℕ → Type 0
Right s = TellsNumber (record_in s) (digit_at s 30) (digit_at s 32) (number_in s)
