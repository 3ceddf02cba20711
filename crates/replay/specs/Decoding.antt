-- A line with bytes to decode: which text is one, and when it is right.
use Rattle.std.specs.Prelude.{◌≡◌, ℕ, List}
use Rattle.laws.specs.Text.{spelled}
use Rattle.replay.specs.Form.{Gives}
use Rattle.replay.specs.Given.{answer_at}
use Rattle.replay.specs.Hex.{digit_at}
use Rattle.replay.specs.Numbers.{numbers_in, numbers_of}

-- bytes given, eight bytes; refusal, bytes taken; opcode, size, operands; imm_wide, dispabs, length
abbrev pub form : List ℕ
form = spelled "# ################ # # ######### ######## #### #\n"

-- the texts that are such a line: not more bytes are given than the eight there
abbrev pub Whole : List ℕ → Type 0
Whole s = Gives form (digit_at s 0) 8 s

-- the numbers that the line says are those of the answer
abbrev pub Right : List ℕ → Type 0
Right s = numbers_in s ≡ numbers_of (answer_at s 0)
