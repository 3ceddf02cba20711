-- A line with a record to encode by a reading: which text is one, the record that it gives, and when it is right.
use Rattle.std.specs.Prelude.{ℕ, Bool, true, false, List, [], ◌∷◌, replicate}
use Rattle.by_manual.specs.Table.{table_by}
use Rattle.encode_rules.specs.Written.{Left, outcome}
use Rattle.m16c_encode.specs.Numbers.{EncodesNumbers}
use Rattle.laws.specs.Text.{spelled}
use Rattle.replay.specs.Form.{Has}
use Rattle.replay.specs.Hex.{digit_at, byte_at, word_at, long_at, bytes_at}

-- opcode, size, width, operands; imm_wide; dispabs and first; refusal, length, seven bytes; the first character is for the reading
abbrev pub form_of : Bool → List ℕ
form_of false = spelled "E########## ######## ######## # # ##############\n"
form_of true = spelled "M########## ######## ######## # # ##############\n"

-- the texts that are such a line
abbrev pub Whole : Bool → List ℕ → Type 0
Whole manual s = Has (form_of manual) s

-- twelve numbers in the order of the C library; taken, length and marked, which do not count, are 0
abbrev pub record_in : List ℕ → List ℕ
record_in s = 0 ∷ byte_at s 1 ∷ digit_at s 3 ∷ digit_at s 4 ∷ byte_at s 5 ∷ byte_at s 7 ∷ byte_at s 9 ∷ long_at s 12 ∷ word_at s 21 ∷ word_at s 25 ∷ 0 ∷ 0 ∷ []

-- refusal, bytes written, and the seven bytes as they are left
abbrev pub outcome_in : List ℕ → Left
outcome_in s = outcome (digit_at s 30) (digit_at s 32) (bytes_at 7 s 34)

-- the record, encoded from the first of seven zero bytes on, gives what the line says
abbrev pub Right : Bool → List ℕ → Type 0
Right manual s = EncodesNumbers (table_by manual) (record_in s) (replicate 7 0) 0 (outcome_in s)
