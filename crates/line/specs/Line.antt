-- Document 01, "Bench lines": the lines of a listing, without the newline.
use Rattle.std.specs.Prelude.{ℕ, zero, suc, Bool, true, false, List, [], ◌∷◌, ◌++◌, ℤ, pos, negsuc, nat_abs}
use Rattle.laws.specs.Choice.{pick}
use Rattle.record.specs.declared.Record.{Record}
use Rattle.record.specs.declared.Opcode.{Opcode}
use Rattle.record.specs.declared.Size.{Size}
use Rattle.record.specs.declared.Size.TheVariants as size
use Rattle.record.specs.declared.Width.{Width}
use Rattle.record.specs.declared.Width.TheVariants as width
use Rattle.record.specs.declared.Operand.{Operand}
use Rattle.record.specs.declared.Operand.TheVariants.{Nothing, Imm4, Imm8, Imm16, RegList, Abs16, Abs20, Disp8, Disp8_A0, Disp8_A1, Disp8_SB, Disp8_FB, Disp8_SP, Disp16_A0}
use Rattle.record.specs.declared.Operand.TheVariants.{Disp16_A1, Disp16_SB, Disp20_A0, Disp20_A1, Bit_R0, Bit_R1, Bit_R2, Bit_R3, Bit_A0, Bit_A1, Bit_Disp8_A0}
use Rattle.record.specs.declared.Operand.TheVariants.{Bit_Disp8_A1, Bit_Disp8_SB, Bit_Disp8_FB, Bit_Disp16_A0, Bit_Disp16_A1, Bit_Disp16_SB, Bit_Abs16}
use Rattle.record.specs.Same.{same_name, among}
use Rattle.record.specs.Signed.{is_signed, number_at}
use Rattle.laws.specs.Text.{spelled}
use Rattle.line.specs.Characters.{hex}
use Rattle.line.specs.Names.{opcode_name, operand_name}

-- the width, B, W or -
abbrev pub width_text : Width → List ℕ
width_text width.None = spelled "-"
width_text width.B = spelled "B"
width_text width.W = spelled "W"

-- the opcode's name
abbrev pub opcode_text : Opcode → List ℕ
opcode_text o = spelled " " ++ opcode_name o

-- the size, where the opcode carries one
abbrev pub size_text : Size → List ℕ
size_text size.None = []
size_text size.B = spelled ".B"
size_text size.W = spelled ".W"
size_text size.L = spelled ".L"

-- the names whose number is a byte, two bytes, or 20 bits
abbrev pub byte_names : List Operand
byte_names =
    Imm8 ∷ Disp8 ∷ RegList ∷ Disp8_A0 ∷ Disp8_A1 ∷ Disp8_SB ∷ Disp8_FB ∷ Disp8_SP
    ∷ Bit_R0 ∷ Bit_R1 ∷ Bit_R2 ∷ Bit_R3 ∷ Bit_A0 ∷ Bit_A1 ∷ Bit_Disp8_A0 ∷ Bit_Disp8_A1 ∷ Bit_Disp8_SB ∷ Bit_Disp8_FB ∷ []

abbrev pub word_names : List Operand
word_names = Imm16 ∷ Abs16 ∷ Disp16_A0 ∷ Disp16_A1 ∷ Disp16_SB ∷ Bit_Abs16 ∷ Bit_Disp16_A0 ∷ Bit_Disp16_A1 ∷ Bit_Disp16_SB ∷ []

abbrev pub twenty_names : List Operand
twenty_names = Abs20 ∷ Disp20_A0 ∷ Disp20_A1 ∷ []

-- how many digits are shown of a name's number: one of Imm4; no digit of a name without a number
unfoldable pub digits_of : Operand → ℕ
digits_of a = pick (same_name a Imm4) 1 (pick (among byte_names a) 2 (pick (among word_names a) 4 (pick (among twenty_names a) 5 0)))

-- request A3: the sign of a signed number, + for zero and above
abbrev pub sign_text : ℤ → List ℕ
sign_text (pos n) = spelled "+"
sign_text (negsuc n) = spelled "-"

-- `=`, a sign or none, and so many digits
abbrev pub equals : ℕ → List ℕ → ℕ → List ℕ
equals zero sign v = []
equals (suc n) sign v = spelled "=" ++ (sign ++ hex (suc n) v)

-- the number of a name: its sign if it is signed, and the digits of its distance from zero
unfoldable pub number_text : Operand → ℤ → List ℕ
number_text a n = equals (digits_of a) (pick (is_signed a) (sign_text n) []) (nat_abs n)

-- a name that is shown; Nothing is not
unfoldable pub shown : Operand → List ℕ
shown a = pick (same_name a Nothing) [] (spelled " " ++ operand_name a)

abbrev pub operand_text : Operand → ℤ → List ℕ
operand_text a n = shown a ++ number_text a n

-- request A6: a line ends in a space and `!` where bits were dropped
abbrev pub dropped_text : Bool → List ℕ
dropped_text true = spelled " !"
dropped_text false = []

-- from the width on; whose number is whose is sameness's rule
unfoldable pub from_width : Record → List ℕ
from_width r =
    width_text r.width ++ (opcode_text r.opcode ++ (size_text r.size
    ++ (operand_text r.op0 (number_at r 0).value ++ (operand_text r.op1 (number_at r 1).value ++ (operand_text r.op2 (number_at r 2).value
    ++ dropped_text r.dropped)))))

-- the place in four digits, the length in one (of a larger place or length its low digits), and the rest
unfoldable pub line_of : ℕ → Record → List ℕ
line_of place r = hex 4 place ++ (spelled " " ++ (hex 1 r.length ++ (spelled " " ++ from_width r)))

-- the end of an image
abbrev pub end_text : ℕ → List ℕ
end_text place = spelled "END " ++ hex 4 place

-- a refused place: the refusal and the bytes taken, a digit each
abbrev pub refused_text : ℕ → ℕ → ℕ → List ℕ
refused_text place refusal taken = hex 4 place ++ (spelled " REFUSED " ++ (hex 1 refusal ++ (spelled " TAKEN " ++ hex 1 taken)))
