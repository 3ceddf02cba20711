-- The numbers of a key behind a code: each operand's in its bytes, in their order, and a condition.
-- (Steps of the encoder: that the rows read them so is proved, not believed.)
use Rattle.std.specs.Prelude.{ℕ, zero, suc, ◌+◌, ◌*◌, Bool, List, [], ◌∷◌, ◌++◌, ltb, eqb}
use Rattle.laws.specs.Choice.{pick, both, either}
use Rattle.record.specs.declared.Key.{Key}
use Rattle.record.specs.declared.Operand.{Operand}
use Rattle.record.specs.declared.Operand.TheVariants.{Imm4, Imm8, Imm16, RegList, Abs16, Abs20, Disp8, Disp8_A0, Disp8_A1, Disp8_SB, Disp8_FB, Disp8_SP}
use Rattle.record.specs.declared.Operand.TheVariants.{Disp16_A0, Disp16_A1, Disp16_SB, Disp20_A0, Disp20_A1}
use Rattle.record.specs.declared.Operand.TheVariants.{Bit_R0, Bit_R1, Bit_R2, Bit_R3, Bit_A0, Bit_A1, Bit_Abs16}
use Rattle.record.specs.declared.Operand.TheVariants.{Bit_Disp8_A0, Bit_Disp8_A1, Bit_Disp8_SB, Bit_Disp8_FB, Bit_Disp16_A0, Bit_Disp16_A1, Bit_Disp16_SB}
use Rattle.record.specs.Same.{same_name, among, field_of}
use Rattle.rows.specs.Row.{Face}
use Rattle.rows.specs.Run.{twenty_bits}
use Rattle.encode_rules.specs.steps.Digits.{digits}
use Rattle.encode_rules.specs.steps.Search.{cond_byte}
use Rattle.encode_choice.specs.steps.Coarse.{whole_row}
use Rattle.encode_choice.specs.steps.Coded.{is_wide}

-- the names whose number has one, two or three bytes, bit numbers among them
abbrev pub one_byte : List Operand
one_byte =
    Imm8 ∷ Bit_R0 ∷ Bit_R1 ∷ Bit_R2 ∷ Bit_R3 ∷ Bit_A0 ∷ Bit_A1 ∷ Bit_Disp8_A0 ∷ Bit_Disp8_A1 ∷ Bit_Disp8_SB ∷ Bit_Disp8_FB
    ∷ Disp8_A0 ∷ Disp8_A1 ∷ Disp8_SB ∷ Disp8_FB ∷ Disp8_SP ∷ Disp8 ∷ []

abbrev pub two_bytes : List Operand
two_bytes = Imm16 ∷ Bit_Disp16_A0 ∷ Bit_Disp16_A1 ∷ Bit_Disp16_SB ∷ Bit_Abs16 ∷ Disp16_A0 ∷ Disp16_A1 ∷ Disp16_SB ∷ Abs16 ∷ []

abbrev pub three_bytes : List Operand
three_bytes = Disp20_A0 ∷ Disp20_A1 ∷ Abs20 ∷ []

unfoldable pub count_of : Operand → ℕ
count_of o = pick (among one_byte o) 1 (pick (among two_bytes o) 2 (pick (among three_bytes o) 3 0))

-- what a number of so many bytes must be below: 20 bits of three, 0 of none
abbrev pub limit_by : ℕ → ℕ
limit_by zero = 1
limit_by (suc zero) = 256
limit_by (suc (suc zero)) = 65536
limit_by (suc (suc (suc n))) = twenty_bits

-- Imm4 and RegList are part of a code
unfoldable pub limit_of : Operand → ℕ
limit_of o = pick (same_name o Imm4) 16 (pick (same_name o RegList) 256 (limit_by (count_of o)))

-- both in one number: 32 for each byte, and how many bits the number may have
abbrev pub size_by : ℕ → ℕ
size_by zero = 0
size_by (suc zero) = 32 + 8
size_by (suc (suc zero)) = 2 * 32 + 16
size_by (suc (suc (suc n))) = 3 * 32 + 20

unfoldable pub size_of : Operand → ℕ
size_of o = pick (same_name o Imm4) 4 (pick (same_name o RegList) 8 (size_by (count_of o)))

-- an immediate, an address of 20 bits and Disp8_SP are read behind the other operand
unfoldable pub turns : Operand → Bool
turns o = either (is_wide (field_of o)) (same_name o Disp8_SP)

-- a number that is part of the code is not read
abbrev pub count0 : Face → ℕ
count0 f = pick (whole_row f) 0 (count_of f.op0)

-- beside operand 0: operand 1, or a condition (only rows without operand 1 read one)
abbrev pub count1 : Face → ℕ → ℕ
count1 f c = pick (eqb c 0) (count_of f.op1) 1

-- its number
abbrev pub number1 : ℕ → Key → ℕ
number1 c k = pick (eqb c 0) k.number1 (cond_byte k.opcode)

-- the bytes of both, in their order
unfoldable pub slots : Face → ℕ → Key → List ℕ
slots f c k =
    pick (turns f.op0) (digits (count1 f c) (number1 c k) ++ digits (count0 f) k.number0) (digits (count0 f) k.number0 ++ digits (count1 f c) (number1 c k))

-- each number is small enough
unfoldable pub fitting : Face → Key → Bool
fitting f k = both (ltb k.number0 (limit_of f.op0)) (ltb k.number1 (limit_of f.op1))
