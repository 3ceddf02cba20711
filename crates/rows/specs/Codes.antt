-- Document 01, "Operand codes": the names that a code gives, and the bytes that it reads.
use Rattle.std.specs.Prelude.{ℕ, ◌-◌, Bool, true, List, [], ◌∷◌, get_or, ltb, eqb}
use Rattle.record.specs.declared.Opcode.TheVariants.{NOP, BMGEU, BMGTU, BMEQ, BMN, BMLE, BMO, BMGE, BMLTU, BMLEU, BMNE, BMPZ, BMGT, BMNO, BMLT}
use Rattle.record.specs.declared.Width.{Width}
use Rattle.record.specs.declared.Width.TheVariants.{None, B, W}
use Rattle.record.specs.declared.Operand.{Operand}
use Rattle.record.specs.declared.Operand.TheVariants.{Nothing, Imm8, Imm16, R0L, R0H, R1L, R1H, R0, R1, R2, R3, R2R0, R3R1, A0, A1, A1A0, Deref_A0, Deref_A1}
use Rattle.record.specs.declared.Operand.TheVariants.{Disp8_A0, Disp8_A1, Disp8_SB, Disp8_FB, Disp16_A0, Disp16_A1, Disp16_SB, Disp20_A0, Disp20_A1}
use Rattle.record.specs.declared.Operand.TheVariants.{Abs16, Bit_R0, Bit_R1, Bit_R2, Bit_R3, Bit_A0, Bit_A1, Bit_Deref_A0, Bit_Deref_A1}
use Rattle.record.specs.declared.Operand.TheVariants.{Bit_Disp8_A0, Bit_Disp8_A1, Bit_Disp8_SB, Bit_Disp8_FB, Bit_Disp16_A0, Bit_Disp16_A1}
use Rattle.record.specs.declared.Operand.TheVariants.{Bit_Disp16_SB, Bit_Abs16, INTBL, INTBH, FLG, ISP, SP, SB, FB}
use Rattle.laws.specs.Choice.{pick}
use Rattle.rows.specs.Row.{Num, disp, imm, imm20, InvalidOperand, Read, num, stop, Condition, named, unnamed}

-- General, G(c): registers by the width at codes 0 to 3, then one list
abbrev pub shared_names : List Operand
shared_names = A0 ∷ A1 ∷ Deref_A0 ∷ Deref_A1 ∷ Disp8_A0 ∷ Disp8_A1 ∷ Disp8_SB ∷ Disp8_FB ∷ Disp16_A0 ∷ Disp16_A1 ∷ Disp16_SB ∷ Abs16 ∷ []

abbrev pub byte_names : List Operand
byte_names = R0L ∷ R0H ∷ R1L ∷ R1H ∷ shared_names

abbrev pub word_names : List Operand
word_names = R0 ∷ R1 ∷ R2 ∷ R3 ∷ shared_names

abbrev pub name_G : Width → ℕ → Operand
name_G B c = get_or byte_names c Nothing
name_G W c = get_or word_names c Nothing
name_G None c = get_or word_names c Nothing

-- the rule of request A8: no byte at codes below 8, one below C, else two
abbrev pub size_G : ℕ → ℕ
size_G c = pick (ltb c 8) 0 (pick (ltb c 12) 1 2)

-- Bit, T(c): as G, but codes 0 to 5 also read one byte
abbrev pub bit_names : List Operand
bit_names =
    Bit_R0 ∷ Bit_R1 ∷ Bit_R2 ∷ Bit_R3 ∷ Bit_A0 ∷ Bit_A1 ∷ Bit_Deref_A0 ∷ Bit_Deref_A1
    ∷ Bit_Disp8_A0 ∷ Bit_Disp8_A1 ∷ Bit_Disp8_SB ∷ Bit_Disp8_FB ∷ Bit_Disp16_A0 ∷ Bit_Disp16_A1 ∷ Bit_Disp16_SB ∷ Bit_Abs16 ∷ []

abbrev pub name_T : ℕ → Operand
name_T c = get_or bit_names c Nothing

abbrev pub size_T : ℕ → ℕ
size_T c = pick (ltb c 6) 1 (size_G c)

-- register pairs at codes 0, 1 and 4; 2, 3 and 5 name nothing and are refused; from 6 on as G
abbrev pub pair_names : List Operand
pair_names = R2R0 ∷ R3R1 ∷ Nothing ∷ Nothing ∷ A1A0 ∷ Nothing ∷ []

abbrev pub name_P : Width → ℕ → Operand
name_P w c = get_or pair_names c (name_G w c)

-- Long, J(c): pairs, C and D are Disp20 with three bytes, the rest as G
abbrev pub name_J : ℕ → Operand
name_J c = pick (eqb c 12) Disp20_A0 (pick (eqb c 13) Disp20_A1 (name_P W c))

-- Control, K(c): 0 names nothing and is refused
abbrev pub control_names : List Operand
control_names = INTBL ∷ INTBH ∷ FLG ∷ ISP ∷ SP ∷ SB ∷ FB ∷ []

abbrev pub name_K : ℕ → Operand
name_K c = get_or (Nothing ∷ control_names) c Nothing

-- I: Imm8 at width B, Imm16 at W
abbrev pub name_I : Width → Operand
name_I B = Imm8
name_I W = Imm16
name_I None = Nothing

abbrev pub size_I : Width → ℕ
size_I B = 1
size_I W = 2
size_I None = 0

-- what each of them reads (Bit is T(c): T is the library's name for a test that holds)
abbrev pub G : ℕ → Read
G c = num (disp (size_G c))

abbrev pub Bit : ℕ → Read
Bit c = num (disp (size_T c))

abbrev pub I : Width → Read
I w = num (imm (size_I w))

abbrev pub L : Read
L = num imm20

-- a refusal in place of what would be read from there on
abbrev pub refuse : Bool → List Read → List Read
refuse t rs = pick t (stop InvalidOperand ∷ []) rs

-- the codes of no register pair, and what J reads at the others
unfoldable pub no_pair : ℕ → Bool
no_pair c = pick (eqb c 2) true (pick (eqb c 3) true (eqb c 5))

unfoldable pub num_J : ℕ → Num
num_J c = pick (eqb c 12) imm20 (pick (eqb c 13) imm20 (disp (size_G c)))

abbrev pub J : ℕ → List Read
J c = refuse (no_pair c) (num (num_J c) ∷ [])

abbrev pub K : ℕ → List Read → List Read
K c rs = refuse (eqb c 0) rs

-- the condition byte of 7E 2x: 00 to 06 and F8 to FE
unfoldable pub cond_of : ℕ → Condition
cond_of c =
    pick (ltb c 0x07) (named (get_or (BMGEU ∷ BMGTU ∷ BMEQ ∷ BMN ∷ BMLE ∷ BMO ∷ BMGE ∷ []) c NOP))
    (pick (ltb c 0xF8) unnamed (pick (ltb c 0xFF) (named (get_or (BMLTU ∷ BMLEU ∷ BMNE ∷ BMPZ ∷ BMGT ∷ BMNO ∷ BMLT ∷ []) (c - 0xF8) NOP)) unnamed))
