-- The name of each number: the places in the enums. A number too large names what the blank record holds.
-- Made by scripts/tables/make-names from the enums of crates/record/src/lib.rt.
use Rattle.std.specs.Prelude.{ℕ, List, [], ◌∷◌, get_or}
use Rattle.record.specs.declared.Opcode.{Opcode}
use Rattle.record.specs.declared.Opcode.TheVariants.{NOP, ABS, ADC, ADCF, ADD, AND, BAND, BCLR, BMEQ, BMGEU, BMGT, BMGTU, BMLE, BMLEU, BMLTU, BMLT, BMNO, BMGE, BMN, BMNE, BMO, BMPZ, BNAND, BNOR, BNOT, BNTST, BNXOR, BOR, BSET, BTST, BTSTC, BTSTS, BXOR, CMP, DADC, DADD, DIV, DIVU, DIVX, DSBB, DSUB, ENTER, EXITD, EXTS, FCLR, FSET, GE, INT, JGE, JGT, JLE, JLT, JMPI, JNO, JO, JSRI, LDC, LDCTX, LDE, LDIPL, LT, MOV, MOVA, MOVHH, MOVHL, MOVLH, MOVLL, MUL, MULU, NEG, NO, NOT, OR, POP, POPC, POPM, PUSH, PUSHA, PUSHC, PUSHM, RMPA, ROLC, RORC, ROT, SBB, SHA, SHL, SMOVB, SMOVF, SSTR, STC, STCTX, STE, SUB, TST, WAIT, XCHG, XOR}
use Rattle.record.specs.declared.Size.{Size}
use Rattle.record.specs.declared.Size.TheVariants as size
use Rattle.record.specs.declared.Width.{Width}
use Rattle.record.specs.declared.Width.TheVariants as width
use Rattle.record.specs.declared.Operand.{Operand}
use Rattle.record.specs.declared.Operand.TheVariants.{Nothing, Imm4, Imm8, Imm16, R0L, R0H, R1L, R1H, R0, R1, R2, R3, R2R0, R3R1, A0, A1, A1A0, Bit_R0, Bit_R1, Bit_R2, Bit_R3, Bit_A0, Bit_A1, Bit_Deref_A0, Bit_Deref_A1, Bit_Disp8_A0, Bit_Disp8_A1, Bit_Disp8_SB, Bit_Disp8_FB, Bit_Disp16_A0, Bit_Disp16_A1, Bit_Disp16_SB, Bit_Abs16, Disp8_A0, Disp8_A1, Disp8_SB, Disp8_FB, Disp8_SP, Disp16_A0, Disp16_A1, Disp16_SB, Disp20_A0, Disp20_A1, Deref_A0, Deref_A1, Deref_A1A0, Abs16, Abs20, Disp8, RegList, INTBL, INTBH, FLG, ISP, SP, SB, FB}

abbrev pub opcodes : List Opcode
opcodes = NOP ∷ ABS ∷ ADC ∷ ADCF ∷ ADD ∷ AND ∷ BAND ∷ BCLR ∷ BMEQ ∷ BMGEU ∷ BMGT ∷ BMGTU ∷ BMLE ∷ BMLEU ∷ BMLTU ∷ BMLT ∷ BMNO ∷ BMGE ∷ BMN ∷ BMNE ∷ BMO ∷ BMPZ ∷ BNAND ∷ BNOR ∷ BNOT ∷ BNTST ∷ BNXOR ∷ BOR ∷ BSET ∷ BTST ∷ BTSTC ∷ BTSTS ∷ BXOR ∷ CMP ∷ DADC ∷ DADD ∷ DIV ∷ DIVU ∷ DIVX ∷ DSBB ∷ DSUB ∷ ENTER ∷ EXITD ∷ EXTS ∷ FCLR ∷ FSET ∷ GE ∷ INT ∷ JGE ∷ JGT ∷ JLE ∷ JLT ∷ JMPI ∷ JNO ∷ JO ∷ JSRI ∷ LDC ∷ LDCTX ∷ LDE ∷ LDIPL ∷ LT ∷ MOV ∷ MOVA ∷ MOVHH ∷ MOVHL ∷ MOVLH ∷ MOVLL ∷ MUL ∷ MULU ∷ NEG ∷ NO ∷ NOT ∷ OR ∷ POP ∷ POPC ∷ POPM ∷ PUSH ∷ PUSHA ∷ PUSHC ∷ PUSHM ∷ RMPA ∷ ROLC ∷ RORC ∷ ROT ∷ SBB ∷ SHA ∷ SHL ∷ SMOVB ∷ SMOVF ∷ SSTR ∷ STC ∷ STCTX ∷ STE ∷ SUB ∷ TST ∷ WAIT ∷ XCHG ∷ XOR ∷ []

abbrev pub opcode_at : ℕ → Opcode
opcode_at k = get_or opcodes k NOP

abbrev pub sizes : List Size
sizes = size.None ∷ size.B ∷ size.W ∷ size.L ∷ []

abbrev pub size_at : ℕ → Size
size_at k = get_or sizes k size.None

abbrev pub widths : List Width
widths = width.None ∷ width.B ∷ width.W ∷ []

abbrev pub width_at : ℕ → Width
width_at k = get_or widths k width.None

abbrev pub operands : List Operand
operands = Nothing ∷ Imm4 ∷ Imm8 ∷ Imm16 ∷ R0L ∷ R0H ∷ R1L ∷ R1H ∷ R0 ∷ R1 ∷ R2 ∷ R3 ∷ R2R0 ∷ R3R1 ∷ A0 ∷ A1 ∷ A1A0 ∷ Bit_R0 ∷ Bit_R1 ∷ Bit_R2 ∷ Bit_R3 ∷ Bit_A0 ∷ Bit_A1 ∷ Bit_Deref_A0 ∷ Bit_Deref_A1 ∷ Bit_Disp8_A0 ∷ Bit_Disp8_A1 ∷ Bit_Disp8_SB ∷ Bit_Disp8_FB ∷ Bit_Disp16_A0 ∷ Bit_Disp16_A1 ∷ Bit_Disp16_SB ∷ Bit_Abs16 ∷ Disp8_A0 ∷ Disp8_A1 ∷ Disp8_SB ∷ Disp8_FB ∷ Disp8_SP ∷ Disp16_A0 ∷ Disp16_A1 ∷ Disp16_SB ∷ Disp20_A0 ∷ Disp20_A1 ∷ Deref_A0 ∷ Deref_A1 ∷ Deref_A1A0 ∷ Abs16 ∷ Abs20 ∷ Disp8 ∷ RegList ∷ INTBL ∷ INTBH ∷ FLG ∷ ISP ∷ SP ∷ SB ∷ FB ∷ []

abbrev pub operand_at : ℕ → Operand
operand_at k = get_or operands k Nothing
