-- The name at a name's number is the name.
-- Made by scripts/tables/make-names from the enums of crates/record/src/lib.rt.
-- Assumes nothing.
use mathlib.Core.Path.{◌≡◌, refl}
use Rattle.record.specs.declared.Opcode.{Opcode}
use Rattle.record.specs.declared.Opcode.TheVariants.{NOP, ABS, ADC, ADCF, ADD, AND, BAND, BCLR, BMEQ, BMGEU, BMGT, BMGTU, BMLE, BMLEU, BMLTU, BMLT, BMNO, BMGE, BMN, BMNE, BMO, BMPZ, BNAND, BNOR, BNOT, BNTST, BNXOR, BOR, BSET, BTST, BTSTC, BTSTS, BXOR, CMP, DADC, DADD, DIV, DIVU, DIVX, DSBB, DSUB, ENTER, EXITD, EXTS, FCLR, FSET, GE, INT, JGE, JGT, JLE, JLT, JMPI, JNO, JO, JSRI, LDC, LDCTX, LDE, LDIPL, LT, MOV, MOVA, MOVHH, MOVHL, MOVLH, MOVLL, MUL, MULU, NEG, NO, NOT, OR, POP, POPC, POPM, PUSH, PUSHA, PUSHC, PUSHM, RMPA, ROLC, RORC, ROT, SBB, SHA, SHL, SMOVB, SMOVF, SSTR, STC, STCTX, STE, SUB, TST, WAIT, XCHG, XOR}
use Rattle.record.specs.declared.Size.{Size}
use Rattle.record.specs.declared.Size.TheVariants as size
use Rattle.record.specs.declared.Width.{Width}
use Rattle.record.specs.declared.Width.TheVariants as width
use Rattle.record.specs.declared.Operand.{Operand}
use Rattle.record.specs.declared.Operand.TheVariants.{Nothing, Imm4, Imm8, Imm16, R0L, R0H, R1L, R1H, R0, R1, R2, R3, R2R0, R3R1, A0, A1, A1A0, Bit_R0, Bit_R1, Bit_R2, Bit_R3, Bit_A0, Bit_A1, Bit_Deref_A0, Bit_Deref_A1, Bit_Disp8_A0, Bit_Disp8_A1, Bit_Disp8_SB, Bit_Disp8_FB, Bit_Disp16_A0, Bit_Disp16_A1, Bit_Disp16_SB, Bit_Abs16, Disp8_A0, Disp8_A1, Disp8_SB, Disp8_FB, Disp8_SP, Disp16_A0, Disp16_A1, Disp16_SB, Disp20_A0, Disp20_A1, Deref_A0, Deref_A1, Deref_A1A0, Abs16, Abs20, Disp8, RegList, INTBL, INTBH, FLG, ISP, SP, SB, FB}
use Rattle.record.specs.Numbers.{opcode_no, size_no, width_no, operand_no}
use Rattle.record.specs.Names.{opcode_at, size_at, width_at, operand_at}

pub opcode_at_lem : (x : Opcode) → opcode_at (opcode_no x) ≡ x
opcode_at_lem NOP = refl
opcode_at_lem ABS = refl
opcode_at_lem ADC = refl
opcode_at_lem ADCF = refl
opcode_at_lem ADD = refl
opcode_at_lem AND = refl
opcode_at_lem BAND = refl
opcode_at_lem BCLR = refl
opcode_at_lem BMEQ = refl
opcode_at_lem BMGEU = refl
opcode_at_lem BMGT = refl
opcode_at_lem BMGTU = refl
opcode_at_lem BMLE = refl
opcode_at_lem BMLEU = refl
opcode_at_lem BMLTU = refl
opcode_at_lem BMLT = refl
opcode_at_lem BMNO = refl
opcode_at_lem BMGE = refl
opcode_at_lem BMN = refl
opcode_at_lem BMNE = refl
opcode_at_lem BMO = refl
opcode_at_lem BMPZ = refl
opcode_at_lem BNAND = refl
opcode_at_lem BNOR = refl
opcode_at_lem BNOT = refl
opcode_at_lem BNTST = refl
opcode_at_lem BNXOR = refl
opcode_at_lem BOR = refl
opcode_at_lem BSET = refl
opcode_at_lem BTST = refl
opcode_at_lem BTSTC = refl
opcode_at_lem BTSTS = refl
opcode_at_lem BXOR = refl
opcode_at_lem CMP = refl
opcode_at_lem DADC = refl
opcode_at_lem DADD = refl
opcode_at_lem DIV = refl
opcode_at_lem DIVU = refl
opcode_at_lem DIVX = refl
opcode_at_lem DSBB = refl
opcode_at_lem DSUB = refl
opcode_at_lem ENTER = refl
opcode_at_lem EXITD = refl
opcode_at_lem EXTS = refl
opcode_at_lem FCLR = refl
opcode_at_lem FSET = refl
opcode_at_lem GE = refl
opcode_at_lem INT = refl
opcode_at_lem JGE = refl
opcode_at_lem JGT = refl
opcode_at_lem JLE = refl
opcode_at_lem JLT = refl
opcode_at_lem JMPI = refl
opcode_at_lem JNO = refl
opcode_at_lem JO = refl
opcode_at_lem JSRI = refl
opcode_at_lem LDC = refl
opcode_at_lem LDCTX = refl
opcode_at_lem LDE = refl
opcode_at_lem LDIPL = refl
opcode_at_lem LT = refl
opcode_at_lem MOV = refl
opcode_at_lem MOVA = refl
opcode_at_lem MOVHH = refl
opcode_at_lem MOVHL = refl
opcode_at_lem MOVLH = refl
opcode_at_lem MOVLL = refl
opcode_at_lem MUL = refl
opcode_at_lem MULU = refl
opcode_at_lem NEG = refl
opcode_at_lem NO = refl
opcode_at_lem NOT = refl
opcode_at_lem OR = refl
opcode_at_lem POP = refl
opcode_at_lem POPC = refl
opcode_at_lem POPM = refl
opcode_at_lem PUSH = refl
opcode_at_lem PUSHA = refl
opcode_at_lem PUSHC = refl
opcode_at_lem PUSHM = refl
opcode_at_lem RMPA = refl
opcode_at_lem ROLC = refl
opcode_at_lem RORC = refl
opcode_at_lem ROT = refl
opcode_at_lem SBB = refl
opcode_at_lem SHA = refl
opcode_at_lem SHL = refl
opcode_at_lem SMOVB = refl
opcode_at_lem SMOVF = refl
opcode_at_lem SSTR = refl
opcode_at_lem STC = refl
opcode_at_lem STCTX = refl
opcode_at_lem STE = refl
opcode_at_lem SUB = refl
opcode_at_lem TST = refl
opcode_at_lem WAIT = refl
opcode_at_lem XCHG = refl
opcode_at_lem XOR = refl

pub size_at_lem : (x : Size) → size_at (size_no x) ≡ x
size_at_lem size.None = refl
size_at_lem size.B = refl
size_at_lem size.W = refl
size_at_lem size.L = refl

pub width_at_lem : (x : Width) → width_at (width_no x) ≡ x
width_at_lem width.None = refl
width_at_lem width.B = refl
width_at_lem width.W = refl

pub operand_at_lem : (x : Operand) → operand_at (operand_no x) ≡ x
operand_at_lem Nothing = refl
operand_at_lem Imm4 = refl
operand_at_lem Imm8 = refl
operand_at_lem Imm16 = refl
operand_at_lem R0L = refl
operand_at_lem R0H = refl
operand_at_lem R1L = refl
operand_at_lem R1H = refl
operand_at_lem R0 = refl
operand_at_lem R1 = refl
operand_at_lem R2 = refl
operand_at_lem R3 = refl
operand_at_lem R2R0 = refl
operand_at_lem R3R1 = refl
operand_at_lem A0 = refl
operand_at_lem A1 = refl
operand_at_lem A1A0 = refl
operand_at_lem Bit_R0 = refl
operand_at_lem Bit_R1 = refl
operand_at_lem Bit_R2 = refl
operand_at_lem Bit_R3 = refl
operand_at_lem Bit_A0 = refl
operand_at_lem Bit_A1 = refl
operand_at_lem Bit_Deref_A0 = refl
operand_at_lem Bit_Deref_A1 = refl
operand_at_lem Bit_Disp8_A0 = refl
operand_at_lem Bit_Disp8_A1 = refl
operand_at_lem Bit_Disp8_SB = refl
operand_at_lem Bit_Disp8_FB = refl
operand_at_lem Bit_Disp16_A0 = refl
operand_at_lem Bit_Disp16_A1 = refl
operand_at_lem Bit_Disp16_SB = refl
operand_at_lem Bit_Abs16 = refl
operand_at_lem Disp8_A0 = refl
operand_at_lem Disp8_A1 = refl
operand_at_lem Disp8_SB = refl
operand_at_lem Disp8_FB = refl
operand_at_lem Disp8_SP = refl
operand_at_lem Disp16_A0 = refl
operand_at_lem Disp16_A1 = refl
operand_at_lem Disp16_SB = refl
operand_at_lem Disp20_A0 = refl
operand_at_lem Disp20_A1 = refl
operand_at_lem Deref_A0 = refl
operand_at_lem Deref_A1 = refl
operand_at_lem Deref_A1A0 = refl
operand_at_lem Abs16 = refl
operand_at_lem Abs20 = refl
operand_at_lem Disp8 = refl
operand_at_lem RegList = refl
operand_at_lem INTBL = refl
operand_at_lem INTBH = refl
operand_at_lem FLG = refl
operand_at_lem ISP = refl
operand_at_lem SP = refl
operand_at_lem SB = refl
operand_at_lem FB = refl
