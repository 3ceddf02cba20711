-- Which instruction a code selects: the first byte, then the second byte's high nibble h and low nibble n.
-- A row of sixteen codes is a function of n. (Functions are chosen and applied after, so that only the chosen one is computed.)
use Rattle.std.specs.Prelude.{ℕ, ◌+◌, ◌-◌, ◌*◌, ◌/◌, ◌%◌, List, [], ◌∷◌, map, ltb, eqb, length, get_or}
use Rattle.laws.specs.Choice.{pick}
use Rattle.laws.specs.Range.{total}
use Rattle.record.specs.declared.Opcode.{Opcode}
use Rattle.record.specs.declared.Opcode.TheVariants.{ABS, ADC, ADCF, ADD, AND, BAND, BCLR, BNAND, BNOR, BNOT, BNTST, BNXOR, BOR, BSET, BTST, BTSTC, BTSTS, BXOR, CMP}
use Rattle.record.specs.declared.Opcode.TheVariants.{DADC, DADD, DIV, DIVU, DIVX, DSBB, DSUB, FCLR, FSET, JMPI, JSRI, LDCTX, MOV, MOVHH, MOVHL, MOVLH, MOVLL, MUL, MULU}
use Rattle.record.specs.declared.Opcode.TheVariants.{NEG, NOT, OR, POPC, POPM, PUSHC, PUSHM, RMPA, ROLC, RORC, ROT, SBB, SHA, SHL, SMOVB, SMOVF, SSTR, STCTX, SUB, TST, XOR}
use Rattle.record.specs.declared.Operand.TheVariants.{R2R0, R3R1}
use Rattle.manual.specs.Meaning.{Suffix, B, W, Entry, meaning, empty}
use Rattle.manual.specs.Codes.{blank}
use Rattle.manual.specs.Transfer.{abs20, dsp20, a1a0, ste, lde, mov_to_stack, mov_from_stack, mov_imm, push, push_imm, pusha, pop, xchg, nibble_to_R0L, nibble_from_R0L, mova}
use Rattle.manual.specs.Arithmetic.{imm_to_dest, unary, div_imm, mul, mul_imm, decimal, decimal_imm, add_stack, add_stack_quick, exts_byte, exts_word, shift, shift_long, shift_long_imm}
use Rattle.manual.specs.Bits.{bit, bmcnd, bmcnd_carry}
use Rattle.manual.specs.Jumps.{jump_long_to, jump_word_to, jcnd}
use Rattle.manual.specs.TwoOperand.{src_to_dest}
use Rattle.manual.specs.RegisterList.{register_list}
use Rattle.manual.specs.Control.{ldc, ldc_imm, stc, stc_counter, control, flag_op, ldipl, int, context, string, enter, exitd, wait}

-- one of the rows, or a blank one past their end
abbrev pub row : List (ℕ → Entry) → ℕ → ℕ → Entry
row rs h = get_or rs h blank

-- 74 (.B) and 75 (.W)
abbrev pub at74 : Suffix → ℕ → ℕ → Entry
at74 s =
    row
    (ste abs20 s ∷ ste dsp20 s ∷ ste a1a0 s ∷ mov_to_stack s ∷
    push s ∷ unary NEG s ∷ shift ROT s ∷ unary NOT s ∷
    lde abs20 s ∷ lde dsp20 s ∷ lde a1a0 s ∷ mov_from_stack s ∷
    mov_imm s ∷ pop s ∷ shift SHL s ∷ shift SHA s ∷ [])

-- 76 (.B) and 77 (.W)
abbrev pub at76 : Suffix → ℕ → ℕ → Entry
at76 s =
    row
    (imm_to_dest TST s ∷ imm_to_dest XOR s ∷ imm_to_dest AND s ∷ imm_to_dest OR s ∷
    imm_to_dest ADD s ∷ imm_to_dest SUB s ∷ imm_to_dest ADC s ∷ imm_to_dest SBB s ∷
    imm_to_dest CMP s ∷ unary DIVX s ∷ unary ROLC s ∷ unary RORC s ∷
    unary DIVU s ∷ unary DIV s ∷ unary ADCF s ∷ unary ABS s ∷ [])

-- 7A and 7B: XCHG, four blank rows, and the control registers from h 8 on
abbrev pub at_7A : ℕ → ℕ → Entry
at_7A h = pick (ltb h 4) (xchg B h) (pick (ltb h 8) blank (ldc (h - 8)))

abbrev pub at_7B : ℕ → ℕ → Entry
at_7B h = pick (ltb h 4) (xchg W h) (pick (ltb h 8) blank (stc (h - 8)))

-- 7C E0 to EF (.B) and 7D E0 to EF (.W)
abbrev pub row_E : Suffix → ℕ → Entry
row_E s n =
    get_or
    (div_imm DIVU s ∷ div_imm DIV s ∷ push_imm s ∷ div_imm DIVX s ∷
    decimal DADD s ∷ decimal DSUB s ∷ decimal DADC s ∷ decimal DSBB s ∷
    string SMOVF s ∷ string SMOVB s ∷ string SSTR s ∷ add_stack s ∷
    decimal_imm DADD s ∷ decimal_imm DSUB s ∷ decimal_imm DADC s ∷ decimal_imm DSBB s ∷ []) n empty

-- 7C F0 to F3
abbrev pub at_7CF : ℕ → Entry
at_7CF n = get_or (context LDCTX ∷ string RMPA B ∷ enter ∷ exts_word ∷ []) n empty

-- 7C
abbrev pub at_7C : ℕ → ℕ → Entry
at_7C =
    row
    (nibble_to_R0L MOVLL ∷ nibble_to_R0L MOVHL ∷ nibble_to_R0L MOVLH ∷ nibble_to_R0L MOVHH ∷
    mul_imm MULU B ∷ mul_imm MUL B ∷ exts_byte ∷ blank ∷
    nibble_from_R0L MOVLL ∷ nibble_from_R0L MOVHL ∷ nibble_from_R0L MOVLH ∷ nibble_from_R0L MOVHH ∷
    stc_counter ∷ blank ∷ row_E B ∷ at_7CF ∷ [])

-- 7D F0 to F3
abbrev pub at_7DF : ℕ → Entry
at_7DF n = get_or (context STCTX ∷ string RMPA W ∷ exitd ∷ wait ∷ []) n empty

-- 7D
abbrev pub at_7D : ℕ → ℕ → Entry
at_7D =
    row
    (jump_long_to JMPI ∷ jump_long_to JSRI ∷ jump_word_to JMPI ∷ jump_word_to JSRI ∷
    mul_imm MULU W ∷ mul_imm MUL W ∷ blank ∷ blank ∷
    blank ∷ pusha ∷ ldipl ∷ add_stack_quick ∷
    jcnd ∷ bmcnd_carry ∷ row_E W ∷ at_7DF ∷ [])

-- 7E
abbrev pub at_7E : ℕ → ℕ → Entry
at_7E =
    row
    (bit BTSTC ∷ bit BTSTS ∷ bmcnd ∷ bit BNTST ∷
    bit BAND ∷ bit BNAND ∷ bit BOR ∷ bit BNOR ∷
    bit BCLR ∷ bit BSET ∷ bit BNOT ∷ bit BTST ∷
    bit BXOR ∷ bit BNXOR ∷ [])

-- EB h1: the long shifts by R1H
abbrev pub at_EB1 : ℕ → Entry
at_EB1 h = get_or (shift_long SHL R2R0 ∷ shift_long SHL R3R1 ∷ shift_long SHA R2R0 ∷ shift_long SHA R3R1 ∷ []) h empty

-- EB 00 to 7F: the low nibble selects the instruction, the high one its register or flag
abbrev pub low_EB : ℕ → ℕ → Entry
low_EB h n =
    row
    (ldc_imm ∷ at_EB1 ∷ control PUSHC ∷ control POPC ∷
    flag_op FSET ∷ flag_op FCLR ∷ blank ∷ blank ∷
    mova 8 ∷ mova 9 ∷ mova 10 ∷ mova 11 ∷
    mova 12 ∷ mova 13 ∷ mova 14 ∷ mova 15 ∷ []) n h

-- EB C0 to FF: four rows of INT
abbrev pub int_EB : ℕ → ℕ → Entry
int_EB k n = int (16 * k + n)

-- EB
abbrev pub at_EB : ℕ → ℕ → Entry
at_EB =
    row
    (low_EB 0 ∷ low_EB 1 ∷ low_EB 2 ∷ low_EB 3 ∷
    low_EB 4 ∷ low_EB 5 ∷ low_EB 6 ∷ low_EB 7 ∷
    shift_long_imm SHL R2R0 ∷ shift_long_imm SHL R3R1 ∷ shift_long_imm SHA R2R0 ∷ shift_long_imm SHA R3R1 ∷
    int_EB 0 ∷ int_EB 1 ∷ int_EB 2 ∷ int_EB 3 ∷ [])

-- the instructions of two operands: OP.B by the even first byte, OP.W by the odd one behind it
pub record Pair : Type 0 where
  pub even : ℕ
  pub mnemonic : Opcode

abbrev pair : ℕ → Opcode → Pair
pair a o = record { even = a; mnemonic = o }

abbrev pub pairs : List Pair
pairs =
    pair 0x72 MOV ∷ pair 0x80 TST ∷ pair 0x88 XOR ∷ pair 0x90 AND ∷ pair 0x98 OR
    ∷ pair 0xA0 ADD ∷ pair 0xA8 SUB ∷ pair 0xB0 ADC ∷ pair 0xB8 SBB ∷ pair 0xC0 CMP
    ∷ []

-- a first byte and its rows
pub record First : Type 0 where
  pub byte : ℕ
  pub entries : ℕ → ℕ → Entry

abbrev first : ℕ → (ℕ → ℕ → Entry) → First
first a es = record { byte = a; entries = es }

abbrev pub both_sizes : List Pair → List First → List First
both_sizes [] fs = fs
both_sizes (p ∷ ps) fs = first p.even (src_to_dest p.mnemonic B) ∷ first (p.even + 1) (src_to_dest p.mnemonic W) ∷ both_sizes ps fs

-- the first bytes
abbrev pub firsts : List First
firsts =
    first 0x74 (at74 B) ∷ first 0x75 (at74 W)
    ∷ first 0x76 (at76 B) ∷ first 0x77 (at76 W)
    ∷ first 0x78 (mul B) ∷ first 0x79 (mul W)
    ∷ first 0x7A at_7A
    ∷ first 0x7B at_7B
    ∷ first 0x7C at_7C
    ∷ first 0x7D at_7D
    ∷ first 0x7E at_7E
    ∷ first 0xEB at_EB
    ∷ both_sizes pairs (first 0xEC (register_list PUSHM) ∷ first 0xED (register_list POPM) ∷ [])

abbrev pub first_bytes : List ℕ
first_bytes = map (λ f. f.byte) firsts

-- all are blank for a first byte that is not listed
abbrev pub entries_in : List First → ℕ → ℕ → ℕ → Entry
entries_in [] a = λ h. blank
entries_in (f ∷ fs) a = pick (eqb a f.byte) f.entries (entries_in fs a)

-- what the manual says of a code
unfoldable pub entry_at : ℕ → ℕ → Entry
entry_at a b = entries_in firsts a (b / 16) (b % 16)

-- 1 for a code that has a meaning
abbrev pub one : Entry → ℕ
one (meaning m) = 1
one empty = 0

-- how many codes have a meaning
unfoldable pub count : ℕ
unfolding total entry_at
count = total (λ j. total (λ b. one (entry_at (get_or first_bytes j 0) b)) 256) (length first_bytes)
