-- Document 01, "Rows", in its order. h and n are the second byte's nibbles.
use Rattle.std.specs.Prelude.{ℕ, ◌+◌, ◌*◌, ◌/◌, ◌%◌, ◌-◌, Bool, true, false, List, [], ◌∷◌, get_or, ltb, leb, eqb}
use Rattle.record.specs.declared.Opcode.{Opcode}
use Rattle.record.specs.declared.Opcode.TheVariants.{NOP, ABS, ADC, ADCF, ADD, AND, BAND, BCLR, BMEQ, BMGEU, BMGT, BMGTU, BMLE, BMLEU, BMLTU, BMN, BMNE, BMO, BMPZ}
use Rattle.record.specs.declared.Opcode.TheVariants.{BNAND, BNOR, BNOT, BNTST, BNXOR, BOR, BSET, BTST, BTSTC, BTSTS, BXOR, CMP, DADC, DADD, DIV, DIVU, DIVX, DSBB}
use Rattle.record.specs.declared.Opcode.TheVariants.{DSUB, ENTER, EXITD, EXTS, GE, INT, JGE, JGT, JLE, JLT, JMPI, JNO, JO, JSRI, LDC, LDCTX, LDE, LDIPL, LT, MOV, MOVA}
use Rattle.record.specs.declared.Opcode.TheVariants.{MOVHH, MOVHL, MOVLH, MOVLL, MUL, MULU, NEG, NO, NOT, OR, POP, POPC, PUSH, PUSHA, PUSHC, RMPA, ROLC, RORC, ROT}
use Rattle.record.specs.declared.Opcode.TheVariants.{SBB, SHA, SHL, SMOVB, SMOVF, SSTR, STC, STCTX, STE, SUB, TST, WAIT, XCHG, XOR}
use Rattle.record.specs.declared.Size.{Size}
use Rattle.record.specs.declared.Size.TheVariants as size
use Rattle.record.specs.declared.Width.{Width}
use Rattle.record.specs.declared.Width.TheVariants.{None, B, W}
use Rattle.record.specs.declared.Operand.{Operand}
use Rattle.record.specs.declared.Operand.TheVariants.{Nothing, Imm4, Imm8, Imm16, R0L, R0H, R1H, R0, R1, R2R0, R3R1, Disp8_SP, Disp20_A0, Deref_A1A0, Abs16, Abs20, Disp8, SP}
use Rattle.laws.specs.Choice.{pick}
use Rattle.rows.specs.Row.{disp, imm, Refusal, InvalidOpcode, InvalidOperand, Read, num, cond, stop, face, Row}
use Rattle.rows.specs.Codes.{no_pair, name_G, name_T, name_P, name_J, name_K, name_I, G, Bit, I, L, J, K, refuse}

-- the size that a width gives an opcode that carries one
abbrev pub size_of : Width → Size
size_of None = size.None
size_of B = size.B
size_of W = size.W

unfoldable pub row : Opcode → Size → Width → Operand → Operand → ℕ → List Read → Row
row o s w a b v rs = record {
  face = face o s w a b false;
  number = v;
  reads = rs;
}

-- an opcode that carries no size
abbrev pub bare : Opcode → Width → Operand → Operand → List Read → Row
bare o w a b rs = row o size.None w a b 0 rs

-- one that carries the width
abbrev pub sized : Opcode → Width → Operand → Operand → List Read → Row
sized o w a b rs = row o (size_of w) w a b 0 rs

-- "*": the code is marked
abbrev pub star_if : Bool → Row → Row
star_if m r = record {
  face = record {
    opcode = r.face.opcode;
    size = r.face.size;
    width = r.face.width;
    op0 = r.face.op0;
    op1 = r.face.op1;
    marked = m;
    registers = r.face.registers;
  };
  number = r.number;
  reads = r.reads;
}

abbrev pub star : Row → Row
star = star_if true

abbrev pub refused : Refusal → Row
refused e = bare NOP None Nothing Nothing (stop e ∷ [])

-- 74/75 by h
-- ROT, SHL, SHA: R1 at W and R1H at B can't be the destination
abbrev pub bad_shift : Width → ℕ → Bool
bad_shift B n = eqb n 3
bad_shift W n = eqb n 1
bad_shift None n = false

abbrev pub shift : Opcode → Width → ℕ → Row
shift o w n = sized o w R1H (name_G w n) (refuse (bad_shift w n) (G n ∷ []))

unfoldable pub row74 : Width → ℕ → ℕ → Row
row74 w h n =
    get_or
    (bare STE w (name_G w n) Abs20 (G n ∷ L ∷ [])  -- 0
    ∷ bare STE w (name_G w n) Disp20_A0 (G n ∷ L ∷ [])  -- 1
    ∷ bare STE w (name_G w n) Deref_A1A0 (G n ∷ [])  -- 2
    ∷ star (sized MOV w (name_G w n) Disp8_SP (G n ∷ []))  -- 3
    ∷ sized PUSH w (name_G w n) Nothing (G n ∷ [])  -- 4
    ∷ bare NEG w (name_G w n) Nothing (G n ∷ [])  -- 5
    ∷ shift ROT w n  -- 6
    ∷ sized NOT w (name_G w n) Nothing (G n ∷ [])  -- 7
    ∷ bare LDE w Abs20 (name_G w n) (G n ∷ L ∷ [])  -- 8
    ∷ bare LDE w Disp20_A0 (name_G w n) (G n ∷ L ∷ [])  -- 9
    ∷ bare LDE w Deref_A1A0 (name_G w n) (G n ∷ [])  -- A
    ∷ sized MOV w Disp8_SP (name_G w n) (G n ∷ num (disp 1) ∷ [])  -- B
    ∷ sized MOV w (name_I w) (name_G w n) (G n ∷ I w ∷ [])  -- C
    ∷ bare POP w (name_G w n) Nothing (G n ∷ [])  -- D
    ∷ shift SHL w n  -- E
    ∷ shift SHA w n  -- F
    ∷ [])
    h (refused InvalidOpcode)

-- 76/77: 0 to 8 and E take an immediate behind G(n); 9 and C read the immediate alone
unfoldable pub row76 : Width → ℕ → ℕ → Row
row76 w h n =
    get_or
    (two TST ∷ two XOR ∷ two AND ∷ two OR ∷ two ADD ∷ two SUB ∷ two ADC ∷ two SBB ∷ two CMP
    ∷ star (sized DIVX w (name_I w) Nothing (I w ∷ []))
    ∷ bare ROLC w (name_G w n) Nothing (G n ∷ [])
    ∷ bare RORC w (name_G w n) Nothing (G n ∷ [])
    ∷ star (sized DIVU w (name_I w) Nothing (I w ∷ []))
    ∷ sized DIV w (name_G w n) Nothing (G n ∷ [])
    ∷ star (two ADCF)
    ∷ bare ABS w (name_G w n) Nothing (G n ∷ [])
    ∷ [])
    h (refused InvalidOpcode)
  where
    two : Opcode → Row
    two o = sized o w (name_I w) (name_G w n) (G n ∷ I w ∷ [])

-- 78/79
-- the n that is refused: 3 and 5, 1 at B, 2 at W
abbrev pub bad_mul : Width → ℕ → Bool
bad_mul B n = pick (eqb n 1) true (pick (eqb n 3) true (eqb n 5))
bad_mul W n = pick (eqb n 2) true (pick (eqb n 3) true (eqb n 5))
bad_mul None n = false

unfoldable pub row78 : Width → ℕ → ℕ → Row
row78 w h n = bare MUL w (name_G w h) (name_G w n) (G h ∷ refuse (bad_mul w n) (G n ∷ []))

-- 7A and 7B: XCHG's register is G's of the same code, h below 4
abbrev pub xchg : Width → ℕ → ℕ → Row
xchg w h n = sized XCHG w (name_G w h) (name_G w n) (G n ∷ [])

-- 7A: G(n) is read, then K judged
abbrev pub ldc : ℕ → ℕ → Row
ldc k n = star (bare LDC B (name_G B n) (name_K k) (G n ∷ K k []))

unfoldable pub row_7A : ℕ → ℕ → Row
row_7A h n = pick (leb 8 h) (ldc (h - 8) n) (pick (leb 4 h) (refused InvalidOperand) (xchg B h n))

-- 7B: K is judged first
abbrev pub stc : ℕ → ℕ → Row
stc k n = bare STC W (name_G W n) (name_K k) (K k (G n ∷ []))

unfoldable pub row_7B : ℕ → ℕ → Row
row_7B h n = pick (leb 8 h) (stc (h - 8) n) (pick (leb 4 h) (refused InvalidOperand) (xchg W h n))

-- 7C and 7D together
-- h=4 MULU, 5 MUL: operand 1 is G(h)
abbrev pub mulu : Width → ℕ → Row
mulu w n = star (sized MULU w (name_I w) (name_G w 4) (G 4 ∷ refuse (bad_mul w n) (I w ∷ [])))

abbrev pub mul : Width → ℕ → Row
mul w n = star (bare MUL w (name_I w) (name_G w 5) (G 5 ∷ refuse (bad_mul w n) (I w ∷ [])))

-- h=E by n; DADD and the like: R0H,R0L on 7C, R1,R0 on 7D
abbrev pub decimal_from : Width → Operand
decimal_from B = R0H
decimal_from W = R1
decimal_from None = Nothing

abbrev pub decimal_to : Width → Operand
decimal_to B = R0L
decimal_to W = R0
decimal_to None = Nothing

unfoldable pub row_E : Width → ℕ → Row
row_E w n =
    get_or
    (one DIVU ∷ one DIV ∷ one PUSH ∷ one DIVX
    ∷ registers DADD ∷ registers DSUB ∷ registers DADC ∷ registers DSBB
    ∷ sized SMOVF w Nothing Nothing []
    ∷ sized SMOVB w Nothing Nothing []
    ∷ sized SSTR w Nothing Nothing []
    ∷ sized ADD w (name_I w) SP (I w ∷ [])
    ∷ immediate DADD ∷ immediate DSUB ∷ immediate DADC ∷ immediate DSBB
    ∷ [])
    n (refused InvalidOpcode)
  where
    one : Opcode → Row
    one o = sized o w (name_I w) Nothing (I w ∷ [])

    registers : Opcode → Row
    registers o = bare o w (decimal_from w) (decimal_to w) []

    immediate : Opcode → Row
    immediate o = bare o w (name_I w) (decimal_to w) (I w ∷ [])

-- h=F, n=1
abbrev pub rmpa : Width → Row
rmpa w = sized RMPA w Nothing Nothing []

-- LDCTX of 7C and STCTX of 7D
abbrev pub context : Opcode → Width → Row
context o w = bare o w Abs16 Abs20 (num (disp 2) ∷ L ∷ [])

-- 7C only
-- MOVLH and MOVHL are the manual's MOVHL and MOVLH: marked at the codes to which it gives a meaning, not at R0L, A0, A1
abbrev pub exchanged : ℕ → Bool
exchanged n = get_or (false ∷ true ∷ true ∷ true ∷ false ∷ false ∷ []) n true

abbrev pub mov_from : Opcode → ℕ → Row
mov_from o n = bare o B (name_G B n) R0L (G n ∷ [])

abbrev pub mov_to : Opcode → ℕ → Row
mov_to o n = bare o B R0L (name_G B n) (G n ∷ [])

-- 6: 3 for n 1, 3, 4, 5
abbrev pub bad_exts : ℕ → Bool
bad_exts n = get_or (false ∷ true ∷ false ∷ true ∷ true ∷ true ∷ []) n false

abbrev pub exts : ℕ → Row
exts n = bare EXTS B (name_G B n) Nothing (refuse (bad_exts n) (G n ∷ []))

-- C: 3 for n 2, 3, 5; 0, 1, 4 are R2R0 R3R1 A1A0
abbrev pub exts_C : ℕ → Row
exts_C n = star (bare EXTS B (name_P B n) Nothing (refuse (no_pair n) (G n ∷ [])))

unfoldable pub row_7CF : ℕ → Row
row_7CF n =
    get_or
    (context LDCTX B  -- 0
    ∷ rmpa B  -- 1
    ∷ bare ENTER B Imm8 Nothing (num (imm 1) ∷ [])  -- 2
    ∷ bare EXTS B R0 Nothing []  -- 3
    ∷ [])
    n (refused InvalidOpcode)

unfoldable pub row_7C : ℕ → ℕ → Row
row_7C h n =
    get_or
    (mov_from MOVLL n  -- 0
    ∷ star_if (exchanged n) (mov_from MOVLH n)  -- 1
    ∷ star_if (exchanged n) (mov_from MOVHL n)  -- 2
    ∷ mov_from MOVHH n  -- 3
    ∷ mulu B n  -- 4
    ∷ mul B n  -- 5
    ∷ exts n  -- 6
    ∷ refused InvalidOpcode  -- 7
    ∷ mov_to MOVLL n  -- 8
    ∷ star_if (exchanged n) (mov_to MOVLH n)  -- 9
    ∷ star_if (exchanged n) (mov_to MOVHL n)  -- A
    ∷ mov_to MOVHH n  -- B
    ∷ exts_C n  -- C
    ∷ refused InvalidOpcode  -- D
    ∷ row_E B n  -- E
    ∷ row_7CF n  -- F
    ∷ [])
    h (refused InvalidOpcode)

-- 7D only
abbrev pub indirect : Opcode → ℕ → Row
indirect o n = bare o W (name_J n) Nothing (J n)

-- 9: no code below 8
abbrev pub pusha : ℕ → Row
pusha n = bare PUSHA W (name_G W n) Nothing (refuse (ltb n 8) (G n ∷ []))

-- A: n sign-extended from three bits to 32
abbrev pub ldipl : ℕ → Row
ldipl n = star (row LDIPL size.None W Imm8 Nothing (pick (ltb n 4) n (0xFFFFFFF8 + n)) (refuse (leb 8 n) []))

-- B: the number n mod 8
abbrev pub add_SP : ℕ → Row
add_SP n = star (row ADD size.W W Imm8 SP (n % 8) [])

-- C: n 8, 9, A, C, D, E
abbrev pub jump : Opcode → Row
jump o = bare o W Disp8 Nothing (num (imm 1) ∷ [])

unfoldable pub row_7DC : ℕ → Row
row_7DC n =
    pick (ltb n 8) (refused InvalidOpcode)
    (get_or (jump JLE ∷ jump JO ∷ jump JGE ∷ refused InvalidOpcode ∷ jump JGT ∷ jump JNO ∷ jump JLT ∷ []) (n - 8) (refused InvalidOpcode))

-- D: a condition by n
abbrev pub flagged : Opcode → Row
flagged o = bare o W Nothing Nothing []

unfoldable pub row_7DD : ℕ → Row
row_7DD n =
    get_or
    (flagged BMGEU ∷ flagged BMGTU ∷ flagged BMEQ ∷ flagged BMN ∷ flagged BMLTU ∷ flagged BMLEU ∷ flagged BMNE ∷ flagged BMPZ
    ∷ flagged BMLE ∷ flagged BMO ∷ star (flagged GE) ∷ refused InvalidOpcode ∷ flagged BMGT ∷ star (flagged NO) ∷ star (flagged LT) ∷ refused InvalidOpcode
    ∷ [])
    n (refused InvalidOpcode)

unfoldable pub row_7DF : ℕ → Row
row_7DF n =
    get_or
    (context STCTX W  -- 0
    ∷ rmpa W  -- 1
    ∷ bare EXITD W Nothing Nothing []  -- 2
    ∷ bare WAIT W Nothing Nothing []  -- 3
    ∷ [])
    n (refused InvalidOpcode)

unfoldable pub row_7D : ℕ → ℕ → Row
row_7D h n =
    get_or
    (indirect JMPI n  -- 0
    ∷ indirect JSRI n  -- 1
    ∷ star (indirect JMPI n)  -- 2
    ∷ star (indirect JSRI n)  -- 3
    ∷ mulu W n  -- 4
    ∷ mul W n  -- 5
    ∷ refused InvalidOpcode  -- 6
    ∷ refused InvalidOpcode  -- 7
    ∷ refused InvalidOpcode  -- 8
    ∷ pusha n  -- 9
    ∷ ldipl n  -- A
    ∷ add_SP n  -- B
    ∷ row_7DC n  -- C
    ∷ row_7DD n  -- D
    ∷ row_E W n  -- E
    ∷ row_7DF n  -- F
    ∷ [])
    h (refused InvalidOpcode)

-- 7E: at h=2 the condition names the opcode
abbrev pub bits : Opcode → ℕ → List Read → Row
bits o n rs = bare o None (name_T n) Nothing (Bit n ∷ rs)

unfoldable pub row_7E : ℕ → ℕ → Row
row_7E h n =
    get_or
    (bits BTSTC n [] ∷ bits BTSTS n [] ∷ bits NOP n (cond ∷ []) ∷ bits BNTST n [] ∷ bits BAND n [] ∷ bits BNAND n [] ∷ bits BOR n [] ∷ bits BNOR n []
    ∷ bits BCLR n [] ∷ bits BSET n [] ∷ bits BNOT n [] ∷ bits BTST n [] ∷ bits BXOR n [] ∷ bits BNXOR n []
    ∷ [])
    h (refused InvalidOpcode)

-- EB
-- SHL.L, or SHA.L if h has bit 1: R2R0, or R3R1 by bit 0
abbrev pub shift_opcode : ℕ → Opcode
shift_opcode h = pick (eqb (h / 2 % 2) 0) SHL SHA

abbrev pub shift_pair : ℕ → Operand
shift_pair h = pick (eqb (h % 2) 0) R2R0 R3R1

abbrev pub long_shift : ℕ → Operand → ℕ → Row
long_shift h a v = row (shift_opcode h) size.L None a (shift_pair h) v []

abbrev pub mova : ℕ → ℕ → Row
mova h n = star_if (leb 6 h) (bare MOVA None (name_G W n) (name_G W h) (G n ∷ G h ∷ []))

-- h below 8, by n
unfoldable pub row_EB_low : ℕ → ℕ → Row
row_EB_low h n =
    get_or
    (bare LDC None Imm16 (name_K h) (K h (num (imm 2) ∷ []))  -- 0
    ∷ star_if (leb 4 h) (long_shift h R1H 0)  -- 1
    ∷ bare PUSHC None (name_K h) Nothing (K h [])  -- 2
    ∷ bare POPC None (name_K h) Nothing (K h [])  -- 3
    ∷ star (bare NOP None Nothing Nothing [])  -- 4
    ∷ star (bare NOP None Nothing Nothing [])  -- 5
    ∷ refused InvalidOperand  -- 6
    ∷ refused InvalidOperand  -- 7
    ∷ mova h n ∷ mova h n ∷ mova h n ∷ mova h n ∷ mova h n ∷ mova h n ∷ mova h n ∷ mova h n
    ∷ [])
    n (refused InvalidOpcode)

-- h 8 to B: Imm4 is n, the raw code; from C on INT, the second byte mod 64
unfoldable pub row_EB : ℕ → ℕ → Row
row_EB h n =
    pick (ltb h 8) (row_EB_low h n)
    (pick (ltb h 12) (long_shift h Imm4 n) (row INT size.None None Imm8 Nothing ((16 * h + n) % 64) []))
