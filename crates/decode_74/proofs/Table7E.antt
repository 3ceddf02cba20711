-- 7E: the code's tables are document 01's rows and conditions.
-- Assumes nothing.
use Prim.Native.Nat.{ℕ, ◌+◌, ◌-◌, ◌%◌, ◌≤◌, ◌<◌}
use mathlib.Core.Path.{◌≡◌, refl, ap, ◌∙◌, subst}
use mathlib.Core.List.{List, [], ◌∷◌}
use native.Mathlib.Omega.{arith}
use lib.Dec.{eqb, leb}
use lib.ListN.{get_or}
use borrow.Author.Tests.{lt-ltb, le-ltb}
use Rattle.laws.specs.Choice.{pick}
use Rattle.laws.proofs.Agree.{agree}
use Rattle.record.specs.Answer.{Answer}
use Rattle.record.specs.declared.Operand.{Operand}
use Rattle.record.specs.declared.Seen.{Seen}
use Rattle.record.specs.declared.Opcode.{Opcode}
use Rattle.record.specs.declared.Opcode.TheVariants.{NOP, BTSTC, BTSTS, BNTST, BAND, BNAND, BOR, BNOR, BCLR, BSET, BNOT, BTST, BXOR, BNXOR}
use Rattle.record.specs.declared.Opcode.TheVariants.{BMGEU, BMGTU, BMEQ, BMN, BMLE, BMO, BMGE, BMLTU, BMLEU, BMNE, BMPZ, BMGT, BMNO, BMLT}
use Rattle.rows.specs.Row.{InvalidOpcode, cond, named, unnamed, Row}
use Rattle.rows.specs.Codes.{cond_of}
use Rattle.rows.specs.Rows.{row, refused, bits, row_7E}
use Rattle.rows.specs.Run.{run}
use Rattle.decode_74.specs.steps.Op7E.{bit_face}

abbrev pub opcode_T : ℕ → Opcode
opcode_T h = get_or (BTSTC ∷ BTSTS ∷ NOP ∷ BNTST ∷ BAND ∷ BNAND ∷ BOR ∷ BNOR ∷ BCLR ∷ BSET ∷ BNOT ∷ BTST ∷ BXOR ∷ BNXOR ∷ []) h NOP

abbrev pub table_7E : ℕ → ℕ → Row
table_7E h n = pick (leb 14 h) (refused InvalidOpcode) (bits (opcode_T h) n (pick (eqb h 2) (cond ∷ []) []))

pub tables_7E : (n h : ℕ) → h < 16 → row_7E h n ≡ table_7E h n
unfolding row row_7E
tables_7E n = agree (λ h. row_7E h n) (λ h. table_7E h n) 16 refl

-- BMcnd's operand, as its name is read
pub operand_named : (bs : List ℕ) (s : Seen) (o : Opcode) {x : Answer} {a b : Operand} → x ≡ run (cond ∷ []) bs (bit_face o a) s → a ≡ b → x ≡ run (cond ∷ []) bs (bit_face o b) s
operand_named bs s o h e = h ∙ ap (λ y. run (cond ∷ []) bs (bit_face o y) s) e

-- by the condition byte's low nibble
abbrev pub condition_T : ℕ → Opcode
condition_T c = get_or (BMGEU ∷ BMGTU ∷ BMEQ ∷ BMN ∷ BMLE ∷ BMO ∷ BMGE ∷ NOP ∷ BMLTU ∷ BMLEU ∷ BMNE ∷ BMPZ ∷ BMGT ∷ BMNO ∷ BMLT ∷ NOP ∷ []) (c % 16) NOP

pub low : (c : ℕ) → c < 0x07 → cond_of c ≡ named (condition_T c)
unfolding cond_of
low = agree cond_of (λ c. named (condition_T c)) 7 refl

from : (k : ℕ) → k < 7 → cond_of (0xF8 + k) ≡ named (condition_T (0xF8 + k))
unfolding cond_of
from = agree (λ k. cond_of (0xF8 + k)) (λ k. named (condition_T (0xF8 + k))) 7 refl

pub high : (c : ℕ) → 0xF8 ≤ c → c < 0xFF → cond_of c ≡ named (condition_T c)
high c g l =
    let q : 0xF8 + (c - 0xF8) ≡ c = omega arith in
    subst (λ x. cond_of x ≡ named (condition_T x)) q (from (c - 0xF8) (omega arith))

pub between : (c : ℕ) → 0x07 ≤ c → c < 0xF8 → cond_of c ≡ unnamed
unfolding cond_of
between c g l = rw (le-ltb _ 0x07 g, lt-ltb _ 0xF8 l)

pub last : (c : ℕ) → 0xFF ≤ c → cond_of c ≡ unnamed
unfolding cond_of
last c g =
    let g' : 0x07 ≤ c = omega arith in
    let g'' : 0xF8 ≤ c = omega arith in
    rw (le-ltb _ 0x07 g', le-ltb _ 0xF8 g'', le-ltb _ 0xFF g)
