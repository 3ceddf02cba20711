-- Request A9: the rows that a reading by the manual changes, and to what. h and n are the second byte's nibbles.
use Rattle.std.specs.Prelude.{ℕ, ◌+◌, ◌-◌, List, [], ◌∷◌, ltb, leb, eqb}
use Rattle.laws.specs.Choice.{pick}
use Rattle.record.specs.declared.Opcode.{Opcode}
use Rattle.record.specs.declared.Opcode.TheVariants.{ADCF, ADD, BMGE, BMLT, BMNO, DIVU, DIVX, FCLR, FSET, JMPI, JSRI, LDC, LDIPL, MOV, MUL, MULU}
use Rattle.record.specs.declared.Size.TheVariants as size
use Rattle.record.specs.declared.Width.{Width}
use Rattle.record.specs.declared.Width.TheVariants.{None, B, W}
use Rattle.record.specs.declared.Operand.{Operand}
use Rattle.record.specs.declared.Operand.TheVariants.{Nothing, Imm4, Imm8, Disp8_SP, Disp20_A0, Disp20_A1, SP}
use Rattle.rows.specs.Row.{disp, num, Row}
use Rattle.rows.specs.Codes.{name_G, name_K, name_I, num_J, G, I, K, refuse}
use Rattle.rows.specs.Rows.{row, bare, sized, bad_mul, flagged}

-- a row stays document 01's, or becomes another
pub data Change : Type 0 where
  stays : Change
  becomes : Row → Change

-- "74/75 3x reads the SP displacement byte after the source"
abbrev pub to_stack : Width → ℕ → Row
to_stack w n = sized MOV w (name_G w n) Disp8_SP (G n ∷ num (disp 1) ∷ [])

abbrev pub change74 : Width → ℕ → ℕ → Change
change74 w h n = pick (eqb h 3) (becomes (to_stack w n)) stays

-- "76/77 9x, Cx and Ex take G(n) as operand 0 and no immediate"
abbrev pub alone : Opcode → Width → ℕ → Row
alone o w n = sized o w (name_G w n) Nothing (G n ∷ [])

abbrev pub change76 : Width → ℕ → ℕ → Change
change76 w h n = pick (eqb h 9) (becomes (alone DIVX w n)) (pick (eqb h 12) (becomes (alone DIVU w n)) (pick (eqb h 14) (becomes (alone ADCF w n)) stays))

-- "7A LDC uses word registers, its width still B"
abbrev pub ldc : ℕ → ℕ → Row
ldc k n = bare LDC B (name_G W n) (name_K k) (G n ∷ K k [])

abbrev pub change_7A : ℕ → ℕ → Change
change_7A h n = pick (leb 8 h) (becomes (ldc (h - 8) n)) stays

-- "7C/7D 4x and 5x have G(n) as operand 1: refused as now, then read, then the immediate"
abbrev pub mulu : Width → ℕ → Row
mulu w n = sized MULU w (name_I w) (name_G w n) (refuse (bad_mul w n) (G n ∷ I w ∷ []))

abbrev pub mul : Width → ℕ → Row
mul w n = bare MUL w (name_I w) (name_G w n) (refuse (bad_mul w n) (G n ∷ I w ∷ []))

abbrev pub change_7C : Width → ℕ → ℕ → Change
change_7C w h n = pick (eqb h 4) (becomes (mulu w n)) (pick (eqb h 5) (becomes (mul w n)) stays)

-- "7D 2x and 3x are JMPI.W and JSRI.W", codes 0 to 5 being R0 to A1; C and D stay Disp20, and none is refused
abbrev pub name_JW : ℕ → Operand
name_JW c = pick (eqb c 12) Disp20_A0 (pick (eqb c 13) Disp20_A1 (name_G W c))

abbrev pub word_jump : Opcode → ℕ → Row
word_jump o n = row o size.W W (name_JW n) Nothing 0 (num (num_J n) ∷ [])

-- "LDIPL is 0 to 7"
abbrev pub ldipl : ℕ → Row
ldipl n = row LDIPL size.None W Imm8 Nothing n (refuse (leb 8 n) [])

-- "7D Bx is sign-extended to 32 bits, from −8 to 7"
abbrev pub add_SP : ℕ → Row
add_SP n = row ADD size.W W Imm8 SP (pick (ltb n 8) n (0xFFFFFFF0 + n)) []

-- "7D DA, DD, DE are BMGE, BMNO, BMLT"
abbrev pub change_7DD : ℕ → Change
change_7DD n = pick (eqb n 10) (becomes (flagged BMGE)) (pick (eqb n 13) (becomes (flagged BMNO)) (pick (eqb n 14) (becomes (flagged BMLT)) stays))

abbrev pub change_7D : ℕ → ℕ → Change
change_7D h n =
    pick (eqb h 2) (becomes (word_jump JMPI n))
    (pick (eqb h 3) (becomes (word_jump JSRI n))
    (pick (eqb h 10) (becomes (ldipl n))
    (pick (eqb h 11) (becomes (add_SP n))
    (pick (eqb h 13) (change_7DD n) (change_7C W h n)))))

-- "EB x4 and x5, x below 8, are FSET and FCLR with Imm4=x as operand 0"
abbrev pub flag : Opcode → ℕ → Row
flag o h = row o size.None None Imm4 Nothing h []

abbrev pub change_EB : ℕ → ℕ → Change
change_EB h n = pick (ltb h 8) (pick (eqb n 4) (becomes (flag FSET h)) (pick (eqb n 5) (becomes (flag FCLR h)) stays)) stays

-- a first byte and the changes to its rows
pub record Changes : Type 0 where
  pub byte : ℕ
  pub rows : ℕ → ℕ → Change

abbrev to : ℕ → (ℕ → ℕ → Change) → Changes
to a c = record { byte = a; rows = c }

unfoldable pub changes : List Changes
unfolding num_J row
changes =
    to 0x74 (change74 B) ∷ to 0x75 (change74 W)
    ∷ to 0x76 (change76 B) ∷ to 0x77 (change76 W)
    ∷ to 0x7A change_7A
    ∷ to 0x7C (change_7C B) ∷ to 0x7D change_7D
    ∷ to 0xEB change_EB
    ∷ []

abbrev pub changes_in : List Changes → ℕ → ℕ → ℕ → Change
changes_in [] a = λ h n. stays
changes_in (c ∷ cs) a = pick (eqb a c.byte) c.rows (changes_in cs a)

unfoldable pub change_at : ℕ → ℕ → ℕ → Change
unfolding changes
change_at = changes_in changes
