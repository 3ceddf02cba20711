-- The changed rows as the code has them: several that differ in their opcode or size as one.
use Rattle.std.specs.Prelude.{ℕ, ◌+◌, ◌%◌, [], ◌∷◌, ltb, leb, eqb}
use Rattle.laws.specs.Choice.{pick, both}
use Rattle.record.specs.declared.Opcode.{Opcode}
use Rattle.record.specs.declared.Opcode.TheVariants.{ADCF, BMGE, BMLT, BMNO, DIVU, DIVX, FCLR, FSET, JMPI, JSRI, MUL, MULU}
use Rattle.record.specs.declared.Size.{Size}
use Rattle.record.specs.declared.Size.TheVariants as size
use Rattle.record.specs.declared.Width.{Width}
use Rattle.record.specs.declared.Width.TheVariants.{B, W}
use Rattle.rows.specs.Row.{InvalidOpcode, Row}
use Rattle.rows.specs.Codes.{name_G, name_I, G, I, refuse}
use Rattle.rows.specs.Rows.{row, refused, size_of, bad_mul, flagged}
use Rattle.readers.specs.steps.Width.{width_of}
use Rattle.by_manual.specs.Changed.{Change, stays, becomes, to_stack, alone, ldc, word_jump, ldipl, add_SP, flag}

-- a row that takes a code's place; where none does, any
abbrev pub new_row : Change → Row
new_row stays = refused InvalidOpcode
new_row (becomes w) = w

-- 76/77 by the high nibble: 9, C, E
abbrev pub alone_opcode : ℕ → Opcode
alone_opcode h = pick (eqb h 9) DIVX (pick (eqb h 12) DIVU ADCF)

-- 7C/7D: 4 MULU, 5 MUL
abbrev pub mul_opcode : ℕ → Opcode
mul_opcode h = pick (eqb h 4) MULU MUL

abbrev pub mul_size : Width → ℕ → Size
mul_size w h = pick (eqb h 4) (size_of w) size.None

abbrev pub mul_at : Width → ℕ → ℕ → Row
mul_at w h n = row (mul_opcode h) (mul_size w h) w (name_I w) (name_G w n) 0 (refuse (bad_mul w n) (G n ∷ I w ∷ []))

-- 7D: 2, 3
abbrev pub jump_opcode : ℕ → Opcode
jump_opcode h = pick (eqb h 2) JMPI JSRI

-- four bits with their sign, in 32
abbrev pub signed4 : ℕ → ℕ
signed4 n = pick (ltb n 8) n (0xFFFFFFF0 + n)

-- 7D D by the low nibble: A, D, E
abbrev pub condition_opcode : ℕ → Opcode
condition_opcode n = pick (eqb n 10) BMGE (pick (eqb n 13) BMNO BMLT)

-- EB by the low nibble: 4, 5
abbrev pub flag_opcode : ℕ → Opcode
flag_opcode n = pick (eqb n 4) FSET FCLR

-- the row that is decoded at a code of 7D, and at one of any first byte; where none is changed, some row
abbrev pub row_7D : ℕ → ℕ → Row
row_7D h n =
    pick (eqb h 4) (mul_at W h n)
    (pick (eqb h 5) (mul_at W h n)
    (pick (eqb h 10) (ldipl n)
    (pick (eqb h 11) (add_SP n)
    (pick (eqb h 13) (flagged (condition_opcode n)) (word_jump (jump_opcode h) n)))))

abbrev pub row_of : ℕ → ℕ → ℕ → Row
row_of a h n =
    let w = width_of (eqb (a % 2) 0) in
    pick (both (leb 0x74 a) (ltb a 0x76)) (to_stack w n)
    (pick (both (leb 0x76 a) (ltb a 0x78)) (alone (alone_opcode h) w n)
    (pick (eqb a 0x7A) (ldc (h % 8) n)
    (pick (eqb a 0x7C) (mul_at B h n)
    (pick (eqb a 0x7D) (row_7D h n) (flag (flag_opcode n) h)))))
