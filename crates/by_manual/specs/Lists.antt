-- The codes that request A9 names, by first byte and the second byte's nibbles; and what tests and counts of changed rows ask.
use Rattle.std.specs.Prelude.{ℕ, ◌+◌, ◌*◌, ◌/◌, ◌%◌, Bool, true, false, List, [], ◌∷◌, ltb, leb, eqb}
use Rattle.laws.specs.Choice.{pick, both, either}
use Rattle.laws.specs.Range.{upto}
use Rattle.rows.specs.Lists.{one_of}
use Rattle.record.specs.Numbers.{opcode_no, size_no, width_no, operand_no}
use Rattle.rows.specs.Fate.{fate}
use Rattle.rows.specs.Row.{disp, imm, imm20, InvalidOpcode, InvalidOperand, Read, num, cond, stop, Row, Table}
use Rattle.by_manual.specs.Changed.{Change, stays, becomes, Changes, changes}

-- the words of the request, one line each
abbrev pub named_code : ℕ → ℕ → ℕ → Bool
named_code a h n =
    either (both (one_of (0x76 ∷ 0x77 ∷ []) a) (one_of (9 ∷ 0xC ∷ 0xE ∷ []) h))
    (either (both (one_of (0x7C ∷ 0x7D ∷ []) a) (one_of (4 ∷ 5 ∷ []) h))
    (either (both (one_of (0x74 ∷ 0x75 ∷ []) a) (eqb h 3))
    (either (both (eqb a 0x7A) (leb 8 h))
    (either (both (eqb a 0x7D) (one_of (0xA ∷ 0xB ∷ []) h))
    (either (both (eqb a 0x7D) (both (eqb h 0xD) (one_of (0xA ∷ 0xD ∷ 0xE ∷ []) n)))
    (either (both (eqb a 0xEB) (both (ltb h 8) (one_of (4 ∷ 5 ∷ []) n))) (both (eqb a 0x7D) (one_of (2 ∷ 3 ∷ []) h))))))))

abbrev pub is_changed : Change → Bool
is_changed stays = false
is_changed (becomes w) = true

-- a test of a row that takes a code's place
abbrev pub on_changed : (Row → Bool) → Change → Bool
on_changed f stays = true
on_changed f (becomes w) = f w

abbrev pub every_in : (ℕ → ℕ → Row → Bool) → List Changes → Bool
every_in f [] = true
every_in f (c ∷ cs) = both (upto (λ b. on_changed (f c.byte b) (c.rows (b / 16) (b % 16))) 256) (every_in f cs)

-- every changed row, with its code
unfoldable pub every_changed : (ℕ → ℕ → Row → Bool) → Bool
unfolding upto changes
every_changed f = every_in f changes

-- reads as a number, a digit each; one of no byte is none
unfoldable pub reads_no : List Read → ℕ
reads_no [] = 0
reads_no (num (disp n) ∷ rs) = pick (eqb n 0) (reads_no rs) (16 * reads_no rs + n)
reads_no (num (imm n) ∷ rs) = 16 * reads_no rs + (4 + n)
reads_no (num imm20 ∷ rs) = 16 * reads_no rs + 8
reads_no (cond ∷ rs) = 16 * reads_no rs + 9
reads_no (stop InvalidOpcode ∷ rs) = 10
reads_no (stop InvalidOperand ∷ rs) = 11

-- rows that are alike but for the mark
unfoldable pub alike : Row → Row → Bool
unfolding reads_no
alike v w =
    both (eqb (opcode_no v.face.opcode) (opcode_no w.face.opcode))
    (both (eqb (size_no v.face.size) (size_no w.face.size))
    (both (eqb (width_no v.face.width) (width_no w.face.width))
    (both (eqb (operand_no v.face.op0) (operand_no w.face.op0))
    (both (eqb (operand_no v.face.op1) (operand_no w.face.op1))
    (both (eqb v.number w.number) (eqb (reads_no v.reads) (reads_no w.reads)))))))

-- a code's row accepts
unfoldable pub accepted_by : Table → ℕ → ℕ → Bool
accepted_by t a b = eqb (fate (t.row_at a b).reads) 0
