-- Parts of 7C as the code takes them. (The laws that these are document 01's rows are in proofs/Table7C.)
use Rattle.std.specs.Prelude.{ℕ, ◌%◌, Bool, true, false, ◌&&◌, [], ◌∷◌, get_or, ltb}
use Rattle.laws.specs.Choice.{pick}
use Rattle.record.specs.declared.Opcode.TheVariants.{NOP, MOVLL, MOVLH, MOVHL, MOVHH}
use Rattle.record.specs.declared.Width.TheVariants.{B}
use Rattle.record.specs.declared.Operand.TheVariants.{R0L}
use Rattle.readers.specs.steps.Set.{holds}
use Rattle.rows.specs.Row.{Row}
use Rattle.rows.specs.Codes.{name_G, G}
use Rattle.rows.specs.Rows.{bare, star_if, exchanged}

-- not R0L, A0, A1
abbrev pub meant_by : ℕ → Bool
meant_by = holds 0xFFCE

-- MOVLL and the like, by h mod 4
abbrev pub nibble_mark : ℕ → ℕ → Bool
nibble_mark h n = get_or (false ∷ true ∷ true ∷ false ∷ []) (h % 4) false && exchanged n

unfoldable pub nibble : ℕ → ℕ → Row
nibble h n =
    star_if (nibble_mark h n)
    (bare (get_or (MOVLL ∷ MOVLH ∷ MOVHL ∷ MOVHH ∷ []) (h % 4) NOP) B (pick (ltb h 4) (name_G B n) R0L) (pick (ltb h 4) R0L (name_G B n)) (G n ∷ []))

-- the destinations that EXTS.B has not
abbrev pub no_exts : ℕ → Bool
no_exts = holds 0x3A
