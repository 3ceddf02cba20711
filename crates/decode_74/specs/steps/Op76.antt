-- 76 and 77 as the code takes them apart: three shapes, with the opcode by a table of h. (The law that these are document 01's rows is in proofs/Table76.)
use Rattle.std.specs.Prelude.{ℕ, Bool, [], ◌∷◌, get_or, eqb}
use Rattle.laws.specs.Choice.{pick}
use Rattle.record.specs.declared.Opcode.{Opcode}
use Rattle.record.specs.declared.Opcode.TheVariants.{NOP, TST, XOR, AND, OR, ADD, SUB, ADC, SBB, CMP, DIVX, ROLC, RORC, DIVU, DIV, ADCF, ABS}
use Rattle.record.specs.declared.Size.TheVariants as size
use Rattle.record.specs.declared.Width.{Width}
use Rattle.record.specs.declared.Operand.TheVariants.{Nothing}
use Rattle.readers.specs.steps.Set.{holds}
use Rattle.rows.specs.Row.{Row}
use Rattle.rows.specs.Codes.{name_G, name_I, G, I}
use Rattle.rows.specs.Rows.{size_of, row, sized, star, star_if}

abbrev pub opcode76 : ℕ → Opcode
opcode76 h = get_or (TST ∷ XOR ∷ AND ∷ OR ∷ ADD ∷ SUB ∷ ADC ∷ SBB ∷ CMP ∷ DIVX ∷ ROLC ∷ RORC ∷ DIVU ∷ DIV ∷ ADCF ∷ ABS ∷ []) h NOP

-- ROLC, RORC, DIV, ABS
unfoldable pub unary76 : Width → ℕ → ℕ → Row
unary76 w h n = row (opcode76 h) (pick (eqb h 13) (size_of w) size.None) w (name_G w n) Nothing 0 (G n ∷ [])

-- DIVX, DIVU
unfoldable pub immediate76 : Width → ℕ → Row
immediate76 w h = star (sized (opcode76 h) w (name_I w) Nothing (I w ∷ []))

-- TST to CMP, ADCF
unfoldable pub both76 : Width → ℕ → ℕ → Row
both76 w h n = star_if (eqb h 14) (sized (opcode76 h) w (name_I w) (name_G w n) (G n ∷ I w ∷ []))

-- DIVX and DIVU; ROLC, RORC, DIV and ABS
abbrev pub is_immediate : ℕ → Bool
is_immediate = holds 0x1200

abbrev pub is_unary : ℕ → Bool
is_unary = holds 0xAC00

abbrev pub table76 : Width → ℕ → ℕ → Row
table76 w h n = pick (is_immediate h) (immediate76 w h) (pick (is_unary h) (unary76 w h n) (both76 w h n))
