-- What 7C and 7D have together, as the code takes it apart. (The law that h = E is document 01's row is in proofs/Table7C7D.)
use Rattle.std.specs.Prelude.{ℕ, ◌%◌, Bool, true, false, [], ◌∷◌, get_or, leb, eqb}
use Rattle.laws.specs.Choice.{pick}
use Rattle.record.specs.declared.Opcode.{Opcode}
use Rattle.record.specs.declared.Opcode.TheVariants.{NOP, DIVU, DIV, PUSH, DIVX, DADD, DSUB, DADC, DSBB, SMOVF, SMOVB, SSTR, ADD, MUL, MULU}
use Rattle.record.specs.declared.Size.{Size}
use Rattle.record.specs.declared.Size.TheVariants as size
use Rattle.record.specs.declared.Width.{Width}
use Rattle.record.specs.declared.Operand.{Operand}
use Rattle.record.specs.declared.Operand.TheVariants.{Nothing, A0, A1, SP}
use Rattle.readers.specs.steps.Set.{holds}
use Rattle.rows.specs.Row.{Row}
use Rattle.rows.specs.Codes.{name_I, I, refuse}
use Rattle.rows.specs.Rows.{size_of, row, star, bad_mul, decimal_from, decimal_to}

-- MULU, or MUL: G(h) reads no byte
abbrev pub mul_by : Bool → Width → ℕ → Row
mul_by u w n = star (row (pick u MULU MUL) (pick u (size_of w) size.None) w (name_I w) (pick u A0 A1) 0 (refuse (bad_mul w n) (I w ∷ [])))

abbrev pub opcode_E : ℕ → Opcode
opcode_E n = get_or (DIVU ∷ DIV ∷ PUSH ∷ DIVX ∷ DADD ∷ DSUB ∷ DADC ∷ DSBB ∷ SMOVF ∷ SMOVB ∷ SSTR ∷ ADD ∷ DADD ∷ DSUB ∷ DADC ∷ DSBB ∷ []) n NOP

-- DADD and the like
abbrev pub decimal_E : ℕ → Bool
decimal_E n = leb 4 (n % 8)

-- an immediate is operand 0
abbrev pub immediate_E : ℕ → Bool
immediate_E = holds 0xF80F

abbrev pub size_E : Bool → Width → Size
size_E true w = size.None
size_E false w = size_of w

abbrev pub from_E : Bool → Width → Operand
from_E true w = decimal_from w
from_E false w = Nothing

abbrev pub to_E : Bool → Width → ℕ → Operand
to_E true w n = decimal_to w
to_E false w n = pick (eqb n 11) SP Nothing

unfoldable pub table_E : Width → ℕ → Row
table_E w n =
    pick (immediate_E n)
    (row (opcode_E n) (size_E (decimal_E n) w) w (name_I w) (to_E (decimal_E n) w n) 0 (I w ∷ []))
    (row (opcode_E n) (size_E (decimal_E n) w) w (from_E (decimal_E n) w) (to_E (decimal_E n) w n) 0 [])
