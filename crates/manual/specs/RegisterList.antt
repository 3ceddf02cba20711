-- PUSHM and POPM: a byte that lists registers, a bit for each.
use Rattle.std.specs.Prelude.{ℕ, ◌+◌, ◌*◌, ◌/◌, ◌%◌, List, [], ◌∷◌, eqb}
use Rattle.laws.specs.Choice.{pick}
use Rattle.record.specs.declared.Opcode.{Opcode}
use Rattle.record.specs.declared.Operand.{Operand}
use Rattle.record.specs.declared.Operand.TheVariants.{RegList, R0, R1, R2, R3, A0, A1, SB, FB}
use Rattle.manual.specs.Meaning.{none, plus, within, Entry, empty}
use Rattle.manual.specs.Codes.{stands, only}

-- the registers of PUSHM's bits, from bit 0 on, and of POPM's
abbrev pub pushed : List Operand
pushed = FB ∷ SB ∷ A1 ∷ A0 ∷ R3 ∷ R2 ∷ R1 ∷ R0 ∷ []

abbrev pub popped : List Operand
popped = R0 ∷ R1 ∷ R2 ∷ R3 ∷ A0 ∷ A1 ∷ SB ∷ FB ∷ []

-- those whose bits are set
abbrev pub named : List Operand → ℕ → List Operand
named [] b = []
named (r ∷ rs) b = pick (eqb (b % 2) 1) (r ∷ named rs (b / 2)) (named rs (b / 2))

-- PUSHM src: EC; POPM dest: ED. The second byte is the list, of at least one register
abbrev pub register_list : Opcode → ℕ → ℕ → Entry
register_list o h n = pick (eqb (16 * h + n) 0) empty (only o none (stands (within RegList (plus (16 * h + n)))))
