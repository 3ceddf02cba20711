-- Parts of 7D as the code takes them. (The laws that these are document 01's rows are in proofs/Table7D.)
use Rattle.std.specs.Prelude.{ℕ, ◌+◌, ◌%◌, Bool, [], ◌∷◌, get_or, ltb, leb, eqb}
use Rattle.laws.specs.Choice.{pick}
use Rattle.record.specs.declared.Opcode.{Opcode}
use Rattle.record.specs.declared.Opcode.TheVariants.{NOP, JMPI, JSRI, JLE, JO, JGE, JGT, JNO, JLT, BMGEU, BMGTU, BMEQ, BMN, BMLTU, BMLEU, BMNE, BMPZ, BMLE, BMO, GE, BMGT, NO, LT}
use Rattle.readers.specs.steps.Set.{holds}
use Rattle.rows.specs.Row.{Row}
use Rattle.rows.specs.Rows.{indirect, star_if}

-- JMPI at an even h, JSRI at an odd one; marked from 2 on
abbrev pub opcode_J : ℕ → Opcode
opcode_J h = pick (eqb (h % 2) 0) JMPI JSRI

unfoldable pub jump_by : ℕ → ℕ → Row
jump_by h n = star_if (leb 2 h) (indirect (opcode_J h) n)

-- three bits with their sign, in 32
abbrev pub signed3 : ℕ → ℕ
signed3 n = pick (ltb n 4) n (0xFFFFFFF8 + n)

-- the codes that name no condition
abbrev pub no_condition : ℕ → Bool
no_condition = holds 0x8800

-- the jumps from code 8 on, and the conditions
abbrev pub jump_at : ℕ → Opcode
jump_at n = get_or (JLE ∷ JO ∷ JGE ∷ NOP ∷ JGT ∷ JNO ∷ JLT ∷ NOP ∷ []) (n % 8) NOP

abbrev pub condition_by : ℕ → Opcode
condition_by n = get_or (BMGEU ∷ BMGTU ∷ BMEQ ∷ BMN ∷ BMLTU ∷ BMLEU ∷ BMNE ∷ BMPZ ∷ BMLE ∷ BMO ∷ GE ∷ NOP ∷ BMGT ∷ NO ∷ LT ∷ NOP ∷ []) n NOP

-- GE, NO, LT
abbrev pub marked_by : ℕ → Bool
marked_by = holds 0x6400
