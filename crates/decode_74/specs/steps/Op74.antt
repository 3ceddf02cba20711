-- 74 and 75 as the code takes them apart: by tables of h. (The law that this is document 01's row is in proofs/Table74.)
use Rattle.std.specs.Prelude.{ℕ, zero, suc, ◌%◌, Bool, false, ◌||◌, List, [], ◌∷◌, get_or, ltb, eqb}
use Rattle.laws.specs.Choice.{pick}
use Rattle.record.specs.declared.Opcode.{Opcode}
use Rattle.record.specs.declared.Opcode.TheVariants.{NOP, STE, MOV, PUSH, NEG, ROT, NOT, LDE, POP, SHL, SHA}
use Rattle.record.specs.declared.Size.{Size}
use Rattle.record.specs.declared.Size.TheVariants as size
use Rattle.record.specs.declared.Width.{Width}
use Rattle.record.specs.declared.Operand.{Operand}
use Rattle.record.specs.declared.Operand.TheVariants.{Nothing, Abs20, Disp20_A0, Deref_A1A0, Disp8_SP, R1H}
use Rattle.readers.specs.steps.Set.{holds}
use Rattle.rows.specs.Row.{Num, disp, imm, imm20, Read, num, face, Row}
use Rattle.rows.specs.Codes.{name_G, name_I, size_I, G, refuse}
use Rattle.rows.specs.Rows.{size_of, bad_shift}

abbrev pub opcode74 : ℕ → Opcode
opcode74 h = get_or (STE ∷ STE ∷ STE ∷ MOV ∷ PUSH ∷ NEG ∷ ROT ∷ NOT ∷ LDE ∷ LDE ∷ LDE ∷ MOV ∷ MOV ∷ POP ∷ SHL ∷ SHA ∷ []) h NOP

-- MOV, PUSH, ROT, NOT, SHL and SHA carry one
abbrev pub size74 : Width → ℕ → Size
size74 w h = pick (ltb (h % 8) 3) size.None (pick (eqb (h % 8) 5) size.None (size_of w))

-- the operand beside G(n)
abbrev pub other74 : Width → ℕ → Operand
other74 w h =
    pick (eqb h 12) (name_I w)
    (get_or (Abs20 ∷ Disp20_A0 ∷ Deref_A1A0 ∷ Disp8_SP ∷ Nothing ∷ Nothing ∷ R1H ∷ Nothing ∷ Abs20 ∷ Disp20_A0 ∷ Deref_A1A0 ∷ Disp8_SP ∷ Nothing ∷ Nothing ∷ R1H ∷ R1H ∷ []) h Nothing)

-- whether G(n) is operand 0
abbrev pub first74 : ℕ → Bool
first74 h = (ltb h 6 || eqb h 7) || eqb h 13

-- what is read behind G(n)
abbrev pub rest74 : Width → ℕ → Num
rest74 w h = pick (ltb (h % 8) 2) imm20 (pick (eqb h 11) (disp 1) (pick (eqb h 12) (imm (size_I w)) (disp 0)))

-- as a row lists it: no read where no byte is read
abbrev pub reads_of : Num → List Read
reads_of (disp zero) = []
reads_of (disp (suc n)) = num (disp (suc n)) ∷ []
reads_of (imm n) = num (imm n) ∷ []
reads_of imm20 = num imm20 ∷ []

-- ROT, SHL, SHA
abbrev pub shift74 : ℕ → Bool
shift74 = holds 0xC040

abbrev pub stop74 : Width → ℕ → ℕ → Bool
stop74 w h n = pick (shift74 h) (bad_shift w n) false

unfoldable pub table74 : Width → ℕ → ℕ → Row
table74 w h n = record {
  face = face (opcode74 h) (size74 w h) w (pick (first74 h) (name_G w n) (other74 w h)) (pick (first74 h) (other74 w h) (name_G w n)) (eqb h 3);
  number = 0;
  reads = refuse (stop74 w h n) (G n ∷ reads_of (rest74 w h));
}
