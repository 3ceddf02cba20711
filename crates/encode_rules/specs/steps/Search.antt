-- The least bytes by which each code can encode a key, and the least of those: an answer by search, which a direct encoder is measured against.
use Rattle.std.specs.Prelude.{ℕ, zero, suc, ◌+◌, ◌/◌, ◌%◌, Bool, true, false, List, [], ◌∷◌, ◌++◌, length, ltb, leb, eqb}
use Rattle.laws.specs.Choice.{pick, both}
use Rattle.record.specs.declared.Record.{Record}
use Rattle.record.specs.Answer.{Answer}
use Rattle.record.specs.declared.Opcode.{Opcode}
use Rattle.record.specs.declared.Operand.TheVariants.{Nothing, Disp8_SP}
use Rattle.record.specs.Numbers.{opcode_no, size_no, width_no, operand_no}
use Rattle.record.specs.declared.Key.{Key}
use Rattle.record.specs.declared.fields.Field.{Field}
use Rattle.record.specs.declared.fields.Field.TheVariants.{Nowhere as nowhere, Wide as wide, Short as short, Early as early}
use Rattle.record.specs.Parts.{no_parts}
use Rattle.record.specs.Same.{same_name, field_of, key}
use Rattle.rows.specs.Row.{disp, imm, imm20, Read, num, cond, stop, Condition, named, unnamed, Face, Row, Table}
use Rattle.rows.specs.Codes.{cond_of}
use Rattle.rows.specs.Fate.{fate}
use Rattle.rows.specs.Run.{decode_by}
use Rattle.encode_rules.specs.Says.{Found, bytes, none}
use Rattle.encode_rules.specs.steps.Digits.{digits}

-- the byte of a condition: the first that is read as this opcode, of those that are read as any
abbrev pub means : Condition → Opcode → Bool
means (named p) o = eqb (opcode_no p) (opcode_no o)
means unnamed o = false

abbrev pub seek : List ℕ → Opcode → ℕ
seek [] o = 0
seek (c ∷ cs) o = pick (means (cond_of c) o) c (seek cs o)

abbrev pub cond_bytes : List ℕ
cond_bytes = 0 ∷ 1 ∷ 2 ∷ 3 ∷ 4 ∷ 5 ∷ 6 ∷ 0xF8 ∷ 0xF9 ∷ 0xFA ∷ 0xFB ∷ 0xFC ∷ 0xFD ∷ 0xFE ∷ []

unfoldable pub cond_byte : Opcode → ℕ
cond_byte o = seek cond_bytes o

-- how many displacements, other numbers and conditions some reads have
unfoldable pub disps : List Read → ℕ
disps [] = 0
disps (num (disp zero) ∷ rs) = disps rs
disps (num (disp (suc n)) ∷ rs) = suc (disps rs)
disps (num (imm n) ∷ rs) = disps rs
disps (num imm20 ∷ rs) = disps rs
disps (cond ∷ rs) = disps rs
disps (stop e ∷ rs) = disps rs

unfoldable pub imms : List Read → ℕ
imms [] = 0
imms (num (disp n) ∷ rs) = imms rs
imms (num (imm n) ∷ rs) = suc (imms rs)
imms (num imm20 ∷ rs) = suc (imms rs)
imms (cond ∷ rs) = imms rs
imms (stop e ∷ rs) = imms rs

unfoldable pub conds : List Read → ℕ
conds [] = 0
conds (num k ∷ rs) = conds rs
conds (cond ∷ rs) = suc (conds rs)
conds (stop e ∷ rs) = conds rs

-- the last displacement read is in dispabs, the one before it in first
abbrev pub nth : ℕ → Record → ℕ
nth zero t = t.dispabs
nth (suc k) t = t.first

-- the least bytes that these reads turn into the numbers of the record t
unfoldable pub spell : List Read → Record → List ℕ
spell [] t = []
spell (num (disp zero) ∷ rs) t = spell rs t
spell (num (disp (suc n)) ∷ rs) t = digits (suc n) (nth (disps rs) t) ++ spell rs t
spell (num (imm n) ∷ rs) t = digits n t.imm_wide ++ spell rs t
spell (num imm20 ∷ rs) t = digits 3 t.imm_wide ++ spell rs t
spell (cond ∷ rs) t = digits 1 (cond_byte t.opcode) ++ spell rs t
spell (stop e ∷ rs) t = []

-- what the fields must be for a record with the row's names to have the key k
abbrev pub wide_for : Field → Key → ℕ
wide_for wide k = k.number0
wide_for nowhere k = k.number1
wide_for short k = k.number1
wide_for early k = k.number1

abbrev pub disp_for : Field → Field → Bool → Key → ℕ
disp_for short short true k = k.number0
disp_for short short false k = k.number1
disp_for short nowhere b k = k.number0
disp_for short wide b k = k.number0
disp_for short early b k = k.number0
disp_for nowhere q b k = k.number1
disp_for wide q b k = k.number1
disp_for early q b k = k.number1

abbrev pub first_for : Bool → Key → ℕ
first_for true k = k.number1
first_for false k = k.number0

unfoldable pub aim : Face → Key → Record
aim f k = record {
  imm_wide = wide_for (field_of f.op0) k;
  dispabs = disp_for (field_of f.op0) (field_of f.op1) (same_name f.op0 Disp8_SP) k;
  first = first_for (same_name f.op0 Disp8_SP) k;
  length = 2;
  opcode = k.opcode;
  size = f.size;
  width = f.width;
  op0 = f.op0;
  op1 = f.op1;
  op2 = Nothing;
  marked = false;
  dropped = false;
  parts = no_parts;
  registers = 0;
}

abbrev pub other : Bool → Bool
other b = pick b false true

-- the row is unmarked and its reads do not end in a refusal
abbrev pub live : Row → Bool
live w = both (other w.face.marked) (eqb (fate w.reads) 0)

-- at most two displacements, one other number and one condition, none that a later one would hide
unfoldable pub tidy : List Read → Bool
tidy [] = true
tidy (num (disp zero) ∷ rs) = tidy rs
tidy (num (disp (suc n)) ∷ rs) = both (leb (disps rs) 1) (tidy rs)
tidy (num (imm n) ∷ rs) = both (eqb (imms rs) 0) (tidy rs)
tidy (num imm20 ∷ rs) = both (eqb (imms rs) 0) (tidy rs)
tidy (cond ∷ rs) = both (eqb (conds rs) 0) (tidy rs)
tidy (stop e ∷ rs) = true

abbrev pub shorts : Field → ℕ
shorts short = 1
shorts wide = 0
shorts nowhere = 0
shorts early = 0

-- (no name asks for `first` by itself: a row that did would not be plain)
abbrev pub wides : Field → ℕ
wides short = 0
wides wide = 1
wides nowhere = 0
wides early = 2

-- how many of a row's operands have a number in dispabs or first, and in imm_wide
abbrev pub shorts_of : Face → ℕ
shorts_of f = shorts (field_of f.op0) + shorts (field_of f.op1)

abbrev pub wides_of : Face → ℕ
wides_of f = wides (field_of f.op0) + wides (field_of f.op1)

-- A row is plain if, where it is live, each displacement belongs to one operand and each such operand has one,
-- and at most one operand has a number in imm_wide, which is read or is the row's own. Every row of document 01 is.
unfoldable pub plain : Row → Bool
plain w =
    pick (live w)
    (both (tidy w.reads)
    (both (eqb (disps w.reads) (shorts_of w.face))
    (both (leb (imms w.reads) (wides_of w.face)) (leb (wides_of w.face) 1))))
    true

-- the tests of the search
unfoldable pub alike : Key → Key → Bool
alike k l =
    both (eqb (opcode_no k.opcode) (opcode_no l.opcode))
    (both (eqb (size_no k.size) (size_no l.size))
    (both (eqb (width_no k.width) (width_no l.width))
    (both (eqb (operand_no k.base0) (operand_no l.base0))
    (both (eqb (operand_no k.base1) (operand_no l.base1))
    (both (eqb (operand_no k.base2) (operand_no l.base2))
    (both (eqb k.number0 l.number0) (both (eqb k.number1 l.number1) (eqb k.number2 l.number2))))))))

abbrev pub agrees : Answer → Key → Bool
agrees x k = both (eqb x.refusal 0) (both (other x.inst.marked) (alike (key x.inst) k))

abbrev pub firstb : List ℕ → List ℕ → Bool
firstb [] ys = true
firstb (x ∷ xs) [] = false
firstb (x ∷ xs) (y ∷ ys) = pick (ltb x y) true (pick (ltb y x) false (firstb xs ys))

abbrev pub aheadb : List ℕ → List ℕ → Bool
aheadb xs ys = pick (ltb (length xs) (length ys)) true (pick (ltb (length ys) (length xs)) false (firstb xs ys))

abbrev pub better : Found → Found → Found
better none y = y
better (bytes xs) none = bytes xs
better (bytes xs) (bytes ys) = pick (aheadb xs ys) (bytes xs) (bytes ys)

-- the best of the first k answers
unfoldable pub least_of : (ℕ → Found) → ℕ → Found
least_of f zero = none
least_of f (suc k) = better (f k) (least_of f k)

module _ (t : Table) where
  -- the bytes by which the code a b would encode a key, if it can
  unfoldable pub bytes_by : ℕ → ℕ → Key → List ℕ
  bytes_by a b k = a ∷ b ∷ spell (t.row_at a b).reads (aim (t.row_at a b).face k)

  unfoldable pub try : ℕ → ℕ → Key → Found
  try a b k = pick (agrees (decode_by t (bytes_by a b k)) k) (bytes (bytes_by a b k)) none

  -- over all pairs of bytes
  unfoldable pub best : Key → Found
  best k = least_of (λ i. try (i / 256) (i % 256) k) 65536
