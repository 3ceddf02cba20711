-- Numbers told apart only by what rows and choices ask of them, so that a test over a few numbers speaks for all.
use Rattle.std.specs.Prelude.{ℕ, zero, suc, Bool, true, false, List, [], ◌∷◌, get_or, ltb, eqb}
use Rattle.laws.specs.Choice.{pick, both, either}
use Rattle.laws.specs.Range.{upto}
use Rattle.record.specs.declared.Opcode.{Opcode}
use Rattle.record.specs.declared.Width.{Width}
use Rattle.record.specs.declared.Operand.{Operand}
use Rattle.record.specs.declared.Operand.TheVariants.{Nothing, Imm4, Imm8, RegList}
use Rattle.record.specs.Numbers.{width_no}
use Rattle.record.specs.declared.Key.{Key}
use Rattle.record.specs.declared.fields.Field.{Field}
use Rattle.record.specs.declared.fields.Field.TheVariants.{Nowhere as nowhere, Wide as wide, Short as short, Early as early}
use Rattle.record.specs.Same.{same_name, base_of, field_of}
use Rattle.rows.specs.Row.{disp, imm, imm20, Read, num, cond, stop, Condition, named, unnamed, Face, Row, Table}
use Rattle.rows.specs.Codes.{cond_of}
use Rattle.rows.specs.Run.{twenty_bits}
use Rattle.encode_rules.specs.steps.Search.{imms, conds, live, firstb}
use Rattle.encode_rules.specs.steps.Can.{can}
use Rattle.encode_rules.specs.steps.Direct.{Choice, code, nothing, rank, there}

-- 0, one byte, two bytes, twenty bits, more
abbrev pub class_of : ℕ → ℕ
class_of v = pick (eqb v 0) 0 (pick (ltb v 256) 1 (pick (ltb v 65536) 2 (pick (ltb v twenty_bits) 3 4)))

abbrev pub rep : ℕ → ℕ
rep c = get_or (0 ∷ 1 ∷ 256 ∷ 65536 ∷ twenty_bits ∷ []) c 0

-- the names whose number is part of the code at no width: Imm4 of the long shifts, Imm8 of INT, RegList of PUSHM and POPM
abbrev pub in_code : Operand → Bool
in_code o = either (same_name o Imm4) (either (same_name o Imm8) (same_name o RegList))

-- such numbers are told apart one by one
unfoldable pub whole : Width → Operand → Bool
whole w o = both (eqb (width_no w) 0) (in_code o)

abbrev pub whole_key : Key → Bool
whole_key k = whole k.width k.base0

abbrev pub whole_row : Face → Bool
whole_row f = whole f.width (base_of f.op0)

abbrev pub roughly : Bool → ℕ → ℕ
roughly w v = pick w v (rep (class_of v))

abbrev pub coarse : Key → Key
coarse k = record {
  opcode = k.opcode;
  size = k.size;
  width = k.width;
  base0 = k.base0;
  base1 = k.base1;
  base2 = k.base2;
  number0 = roughly (whole_key k) k.number0;
  number1 = roughly (whole_key k) k.number1;
  number2 = rep (class_of k.number2);
}

-- reads of one, two or twenty bits' bytes
abbrev pub sized : List Read → Bool
sized [] = true
sized (num (disp zero) ∷ rs) = sized rs
sized (num (disp (suc zero)) ∷ rs) = sized rs
sized (num (disp (suc (suc zero))) ∷ rs) = sized rs
sized (num (disp (suc (suc (suc n)))) ∷ rs) = false
sized (num (imm zero) ∷ rs) = false
sized (num (imm (suc zero)) ∷ rs) = sized rs
sized (num (imm (suc (suc zero))) ∷ rs) = sized rs
sized (num (imm (suc (suc (suc n)))) ∷ rs) = false
sized (num imm20 ∷ rs) = sized rs
sized (cond ∷ rs) = sized rs
sized (stop e ∷ rs) = sized rs

-- the number of operand 0, and no other, is in imm_wide
abbrev pub alone : Field → Field → Bool
alone wide nowhere = true
alone wide wide = false
alone wide short = false
alone wide early = false
alone nowhere q = false
alone short q = false
alone early q = false

-- what coarse keys serve: a live row whose number is operand 0's if it is part of the code, and else 0
unfoldable pub regular : Row → Bool
regular w =
    pick (live w)
    (both (sized w.reads)
    (pick (whole_row w.face) (both (eqb (imms w.reads) 0) (alone (field_of w.face.op0) (field_of w.face.op1))) (eqb w.number 0)))
    true

-- a key of a row, by the classes of its numbers
abbrev pub key_at : Row → Opcode → ℕ → ℕ → Key
key_at w o i j = record {
  opcode = o;
  size = w.face.size;
  width = w.face.width;
  base0 = base_of w.face.op0;
  base1 = base_of w.face.op1;
  base2 = base_of Nothing;
  number0 = pick (whole_row w.face) w.number (rep i);
  number1 = pick (whole_row w.face) 0 (rep j);
  number2 = 0;
}

-- the opcodes that a row can have: its own, or those of its condition
abbrev pub on_cond : Condition → (Opcode → Bool) → Bool
on_cond (named o) f = f o
on_cond unnamed f = true

abbrev pub opcodes : ℕ → Opcode → (Opcode → Bool) → Bool
opcodes zero o f = f o
opcodes (suc n) o f = upto (λ v. on_cond (cond_of v) f) 256

-- how many classes an operand's number may have: an operand with no number has the number 0
abbrev pub span : Field → ℕ
span nowhere = 1
span wide = 5
span short = 5
span early = 5

module _ (t : Table) (choose : Key → Choice) where
  -- the choice's row v at x y can encode the key, and comes no later than the row w at a b
  abbrev pub before : Row → ℕ → ℕ → Row → ℕ → ℕ → Key → Bool
  before v x y w a b k = both (both (there t x y) (can v k)) (firstb (rank v x y) (rank w a b))

  abbrev pub beatsb : Choice → Row → ℕ → ℕ → Key → Bool
  beatsb (code x y) w a b k = before (t.row_at x y) x y w a b k
  beatsb nothing w a b k = false

  abbrev pub ifb : Bool → Row → ℕ → ℕ → Key → Bool
  ifb true w a b k = beatsb (choose k) w a b k
  ifb false w a b k = true

  abbrev pub good : Row → ℕ → ℕ → Key → Bool
  good w a b k = ifb (can w k) w a b k

  -- the test of one code
  abbrev pub live_test : Bool → ℕ → ℕ → Row → Bool
  live_test true a b w =
      opcodes (conds w.reads) w.face.opcode
      (λ o. upto (λ i. upto (λ j. good w a b (key_at w o i j)) (span (field_of w.face.op1))) (span (field_of w.face.op0)))
  live_test false a b w = true

  abbrev pub row_test : ℕ → ℕ → Row → Bool
  row_test a b w = live_test (live w) a b w

  unfoldable pub code_test : ℕ → ℕ → Bool
  code_test a b = row_test a b (t.row_at a b)
