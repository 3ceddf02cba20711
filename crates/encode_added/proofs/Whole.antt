-- A code that is chosen by operand 0's number encodes what was asked for, and reads no bytes.
-- Assumes nothing.
use Prim.Native.Nat.{ℕ, ◌%◌, ◌<◌}
use mathlib.Core.Path.{◌≡◌, refl, sym, subst, ◌∙◌}
use mathlib.Core.Bool.{Bool, true, false, false≢true}
use mathlib.Core.List.{List, [], ◌∷◌}
use native.Mathlib.Omega.{arith}
use native.Mathlib.Nat.{mod-eq_of_lt}
use lib.Dec.{T, ltb, eqb}
use borrow.Author.Tests.{ltb-true, eqb-true}
use Rattle.laws.specs.Choice.{pick, both}
use Rattle.laws.specs.Range.{upto}
use Rattle.laws.specs.Table.{every}
use Rattle.laws.proofs.Choice.{both_left, both_right}
use Rattle.laws.proofs.Range.{upto_at}
use Rattle.record.specs.declared.Opcode.{Opcode}
use Rattle.record.specs.declared.Width.{Width}
use Rattle.record.specs.declared.Width.TheVariants.{None, B, W}
use Rattle.record.specs.declared.Operand.{Operand}
use Rattle.record.specs.declared.Operand.TheVariants.{Nothing}
use Rattle.record.specs.declared.Key.{Key}
use Rattle.record.specs.declared.fields.Field.{Field}
use Rattle.record.specs.declared.fields.Field.TheVariants.{Nowhere as nowhere, Wide as wide, Short as short, Early as early}
use Rattle.record.specs.Numbers.{operand_no}
use Rattle.record.specs.Same.{same_name, among, field_of, base_of}
use Rattle.record.proofs.Apart.{opcodes, operands}
use Rattle.record.proofs.Arms.{every_opcode, every_operand}
use Rattle.rows.specs.Row.{Read}
use Rattle.rows.specs.Rows.{row}
use Rattle.rows.specs.Groups.{known}
use Rattle.by_manual.specs.Changed.{change_at}
use Rattle.by_manual.specs.Table.{by_manual}
use Rattle.encode_rules.specs.steps.Search.{imms, conds, disps, aim}
use Rattle.encode_rules.specs.steps.Can.{fits, can}
use Rattle.encode_rules.specs.steps.Direct.{Choice, code, nothing, able}
use Rattle.encode_rules.proofs.Bools.{so, both_true, picked}
use Rattle.encode_choice.specs.declared.Asked.{Asked}
use Rattle.encode_choice.proofs.Among.{at_among}
use Rattle.encode_added.specs.steps.Entries.{Codes, named, below8, nibble, entry_of, names_of, size_of}
use Rattle.encode_added.specs.steps.Choose.{extended, below, signed, code_by, is_numbered}

-- the key of an opcode, names and a number of operand 0
abbrev pub key_of : Opcode → Width → Operand → Operand → ℕ → Key
key_of o w x y n = record {
  opcode = o;
  size = size_of o w;
  width = w;
  base0 = base_of x;
  base1 = base_of y;
  base2 = base_of Nothing;
  number0 = n;
  number1 = 0;
  number2 = 0;
}

abbrev is_none : List Read → Bool
is_none [] = true
is_none (r ∷ rs) = false

none_is : (rs : List Read) → is_none rs ≡ true → rs ≡ []
none_is [] e = refl
none_is (r ∷ rs) e = absurd (false≢true e)

-- a name that has no number, nor has any other of its base
abbrev is_nowhere : Field → Bool
is_nowhere nowhere = true
is_nowhere wide = false
is_nowhere short = false
is_nowhere early = false

abbrev numberless : Operand → Bool
numberless y = every (λ i z. pick (eqb (operand_no (base_of y)) (operand_no (base_of z))) (is_nowhere (field_of z)) true) 0 operands

abbrev by_its_number : Codes → ℕ → Choice
by_its_number (named f) n = nothing
by_its_number (below8 a b step) n = below a b step n
by_its_number nibble n = signed n

abbrev encodes : Choice → Key → Bool
encodes (code a b) k = both (able by_manual a b k) (is_none (by_manual.row_at a b).reads)
encodes nothing k = true

-- of each number that may be part of a code
abbrev number_test : Width → Opcode → Operand → Operand → ℕ → Bool
number_test w o x y m = encodes (by_its_number (entry_of o).codes (extended m)) (key_of o w x y (extended m))

abbrev names_test : Width → Opcode → Operand → Operand → Bool
names_test w o x y = pick (is_numbered (entry_of o).codes) (both (numberless y) (upto (number_test w o x y) 16)) true

entry_test : Width → Opcode → Bool
entry_test w o = every (λ i x. every (λ j y. names_test w o x y) 0 (names_of o w).second) 0 (names_of o w).first

all_tested : (w : Width) → T (every (λ i o. entry_test w o) 0 opcodes)
unfolding entry_test upto entry_of able can fits aim change_at known row same_name among imms conds disps field_of base_of
all_tested B = tt
all_tested W = tt
all_tested None = tt

if_code : {a b : ℕ} (t : Bool) (c : Choice) → pick t c nothing ≡ code a b → t ≡ true
if_code true c e = refl
if_code false c e = let z : ◌≡◌ {A = ℕ} 0 1 = cc in absurd (omega arith)

-- a number that is part of a code is a nibble, sign-extended
is_extended : {a b : ℕ} (c : Codes) (q : Asked) (n : ℕ) → is_numbered c ≡ true → code_by c q n ≡ code a b → extended (n % 16) ≡ n
is_extended (named f) q n m e = absurd (false≢true m)
is_extended (below8 a b step) q n m e =
    let t = if_code (ltb n 8) _ e in
    let l = ltb-true n 8 t in
    let s : n % 16 ≡ n = mod-eq_of_lt (omega arith) in
    rw s (rw t refl)
is_extended nibble q n m e = sym (eqb-true _ _ (if_code (eqb n (extended (n % 16))) _ e))

by_number : (c : Codes) (q : Asked) (n : ℕ) → is_numbered c ≡ true → by_its_number c n ≡ code_by c q n
by_number (named f) q n m = absurd (false≢true m)
by_number (below8 a b step) q n m = refl
by_number nibble q n m = refl

module _ (o : Opcode) (w : Width) (x y : Operand) (m : is_numbered (entry_of o).codes ≡ true) (in0 : among (names_of o w).first x ≡ true) (in1 : among (names_of o w).second y ≡ true) where
  here : T (both (numberless y) (upto (number_test w o x y) 16))
  unfolding entry_test
  here =
      let t0 = at_among _ (names_of o w).first 0 (every_opcode (entry_test w) (all_tested w) o) x in0 in
      picked (is_numbered (entry_of o).codes) _ (at_among _ (names_of o w).second 0 t0 y in1) m

  pub no_number : (z : Operand) → eqb (operand_no (base_of y)) (operand_no (base_of z)) ≡ true → field_of z ≡ nowhere
  no_number z e =
      nowhere_is (field_of z)
      (picked (eqb (operand_no (base_of y)) (operand_no (base_of z))) _
      (every_operand (λ z. pick (eqb (operand_no (base_of y)) (operand_no (base_of z))) (is_nowhere (field_of z)) true) (both_left (numberless y) _ here) z) e)
    where
      nowhere_is : (f : Field) → T (is_nowhere f) → f ≡ nowhere
      nowhere_is nowhere t = refl
      nowhere_is wide t = absurd t
      nowhere_is short t = absurd t
      nowhere_is early t = absurd t

  pub whole_able : (q : Asked) (n a b : ℕ) → code_by (entry_of o).codes q n ≡ code a b → (able by_manual a b (key_of o w x y n) ≡ true) × ((by_manual.row_at a b).reads ≡ [])
  whole_able q n a b e =
      let s = is_extended (entry_of o).codes q n m e in
      let l : n % 16 < 16 = omega arith in
      let t : T (encodes (by_its_number (entry_of o).codes n) (key_of o w x y n)) =
      subst (λ n. T (encodes (by_its_number (entry_of o).codes n) (key_of o w x y n))) s (upto_at (number_test w o x y) 16 (both_right (numberless y) _ here) (n % 16) l) in
      let p = both_true (able by_manual a b (key_of o w x y n)) _ (so _ (subst (λ c. T (encodes c (key_of o w x y n))) (by_number (entry_of o).codes q n m ∙ e) t)) in
      (p.0, none_is _ p.1)
