-- A row's names and a key tell the numbers that the row's reads must give.
-- Assumes nothing.
use Prim.Native.Nat.{ℕ, zero, suc, ◌+◌, ◌≤◌}
use mathlib.Core.Path.{◌≡◌, refl, ap, ap₂, subst₂}
use mathlib.Core.Bool.{Bool, true, false}
use mathlib.Core.List.{List, [], ◌∷◌, ◌++◌}
use native.Mathlib.Omega.{arith}
use Rattle.record.specs.declared.Record.{Record}
use Rattle.record.specs.declared.Operand.TheVariants.{Disp8_SP}
use Rattle.record.specs.declared.Key.{Key}
use Rattle.record.specs.declared.fields.Field.{Field}
use Rattle.record.specs.declared.fields.Field.TheVariants.{Nowhere as nowhere, Wide as wide, Short as short, Early as early}
use Rattle.record.specs.Same.{same_name, field_of, shared, field0, field1, value_of, key}
use Rattle.rows.specs.Row.{disp, imm, imm20, Read, num, cond, stop, Face}
use Rattle.encode_rules.specs.steps.Digits.{digits}
use Rattle.encode_rules.specs.steps.Search.{cond_byte, disps, imms, nth, spell, aim, other, shorts, wides, shorts_of, wides_of, wide_for, disp_for, first_for}

-- reads are spelled by the fields that they fill
pub nth_same : (d : ℕ) (t s : Record) → t.dispabs ≡ s.dispabs → (2 ≤ suc d → t.first ≡ s.first) → nth d t ≡ nth d s
nth_same zero t s p q = p
nth_same (suc d) t s p q = q (omega arith)

spell_same : (rs : List Read) (t s : Record) → t.opcode ≡ s.opcode → (1 ≤ imms rs → t.imm_wide ≡ s.imm_wide)
    → (1 ≤ disps rs → t.dispabs ≡ s.dispabs) → (2 ≤ disps rs → t.first ≡ s.first) → spell rs t ≡ spell rs s
unfolding spell imms disps
spell_same [] t s o i d f = refl
spell_same (num (disp zero) ∷ rs) t s o i d f = spell_same rs t s o i d f
spell_same (num (disp (suc n)) ∷ rs) t s o i d f =
    ap₂ (λ v ys. digits (suc n) v ++ ys) (nth_same (disps rs) t s (d (omega arith)) f)
    (spell_same rs t s o i (λ h. d (omega arith)) (λ h. f (omega arith)))
spell_same (num (imm n) ∷ rs) t s o i d f = ap₂ (λ v ys. digits n v ++ ys) (i (omega arith)) (spell_same rs t s o (λ h. i (omega arith)) d f)
spell_same (num imm20 ∷ rs) t s o i d f = ap₂ (λ v ys. digits 3 v ++ ys) (i (omega arith)) (spell_same rs t s o (λ h. i (omega arith)) d f)
spell_same (cond ∷ rs) t s o i d f = ap₂ (λ v ys. digits 1 (cond_byte v) ++ ys) o (spell_same rs t s o i d f)
spell_same (stop e ∷ rs) t s o i d f = refl

-- the fields, from the operands' numbers
module _ (t : Record) (k : Key) where
  wide_is : (p q : Field) (b : Bool) → wides p + wides q ≤ 1 → value_of (shared p q (other b)) t ≡ k.number0 → value_of (shared q p b) t ≡ k.number1
      → 1 ≤ wides p + wides q → t.imm_wide ≡ wide_for p k
  wide_is wide q b o e f h = e
  wide_is nowhere wide b o e f h = f
  wide_is nowhere nowhere b o e f h = absurd (omega arith)
  wide_is nowhere short b o e f h = absurd (omega arith)
  wide_is nowhere early b o e f h = absurd (omega arith)
  wide_is short wide b o e f h = f
  wide_is short nowhere b o e f h = absurd (omega arith)
  wide_is short short b o e f h = absurd (omega arith)
  wide_is short early b o e f h = absurd (omega arith)
  wide_is early q b o e f h = absurd (omega arith)

  disp_is : (p q : Field) (b : Bool) → value_of (shared p q (other b)) t ≡ k.number0 → value_of (shared q p b) t ≡ k.number1 → 1 ≤ shorts p + shorts q → t.dispabs ≡ disp_for p q b k
  disp_is short short true e f h = e
  disp_is short short false e f h = f
  disp_is short nowhere b e f h = e
  disp_is short wide b e f h = e
  disp_is short early b e f h = e
  disp_is nowhere short b e f h = f
  disp_is nowhere nowhere b e f h = absurd (omega arith)
  disp_is nowhere wide b e f h = absurd (omega arith)
  disp_is nowhere early b e f h = absurd (omega arith)
  disp_is wide short b e f h = f
  disp_is wide nowhere b e f h = absurd (omega arith)
  disp_is wide wide b e f h = absurd (omega arith)
  disp_is wide early b e f h = absurd (omega arith)
  disp_is early short b e f h = f
  disp_is early nowhere b e f h = absurd (omega arith)
  disp_is early wide b e f h = absurd (omega arith)
  disp_is early early b e f h = absurd (omega arith)

  first_is : (p q : Field) (b : Bool) → value_of (shared p q (other b)) t ≡ k.number0 → value_of (shared q p b) t ≡ k.number1 → 2 ≤ shorts p + shorts q → t.first ≡ first_for b k
  first_is short short true e f h = f
  first_is short short false e f h = e
  first_is short nowhere b e f h = absurd (omega arith)
  first_is short wide b e f h = absurd (omega arith)
  first_is short early b e f h = absurd (omega arith)
  first_is nowhere short b e f h = absurd (omega arith)
  first_is nowhere nowhere b e f h = absurd (omega arith)
  first_is nowhere wide b e f h = absurd (omega arith)
  first_is nowhere early b e f h = absurd (omega arith)
  first_is wide short b e f h = absurd (omega arith)
  first_is wide nowhere b e f h = absurd (omega arith)
  first_is wide wide b e f h = absurd (omega arith)
  first_is wide early b e f h = absurd (omega arith)
  first_is early short b e f h = absurd (omega arith)
  first_is early nowhere b e f h = absurd (omega arith)
  first_is early wide b e f h = absurd (omega arith)
  first_is early early b e f h = absurd (omega arith)

module _ (f : Face) (t : Record) (k : Key) (op0 : t.op0 ≡ f.op0) (op1 : t.op1 ≡ f.op1) (same : key t ≡ k) where
  pub zeroth : value_of (field0 f.op0 f.op1) t ≡ k.number0
  zeroth = subst₂ (λ a b. value_of (field0 a b) t ≡ k.number0) op0 op1 (ap (λ x. x.number0) same)

  pub oneth : value_of (field1 f.op0 f.op1) t ≡ k.number1
  oneth = subst₂ (λ a b. value_of (field1 a b) t ≡ k.number1) op0 op1 (ap (λ x. x.number1) same)

  -- any function of a record that looks only at the fields which the reads fill
  pub fields : {A : Type 0} (g : Record → A) (rs : List Read)
      → ((s : Record) → t.opcode ≡ s.opcode → (1 ≤ imms rs → t.imm_wide ≡ s.imm_wide) → (1 ≤ disps rs → t.dispabs ≡ s.dispabs)
      → (2 ≤ disps rs → t.first ≡ s.first) → g t ≡ g s)
      → disps rs ≤ shorts_of f → imms rs ≤ wides_of f → wides_of f ≤ 1 → g t ≡ g (aim f k)
  unfolding aim
  fields g rs look d i o =
      look (aim f k) (ap (λ x. x.opcode) same)
      (λ h. wide_is t k (field_of f.op0) (field_of f.op1) (same_name f.op0 Disp8_SP) o zeroth oneth (omega arith))
      (λ h. disp_is t k (field_of f.op0) (field_of f.op1) (same_name f.op0 Disp8_SP) zeroth oneth (omega arith))
      (λ h. first_is t k (field_of f.op0) (field_of f.op1) (same_name f.op0 Disp8_SP) zeroth oneth (omega arith))

  pub aimed : (rs : List Read) → disps rs ≤ shorts_of f → imms rs ≤ wides_of f → wides_of f ≤ 1 → spell rs t ≡ spell rs (aim f k)
  aimed rs d i o = fields (spell rs) rs (spell_same rs t) d i o
