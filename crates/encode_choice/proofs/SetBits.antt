-- Sets of names as numbers: the sets' bits are size and names.
-- Assumes nothing.
use Prim.Native.Nat.{ℕ}
use mathlib.Core.Path.{◌≡◌, refl, sym, ap, ap₂, ◌∙◌}
use mathlib.Core.Bool.{Bool, true, false}
use mathlib.Core.List.{List, [], ◌∷◌}
use native.Mathlib.Omega.{arith}
use lib.Dec.{T, eqb}
use borrow.Author.Tests.{eqb-true}
use Rattle.laws.specs.Choice.{pick, both, either}
use Rattle.laws.specs.Table.{every}
use Rattle.record.specs.declared.Opcode.{Opcode}
use Rattle.record.specs.declared.Size.{Size}
use Rattle.record.specs.declared.Size.TheVariants as size
use Rattle.record.specs.declared.Width.{Width}
use Rattle.record.specs.declared.Width.TheVariants.{None, B, W}
use Rattle.record.specs.declared.Operand.{Operand}
use Rattle.record.specs.Numbers.{size_no, operand_no}
use Rattle.record.specs.Same.{same_name, among}
use Rattle.record.proofs.Apart.{opcodes, operands}
use Rattle.record.proofs.Arms.{bit, bits_apart, every_opcode, every_operand}
use Rattle.encode_choice.specs.declared.Asked.{Asked}
use Rattle.encode_choice.specs.declared.name_sets.Form.{Form}
use Rattle.encode_choice.specs.steps.Forms.{form_of, names, is_empty, rowless, size_for}
use Rattle.encode_choice.specs.steps.NameSet.{bit_set, first, second, AreSets, size_bit, has_bit, all_in}
use Rattle.encode_rules.proofs.Bools.{so, both_none}

-- a set that agrees with a test at every name
pub set_names : (m : ℕ) (f : Operand → Bool) → T (every (λ i x. eqb (bit (has_bit m (operand_no x))) (bit (f x))) 0 operands) → (x : Operand) → has_bit m (operand_no x) ≡ f x
set_names m f t x = bits_apart _ _ (eqb-true _ _ (so _ (every_operand (λ x. eqb (bit (has_bit m (operand_no x))) (bit (f x))) t x)))

-- a test of every opcode's set at every name
abbrev Names : (Opcode → ℕ) → (Opcode → List Operand) → Type 0
Names f xs = T (every (λ i o. every (λ j x. eqb (bit (has_bit (f o) (operand_no x))) (bit (among (xs o) x))) 0 operands) 0 opcodes)

from_names : (f : Opcode → ℕ) (xs : Opcode → List Operand) → Names f xs → (o : Opcode) (x : Operand) → has_bit (f o) (operand_no x) ≡ among (xs o) x
from_names f xs t o =
    set_names (f o) (among (xs o)) (every_opcode (λ o. every (λ j x. eqb (bit (has_bit (f o) (operand_no x))) (bit (among (xs o) x))) 0 operands) t o)

first_names : (w : Width) → Names (λ o. first (form_of o) w) (λ o. (names (form_of o) w).first)
unfolding bit_set form_of among same_name
first_names B = tt
first_names W = tt
first_names None = tt

second_names : (w : Width) → Names (λ o. second (form_of o) w) (λ o. (names (form_of o) w).second)
unfolding bit_set form_of among same_name
second_names B = tt
second_names W = tt
second_names None = tt

-- and at every size
size_agrees : Width → Size → Opcode → Bool
size_agrees w s o = eqb (bit (has_bit (first (form_of o) w) (size_bit s))) (bit (eqb (size_no s) (size_no (size_for (form_of o) w))))

all_sizes : (w : Width) (s : Size) → T (every (λ i o. size_agrees w s o) 0 opcodes)
unfolding size_agrees bit_set form_of
all_sizes B size.None = tt
all_sizes B size.B = tt
all_sizes B size.W = tt
all_sizes B size.L = tt
all_sizes W size.None = tt
all_sizes W size.B = tt
all_sizes W size.W = tt
all_sizes W size.L = tt
all_sizes None size.None = tt
all_sizes None size.B = tt
all_sizes None size.W = tt
all_sizes None size.L = tt

in_size : (w : Width) (o : Opcode) (s : Size) → has_bit (first (form_of o) w) (size_bit s) ≡ eqb (size_no s) (size_no (size_for (form_of o) w))
unfolding size_agrees
in_size w o s = bits_apart _ _ (eqb-true _ _ (so _ (every_opcode (size_agrees w s) (all_sizes w s) o)))

-- a set without a bit has no size
no_size : (s : Size) → has_bit 0 (size_bit s) ≡ false
no_size size.None = refl
no_size size.B = refl
no_size size.W = refl
no_size size.L = refl

-- and of two lists, one of them empty, no two names are members
neither : (xs ys : List Operand) → either (is_empty xs) (is_empty ys) ≡ true → (x y : Operand) → both (among xs x) (among ys y) ≡ false
unfolding among
neither [] ys e x y = refl
neither (z ∷ zs) [] e x y = both_none (among (z ∷ zs) x)
neither (z ∷ zs) (v ∷ vs) e x y = let d : ◌≡◌ {A = ℕ} 0 1 = cc in absurd (omega arith)

-- the bits of both sets are size and names
module _ (o : Opcode) (q : Asked) where
  abbrev f : Form
  f = form_of o

  abbrev pub sized : Bool
  sized = eqb (size_no q.size) (size_no (size_for f q.width))

  abbrev pub named : Bool
  named = both (among (names f q.width).first q.op0) (among (names f q.width).second q.op1)

  in_both : all_in (first f q.width) (second f q.width) q ≡ both sized named
  in_both =
      ap₂ both (in_size q.width o q.size)
      (ap₂ both (from_names (λ o. first (form_of o) q.width) (λ o. (names (form_of o) q.width).first) (first_names q.width) o q.op0)
      (from_names (λ o. second (form_of o) q.width) (λ o. (names (form_of o) q.width).second) (second_names q.width) o q.op1))

  by_rows : (b : Bool) → rowless f q.width ≡ b → all_in (pick b 0 (first f q.width)) (pick b 0 (second f q.width)) q ≡ both sized named
  by_rows true e = ap (λ b. both b (both (has_bit 0 (operand_no q.op0)) (has_bit 0 (operand_no q.op1)))) (no_size q.size)
      ∙ sym (ap (both sized) (neither (names f q.width).first (names f q.width).second e q.op0 q.op1) ∙ both_none sized)
  by_rows false e = in_both

  pub in_sets : {m n : ℕ} → AreSets m n f q.width → all_in m n q ≡ both sized named
  in_sets e = ap₂ (λ m n. all_in m n q) e.0 e.1 ∙ by_rows (rowless f q.width) refl
