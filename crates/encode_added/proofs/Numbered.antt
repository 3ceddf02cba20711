-- The changed rows whose number is part of the code: such a row encodes one key, for which it is chosen.
-- Assumes nothing.
use Prim.Native.Nat.{ℕ, zero, suc, ◌/◌, ◌%◌, ◌<◌}
use mathlib.Core.Path.{◌≡◌, sym, ap₂, subst}
use mathlib.Core.Bool.{Bool, true, false}
use native.Mathlib.Omega.{arith}
use lib.Dec.{T, eqb}
use borrow.Author.Tests.{eqb-true}
use Rattle.laws.specs.Choice.{pick, both}
use Rattle.record.specs.declared.Opcode.{Opcode}
use Rattle.record.specs.declared.Operand.TheVariants.{Nothing}
use Rattle.record.specs.declared.Key.{Key}
use Rattle.record.specs.Same.{same_name, among, field_of, base_of}
use Rattle.record.proofs.Apart.{opcodes_apart}
use Rattle.rows.specs.Row.{Row}
use Rattle.rows.specs.Rows.{row}
use Rattle.by_manual.specs.Changed.{becomes, change_at}
use Rattle.by_manual.specs.Lists.{on_changed, every_changed}
use Rattle.by_manual.proofs.Each.{every_changed_lem}
use Rattle.encode_rules.specs.steps.Search.{imms, conds, live}
use Rattle.encode_rules.specs.steps.Can.{named, can}
use Rattle.encode_rules.specs.steps.Direct.{Choice, code, nothing}
use Rattle.encode_rules.proofs.Bools.{so, both_true, picked}
use Rattle.encode_rules.proofs.Can.{parts}
use Rattle.encode_choice.specs.steps.Choose.{drops_zero}
use Rattle.encode_choice.specs.steps.Coarse.{whole, alone}
use Rattle.encode_choice.proofs.Coarse.{alone0, alone1}
use Rattle.encode_added.specs.steps.Entries.{entry_of, goes_as}
use Rattle.encode_added.specs.steps.Choose.{choose_by, choice_of}
use Rattle.encode_added.proofs.Added.{number_in_code}

-- the one key that such a row encodes
abbrev own_key : Row → Key
own_key w = record {
  opcode = w.face.opcode;
  size = w.face.size;
  width = w.face.width;
  base0 = base_of w.face.op0;
  base1 = base_of w.face.op1;
  base2 = base_of Nothing;
  number0 = w.number;
  number1 = 0;
  number2 = 0;
}

named_is : (n : ℕ) (o p : Opcode) → n ≡ 0 → named n o p ≡ true → o ≡ p
named_is zero o p z e = opcodes_apart o p (eqb-true _ _ e)
named_is (suc n) o p z e = absurd (omega arith)

-- no condition and no number is read, and operand 1 has none
abbrev single : Row → Bool
single w = both (eqb (conds w.reads) 0) (both (eqb (imms w.reads) 0) (alone (field_of w.face.op0) (field_of w.face.op1)))

own_key_lem : (w : Row) (k : Key) → single w ≡ true → can w k ≡ true → own_key w ≡ k
own_key_lem w k s c =
    let p = parts w k c in
    let x = both_true (eqb (conds w.reads) 0) _ s in
    let y = both_true (eqb (imms w.reads) 0) _ x.1 in
    let opcode = named_is (conds w.reads) w.face.opcode k.opcode (eqb-true _ _ x.0) p.opcode in
    let number0 : k.number0 ≡ w.number = alone0 (field_of w.face.op0) (field_of w.face.op1) (imms w.reads) _ _ y.1 (eqb-true _ _ y.0) p.exact0 in
    let number1 : k.number1 ≡ 0 = alone1 (field_of w.face.op0) (field_of w.face.op1) (imms w.reads) w.number _ y.1 p.exact1 in
    λ i. record {
      opcode = opcode i;
      size = p.size i;
      width = p.width i;
      base0 = p.base0 i;
      base1 = p.base1 i;
      base2 = p.base2 i;
      number0 = sym number0 i;
      number1 = sym number1 i;
      number2 = sym p.number2 i;
    }

abbrev is_code : Choice → ℕ → ℕ → Bool
is_code (code x y) a b = both (eqb x a) (eqb y b)
is_code nothing a b = false

is_code_lem : (c : Choice) (a b : ℕ) → is_code c a b ≡ true → c ≡ code a b
is_code_lem (code x y) a b e = let p = both_true (eqb x a) _ e in ap₂ code (eqb-true _ _ p.0) (eqb-true _ _ p.1)
is_code_lem nothing a b e = let z : ◌≡◌ {A = ℕ} 0 1 = cc in absurd (omega arith)

-- such a row encodes no other key, and is chosen for this one
own_test : ℕ → ℕ → Row → Bool
own_test a b w = pick (both (live w) (number_in_code w)) (both (single w) (is_code (choice_of true (own_key w)) a b)) true

all_own : T (every_changed own_test)
unfolding every_changed own_test row choose_by entry_of goes_as drops_zero among same_name imms conds field_of base_of whole
all_own = tt

pub own_chosen : (a b : ℕ) (w : Row) (k : Key) → b < 256 → change_at a (b / 16) (b % 16) ≡ becomes w → number_in_code w ≡ true → can w k ≡ true → choice_of true k ≡ code a b
unfolding own_test
own_chosen a b w k l new n c =
    let t : T (own_test a b w) = subst (λ c. T (on_changed (own_test a b) c)) new (every_changed_lem own_test b l all_own a) in
    let x = both_true (single w) _ (so _ (picked (both (live w) (number_in_code w)) _ t (ap₂ both (parts w k c).lives n))) in
    subst (λ k. choice_of true k ≡ code a b) (own_key_lem w k x.0 c) (is_code_lem (choice_of true (own_key w)) a b x.1)
