-- A record for which a code is chosen by its number: the code is all that encodes it.
-- Assumes nothing.
use Prim.Native.Nat.{ℕ, ◌<◌}
use mathlib.Core.Path.{◌≡◌, sym, ap, ap₂, subst}
use mathlib.Core.Bool.{true}
use mathlib.Core.List.{[], ◌∷◌}
use lib.Dec.{ltb}
use borrow.Author.Tests.{eqb-true, eq-eqb, ltb-true}
use Rattle.laws.specs.Choice.{pick}
use Rattle.record.specs.declared.Record.{Record}
use Rattle.record.specs.declared.Operand.TheVariants.{Nothing, Disp8_SP}
use Rattle.record.specs.Numbers.{size_no, operand_no}
use Rattle.record.specs.Same.{same_name, among, field_of, base_of, shared, value_of, key}
use Rattle.record.proofs.Apart.{sizes_apart}
use Rattle.by_manual.specs.Table.{by_manual}
use Rattle.encode_rules.specs.Says.{bytes, none}
use Rattle.encode_rules.specs.steps.Search.{spell, aim, bytes_by}
use Rattle.encode_rules.specs.steps.Direct.{code, there, able, taken}
use Rattle.encode_rules.proofs.Bools.{both_true}
use Rattle.encode_choice.specs.steps.Choose.{asked}
use Rattle.encode_added.specs.steps.Entries.{entry_of, names_of, size_of, goes_as, goes}
use Rattle.encode_added.specs.steps.Choose.{code_by, is_numbered}
use Rattle.encode_added.proofs.Whole.{key_of, no_number, whole_able}
use Rattle.encode.proofs.Found.{same_base0, same_base1, same_base2, no_number2}

module _ (r : Record) (third : same_name r.op2 Nothing ≡ true) (g : goes r.opcode (asked (key r)) ≡ true) (m : is_numbered (entry_of r.opcode).codes ≡ true) where
  named : (among (names_of r.opcode r.width).first (asked (key r)).op0 ≡ true)
      × (among (names_of r.opcode r.width).second (asked (key r)).op1 ≡ true)
      × (r.size ≡ size_of r.opcode r.width)
  unfolding goes_as
  named =
      let x = both_true (among (names_of r.opcode r.width).first (asked (key r)).op0) _ g in
      let y = both_true (among (names_of r.opcode r.width).second (asked (key r)).op1) _ x.1 in
      (x.0, y.0, sizes_apart _ _ (eqb-true (size_no r.size) _ y.1))

  -- operand 1 has no number
  no_number1 : (key r).number1 ≡ 0
  no_number1 =
      let base = eq-eqb (operand_no (base_of (asked (key r)).op1)) (operand_no (base_of r.op1)) (ap operand_no (same_base1 r)) in
      ap (λ f. value_of (shared f (field_of r.op0) (same_name r.op0 Disp8_SP)) r)
      (no_number r.opcode r.width (asked (key r)).op0 (asked (key r)).op1 m named.0 named.1 r.op1 base)

  the_key : key_of r.opcode r.width (asked (key r)).op0 (asked (key r)).op1 (key r).number0 ≡ key r
  the_key = λ i. record {
    opcode = r.opcode;
    size = sym named.2 i;
    width = r.width;
    base0 = same_base0 r i;
    base1 = same_base1 r i;
    base2 = same_base2 r third i;
    number0 = (key r).number0;
    number1 = sym no_number1 i;
    number2 = sym (no_number2 r third) i;
  }

  module _ (a b : ℕ) (chosen : code_by (entry_of r.opcode).codes (asked (key r)) (key r).number0 ≡ code a b) where
    both_so : (able by_manual a b (key_of r.opcode r.width (asked (key r)).op0 (asked (key r)).op1 (key r).number0) ≡ true) × ((by_manual.row_at a b).reads ≡ [])
    both_so = whole_able r.opcode r.width (asked (key r)).op0 (asked (key r)).op1 m named.0 named.1 (asked (key r)) (key r).number0 a b chosen

    encodes : able by_manual a b (key r) ≡ true
    encodes = subst (λ k. able by_manual a b k ≡ true) the_key both_so.0

    pub wholly_there : (b < 256) × (by_manual.known a ≡ true)
    unfolding able
    wholly_there =
        let x = both_true (ltb b 256) _ (both_true (ltb a 256) _ (both_true (there by_manual a b) _ encodes).0).1 in
        (ltb-true _ _ x.0, x.1)

    pub wholly_taken : bytes (a ∷ b ∷ []) ≡ taken by_manual (code a b) (key r)
    unfolding taken bytes_by spell
    wholly_taken = sym (ap₂ (λ z rs. pick z (bytes (a ∷ b ∷ spell rs (aim (by_manual.row_at a b).face (key r)))) none) encodes both_so.1)
