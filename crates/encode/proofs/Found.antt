-- The row at the chosen code has the names that were asked for: whether it encodes the record, and by which bytes.
-- Assumes nothing.
use Prim.Native.Nat.{ℕ, ◌<◌}
use mathlib.Core.Path.{◌≡◌, refl, sym, ap, ap₂, subst, ◌∙◌}
use mathlib.Core.Bool.{Bool, true, false}
use mathlib.Core.List.{◌∷◌}
use lib.Dec.{T, eqb, ltb}
use borrow.Author.Tests.{eqb-true, eq-eqb, ltb-true}
use Rattle.laws.specs.Choice.{pick, both}
use Rattle.record.specs.declared.Record.{Record}
use Rattle.record.specs.declared.Key.{Key}
use Rattle.record.specs.declared.Operand.TheVariants.{Nothing}
use Rattle.record.specs.Numbers.{size_no, width_no, operand_no}
use Rattle.record.specs.Same.{same_name, among, field_of, base_of, value_of, key}
use Rattle.record.proofs.Apart.{operands_apart}
use Rattle.rows.specs.Row.{Row, Table}
use Rattle.encode_choice.specs.declared.Asked.{Asked}
use Rattle.encode_rules.specs.Says.{bytes, none}
use Rattle.encode_rules.specs.steps.Search.{bytes_by}
use Rattle.encode_choice.specs.steps.Coarse.{whole, whole_row}
use Rattle.encode_rules.specs.steps.Can.{can}
use Rattle.encode_rules.specs.steps.Direct.{code, able, taken}
use Rattle.encode_choice.specs.steps.Forms.{number_limit}
use Rattle.encode_choice.specs.steps.Choose.{asked, drops_zero}
use Rattle.encode_rules.proofs.Bools.{both_true}
use Rattle.encode_choice.proofs.Formed.{Formed}
use Rattle.encode.specs.steps.Faced.{face_by, conditions}
use Rattle.encode.specs.steps.Slots as slots
use Rattle.encode.specs.steps.Slots.{limit_of}
use Rattle.encode.proofs.Narrowed.{base_kept, whole_kept, whole_base}
use Rattle.encode.proofs.Ordered.{row_named, sayable, ordered, said_if_small, part_small}

-- what is asked of a record's key, and whether each number is 0 and may be dropped, or fits in a byte
module _ (r : Record) where
  abbrev k : Key
  k = key r

  abbrev q : Asked
  q = asked (key r)

  abbrev zero0 : Bool
  zero0 = both (drops_zero k.opcode) (eqb k.number0 0)

  abbrev small0 : Bool
  small0 = ltb k.number0 256

  abbrev zero1 : Bool
  zero1 = eqb k.number1 0

  abbrev small1 : Bool
  small1 = ltb k.number1 256

  -- the names have the key's bases
  pub same_base0 : base_of q.op0 ≡ k.base0
  same_base0 = base_kept zero0 small0 r.op0

  pub same_base1 : base_of q.op1 ≡ k.base1
  same_base1 = base_kept zero1 small1 r.op1

  -- a number that is not part of the code is not asked for
  pub in_code_lem : whole q.width q.op0 ≡ false → q.number ≡ 0
  in_code_lem e = ap (λ w. pick w k.number0 0) (sym (whole_kept k.width zero0 small0 k.base0) ∙ e)

  module _ (third : same_name r.op2 Nothing ≡ true) where
    no_third : r.op2 ≡ Nothing
    unfolding same_name
    no_third = operands_apart _ _ (eqb-true _ _ third)

    pub same_base2 : base_of Nothing ≡ k.base2
    same_base2 = ap base_of (sym no_third)

    pub no_number2 : k.number2 ≡ 0
    unfolding field_of among
    no_number2 = ap (λ o. value_of (field_of o) r) no_third

    -- of a table whose rows are named by what they read
    module _ (t : Table) (all_named : (a b : ℕ) → t.known a ≡ true → b < 256 → T (row_named (t.row_at a b) (conditions a b)))
        (a b : ℕ) (the_row : Formed t a b r.opcode (asked (key r))) where
      abbrev w : Row
      w = t.row_at a b

      pub second_below : b < 256
      second_below = ltb-true _ _ (both_true (ltb b 256) _ (both_true (ltb a 256) _ the_row.there).1).0

      e : t.known a ≡ true
      e = (both_true (ltb b 256) (t.known a) (both_true (ltb a 256) _ the_row.there).1).1

      named : T (row_named w (conditions a b))
      named = all_named a b e second_below

      -- its names agree with the key's, so its numbers tell whether it encodes the key
      agree : can w k ≡ sayable w (conditions a b) named the_row.lives k
      unfolding can
      agree =
          let base0 : base_of w.face.op0 ≡ k.base0 = ap base_of the_row.op0 ∙ same_base0 in
          let base1 : base_of w.face.op1 ≡ k.base1 = ap base_of the_row.op1 ∙ same_base1 in
          rw the_row.lives
          (rw the_row.opcode
          (rw (eq-eqb _ _ (ap size_no the_row.size))
          (rw (eq-eqb _ _ (ap width_no the_row.width))
          (rw (eq-eqb _ _ (ap operand_no base0))
          (rw (eq-eqb _ _ (ap operand_no base1))
          (rw (eq-eqb _ _ (ap operand_no same_base2))
          (rw (eq-eqb _ _ no_number2) refl)))))))

      -- a number that is part of the code is the key's, and small
      whole_asked : whole_row w.face ≡ whole q.width q.op0
      whole_asked = ap₂ (λ w o. whole w (base_of o)) the_row.width the_row.op0 ∙ sym (whole_base q.width q.op0)

      part : whole_row w.face ≡ true → (w.number ≡ k.number0) × (ltb k.number0 (limit_of w.face.op0) ≡ true)
      unfolding whole
      part h =
          let u = sym whole_asked ∙ h in
          let n : q.number ≡ k.number0 = ap (λ w. pick w k.number0 0) (sym (whole_kept k.width zero0 small0 k.base0) ∙ u) in
          let l : k.number0 < number_limit q.op0 = subst (λ v. v < number_limit q.op0) n (subst (λ w. q.number < pick w (number_limit q.op0) 1) u the_row.ranged) in
          (the_row.number ∙ n, ap (λ o. ltb k.number0 (limit_of o)) the_row.op0 ∙ part_small q.op0 k.number0 (both_true (eqb (width_no q.width) 0) _ u).1 l)

      able_is : able t a b k ≡ slots.fitting (face_by q) k
      unfolding able slots.fitting
      able_is =
          ap (λ g. both g (can w k)) the_row.there
          ∙ agree
          ∙ said_if_small w (conditions a b) named the_row.lives k the_row.condition part
          ∙ (λ j. both (ltb k.number0 (limit_of (the_row.op0 j))) (ltb k.number1 (limit_of (the_row.op1 j))))

      -- what stands behind the code does not depend on its opcode or size
      same_slots : slots.slots w.face (conditions a b) k ≡ slots.slots (face_by q) (conditions a b) k
      unfolding slots.slots
      same_slots =
          let f = w.face in
          λ j. slots.slots (record { opcode = f.opcode; size = f.size; width = the_row.width j; op0 = the_row.op0 j; op1 = the_row.op1 j; marked = f.marked; registers = f.registers }) (conditions a b) k

      in_slots : bytes_by t a b k ≡ a ∷ b ∷ slots.slots (face_by q) (conditions a b) k
      unfolding bytes_by
      in_slots = ap (λ xs. a ∷ b ∷ xs) (ordered w (conditions a b) named the_row.lives k ∙ same_slots)

      -- so these bytes where the numbers fit, and none where they do not, are what is found
      pub said_by : pick (slots.fitting (face_by q) k) (bytes (a ∷ b ∷ slots.slots (face_by q) (conditions a b) k)) none ≡ taken t (code a b) k
      unfolding taken
      said_by = sym (ap₂ (λ fit xs. pick fit (bytes xs) none) able_is in_slots)
