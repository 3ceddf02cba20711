-- What an unmarked row accepts has the stamp of its code.
-- Assumes nothing.
use Prim.Native.Nat.{ℕ, zero, suc, ◌≤◌}
use mathlib.Core.Path.{◌≡◌, refl, sym, ap, ap₂, ◌∙◌}
use mathlib.Core.Bool.{Bool, true, false}
use mathlib.Core.List.{List}
use native.Mathlib.Omega.{arith}
use Rattle.laws.specs.Choice.{pick}
use Rattle.record.specs.declared.Record.{Record}
use Rattle.record.specs.declared.Opcode.TheVariants.{NOP}
use Rattle.record.specs.declared.Width.TheVariants.{None}
use Rattle.record.specs.declared.fields.Field.{Field}
use Rattle.record.specs.declared.fields.Field.TheVariants.{Nowhere as nowhere, Wide as wide, Short as short, Early as early}
use Rattle.record.specs.Numbers.{opcode_no, size_no, width_no, operand_no}
use Rattle.record.specs.Same.{field0, value_of}
use Rattle.rows.specs.Row.{named, Row}
use Rattle.rows.specs.Codes.{cond_of}
use Rattle.rows.specs.Run.{begun}
use Rattle.encode_rules.specs.steps.Search.{cond_byte, imms, disps, conds, tidy}
use Rattle.encode_rules.proofs.Condition.{cond_small, so_means}
use Rattle.encode_rules.proofs.Runs.{Runs}
use Rattle.encode_rules.proofs.Spell.{Kept, kept, no_stop}
use Rattle.encode_rules.proofs.Fill.{fitting, cond_in}
use Rattle.tells.specs.steps.Stamp.{shown_name, in_code, code_number, stamp, stamp_of, unread}
use Rattle.tells.proofs.Shown.{Shown, shown_by_condition}
use Rattle.tells.proofs.Spelled.{took}

-- a row's own name is NOP where a condition names the opcode, and NOP is shown as itself
nop_shown : shown_name None NOP ≡ opcode_no NOP
unfolding shown_name cond_byte cond_of
nop_shown = refl

-- of a row that is tidy and shown as it should be, and the record that it made
module _ (w : Row) (xs : List ℕ) (t : Record) (tidily : tidy w.reads ≡ true) (is : Shown w) (q : Runs w.reads xs w.face (begun w.number) t) where
  k : Kept w.reads w.face (begun w.number) t
  k = kept w.reads xs w.face (begun w.number) t q

  -- the opcode is the row's, or a condition names it
  by_conds : {A : Type 0} → (conds w.reads ≡ 0 → A) → (1 ≤ conds w.reads → A) → A
  by_conds {A} f g = by (conds w.reads) refl
    where
      by : (n : ℕ) → conds w.reads ≡ n → A
      by zero e = f e
      by (suc n) e = g (omega arith)

  condition : 1 ≤ conds w.reads → cond_of (cond_byte t.opcode) ≡ named t.opcode
  condition c =
      so_means _ t.opcode (cond_in w.reads t c (no_stop w.reads xs w.face (begun w.number) t q)
      (fitting w.reads xs w.face (begun w.number) t tidily q))

  name : shown_name t.width t.opcode ≡ shown_name w.face.width w.face.opcode
  name =
      by_conds (λ e. ap₂ shown_name k.faced.width (k.opcode e))
      (λ c.
      ap (λ x. shown_name x t.opcode) (k.faced.width ∙ is.width c)
      ∙ shown_by_condition (cond_byte t.opcode) t.opcode (cond_small t.opcode) (condition c)
      ∙ sym (ap₂ shown_name (is.width c) (is.opcode c) ∙ nop_shown))

  -- whether the number is part of the code
  coded : in_code t.opcode t.size ≡ in_code w.face.opcode w.face.size
  coded =
      by_conds (λ e. ap₂ in_code (k.opcode e) k.faced.size)
      (λ c.
      ap (in_code t.opcode) k.faced.size
      ∙ is.uncoded c (cond_byte t.opcode) t.opcode (cond_small t.opcode) (condition c) ∙ sym (not_coded c (in_code w.face.opcode w.face.size) refl))
    where
      not_coded : 1 ≤ conds w.reads → (x : Bool) → in_code w.face.opcode w.face.size ≡ x → x ≡ false
      not_coded c true e = absurd (omega (arith, (is.alone e).1))
      not_coded c false e = refl

  -- beside it nothing was read
  value : (x : Field) → imms w.reads ≡ 0 → disps w.reads ≡ 0 → value_of x t ≡ value_of x (unread w)
  value nowhere i d = refl
  value wide i d = k.number i
  value short i d = k.same d
  value early i d = k.held d

  number : code_number t ≡ code_number (unread w)
  unfolding code_number
  number =
      ap (λ x. pick x (value_of (field0 t.op0 t.op1) t) 0) coded
      ∙ ap₂ (λ a b. pick (in_code w.face.opcode w.face.size) (value_of (field0 a b) t) 0) k.faced.op0 k.faced.op1
      ∙ by (in_code w.face.opcode w.face.size) refl
    where
      x : Field
      x = field0 w.face.op0 w.face.op1

      by : (c : Bool) → in_code w.face.opcode w.face.size ≡ c → pick c (value_of x t) 0 ≡ pick c (value_of x (unread w)) 0
      by true e = let a = is.alone e in value x a.0 a.2
      by false e = refl

  pub stamped : stamp_of t ≡ stamp_of (unread w)
  unfolding stamp_of
  stamped i =
      stamp (name i) (size_no (k.faced.size i)) (width_no (k.faced.width i)) (operand_no (k.faced.op0 i)) (operand_no (k.faced.op1 i))
      (took w.reads xs w.face (begun w.number) t q i) (number i)
