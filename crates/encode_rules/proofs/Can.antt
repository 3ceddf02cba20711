-- A row encodes a key by some bytes if and only if it can.
-- Assumes nothing.
use Prim.Native.Nat.{ℕ, zero, suc, ◌+◌, ◌≤◌}
use mathlib.Core.Path.{◌≡◌, refl, sym, ap, ◌∙◌, subst₂}
use mathlib.Core.Bool.{Bool, true, false}
use mathlib.Core.List.{List}
use native.Mathlib.Omega.{arith}
use borrow.Author.Tests.{eqb-true, eq-eqb}
use Rattle.record.specs.declared.Record.{Record}
use Rattle.record.specs.declared.Opcode.{Opcode}
use Rattle.record.specs.declared.Operand.TheVariants.{Nothing, Disp8_SP}
use Rattle.record.specs.Numbers.{opcode_no, size_no, width_no, operand_no}
use Rattle.record.specs.declared.Key.{Key}
use Rattle.record.specs.declared.fields.Field.{Field}
use Rattle.record.specs.declared.fields.Field.TheVariants.{Nowhere as nowhere, Wide as wide, Short as short, Early as early}
use Rattle.record.specs.Same.{same_name, field_of, shared, field0, field1, value_of, base_of, key}
use Rattle.record.proofs.Apart.{opcodes_apart, sizes_apart, widths_apart, operands_apart}
use Rattle.rows.specs.Row.{Row}
use Rattle.rows.specs.Run.{begun}
use Rattle.encode_rules.specs.steps.Search.{imms, conds, spell, other, live, aim, plain, shorts, wides, wide_for, disp_for, first_for}
use Rattle.encode_rules.specs.steps.Can.{exact, fits, named, can}
use Rattle.encode_rules.proofs.Bools.{both_true, both_so}
use Rattle.encode_rules.proofs.Runs.{Runs}
use Rattle.encode_rules.proofs.Spell.{kept}
use Rattle.encode_rules.proofs.Plain.{plain_is, live_is, lives}
use Rattle.encode_rules.proofs.Aim.{fields, zeroth, oneth}
use Rattle.encode_rules.proofs.Fill.{fitting, fits_same, fill, reach, filled}

named_so : (n : ℕ) (o p : Opcode) → (n ≡ 0 → o ≡ p) → named n o p ≡ true
named_so zero o p e = eq-eqb _ _ (ap opcode_no (e refl))
named_so (suc n) o p e = refl

exact_so : (p q : Field) (b : Bool) (n m v : ℕ) (t : Record) → value_of (shared p q b) t ≡ v → (n ≡ 0 → t.imm_wide ≡ m) → exact p n m v ≡ true
exact_so nowhere q b n m v t e f = eq-eqb _ _ (sym e)
exact_so short q b n m v t e f = refl
exact_so early q b n m v t e f = refl
exact_so wide q b zero m v t e f = eq-eqb _ _ (sym e ∙ f refl)
exact_so wide q b (suc n) m v t e f = refl

-- a row that encodes a key can
pub says_can : (w : Row) (xs : List ℕ) (t : Record) (k : Key) → plain w ≡ true → Runs w.reads xs w.face (begun w.number) t → t.marked ≡ false → key t ≡ k → can w k ≡ true
unfolding can field_of
says_can w xs t k f q u s =
    let y = kept w.reads xs w.face (begun w.number) t q in
    let face = y.faced in
    let l = lives w xs t q u in
    let p = plain_is w f l in
    both_so l
    (both_so (named_so (conds w.reads) w.face.opcode k.opcode (λ e. sym (y.opcode e) ∙ ap (λ x. x.opcode) s))
    (both_so (eq-eqb _ _ (ap size_no (sym face.size ∙ ap (λ x. x.size) s)))
    (both_so (eq-eqb _ _ (ap width_no (sym face.width ∙ ap (λ x. x.width) s)))
    (both_so (eq-eqb _ _ (ap operand_no (ap base_of (sym face.op0) ∙ ap (λ x. x.base0) s)))
    (both_so (eq-eqb _ _ (ap operand_no (ap base_of (sym face.op1) ∙ ap (λ x. x.base1) s)))
    (both_so (eq-eqb _ _ (ap operand_no (ap base_of (sym face.op2) ∙ ap (λ x. x.base2) s)))
    (both_so (eq-eqb _ _ (sym (ap (λ x. x.number2) s) ∙ ap (λ o. value_of (field_of o) t) face.op2))
    (both_so (exact_so (field_of w.face.op0) _ _ (imms w.reads) w.number k.number0 t (zeroth w.face t k face.op0 face.op1 s) y.number)
    (both_so (exact_so (field_of w.face.op1) _ _ (imms w.reads) w.number k.number1 t (oneth w.face t k face.op0 face.op1 s) y.number)
    (sym (fields w.face t k face.op0 face.op1 s (fits w.reads) w.reads (fits_same w.reads t) (omega (arith, p.disps)) p.imms p.once)
    ∙ fitting w.reads xs w.face (begun w.number) t p.tidy q))))))))))

-- the operands' numbers, from the fields
module _ (n m : ℕ) (t : Record) (k : Key) (own : n ≡ 0 → t.imm_wide ≡ m) where
  back0 : (p q : Field) (b : Bool) → wides p + wides q ≤ 1 → exact p n m k.number0 ≡ true → (1 ≤ n → t.imm_wide ≡ wide_for p k)
      → (1 ≤ shorts p + shorts q → t.dispabs ≡ disp_for p q b k) → (2 ≤ shorts p + shorts q → t.first ≡ first_for b k) → value_of (shared p q (other b)) t ≡ k.number0
  back0 nowhere q b w x j d f = sym (eqb-true _ _ x)
  back0 wide q b w x j d f = from_wide n own x j
    where
      from_wide : (n : ℕ) → (n ≡ 0 → t.imm_wide ≡ m) → exact wide n m k.number0 ≡ true → (1 ≤ n → t.imm_wide ≡ k.number0) → t.imm_wide ≡ k.number0
      from_wide zero i x j = i refl ∙ sym (eqb-true _ _ x)
      from_wide (suc n) i x j = j (omega arith)
  back0 early q b w x j d f = absurd (omega arith)
  back0 short nowhere b w x j d f = d (omega arith)
  back0 short wide b w x j d f = d (omega arith)
  back0 short early b w x j d f = d (omega arith)
  back0 short short true w x j d f = d (omega arith)
  back0 short short false w x j d f = f (omega arith)

  back1 : (p q : Field) (b : Bool) → wides p + wides q ≤ 1 → exact q n m k.number1 ≡ true → (1 ≤ n → t.imm_wide ≡ wide_for p k)
      → (1 ≤ shorts p + shorts q → t.dispabs ≡ disp_for p q b k) → (2 ≤ shorts p + shorts q → t.first ≡ first_for b k) → value_of (shared q p b) t ≡ k.number1
  back1 p nowhere b w x j d f = sym (eqb-true _ _ x)
  back1 p wide b w x j d f = from_wide p n own w x j
    where
      from_wide : (p : Field) (n : ℕ) → (n ≡ 0 → t.imm_wide ≡ m) → wides p + 1 ≤ 1 → exact wide n m k.number1 ≡ true
          → (1 ≤ n → t.imm_wide ≡ wide_for p k) → t.imm_wide ≡ k.number1
      from_wide p zero i w x j = i refl ∙ sym (eqb-true _ _ x)
      from_wide nowhere (suc n) i w x j = j (omega arith)
      from_wide short (suc n) i w x j = j (omega arith)
      from_wide early (suc n) i w x j = j (omega arith)
      from_wide wide (suc n) i w x j = absurd (omega arith)
  back1 p early b w x j d f = absurd (omega arith)
  back1 nowhere short b w x j d f = d (omega arith)
  back1 wide short b w x j d f = d (omega arith)
  back1 early short b w x j d f = d (omega arith)
  back1 short short true w x j d f = f (omega arith)
  back1 short short false w x j d f = d (omega arith)

-- what `can` tests, by name
pub record Parts (w : Row) (k : Key) : Type 0 where
  pub lives : live w ≡ true
  pub opcode : named (conds w.reads) w.face.opcode k.opcode ≡ true
  pub size : w.face.size ≡ k.size
  pub width : w.face.width ≡ k.width
  pub base0 : base_of w.face.op0 ≡ k.base0
  pub base1 : base_of w.face.op1 ≡ k.base1
  pub base2 : base_of Nothing ≡ k.base2
  pub number2 : k.number2 ≡ 0
  pub exact0 : exact (field_of w.face.op0) (imms w.reads) w.number k.number0 ≡ true
  pub exact1 : exact (field_of w.face.op1) (imms w.reads) w.number k.number1 ≡ true
  pub fitting : fits w.reads (aim w.face k) ≡ true

pub parts : (w : Row) (k : Key) → can w k ≡ true → Parts w k
unfolding can
parts w k c =
    let c0 = both_true _ _ c in
    let c1 = both_true _ _ c0.1 in
    let c2 = both_true _ _ c1.1 in
    let c3 = both_true _ _ c2.1 in
    let c4 = both_true _ _ c3.1 in
    let c5 = both_true _ _ c4.1 in
    let c6 = both_true _ _ c5.1 in
    let c7 = both_true _ _ c6.1 in
    let c8 = both_true _ _ c7.1 in
    let c9 = both_true _ _ c8.1 in
    record {
      lives = c0.0;
      opcode = c1.0;
      size = sizes_apart _ _ (eqb-true _ _ c2.0);
      width = widths_apart _ _ (eqb-true _ _ c3.0);
      base0 = operands_apart _ _ (eqb-true _ _ c4.0);
      base1 = operands_apart _ _ (eqb-true _ _ c5.0);
      base2 = operands_apart _ _ (eqb-true _ _ c6.0);
      number2 = eqb-true _ _ c7.0;
      exact0 = c8.0;
      exact1 = c9.0;
      fitting = c9.1;
    }

pub record Said (w : Row) (k : Key) : Type 0 where
  pub into : Record
  pub runs : Runs w.reads (spell w.reads (aim w.face k)) w.face (begun w.number) into
  pub unmarked : into.marked ≡ false
  pub same : key into ≡ k

so_named : (n : ℕ) (o p x : Opcode) → named n o p ≡ true → (n ≡ 0 → x ≡ o) → (1 ≤ n → x ≡ p) → x ≡ p
so_named zero o p x h e f = e refl ∙ opcodes_apart o p (eqb-true _ _ h)
so_named (suc n) o p x h e f = f (omega arith)

-- a row that can encode a key does
pub can_says : (w : Row) (k : Key) → plain w ≡ true → can w k ≡ true → Said w k
unfolding aim field_of
can_says w k f h =
    let c = parts w k h in
    let l = live_is w c.lives in
    let p = plain_is w f c.lives in
    let a = aim w.face k in
    let s = begun w.number in
    let t = fill w.reads a w.face s in
    let q = reach w.reads a w.face s l.1 c.fitting in
    let y = kept w.reads (spell w.reads a) w.face s t q in
    let face = y.faced in
    let g = filled w.reads a w.face s p.tidy l.1 c.fitting in
    let sp = same_name w.face.op0 Disp8_SP in
    let z = back0 (imms w.reads) w.number t k y.number (field_of w.face.op0) (field_of w.face.op1) sp p.once c.exact0 g.number
    (λ h. g.disp (omega (arith, p.disps))) (λ h. g.first (omega (arith, p.disps))) in
    let o = back1 (imms w.reads) w.number t k y.number (field_of w.face.op0) (field_of w.face.op1) sp p.once c.exact1 g.number
    (λ h. g.disp (omega (arith, p.disps))) (λ h. g.first (omega (arith, p.disps))) in
    let opcode : t.opcode ≡ k.opcode = so_named (conds w.reads) w.face.opcode k.opcode t.opcode c.opcode y.opcode g.opcode in
    let size : t.size ≡ k.size = face.size ∙ c.size in
    let width : t.width ≡ k.width = face.width ∙ c.width in
    let base0 : base_of t.op0 ≡ k.base0 = ap base_of face.op0 ∙ c.base0 in
    let base1 : base_of t.op1 ≡ k.base1 = ap base_of face.op1 ∙ c.base1 in
    let base2 : base_of t.op2 ≡ k.base2 = ap base_of face.op2 ∙ c.base2 in
    let number0 : value_of (field0 t.op0 t.op1) t ≡ k.number0 = subst₂ (λ x y. value_of (field0 x y) t ≡ k.number0) (sym face.op0) (sym face.op1) z in
    let number1 : value_of (field1 t.op0 t.op1) t ≡ k.number1 = subst₂ (λ x y. value_of (field1 x y) t ≡ k.number1) (sym face.op0) (sym face.op1) o in
    let number2 : value_of (field_of t.op2) t ≡ k.number2 = ap (λ x. value_of (field_of x) t) face.op2 ∙ sym c.number2 in
    record {
      into = t;
      runs = q;
      unmarked = face.marked ∙ l.0;
      same = λ i. record {
        opcode = opcode i;
        size = size i;
        width = width i;
        base0 = base0 i;
        base1 = base1 i;
        base2 = base2 i;
        number0 = number0 i;
        number1 = number1 i;
        number2 = number2 i;
      };
    }
