-- The row at the code that is chosen for the names of a form is unmarked and has these names.
-- Assumes nothing.
use Prim.Native.Nat.{ℕ, zero, suc, ◌+◌, ◌*◌, ◌<◌}
use mathlib.Core.Path.{◌≡◌, refl, sym, ap, subst, ◌∙◌}
use mathlib.Core.Bool.{Bool, true, false}
use lib.Dec.{T, ltb, eqb}
use borrow.Author.Tests.{ltb-true, eqb-true, eq-eqb}
use Rattle.laws.specs.Choice.{pick, both}
use Rattle.laws.specs.Range.{upto}
use Rattle.laws.specs.Table.{every}
use Rattle.laws.proofs.Range.{upto_at}
use Rattle.record.specs.declared.Opcode.{Opcode}
use Rattle.record.specs.declared.Width.{Width}
use Rattle.record.specs.declared.Width.TheVariants.{None, B, W}
use Rattle.record.specs.declared.Operand.{Operand}
use Rattle.record.specs.Numbers.{opcode_no, size_no, width_no, operand_no}
use Rattle.record.specs.Same.{same_name, among, field_of, base_of}
use Rattle.record.proofs.Apart.{sizes_apart, widths_apart, opcodes, operands_apart}
use Rattle.record.proofs.Arms.{every_opcode}
use Rattle.rows.specs.Codes.{cond_of}
use Rattle.rows.specs.Row.{Row, Table}
use Rattle.rows.specs.Rows.{row}
use Rattle.rows.specs.Pairs.{two}
use Rattle.rows.specs.Groups.{known, rows_of, document01}
use Rattle.encode_choice.specs.declared.Asked.{Asked}
use Rattle.encode_rules.specs.steps.Search.{means, cond_byte, conds, live}
use Rattle.encode_rules.specs.steps.Can.{named}
use Rattle.encode_rules.specs.steps.Direct.{Choice, code, nothing, there}
use Rattle.encode_choice.specs.steps.Coarse.{in_code, whole}
use Rattle.encode_choice.specs.steps.Forms.{form_of, at, names, general, size_for, number_limit, goes_with}
use Rattle.encode_choice.specs.steps.Choose.{choose_by, place, code_of, word}
use Rattle.encode_rules.proofs.Bools.{so, both_true}
use Rattle.encode_choice.proofs.Among.{at_among}
use Rattle.encode_choice.proofs.PairNames.{general_name}
use Rattle.encode_choice.proofs.Pairs.{even, opcode, Sided, sided, paired, at_opcode, chosen, size_is, row_at_lem, is_there}

-- an opcode that a condition names has a byte for it
abbrev pub meant : ℕ → Opcode → Bool
meant zero o = true
meant (suc n) o = means (cond_of (cond_byte o)) o

-- a row has the names that are asked for
abbrev has : Row → Opcode → Asked → Bool
has w o q =
    both (live w)
    (both (named (conds w.reads) w.face.opcode o)
    (both (eqb (size_no w.face.size) (size_no q.size))
    (both (eqb (width_no w.face.width) (width_no q.width))
    (both (eqb (operand_no w.face.op0) (operand_no q.op0))
    (both (eqb (operand_no w.face.op1) (operand_no q.op1)) (both (eqb w.number q.number) (meant (conds w.reads) o)))))))

-- how many numbers may be part of the code
abbrev numbers : Width → Operand → ℕ
numbers w x = pick (whole w x) (number_limit x) 1

-- the row at a code of a table has them
module _ (t : Table) where
  abbrev pub has_at : Choice → Opcode → Asked → Bool
  has_at (code a b) o q = both (there t a b) (has (t.row_at a b) o q)
  has_at nothing o q = true

  pub record Formed (a b : ℕ) (o : Opcode) (q : Asked) : Type 0 where
    pub there : there t a b ≡ true
    pub lives : live (t.row_at a b) ≡ true
    pub opcode : named (conds (t.row_at a b).reads) (t.row_at a b).face.opcode o ≡ true
    pub size : (t.row_at a b).face.size ≡ q.size
    pub width : (t.row_at a b).face.width ≡ q.width
    pub op0 : (t.row_at a b).face.op0 ≡ q.op0
    pub op1 : (t.row_at a b).face.op1 ≡ q.op1
    pub number : (t.row_at a b).number ≡ q.number
    pub ranged : q.number < numbers q.width q.op0
    pub condition : meant (conds (t.row_at a b).reads) o ≡ true

  pub from_test : (a b : ℕ) (o : Opcode) (q : Asked) → q.number < numbers q.width q.op0 → has_at (code a b) o q ≡ true → Formed a b o q
  from_test a b o q r h =
      let w = t.row_at a b in
      let x = both_true (there t a b) _ h in
      let x1 = both_true (live w) _ x.1 in
      let x2 = both_true (named (conds w.reads) w.face.opcode o) _ x1.1 in
      let x3 = both_true (eqb (size_no w.face.size) (size_no q.size)) _ x2.1 in
      let x4 = both_true (eqb (width_no w.face.width) (width_no q.width)) _ x3.1 in
      let x5 = both_true (eqb (operand_no w.face.op0) (operand_no q.op0)) _ x4.1 in
      let x6 = both_true (eqb (operand_no w.face.op1) (operand_no q.op1)) _ x5.1 in
      let x7 = both_true (eqb w.number q.number) _ x6.1 in
      record {
        there = x.0;
        lives = x1.0;
        opcode = x2.0;
        size = sizes_apart _ _ (eqb-true _ _ x3.0);
        width = widths_apart _ _ (eqb-true _ _ x4.0);
        op0 = operands_apart _ _ (eqb-true _ _ x5.0);
        op1 = operands_apart _ _ (eqb-true _ _ x6.0);
        number = eqb-true _ _ x7.0;
        ranged = r;
        condition = x7.1;
      }

abbrev ask : Opcode → Width → Operand → Operand → ℕ → Asked
ask o w x y v = record { size = size_for (form_of o) w; width = w; op0 = x; op1 = y; number = v }

abbrev number_test : Width → Opcode → Operand → Operand → Bool
number_test w o x y = upto (λ v. has_at document01 (choose_by o (ask o w x y v)) o (ask o w x y v)) (numbers w x)

-- request A7: names of General on both sides are not tested one by one, since a law below is for all of them
abbrev two_general : Width → Opcode → Operand → Operand → Bool
two_general w o x y = both (paired o) (both (among (general w) x) (among (general w) y))

unfoldable form_test : Width → Opcode → Bool
form_test w o =
    every (λ i x. every (λ j y. pick (two_general w o x y) true (number_test w o x y)) 0 (names (form_of o) w).second) 0 (names (form_of o) w).first

abbrev Tested : Width → Type 0
Tested w = T (every (λ i o. form_test w o) 0 opcodes)

tested : (w : Width) → Tested w
unfolding form_test paired upto rows_of known cond_of cond_byte choose_by place form_of same_name among conds field_of base_of whole
tested B = tt
tested W = tt
tested None = tt

-- a number is asked for only where it is part of the code
in_range : (w : Width) (x : Operand) (v : ℕ) → at w true true (ltb v (number_limit x)) ≡ true → (whole w x ≡ false → v ≡ 0) → v < numbers w x
unfolding whole
in_range w x v l z = by w l z
  where
    some : (b : Bool) → ltb v (number_limit x) ≡ true → (b ≡ false → v ≡ 0) → v < pick b (number_limit x) 1
    some true l z = ltb-true _ _ l
    some false l z = subst (λ v. v < 1) (sym (z refl)) (ltb-true 0 1 refl)

    by : (w : Width) → at w true true (ltb v (number_limit x)) ≡ true → (both (eqb (width_no w) 0) (in_code x) ≡ false → v ≡ 0)
        → v < pick (both (eqb (width_no w) 0) (in_code x)) (number_limit x) 1
    by B l z = subst (λ v. v < 1) (sym (z refl)) (ltb-true 0 1 refl)
    by W l z = subst (λ v. v < 1) (sym (z refl)) (ltb-true 0 1 refl)
    by None l z = some (in_code x) l z

not_whole : (w : Width) (x : Operand) → Sided w → whole w x ≡ false
unfolding whole
not_whole B x t = refl
not_whole W x t = refl
not_whole None x t = absurd t

-- the codes of two names of General are the second byte of a pair's row, which names them again
two_formed : (k : ℕ) → k < 10 → (q : Asked) → among (general q.width) q.op0 ≡ true → among (general q.width) q.op1 ≡ true
    → q.size ≡ size_for (form_of (opcode k)) q.width → (whole q.width q.op0 ≡ false → q.number ≡ 0) → q.number < numbers q.width q.op0
    → Formed document01 (even k + word q.width) (16 * code_of q.op0 + code_of q.op1) (opcode k) q
unfolding two row conds
two_formed k l q m0 m1 s z r =
    let w = q.width in
    let t = sided w q.op0 m0 in
    let x0 = general_name w q.op0 m0 in
    let x1 = general_name w q.op1 m1 in
    let e = row_at_lem k l w t (code_of q.op0) (code_of q.op1) x0.nibble x1.nibble in
    record {
      there = is_there k l w t (code_of q.op0) (code_of q.op1) x0.nibble x1.nibble;
      lives = ap live e;
      opcode = ap (λ r. named (conds r.reads) r.face.opcode (opcode k)) e ∙ eq-eqb (opcode_no (opcode k)) _ refl;
      size = ap (λ r. r.face.size) e ∙ size_is k l w t ∙ sym s;
      width = ap (λ r. r.face.width) e;
      op0 = ap (λ r. r.face.op0) e ∙ x0.coded;
      op1 = ap (λ r. r.face.op1) e ∙ x1.coded;
      number = ap (λ r. r.number) e ∙ sym (z (not_whole w q.op0 t));
      ranged = r;
      condition = ap (λ r. meant (conds r.reads) (opcode k)) e;
    }

abbrev FormedAt : Choice → Opcode → Asked → Type 0
FormedAt (code a b) o q = Formed document01 a b o q
FormedAt nothing o q = Unit {0}

pub formed : (o : Opcode) (q : Asked) (a b : ℕ) → goes_with (form_of o) q ≡ true → (whole q.width q.op0 ≡ false → q.number ≡ 0) → choose_by o q ≡ code a b → Formed document01 a b o q
unfolding goes_with form_test
formed o q a b g z e =
    let x = both_true (eqb (size_no q.size) (size_no (size_for (form_of o) q.width))) _ g in
    let u = both_true (both (among (names (form_of o) q.width).first q.op0) (among (names (form_of o) q.width).second q.op1)) _ x.1 in
    let y = both_true (among (names (form_of o) q.width).first q.op0) _ u.0 in
    let t = every_opcode (form_test q.width) (tested q.width) o in
    let t0 = at_among _ (names (form_of o) q.width).first 0 t q.op0 y.0 in
    let t1 = at_among _ (names (form_of o) q.width).second 0 t0 q.op1 y.1 in
    by (sizes_apart _ _ (eqb-true _ _ x.0)) (in_range q.width q.op0 q.number u.1 z) (two_general q.width o q.op0 q.op1) refl t1
  where
    by : q.size ≡ size_for (form_of o) q.width → q.number < numbers q.width q.op0
        → (c : Bool) → two_general q.width o q.op0 q.op1 ≡ c → T (pick c true (number_test q.width o q.op0 q.op1)) → Formed document01 a b o q
    by s r true c t =
        let x = both_true (paired o) _ c in
        let y = both_true (among (general q.width) q.op0) _ x.1 in
        at_opcode (λ o. q.size ≡ size_for (form_of o) q.width → choose_by o q ≡ code a b → Formed document01 a b o q)
        (λ k l s e. subst (λ c. FormedAt c (opcode k) q) (sym (chosen k l q y.0 y.1) ∙ e) (two_formed k l q y.0 y.1 s z r))
        o x.0 s e
    by s r false c t =
        let t2 = upto_at _ (numbers q.width q.op0) t q.number r in
        let same : ask o q.width q.op0 q.op1 q.number ≡ q = λ j. record { size = sym s j; width = q.width; op0 = q.op0; op1 = q.op1; number = q.number } in
        from_test document01 a b o q r (subst (λ c. has_at document01 c o q ≡ true) e (subst (λ q. has_at document01 (choose_by o q) o q ≡ true) same (so _ t2)))
