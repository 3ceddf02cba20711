-- A test over coarse keys speaks for all keys.
-- Assumes nothing.
use Prim.Native.Nat.{ℕ, zero, suc, ◌≤◌, ◌<◌}
use mathlib.Core.Path.{◌≡◌, refl, sym, ap, ap₂, ◌∙◌, subst}
use mathlib.Core.Bool.{Bool, true, false}
use mathlib.Core.List.{List, [], ◌∷◌}
use native.Mathlib.Omega.{arith}
use lib.Dec.{T, ltb, eqb}
use borrow.Author.Tests.{ltb-true, lt-ltb, eqb-true}
use Rattle.laws.specs.Choice.{pick, both}
use Rattle.laws.specs.Range.{upto}
use Rattle.laws.proofs.Range.{upto_at}
use Rattle.record.specs.declared.Record.{Record}
use Rattle.record.specs.declared.Opcode.{Opcode}
use Rattle.record.specs.declared.Operand.TheVariants.{Nothing, Disp8_SP}
use Rattle.record.specs.Numbers.{size_no, width_no, operand_no}
use Rattle.record.specs.declared.Key.{Key}
use Rattle.record.specs.declared.fields.Field.{Field}
use Rattle.record.specs.declared.fields.Field.TheVariants.{Nowhere as nowhere, Wide as wide, Short as short, Early as early}
use Rattle.record.specs.Same.{same_name, field_of, base_of}
use Rattle.record.proofs.Apart.{opcodes_apart}
use Rattle.rows.specs.Row.{disp, imm, imm20, Read, num, cond, stop, Row, Table}
use Rattle.rows.specs.Codes.{cond_of}
use Rattle.rows.specs.Run.{twenty_bits}
use Rattle.encode_rules.specs.steps.Search.{means, cond_byte, disps, imms, conds, nth, live, aim}
use Rattle.encode_rules.specs.steps.Can.{exact, fits, named, can}
use Rattle.encode_rules.specs.steps.Direct.{Choice, code, nothing, rank, there, able, Beats}
use Rattle.encode_choice.specs.steps.Coarse.{class_of, rep, whole, whole_key, whole_row, roughly, coarse, sized, alone, regular}
use Rattle.encode_choice.specs.steps.Coarse.{key_at, span, on_cond, opcodes, beatsb, ifb, good, live_test, code_test}
use Rattle.encode_rules.proofs.Bools.{so, both_true, both_so}
use Rattle.encode_rules.proofs.Condition.{so_means, cond_small}
use Rattle.encode_rules.proofs.Fill.{cond_in}
use Rattle.encode_rules.proofs.Order.{first_true}
use Rattle.encode_rules.proofs.Plain.{live_is}
use Rattle.encode_rules.proofs.Can.{Parts, parts}
use Rattle.encode_choice.proofs.Fields.{of_wide, of_disp, of_first}

-- the same answers to what is asked of a number
pub record Like (u v : ℕ) : Type 0 where
  pub zero? : eqb u 0 ≡ eqb v 0
  pub byte? : ltb u 256 ≡ ltb v 256
  pub word? : ltb u 65536 ≡ ltb v 65536
  pub long? : ltb u twenty_bits ≡ ltb v twenty_bits

pub like : (v : ℕ) → Like (rep (class_of v)) v
like v = by (eqb v 0) refl (ltb v 256) refl (ltb v 65536) refl (ltb v twenty_bits) refl
  where
    by : (a : Bool) → eqb v 0 ≡ a → (b : Bool) → ltb v 256 ≡ b → (c : Bool) → ltb v 65536 ≡ c → (d : Bool) → ltb v twenty_bits ≡ d
        → Like (rep (pick a 0 (pick b 1 (pick c 2 (pick d 3 4))))) v
    by true p b q c r d s =
        let h : v ≡ 0 = eqb-true v 0 p in
        record { zero? = sym p; byte? = sym (lt-ltb v 256 (omega arith)); word? = sym (lt-ltb v 65536 (omega arith)); long? = sym (lt-ltb v twenty_bits (omega arith)) }
    by false p true q c r d s =
        let h : v < 256 = ltb-true v 256 q in
        record { zero? = sym p; byte? = sym q; word? = sym (lt-ltb v 65536 (omega arith)); long? = sym (lt-ltb v twenty_bits (omega arith)) }
    by false p false q true r d s =
        let h : v < 65536 = ltb-true v 65536 r in
        record { zero? = sym p; byte? = sym q; word? = sym r; long? = sym (lt-ltb v twenty_bits (omega arith)) }
    by false p false q false r true s = record { zero? = sym p; byte? = sym q; word? = sym r; long? = sym s }
    by false p false q false r false s = record { zero? = sym p; byte? = sym q; word? = sym r; long? = sym s }

pub like_roughly : (b : Bool) (v : ℕ) → Like (roughly b v) v
like_roughly true v = record { zero? = refl; byte? = refl; word? = refl; long? = refl }
like_roughly false v = like v

class_small : (v : ℕ) → class_of v < 5
class_small v = by (eqb v 0) (ltb v 256) (ltb v 65536) (ltb v twenty_bits)
  where
    by : (a b c d : Bool) → pick a 0 (pick b 1 (pick c 2 (pick d 3 4))) < 5
    by true b c d = omega arith
    by false true c d = omega arith
    by false false true d = omega arith
    by false false false true = omega arith
    by false false false false = omega arith

class_span : (p : Field) (n m v : ℕ) → exact p n m v ≡ true → class_of v < span p
class_span nowhere n m v e = let z : class_of v ≡ 0 = ap (λ b. pick b 0 (pick (ltb v 256) 1 (pick (ltb v 65536) 2 (pick (ltb v twenty_bits) 3 4)))) e in omega arith
class_span wide n m v e = class_small v
class_span short n m v e = class_small v
class_span early n m v e = class_small v

record Coarser (s t : Record) : Type 0 where
  opcode : s.opcode ≡ t.opcode
  number : Like s.imm_wide t.imm_wide
  disp : Like s.dispabs t.dispabs
  first : Like s.first t.first

nth_like : (d : ℕ) (s t : Record) → Coarser s t → Like (nth d s) (nth d t)
nth_like zero s t h = h.disp
nth_like (suc d) s t h = h.first

fits_like : (rs : List Read) (s t : Record) → sized rs ≡ true → Coarser s t → fits rs s ≡ fits rs t
unfolding fits
fits_like [] s t z h = refl
fits_like (num (disp zero) ∷ rs) s t z h = fits_like rs s t z h
fits_like (num (disp (suc zero)) ∷ rs) s t z h = ap₂ both (nth_like (disps rs) s t h).byte? (fits_like rs s t z h)
fits_like (num (disp (suc (suc zero))) ∷ rs) s t z h = ap₂ both (nth_like (disps rs) s t h).word? (fits_like rs s t z h)
fits_like (num (disp (suc (suc (suc n)))) ∷ rs) s t z h = let y : ◌≡◌ {A = ℕ} 0 1 = cc in absurd (omega arith)
fits_like (num (imm zero) ∷ rs) s t z h = let y : ◌≡◌ {A = ℕ} 0 1 = cc in absurd (omega arith)
fits_like (num (imm (suc zero)) ∷ rs) s t z h = ap₂ both h.number.byte? (fits_like rs s t z h)
fits_like (num (imm (suc (suc zero))) ∷ rs) s t z h = ap₂ both h.number.word? (fits_like rs s t z h)
fits_like (num (imm (suc (suc (suc n)))) ∷ rs) s t z h = let y : ◌≡◌ {A = ℕ} 0 1 = cc in absurd (omega arith)
fits_like (num imm20 ∷ rs) s t z h = ap₂ both h.number.long? (fits_like rs s t z h)
fits_like (cond ∷ rs) s t z h = ap₂ (λ v b. both (means (cond_of (cond_byte v)) v) b) h.opcode (fits_like rs s t z h)
fits_like (stop e ∷ rs) s t z h = refl

module _ (k : Key) where
  zeroth : Like (coarse k).number0 k.number0
  zeroth = like_roughly (whole_key k) k.number0

  oneth : Like (coarse k).number1 k.number1
  oneth = like_roughly (whole_key k) k.number1

-- the row's own number is 0, or the key's numbers were left as they are
exact_like : (p : Field) (n m v : ℕ) (b : Bool) → (b ≡ false → m ≡ 0) → exact p n m (roughly b v) ≡ exact p n m v
exact_like p n m v true f = refl
exact_like nowhere n m v false f = (like v).zero?
exact_like short n m v false f = refl
exact_like early n m v false f = refl
exact_like wide zero m v false f = ap (eqb (rep (class_of v))) (f refl) ∙ ((like v).zero? ∙ ap (eqb v) (sym (f refl)))
exact_like wide (suc n) m v false f = refl

pub record Regular (w : Row) : Type 0 where
  pub sized : sized w.reads ≡ true
  pub read : whole_row w.face ≡ true → imms w.reads ≡ 0
  pub alone : whole_row w.face ≡ true → alone (field_of w.face.op0) (field_of w.face.op1) ≡ true
  pub none : whole_row w.face ≡ false → w.number ≡ 0

then_is : (b x y : Bool) → b ≡ true → pick b x y ≡ true → x ≡ true
then_is true x y e h = h
then_is false x y e h = let z : ◌≡◌ {A = ℕ} 0 1 = cc in absurd (omega arith)

else_is : (b x y : Bool) → b ≡ false → pick b x y ≡ true → y ≡ true
else_is false x y e h = h
else_is true x y e h = let z : ◌≡◌ {A = ℕ} 0 1 = cc in absurd (omega arith)

pub regular_is : (w : Row) → regular w ≡ true → live w ≡ true → Regular w
unfolding regular
regular_is w h l =
    let b = both_true _ _ (then_is (live w) _ _ l h) in
    record {
      sized = b.0;
      read = λ e. eqb-true _ _ (both_true _ _ (then_is (whole_row w.face) _ _ e b.1)).0;
      alone = λ e. (both_true (eqb (imms w.reads) 0) _ (then_is (whole_row w.face) _ _ e b.1)).1;
      none = λ e. eqb-true _ _ (else_is (whole_row w.face) _ _ e b.1);
    }

-- a row and a key that agree in width and base are both whole or neither
whole_is : (w : Row) (k : Key) → Parts w k → whole_row w.face ≡ whole_key k
whole_is w k c = ap₂ whole c.width c.base0

pub can_coarse : (w : Row) (k : Key) → Regular w → whole_row w.face ≡ whole_key k → can w (coarse k) ≡ can w k
unfolding can aim
can_coarse w k h e =
    let two = (like k.number2).zero? in
    let x0 = exact_like (field_of w.face.op0) (imms w.reads) w.number k.number0 (whole_key k) (λ f. h.none (e ∙ f)) in
    let x1 = exact_like (field_of w.face.op1) (imms w.reads) w.number k.number1 (whole_key k) (λ f. h.none (e ∙ f)) in
    let f : fits w.reads (aim w.face (coarse k)) ≡ fits w.reads (aim w.face k) =
    fits_like w.reads (aim w.face (coarse k)) (aim w.face k) h.sized
    (record {
      opcode = refl;
      number = of_wide Like (coarse k) k (zeroth k) (oneth k) (field_of w.face.op0);
      disp = of_disp Like (coarse k) k (zeroth k) (oneth k) (field_of w.face.op0) (field_of w.face.op1) (same_name w.face.op0 Disp8_SP);
      first = of_first Like (coarse k) k (zeroth k) (oneth k) (same_name w.face.op0 Disp8_SP);
    }) in
    λ i.
    both (live w)
    (both (named (conds w.reads) w.face.opcode k.opcode)
    (both (eqb (size_no w.face.size) (size_no k.size))
    (both (eqb (width_no w.face.width) (width_no k.width))
    (both (eqb (operand_no (base_of w.face.op0)) (operand_no k.base0))
    (both (eqb (operand_no (base_of w.face.op1)) (operand_no k.base1))
    (both (eqb (operand_no (base_of Nothing)) (operand_no k.base2)) (both (two i) (both (x0 i) (both (x1 i) (f i))))))))))

true_t : {b : Bool} → b ≡ true → T b
true_t {b} e = subst T (sym e) tt

opcodes_at : (n : ℕ) (o p : Opcode) (f : Opcode → Bool) → opcodes n o f ≡ true → named n o p ≡ true → (1 ≤ n → means (cond_of (cond_byte p)) p ≡ true) → f p ≡ true
opcodes_at zero o p f t h m = subst (λ x. f x ≡ true) (opcodes_apart o p (eqb-true _ _ h)) t
opcodes_at (suc n) o p f t h m =
    subst (λ c. on_cond c f ≡ true) (so_means (cond_of (cond_byte p)) p (m (omega arith)))
    (so _ (upto_at (λ v. on_cond (cond_of v) f) 256 (true_t t) (cond_byte p) (cond_small p)))

-- a number of a whole row is the row's
pub alone0 : (p q : Field) (n m v : ℕ) → alone p q ≡ true → n ≡ 0 → exact p n m v ≡ true → v ≡ m
alone0 wide q zero m v a z x = eqb-true _ _ x
alone0 wide q (suc n) m v a z x = absurd (omega arith)
alone0 nowhere q n m v a z x = let y : ◌≡◌ {A = ℕ} 0 1 = cc in absurd (omega arith)
alone0 short q n m v a z x = let y : ◌≡◌ {A = ℕ} 0 1 = cc in absurd (omega arith)
alone0 early q n m v a z x = let y : ◌≡◌ {A = ℕ} 0 1 = cc in absurd (omega arith)

pub alone1 : (p q : Field) (n m v : ℕ) → alone p q ≡ true → exact q n m v ≡ true → v ≡ 0
alone1 wide nowhere n m v a x = eqb-true _ _ x
alone1 wide wide n m v a x = let y : ◌≡◌ {A = ℕ} 0 1 = cc in absurd (omega arith)
alone1 wide short n m v a x = let y : ◌≡◌ {A = ℕ} 0 1 = cc in absurd (omega arith)
alone1 wide early n m v a x = let y : ◌≡◌ {A = ℕ} 0 1 = cc in absurd (omega arith)
alone1 nowhere q n m v a x = let y : ◌≡◌ {A = ℕ} 0 1 = cc in absurd (omega arith)
alone1 short q n m v a x = let y : ◌≡◌ {A = ℕ} 0 1 = cc in absurd (omega arith)
alone1 early q n m v a x = let y : ◌≡◌ {A = ℕ} 0 1 = cc in absurd (omega arith)

number_is : (b : Bool) (v m : ℕ) → (b ≡ true → v ≡ m) → roughly b v ≡ pick b m (rep (class_of v))
number_is true v m f = f refl
number_is false v m f = refl

record Fits (w : Row) (k : Key) : Type 0 where
  condition : 1 ≤ conds w.reads → means (cond_of (cond_byte k.opcode)) k.opcode ≡ true
  class0 : class_of k.number0 < span (field_of w.face.op0)
  class1 : class_of k.number1 < span (field_of w.face.op1)
  coarsened : coarse k ≡ key_at w k.opcode (class_of k.number0) (class_of k.number1)

can_is : (w : Row) (k : Key) → Regular w → Parts w k → Fits w k
unfolding aim
can_is w k g c =
    let e = whole_is w k c in
    let n0 : (coarse k).number0 ≡ pick (whole_row w.face) w.number (rep (class_of k.number0)) =
    ap (λ x. roughly x k.number0) (sym e)
    ∙ number_is (whole_row w.face) k.number0 w.number (λ h. alone0 (field_of w.face.op0) (field_of w.face.op1) (imms w.reads) _ _ (g.alone h) (g.read h) c.exact0) in
    let n1 : (coarse k).number1 ≡ pick (whole_row w.face) 0 (rep (class_of k.number1)) =
    ap (λ x. roughly x k.number1) (sym e)
    ∙ number_is (whole_row w.face) k.number1 0 (λ h. alone1 (field_of w.face.op0) (field_of w.face.op1) (imms w.reads) w.number _ (g.alone h) c.exact1) in
    record {
      condition = λ l. cond_in w.reads (aim w.face k) l (live_is w c.lives).1 c.fitting;
      class0 = class_span (field_of w.face.op0) _ _ _ c.exact0;
      class1 = class_span (field_of w.face.op1) _ _ _ c.exact1;
      coarsened = λ i. record {
        opcode = k.opcode;
        size = sym c.size i;
        width = sym c.width i;
        base0 = sym c.base0 i;
        base1 = sym c.base1 i;
        base2 = sym c.base2 i;
        number0 = n0 i;
        number1 = n1 i;
        number2 = rep (class_of (c.number2 i));
      };
    }

module _ (t : Table) (choose : Key → Choice)
    (regulars : (a b : ℕ) → t.known a ≡ true → b < 256 → regular (t.row_at a b) ≡ true)
    (tested : (a b : ℕ) → t.known a ≡ true → b < 256 → code_test t choose a b ≡ true)
    (steady : (k : Key) → choose (coarse k) ≡ choose k) where
  here : (a b : ℕ) → there t a b ≡ true → (t.known a ≡ true) × (b < 256)
  here a b e = let p = both_true (ltb a 256) _ e in let q = both_true (ltb b 256) _ p.1 in (q.1, ltb-true _ _ q.0)

  -- a code's row is regular if it can encode anything
  regular_at_lem : (a b : ℕ) (k : Key) → there t a b ≡ true → Parts (t.row_at a b) k → Regular (t.row_at a b)
  regular_at_lem a b k e c = let h = here a b e in regular_is (t.row_at a b) (regulars a b h.0 h.1) c.lives

  able_from : (a b : ℕ) (k : Key) → both (there t a b) (can (t.row_at a b) (coarse k)) ≡ true → able t a b k ≡ true
  unfolding able
  able_from a b k e =
      let p = both_true _ _ e in
      let w = t.row_at a b in
      let c = parts w (coarse k) p.1 in
      both_so p.0 (sym (can_coarse w k (regular_at_lem a b (coarse k) p.0 c) (whole_is w (coarse k) c)) ∙ p.1)

  beaten : (c : Choice) (a b : ℕ) (k : Key) → beatsb t choose c (t.row_at a b) a b (coarse k) ≡ true → Beats t c a b k
  beaten (code x y) a b k e =
      let p = both_true (both (there t x y) (can (t.row_at x y) (coarse k))) _ e in
      (able_from x y k p.0, first_true (rank (t.row_at x y) x y) (rank (t.row_at a b) a b) p.1)
  beaten nothing a b k e = let z : ◌≡◌ {A = ℕ} 0 1 = cc in absurd (omega arith)

  pub beats : (a b : ℕ) (k : Key) → able t a b k ≡ true → Beats t (choose k) a b k
  unfolding able code_test
  beats a b k e =
      let p = both_true _ _ e in
      let h = here a b p.0 in
      let w = t.row_at a b in
      let c = parts w k p.1 in
      let g = regular_at_lem a b k p.0 c in
      let f = can_is w k g c in
      let span0 = span (field_of w.face.op0) in
      let span1 = span (field_of w.face.op1) in
      let l : opcodes (conds w.reads) w.face.opcode (λ o. upto (λ i. upto (λ j. good t choose w a b (key_at w o i j)) span1) span0) ≡ true =
      subst (λ x. live_test t choose x a b w ≡ true) c.lives (tested a b h.0 h.1) in
      let o = opcodes_at (conds w.reads) w.face.opcode k.opcode _ l c.opcode f.condition in
      let i = upto_at (λ i. upto (λ j. good t choose w a b (key_at w k.opcode i j)) span1) span0 (true_t o) (class_of k.number0) f.class0 in
      let j = upto_at (λ j. good t choose w a b (key_at w k.opcode (class_of k.number0) j)) span1 i (class_of k.number1) f.class1 in
      let u : good t choose w a b (coarse k) ≡ true = subst (λ x. good t choose w a b x ≡ true) (sym f.coarsened) (so _ j) in
      let able-to : can w (coarse k) ≡ true = can_coarse w k g (whole_is w k c) ∙ p.1 in
      let v : beatsb t choose (choose (coarse k)) w a b (coarse k) ≡ true = subst (λ x. ifb t choose x w a b (coarse k) ≡ true) able-to u in
      beaten (choose k) a b k (subst (λ c. beatsb t choose c w a b (coarse k) ≡ true) (steady k) v)
