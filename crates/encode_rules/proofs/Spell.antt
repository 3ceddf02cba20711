-- Of all bytes that plain reads turn into a record, `spell`'s are as long and nowhere above; and they are read as that record too, with nothing dropped.
-- Assumes nothing.
use Prim.Native.Nat.{ℕ, zero, suc, ◌%◌, ◌≤◌, ◌<◌}
use mathlib.Core.Path.{◌≡◌, refl, sym, ap, ap₂, ◌∙◌, subst}
use mathlib.Core.Bool.{true, false}
use mathlib.Core.List.{List, [], ◌∷◌, ◌++◌, append_assoc}
use native.Mathlib.Omega.{arith}
use native.Mathlib.Nat.{le_refl, mod-eq_of_lt}
use borrow.Author.Tests.{leb-true, lt-leb, eqb-true}
use Rattle.record.specs.declared.Record.{Record}
use Rattle.record.specs.declared.Operand.TheVariants.{Nothing}
use Rattle.record.specs.declared.Seen.{Seen}
use Rattle.record.proofs.Same.{dropping}
use Rattle.rows.specs.Row.{disp, imm, imm20, Read, num, cond, stop, Face}
use Rattle.rows.specs.Fate.{fate}
use Rattle.rows.specs.Run.{with_disp, with_imm, in_full, twenty_bits, past, renamed}
use Rattle.encode_rules.specs.steps.Digits.{digits}
use Rattle.encode_rules.specs.steps.Search.{cond_byte, disps, imms, conds, nth, spell, tidy}
use Rattle.encode_rules.proofs.Bools.{both_true}
use Rattle.encode_rules.proofs.Condition.{condition}
use Rattle.encode_rules.proofs.Runs.{Runs}
use Rattle.encode_rules.proofs.Order.{Below}

-- what reads leave as it was: the face but for its opcode, and what none of them reads
pub record Faced (f : Face) (t : Record) : Type 0 where
  pub size : t.size ≡ f.size
  pub width : t.width ≡ f.width
  pub op0 : t.op0 ≡ f.op0
  pub op1 : t.op1 ≡ f.op1
  pub op2 : t.op2 ≡ Nothing
  pub marked : t.marked ≡ f.marked

pub record Kept (rs : List Read) (f : Face) (s : Seen) (t : Record) : Type 0 where
  pub faced : Faced f t
  pub opcode : conds rs ≡ 0 → t.opcode ≡ f.opcode
  pub number : imms rs ≡ 0 → t.imm_wide ≡ s.imm_wide
  pub same : disps rs ≡ 0 → t.dispabs ≡ s.dispabs
  pub held : disps rs ≡ 0 → t.first ≡ s.first
  pub moved : disps rs ≡ 1 → t.first ≡ s.dispabs

pub kept : (rs : List Read) (xs : List ℕ) (f : Face) (s : Seen) (t : Record) → Runs rs xs f s t → Kept rs f s t
unfolding disps imms conds
kept [] xs f s t q =
    record {
      faced = record {
        size = sym (ap (λ x. x.size) q);
        width = sym (ap (λ x. x.width) q);
        op0 = sym (ap (λ x. x.op0) q);
        op1 = sym (ap (λ x. x.op1) q);
        op2 = sym (ap (λ x. x.op2) q);
        marked = sym (ap (λ x. x.marked) q);
      };
      opcode = λ _. sym (ap (λ x. x.opcode) q);
      number = λ _. sym (ap (λ x. x.imm_wide) q);
      same = λ _. sym (ap (λ x. x.dispabs) q);
      held = λ _. sym (ap (λ x. x.first) q);
      moved = λ e. absurd (omega arith);
    }
kept (num (disp zero) ∷ rs) xs f s t q = let k = kept rs xs f s t q in record { faced = k.faced; opcode = k.opcode; number = k.number; same = k.same; held = k.held; moved = k.moved }
kept (num (disp (suc n)) ∷ rs) xs f s t (v, rest, e, h, q) =
    let k = kept rs rest f (with_disp (suc n) v s) t q in
    record { faced = k.faced; opcode = k.opcode; number = k.number; same = λ e. absurd (omega arith); held = λ e. absurd (omega arith); moved = λ e. k.held (omega arith) }
kept (num (imm n) ∷ rs) xs f s t (v, rest, e, h, q) =
    let k = kept rs rest f _ t q in
    record { faced = k.faced; opcode = k.opcode; number = λ e. absurd (omega arith); same = k.same; held = k.held; moved = k.moved }
kept (num imm20 ∷ rs) xs f s t (v, rest, e, h, q) =
    let k = kept rs rest f _ t q in
    record { faced = k.faced; opcode = k.opcode; number = λ e. absurd (omega arith); same = k.same; held = k.held; moved = k.moved }
kept (cond ∷ rs) xs f s t (v, rest, e, h, (o, c, q)) =
    let k = kept rs rest (renamed o f) (past s) t q in
    let r = k.faced in
    let faced : Faced f t = record { size = r.size; width = r.width; op0 = r.op0; op1 = r.op1; op2 = r.op2; marked = r.marked } in
    record { faced = faced; opcode = λ e. absurd (omega arith); number = k.number; same = k.same; held = k.held; moved = k.moved }
kept (stop x ∷ rs) xs f s t q = absurd q

-- reads that made a record do not end in a refusal
pub no_stop : (rs : List Read) (xs : List ℕ) (f : Face) (s : Seen) (t : Record) → Runs rs xs f s t → fate rs ≡ 0
no_stop [] xs f s t q = refl
no_stop (num (disp zero) ∷ rs) xs f s t q = no_stop rs xs f s t q
no_stop (num (disp (suc n)) ∷ rs) xs f s t (v, rest, e, h, q) = no_stop rs rest f _ t q
no_stop (num (imm n) ∷ rs) xs f s t (v, rest, e, h, q) = no_stop rs rest f _ t q
no_stop (num imm20 ∷ rs) xs f s t (v, rest, e, h, q) = no_stop rs rest f _ t q
no_stop (cond ∷ rs) xs f s t (v, rest, e, h, (o, c, q)) = no_stop rs rest _ _ t q
no_stop (stop e ∷ rs) xs f s t q = absurd q

below_same : (p xs ys : List ℕ) → Below xs ys → Below (p ++ xs) (p ++ ys)
below_same [] xs ys h = h
below_same (b ∷ p) xs ys h = (le_refl b, below_same p xs ys h)

below_refl : (xs : List ℕ) → Below xs xs
below_refl [] = tt
below_refl (x ∷ xs) = (le_refl x, below_refl xs)

pub nth_is : (d v : ℕ) (t : Record) → d ≤ 1 → (d ≡ 0 → t.dispabs ≡ v) → (d ≡ 1 → t.first ≡ v) → nth d t ≡ v
nth_is zero v t l p q = p refl
nth_is (suc zero) v t l p q = q refl
nth_is (suc (suc d)) v t l p q = absurd (omega arith)

-- numbers of which nothing was dropped
abbrev spared : Seen → Seen
spared s = record { imm_wide = s.imm_wide; dispabs = s.dispabs; first = s.first; dropped = false; parts = s.parts; taken = s.taken }

pub record Least (rs : List Read) (xs : List ℕ) (f : Face) (s : Seen) (t : Record) : Type 0 where
  pub more : List ℕ
  pub below : Below (spell rs t ++ more) xs
  pub again : Runs rs (spell rs t) f (spared s) (dropping false t)

-- one read: u's bytes stand for those that were read as v
one : (n u v : ℕ) (xs rest ys more : List ℕ) → xs ≡ digits n v ++ rest → u ≡ v → Below (ys ++ more) rest → Below ((digits n u ++ ys) ++ more) xs
one n u v xs rest ys more e w b = rw (e, w, append_assoc) (below_same (digits n v) (ys ++ more) rest b)

masked : (u v : ℕ) (xs rest ys more : List ℕ) → xs ≡ digits 3 v ++ rest → u ≡ v % twenty_bits → Below (ys ++ more) rest → Below ((digits 3 u ++ ys) ++ more) xs
masked u v xs rest ys more e w b = rw e (omega arith, (omega arith, (omega arith, b)))

pub least : (rs : List Read) (xs : List ℕ) (f : Face) (s : Seen) (t : Record) → tidy rs ≡ true → Runs rs xs f s t → Least rs xs f s t
unfolding spell tidy
least [] xs f s t c q = record { more = xs; below = below_refl xs; again = ap (dropping false) q }
least (num (disp zero) ∷ rs) xs f s t c q =
    let k = least rs xs f s t c q in
    record { more = k.more; below = k.below; again = k.again }
least (num (disp (suc n)) ∷ rs) xs f s t c (v, rest, e, h, q) =
    let b = both_true _ _ c in
    let k = least rs rest f (with_disp (suc n) v s) t b.1 q in
    let g = kept rs rest f (with_disp (suc n) v s) t q in
    let u : nth (disps rs) t ≡ v = nth_is (disps rs) v t (leb-true _ _ b.0) g.same g.moved in
    record { more = k.more; below = one (suc n) _ v xs rest (spell rs t) k.more e u k.below; again = (nth (disps rs) t, spell rs t, refl, rw u h, rw u k.again) }
least (num (imm n) ∷ rs) xs f s t c (v, rest, e, h, q) =
    let b = both_true _ _ c in
    let k = least rs rest f _ t b.1 q in
    let g = kept rs rest f _ t q in
    let u : t.imm_wide ≡ v = g.number (eqb-true _ _ b.0) ∙ mod-eq_of_lt h in
    record {
      more = k.more;
      below = one n _ v xs rest (spell rs t) k.more e u k.below;
      again = (t.imm_wide, spell rs t, refl, rw u h, subst (λ m. Runs rs (spell rs t) f (in_full n m (spared s)) (dropping false t)) (sym u) k.again);
    }
least (num imm20 ∷ rs) xs f s t c (v, rest, e, h, q) =
    let b = both_true _ _ c in
    let k = least rs rest f _ t b.1 q in
    let g = kept rs rest f _ t q in
    let u : t.imm_wide ≡ v % twenty_bits = g.number (eqb-true _ _ b.0) in
    let l : t.imm_wide < twenty_bits = omega arith in
    let w : v % twenty_bits ≡ t.imm_wide % twenty_bits = omega arith in
    let zero-above = ap₂ (λ m d. with_imm 3 m d (spared s)) w (sym (lt-leb twenty_bits t.imm_wide l)) in
    record {
      more = k.more;
      below = masked _ v xs rest (spell rs t) k.more e u k.below;
      again = (t.imm_wide, spell rs t, refl, omega arith, subst (λ x. Runs rs (spell rs t) f x (dropping false t)) zero-above k.again);
    }
least (cond ∷ rs) xs f s t c (v, rest, e, h, (o, g, q)) =
    let b = both_true _ _ c in
    let k = least rs rest (renamed o f) (past s) t b.1 q in
    let y = kept rs rest (renamed o f) (past s) t q in
    let u : cond_byte t.opcode ≡ v = ap cond_byte (y.opcode (eqb-true _ _ b.0)) ∙ condition v o h g in
    record { more = k.more; below = one 1 _ v xs rest (spell rs t) k.more e u k.below; again = (cond_byte t.opcode, spell rs t, refl, rw u h, (o, rw u g, k.again)) }
least (stop x ∷ rs) xs f s t c q = absurd q
