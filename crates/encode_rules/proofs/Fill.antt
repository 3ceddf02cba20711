-- The record that reads make of another's numbers, and the bytes that they read.
-- Assumes nothing.
use Prim.Native.Nat.{ℕ, zero, suc, ◌%◌, ◌^◌, ◌≤◌, ◌<◌}
use mathlib.Core.Path.{◌≡◌, refl, sym, ap, ap₂, ◌∙◌}
use mathlib.Core.Bool.{true}
use mathlib.Core.List.{List, [], ◌∷◌}
use native.Mathlib.Omega.{arith}
use native.Mathlib.Nat.{mod-eq_of_lt}
use lib.Dec.{ltb}
use borrow.Author.Tests.{leb-true, eqb-true, ltb-true, lt-ltb}
use Rattle.laws.specs.Choice.{both}
use Rattle.record.specs.declared.Record.{Record}
use Rattle.record.specs.declared.Seen.{Seen}
use Rattle.rows.specs.Row.{disp, imm, imm20, Read, num, cond, stop, named, Face}
use Rattle.rows.specs.Codes.{cond_of}
use Rattle.rows.specs.Fate.{fate}
use Rattle.rows.specs.Run.{with_disp, in_full, in_twenty, twenty_bits, past, renamed}
use Rattle.encode_rules.specs.steps.Search.{means, cond_byte, disps, imms, conds, nth, spell, tidy}
use Rattle.encode_rules.specs.steps.Can.{fits}
use Rattle.encode_rules.proofs.Bools.{both_true, both_so}
use Rattle.encode_rules.proofs.Condition.{condition, cond_small, means_so, so_means}
use Rattle.encode_rules.proofs.Runs.{Runs, made, own}
use Rattle.encode_rules.proofs.Spell.{kept, nth_is}
use Rattle.encode_rules.proofs.Aim.{nth_same}

-- what is read fits
pub fitting : (rs : List Read) (xs : List ℕ) (f : Face) (s : Seen) (t : Record) → tidy rs ≡ true → Runs rs xs f s t → fits rs t ≡ true
unfolding fits tidy
fitting [] xs f s t c q = refl
fitting (num (disp zero) ∷ rs) xs f s t c q = fitting rs xs f s t c q
fitting (num (disp (suc n)) ∷ rs) xs f s t c (v, rest, e, h, q) =
    let b = both_true _ _ c in
    let k = kept rs rest f (with_disp (suc n) v s) t q in
    let u : nth (disps rs) t ≡ v = nth_is (disps rs) v t (leb-true _ _ b.0) k.same k.moved in
    let l : nth (disps rs) t < 256 ^ suc n = rw u h in
    both_so (lt-ltb _ _ l) (fitting rs rest f _ t b.1 q)
fitting (num (imm n) ∷ rs) xs f s t c (v, rest, e, h, q) =
    let b = both_true _ _ c in
    let k = kept rs rest f _ t q in
    let u : t.imm_wide ≡ v = k.number (eqb-true _ _ b.0) ∙ mod-eq_of_lt h in
    let l : t.imm_wide < 256 ^ n = rw u h in
    both_so (lt-ltb _ _ l) (fitting rs rest f _ t b.1 q)
fitting (num imm20 ∷ rs) xs f s t c (v, rest, e, h, q) =
    let b = both_true _ _ c in
    let k = kept rs rest f _ t q in
    let u : t.imm_wide ≡ v % twenty_bits = k.number (eqb-true _ _ b.0) in
    let l : t.imm_wide < twenty_bits = omega arith in
    both_so (lt-ltb _ _ l) (fitting rs rest f _ t b.1 q)
fitting (cond ∷ rs) xs f s t c (v, rest, e, h, (o, g, q)) =
    let b = both_true _ _ c in
    let k = kept rs rest (renamed o f) (past s) t q in
    let p : t.opcode ≡ o = k.opcode (eqb-true _ _ b.0) in
    let u : cond_byte t.opcode ≡ v = ap cond_byte p ∙ condition v o h g in
    both_so (means_so (cond_of (cond_byte t.opcode)) t.opcode (ap cond_of u ∙ (g ∙ ap named (sym p)))) (fitting rs rest (renamed o f) (past s) t b.1 q)
fitting (stop x ∷ rs) xs f s t c q = refl

pub fits_same : (rs : List Read) (t s : Record) → t.opcode ≡ s.opcode → (1 ≤ imms rs → t.imm_wide ≡ s.imm_wide)
    → (1 ≤ disps rs → t.dispabs ≡ s.dispabs) → (2 ≤ disps rs → t.first ≡ s.first) → fits rs t ≡ fits rs s
unfolding fits imms disps
fits_same [] t s o i d f = refl
fits_same (num (disp zero) ∷ rs) t s o i d f = fits_same rs t s o i d f
fits_same (num (disp (suc n)) ∷ rs) t s o i d f =
    ap₂ (λ v b. both (ltb v (256 ^ suc n)) b) (nth_same (disps rs) t s (d (omega arith)) f)
    (fits_same rs t s o i (λ h. d (omega arith)) (λ h. f (omega arith)))
fits_same (num (imm n) ∷ rs) t s o i d f = ap₂ (λ v b. both (ltb v (256 ^ n)) b) (i (omega arith)) (fits_same rs t s o (λ h. i (omega arith)) d f)
fits_same (num imm20 ∷ rs) t s o i d f = ap₂ (λ v b. both (ltb v twenty_bits) b) (i (omega arith)) (fits_same rs t s o (λ h. i (omega arith)) d f)
fits_same (cond ∷ rs) t s o i d f = ap₂ (λ v b. both (means (cond_of (cond_byte v)) v) b) o (fits_same rs t s o i d f)
fits_same (stop e ∷ rs) t s o i d f = refl

-- a condition among the reads has a byte
pub cond_in : (rs : List Read) (s : Record) → 1 ≤ conds rs → fate rs ≡ 0 → fits rs s ≡ true → means (cond_of (cond_byte s.opcode)) s.opcode ≡ true
unfolding fits conds
cond_in [] s l h f = absurd (omega arith)
cond_in (num (disp zero) ∷ rs) s l h f = cond_in rs s l h f
cond_in (num (disp (suc n)) ∷ rs) s l h f = cond_in rs s l h (both_true (ltb (nth (disps rs) s) (256 ^ suc n)) (fits rs s) f).1
cond_in (num (imm n) ∷ rs) s l h f = cond_in rs s l h (both_true (ltb s.imm_wide (256 ^ n)) (fits rs s) f).1
cond_in (num imm20 ∷ rs) s l h f = cond_in rs s l h (both_true (ltb s.imm_wide twenty_bits) (fits rs s) f).1
cond_in (cond ∷ rs) s l h f = (both_true (means (cond_of (cond_byte s.opcode)) s.opcode) (fits rs s) f).0
cond_in (stop e ∷ rs) s l h f = absurd (own e h)

-- from names f and numbers s, with a's numbers
abbrev pub fill : List Read → Record → Face → Seen → Record
fill [] a f s = made f s
fill (num (disp zero) ∷ rs) a f s = fill rs a f s
fill (num (disp (suc n)) ∷ rs) a f s = fill rs a f (with_disp (suc n) (nth (disps rs) a) s)
fill (num (imm n) ∷ rs) a f s = fill rs a f (in_full n a.imm_wide s)
fill (num imm20 ∷ rs) a f s = fill rs a f (in_twenty a.imm_wide s)
fill (cond ∷ rs) a f s = fill rs a (renamed a.opcode f) (past s)
fill (stop e ∷ rs) a f s = made f s

pub reach : (rs : List Read) (a : Record) (f : Face) (s : Seen) → fate rs ≡ 0 → fits rs a ≡ true → Runs rs (spell rs a) f s (fill rs a f s)
unfolding fits spell
reach [] a f s h g = refl
reach (num (disp zero) ∷ rs) a f s h g = reach rs a f s h g
reach (num (disp (suc n)) ∷ rs) a f s h g =
    let b = both_true _ _ g in
    (nth (disps rs) a, spell rs a, refl, ltb-true _ _ b.0, reach rs a f _ h b.1)
reach (num (imm n) ∷ rs) a f s h g =
    let b = both_true _ _ g in
    (a.imm_wide, spell rs a, refl, ltb-true _ _ b.0, reach rs a f _ h b.1)
reach (num imm20 ∷ rs) a f s h g =
    let b = both_true _ _ g in
    let l : a.imm_wide < twenty_bits = ltb-true _ _ b.0 in
    (a.imm_wide, spell rs a, refl, omega arith, reach rs a f _ h b.1)
reach (cond ∷ rs) a f s h g =
    let b = both_true _ _ g in
    (cond_byte a.opcode, spell rs a, refl, cond_small a.opcode, (a.opcode, so_means _ _ b.0, reach rs a (renamed a.opcode f) (past s) h b.1))
reach (stop e ∷ rs) a f s h g = absurd (own e h)

-- its fields are the other's, where there is a read for them
pub record Filled (rs : List Read) (a t : Record) : Type 0 where
  pub disp : 1 ≤ disps rs → t.dispabs ≡ a.dispabs
  pub first : 2 ≤ disps rs → t.first ≡ a.first
  pub number : 1 ≤ imms rs → t.imm_wide ≡ a.imm_wide
  pub opcode : 1 ≤ conds rs → t.opcode ≡ a.opcode

nth_zero : (d : ℕ) (a : Record) → d ≡ 0 → nth d a ≡ a.dispabs
nth_zero zero a e = refl
nth_zero (suc d) a e = absurd (omega arith)

nth_one : (d : ℕ) (a : Record) → d ≡ 1 → nth d a ≡ a.first
nth_one zero a e = absurd (omega arith)
nth_one (suc d) a e = refl

last : {A : Type 0} {x y : A} (d : ℕ) → (d ≡ 0 → x ≡ y) → (1 ≤ d → x ≡ y) → x ≡ y
last zero p q = p refl
last (suc d) p q = q (omega arith)

pub filled : (rs : List Read) (a : Record) (f : Face) (s : Seen) → tidy rs ≡ true → fate rs ≡ 0 → fits rs a ≡ true → Filled rs a (fill rs a f s)
unfolding fits tidy disps imms conds
filled [] a f s c h g = record { disp = λ l. absurd (omega arith); first = λ l. absurd (omega arith); number = λ l. absurd (omega arith); opcode = λ l. absurd (omega arith) }
filled (num (disp zero) ∷ rs) a f s c h g = let k = filled rs a f s c h g in record { disp = k.disp; first = k.first; number = k.number; opcode = k.opcode }
filled (num (disp (suc n)) ∷ rs) a f s c h g =
    let b = both_true _ _ c in
    let d = both_true (ltb (nth (disps rs) a) (256 ^ suc n)) (fits rs a) g in
    let s' = with_disp (suc n) (nth (disps rs) a) s in
    let k = filled rs a f s' b.1 h d.1 in
    let m = kept rs (spell rs a) f s' (fill rs a f s') (reach rs a f s' h d.1) in
    let small : disps rs ≤ 1 = leb-true _ _ b.0 in
    record {
      disp = λ l. last (disps rs) (λ e. m.same e ∙ nth_zero (disps rs) a e) (λ l. k.disp l);
      first = λ l. m.moved (omega arith) ∙ nth_one (disps rs) a (omega arith);
      number = k.number;
      opcode = k.opcode;
    }
filled (num (imm n) ∷ rs) a f s c h g =
    let b = both_true _ _ c in
    let d = both_true _ _ g in
    let s' = in_full n a.imm_wide s in
    let k = filled rs a f s' b.1 h d.1 in
    let m = kept rs (spell rs a) f s' (fill rs a f s') (reach rs a f s' h d.1) in
    record { disp = k.disp; first = k.first; number = λ l. m.number (eqb-true _ _ b.0) ∙ mod-eq_of_lt (ltb-true _ _ d.0); opcode = k.opcode }
filled (num imm20 ∷ rs) a f s c h g =
    let b = both_true _ _ c in
    let d = both_true _ _ g in
    let s' = in_twenty a.imm_wide s in
    let k = filled rs a f s' b.1 h d.1 in
    let m = kept rs (spell rs a) f s' (fill rs a f s') (reach rs a f s' h d.1) in
    record { disp = k.disp; first = k.first; number = λ l. m.number (eqb-true _ _ b.0) ∙ mod-eq_of_lt (ltb-true _ _ d.0); opcode = k.opcode }
filled (cond ∷ rs) a f s c h g =
    let b = both_true _ _ c in
    let d = both_true (means (cond_of (cond_byte a.opcode)) a.opcode) (fits rs a) g in
    let f' = renamed a.opcode f in
    let k = filled rs a f' (past s) b.1 h d.1 in
    let m = kept rs (spell rs a) f' (past s) (fill rs a f' (past s)) (reach rs a f' (past s) h d.1) in
    record { disp = k.disp; first = k.first; number = k.number; opcode = λ l. m.opcode (eqb-true _ _ b.0) }
filled (stop e ∷ rs) a f s c h g = absurd (own e h)
