-- Where nothing was dropped, the bytes that plain reads turned into a record are those that `spell` gives for it, and so many as the reads take.
-- Assumes nothing.
use Prim.Native.Nat.{ℕ, zero, suc, ◌+◌, ◌<◌}
use mathlib.Core.Path.{◌≡◌, refl, sym, ap, ap₂, ◌∙◌}
use mathlib.Core.Bool.{true, false}
use mathlib.Core.List.{List, [], ◌∷◌, ◌++◌, append_assoc}
use native.Mathlib.Omega.{arith}
use native.Mathlib.Nat.{mod-eq_of_lt}
use borrow.Author.Tests.{leb-true, leb-false, eqb-true}
use Rattle.record.specs.declared.Record.{Record}
use Rattle.record.specs.declared.Seen.{Seen}
use Rattle.rows.specs.Row.{disp, imm, imm20, Read, num, cond, stop, Face}
use Rattle.rows.specs.Fate.{reach}
use Rattle.rows.specs.Run.{with_disp, twenty_bits, past, renamed}
use Rattle.encode_rules.specs.steps.Digits.{digits}
use Rattle.encode_rules.specs.steps.Search.{cond_byte, disps, imms, nth, spell, tidy}
use Rattle.encode_rules.proofs.Bools.{both_true}
use Rattle.encode_rules.proofs.Condition.{condition}
use Rattle.encode_rules.proofs.Runs.{Runs}
use Rattle.encode_rules.proofs.Spell.{kept, nth_is}

-- what was dropped stays as it is told, unless another number is read
dropped_kept : (rs : List Read) (xs : List ℕ) (f : Face) (s : Seen) (t : Record) → imms rs ≡ 0 → Runs rs xs f s t → t.dropped ≡ s.dropped
unfolding imms
dropped_kept [] xs f s t i q = sym (ap (λ x. x.dropped) q)
dropped_kept (num (disp zero) ∷ rs) xs f s t i q = dropped_kept rs xs f s t i q
dropped_kept (num (disp (suc n)) ∷ rs) xs f s t i (v, rest, e, h, q) = dropped_kept rs rest f (with_disp (suc n) v s) t i q
dropped_kept (num (imm n) ∷ rs) xs f s t i q = absurd (omega arith)
dropped_kept (num imm20 ∷ rs) xs f s t i q = absurd (omega arith)
dropped_kept (cond ∷ rs) xs f s t i (v, rest, e, h, (o, c, q)) = dropped_kept rs rest (renamed o f) (past s) t i q
dropped_kept (stop x ∷ rs) xs f s t i q = absurd q

-- one read: u's bytes are those that were read as v
one : (n u v : ℕ) (xs rest ys more : List ℕ) → xs ≡ digits n v ++ rest → u ≡ v → rest ≡ ys ++ more → xs ≡ (digits n u ++ ys) ++ more
one n u v xs rest ys more e w b = e ∙ ap₂ (λ m zs. digits n m ++ zs) (sym w) b ∙ sym (append_assoc (digits n u) ys more)

pub spelled : (rs : List Read) (xs : List ℕ) (f : Face) (s : Seen) (t : Record) → tidy rs ≡ true → t.dropped ≡ false → Runs rs xs f s t
    → (more : List ℕ) × (xs ≡ spell rs t ++ more)
unfolding spell tidy
spelled [] xs f s t c d q = (xs, refl)
spelled (num (disp zero) ∷ rs) xs f s t c d q = let k = spelled rs xs f s t c d q in (k.0, k.1)
spelled (num (disp (suc n)) ∷ rs) xs f s t c d (v, rest, e, h, q) =
    let b = both_true _ _ c in
    let k = spelled rs rest f (with_disp (suc n) v s) t b.1 d q in
    let g = kept rs rest f (with_disp (suc n) v s) t q in
    let u : nth (disps rs) t ≡ v = nth_is (disps rs) v t (leb-true _ _ b.0) g.same g.moved in
    (k.0, one (suc n) _ v xs rest (spell rs t) k.0 e u k.1)
spelled (num (imm n) ∷ rs) xs f s t c d (v, rest, e, h, q) =
    let b = both_true _ _ c in
    let k = spelled rs rest f _ t b.1 d q in
    let u : t.imm_wide ≡ v = (kept rs rest f _ t q).number (eqb-true _ _ b.0) ∙ mod-eq_of_lt h in
    (k.0, one n _ v xs rest (spell rs t) k.0 e u k.1)
spelled (num imm20 ∷ rs) xs f s t c d (v, rest, e, h, q) =
    let b = both_true _ _ c in
    let k = spelled rs rest f _ t b.1 d q in
    let none = eqb-true (imms rs) 0 b.0 in
    let small : v < twenty_bits = leb-false twenty_bits v (sym (dropped_kept rs rest f _ t none q) ∙ d) in
    let u : t.imm_wide ≡ v = (kept rs rest f _ t q).number none ∙ mod-eq_of_lt small in
    (k.0, one 3 _ v xs rest (spell rs t) k.0 e u k.1)
spelled (cond ∷ rs) xs f s t c d (v, rest, e, h, (o, g, q)) =
    let b = both_true _ _ c in
    let k = spelled rs rest (renamed o f) (past s) t b.1 d q in
    let u : cond_byte t.opcode ≡ v = ap cond_byte ((kept rs rest (renamed o f) (past s) t q).opcode (eqb-true _ _ b.0)) ∙ condition v o h g in
    (k.0, one 1 _ v xs rest (spell rs t) k.0 e u k.1)
spelled (stop x ∷ rs) xs f s t c d q = absurd q

-- the length of the record is what was taken before, and what the reads take
pub took : (rs : List Read) (xs : List ℕ) (f : Face) (s : Seen) (t : Record) → Runs rs xs f s t → t.length ≡ s.taken + reach rs
took [] xs f s t q = omega (arith, ap (λ x. x.length) q)
took (num (disp zero) ∷ rs) xs f s t q = omega (arith, took rs xs f s t q)
took (num (disp (suc n)) ∷ rs) xs f s t (v, rest, e, h, q) = omega (arith, took rs rest f (with_disp (suc n) v s) t q)
took (num (imm n) ∷ rs) xs f s t (v, rest, e, h, q) = omega (arith, took rs rest f _ t q)
took (num imm20 ∷ rs) xs f s t (v, rest, e, h, q) = omega (arith, took rs rest f _ t q)
took (cond ∷ rs) xs f s t (v, rest, e, h, (o, c, q)) = omega (arith, took rs rest (renamed o f) (past s) t q)
took (stop x ∷ rs) xs f s t q = absurd q
