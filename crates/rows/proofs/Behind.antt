-- No byte behind those taken counts, for any row table: an answer other than refusal 1 is the answer to whatever begins with the bytes it took.
-- Assumes nothing.
use Prim.Native.Nat.{ℕ, ◌+◌, ◌≤◌, ◌<◌}
use mathlib.Core.Path.{◌≡◌, refl, ap, ◌∙◌, subst}
use mathlib.Core.Bool.{Bool, true, false}
use mathlib.Core.List.{List, [], ◌∷◌}
use native.Mathlib.Omega.{arith}
use lib.ListN.{length, get_or}
use lib.Dec.{eqb, leb, ltb}
use borrow.Author.Tests.{ltb-true, lt-ltb, le-leb}
use Rattle.laws.specs.Choice.{pick}
use Rattle.record.specs.declared.Seen.{Seen}
use Rattle.record.specs.Answer.{Got}
use Rattle.record.specs.Answer.{On, Short}
use Rattle.rows.specs.Row.{Num, disp, imm, imm20, Read, num, cond, stop, Condition, named, unnamed, Face, Table}
use Rattle.rows.specs.Codes.{cond_of}
use Rattle.rows.specs.Fate.{bytes_of}
use Rattle.rows.specs.Run.{bytes, reading, read_disp, read_into, with_disp, in_full, in_twenty, and_then, past, renamed, refusal, run, run_row, begun, decode_by}
use Rattle.rows.proofs.Along.{Went, reading_went}
use Rattle.rows.proofs.Bytes.{bytes_alike}
use Rattle.rows.proofs.Taken.{run_counted, row_counted}
use Rattle.rows.proofs.Refusals.{outside}

-- cs begins with the first k bytes of bs
pub record Begins (k : ℕ) (bs cs : List ℕ) : Type 0 where
  pub long : k ≤ length cs
  pub equal : (i : ℕ) → i < k → get_or cs i 0 ≡ get_or bs i 0

module _ (k : ℕ) (bs cs : List ℕ) (h : Begins k bs cs) where
  number_alike : (n p : ℕ) → p + n ≤ k → bytes cs p n ≡ bytes bs p n
  number_alike n p l = bytes_alike bs cs n p p (λ i m. h.equal (p + i) (omega arith))

  -- a number that was read there is read here
  read_alike : (n : ℕ) (s t : Seen) (w : ℕ → Seen) → ((v : ℕ) → (w v).taken ≡ s.taken + n) → t.taken ≤ k
      → pick (leb (s.taken + n) (length bs)) (On (w (bytes bs s.taken n))) Short ≡ On t
      → pick (leb (s.taken + n) (length cs)) (On (w (bytes cs s.taken n))) Short ≡ On t
  read_alike n s t w took l e = by (leb (s.taken + n) (length bs)) refl
    where
      by : (b : Bool) → leb (s.taken + n) (length bs) ≡ b → pick (leb (s.taken + n) (length cs)) (On (w (bytes cs s.taken n))) Short ≡ On t
      by true f =
          let g : On (w (bytes bs s.taken n)) ≡ On t = rw f at e in
          let q : w (bytes bs s.taken n) ≡ t = cc in
          let r : (w (bytes bs s.taken n)).taken ≡ t.taken = ap (λ x. x.taken) q in
          let m : s.taken + n ≤ length cs = omega (arith, took (bytes bs s.taken n), h.long) in
          rw (le-leb _ _ m, number_alike n s.taken (omega (arith, took (bytes bs s.taken n)))) g
      by false f = let g : Short ≡ On t = rw f at e in let z : ◌≡◌ {A = ℕ} 0 1 = cc in absurd (omega arith)

  reading_alike : (j : Num) (s t : Seen) → t.taken ≤ k → reading j bs s ≡ On t → reading j cs s ≡ On t
  unfolding read_disp read_into
  reading_alike (disp n) s t l e = by (eqb n 0) refl
    where
      by : (b : Bool) → eqb n 0 ≡ b → read_disp n cs s ≡ On t
      by true f = rw f (rw f at e)
      by false f = rw f (read_alike n s t (λ v. with_disp n v s) (λ v. refl) l (rw f at e))
  reading_alike (imm n) s t l e = read_alike n s t (λ v. in_full n v s) (λ v. refl) l e
  reading_alike imm20 s t l e = read_alike 3 s t (λ v. in_twenty v s) (λ v. refl) l e

  -- the rest of a row, whose answer is not refusal 1
  abbrev Alike : List Read → Type 0
  Alike rs = (f : Face) (s : Seen) → s.taken ≤ length bs → ((run rs bs f s).refusal ≡ 1 → ⊥) → (run rs bs f s).taken ≤ k → run rs cs f s ≡ run rs bs f s

  num_alike : (j : Num) (rs : List Read) → Alike rs → Alike (num j ∷ rs)
  unfolding run
  num_alike j rs ih f s l n m = by (reading j bs s) refl (reading_went j bs s l)
    where
      by : (g : Got) → reading j bs s ≡ g → Went (bytes_of j) (length bs) s g → and_then cs (reading j cs s) (run rs cs f) ≡ and_then bs (reading j bs s) (run rs bs f)
      by (On t) e w =
          let n' : (run rs bs f t).refusal ≡ 1 → ⊥ = subst (λ g. (and_then bs g (run rs bs f)).refusal ≡ 1 → ⊥) e n in
          let m' : (run rs bs f t).taken ≤ k = subst (λ g. (and_then bs g (run rs bs f)).taken ≤ k) e m in
          rw (e, reading_alike j s t (omega (arith, (run_counted rs bs f t w.1).grown)) e) (ih f t w.1 n' m')
      by Short e w = absurd (subst (λ g. (and_then bs g (run rs bs f)).refusal ≡ 1 → ⊥) e n refl)

  cond_alike : (rs : List Read) → Alike rs → Alike (cond ∷ rs)
  unfolding run
  cond_alike rs ih f s l n m = by (ltb s.taken (length bs)) refl (cond_of (get_or bs s.taken 0)) refl
    where
      by : (t : Bool) → ltb s.taken (length bs) ≡ t → (c : Condition) → cond_of (get_or bs s.taken 0) ≡ c → run (cond ∷ rs) cs f s ≡ run (cond ∷ rs) bs f s
      by false e c d = absurd ((rw e at n) refl)
      by true e (named o) d =
          let b : s.taken < length bs = ltb-true _ _ e in
          let n' : (run rs bs (renamed o f) (past s)).refusal ≡ 1 → ⊥ = rw (e, d) at n in
          let m' : (run rs bs (renamed o f) (past s)).taken ≤ k = rw (e, d) at m in
          let g : s.taken + 1 ≤ (run rs bs (renamed o f) (past s)).taken = (run_counted rs bs (renamed o f) (past s) (omega arith)).grown in
          let a : s.taken < length cs = omega (arith, h.long) in
          let q : get_or cs s.taken 0 ≡ get_or bs s.taken 0 = h.equal s.taken (omega arith) in
          rw (e, lt-ltb _ _ a, q, d) (ih (renamed o f) (past s) (omega arith) n' m')
      by true e unnamed d =
          let m' : s.taken + 1 ≤ k = rw (e, d) at m in
          let a : s.taken < length cs = omega (arith, h.long) in
          let q : get_or cs s.taken 0 ≡ get_or bs s.taken 0 = h.equal s.taken (omega arith) in
          rw (e, lt-ltb _ _ a, q, d)

  run_alike : (rs : List Read) → Alike rs
  unfolding run
  run_alike [] f s l n m = refl
  run_alike (stop e ∷ rs) f s l n m = refl
  run_alike (num j ∷ rs) f s l n m = num_alike j rs (run_alike rs) f s l n m
  run_alike (cond ∷ rs) f s l n m = cond_alike rs (run_alike rs) f s l n m

module _ (t : Table) where
  -- one byte was taken: the first
  begins_outside : (a : ℕ) (bs cs : List ℕ) → t.known a ≡ false → Begins 1 (a ∷ bs) cs → decode_by t cs ≡ refusal 4 1
  begins_outside a bs [] e h = absurd (omega (arith, h.long))
  begins_outside a bs (c ∷ cs) e h = let q : c ≡ a = h.equal 0 (omega arith) in outside t c cs (ap t.known q ∙ e)

  -- the row was run: at least two were
  inside : (a b : ℕ) (bs cs : List ℕ) → t.known a ≡ true → ((run_row (t.row_at a b) (a ∷ b ∷ bs)).refusal ≡ 1 → ⊥)
      → Begins (run_row (t.row_at a b) (a ∷ b ∷ bs)).taken (a ∷ b ∷ bs) cs → 2 ≤ (run_row (t.row_at a b) (a ∷ b ∷ bs)).taken
      → decode_by t cs ≡ run_row (t.row_at a b) (a ∷ b ∷ bs)
  unfolding decode_by run_row
  inside a b bs [] e n h g = absurd (omega (arith, h.long))
  inside a b bs (c ∷ []) e n h g = absurd (omega (arith, h.long))
  inside a b bs (c ∷ d ∷ cs) e n h g =
      let p : c ≡ a = h.equal 0 (omega arith) in
      let q : d ≡ b = h.equal 1 (omega arith) in
      let r = t.row_at a b in
      rw (ap t.known p ∙ e, ap (λ x. t.row_at x d) p, ap (t.row_at a) q)
      (run_alike _ (a ∷ b ∷ bs) (c ∷ d ∷ cs) h r.reads r.face (begun r.number) (omega arith) n (omega arith))

  pub behind : (bs cs : List ℕ) → ((decode_by t bs).refusal ≡ 1 → ⊥) → Begins (decode_by t bs).taken bs cs → decode_by t cs ≡ decode_by t bs
  unfolding decode_by
  behind [] cs n h = absurd (n refl)
  behind (a ∷ []) cs n h = by (t.known a) refl
    where
      by : (b : Bool) → t.known a ≡ b → decode_by t cs ≡ decode_by t (a ∷ [])
      by true e = absurd ((rw e at n) refl)
      by false e = rw e (begins_outside a [] cs e (rw e at h))
  behind (a ∷ b ∷ bs) cs n h = by (t.known a) refl
    where
      by : (k : Bool) → t.known a ≡ k → decode_by t cs ≡ decode_by t (a ∷ b ∷ bs)
      by true e = rw e (inside a b bs cs e (rw e at n) (rw e at h) (row_counted (t.row_at a b) a b bs).grown)
      by false e = rw e (begins_outside a (b ∷ bs) cs e (rw e at h))
