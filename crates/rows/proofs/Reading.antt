-- The ways through a read of a number, one law for each, in the form that a reader's tests give.
-- Assumes nothing.
use Prim.Native.Nat.{ℕ, ◌+◌, ◌*◌, ◌%◌, ◌≤◌, ◌<◌}
use mathlib.Core.Path.{◌≡◌, refl, sym, ◌∙◌}
use mathlib.Core.Bool.{Bool, true, false}
use mathlib.Core.List.{List}
use native.Mathlib.Omega.{arith}
use lib.ListN.{length, get_or}
use lib.Dec.{leb}
use borrow.Author.Tests.{le-leb, lt-leb, ne_eqb, leb-true, leb-false}
use Rattle.record.specs.declared.Seen.{Seen}
use Rattle.record.specs.Answer.{On, Short}
use Rattle.rows.specs.Row.{disp, imm, imm20}
use Rattle.rows.specs.Run.{reading, read_disp, read_into, with_disp, with_imm, twenty_bits}

-- the third byte tells what the whole number does
pub over_twenty : (a b c : ℕ) → a < 256 → b < 256 → leb 16 c ≡ leb twenty_bits (a + 256 * (b + 256 * c))
over_twenty a b c h k = by (leb 16 c) refl
  where
    by : (x : Bool) → leb 16 c ≡ x → x ≡ leb twenty_bits (a + 256 * (b + 256 * c))
    by true e = let l : twenty_bits ≤ a + 256 * (b + 256 * c) = omega (arith, leb-true 16 c e) in sym (le-leb _ _ l)
    by false e = let l : a + 256 * (b + 256 * c) < twenty_bits = omega (arith, leb-false 16 c e) in sym (lt-leb _ _ l)

module _ (bs : List ℕ) (s : Seen) where
  -- too few bytes
  pub short : (n : ℕ) → 0 < n → length bs < s.taken + n → Short ≡ reading (disp n) bs s
  unfolding read_disp
  short n p h = simp (ne_eqb n 0 (omega arith), lt-leb _ _ h)

  pub unread : (n : ℕ) (into : ℕ → Seen → Seen) → length bs < s.taken + n → Short ≡ read_into n into bs s
  unfolding read_into
  unread n into h = simp (lt-leb _ _ h)

  -- one byte, two bytes, three
  pub disp1 : {v : ℕ} → s.taken < length bs → v ≡ get_or bs s.taken 0 → On (with_disp 1 v s) ≡ reading (disp 1) bs s
  unfolding read_disp
  disp1 h f = let h' : s.taken + 1 ≤ length bs = omega arith in rw f (simp (le-leb _ _ h'))

  pub disp2 : {v : ℕ} → s.taken + 1 < length bs → v ≡ get_or bs s.taken 0 + 256 * get_or bs (s.taken + 1) 0 → On (with_disp 2 v s) ≡ reading (disp 2) bs s
  unfolding read_disp
  disp2 h f = let h' : s.taken + 2 ≤ length bs = omega arith in rw f (simp (le-leb _ _ h'))

  pub imm1 : {v : ℕ} → s.taken < length bs → v ≡ get_or bs s.taken 0 % 256 → On (with_imm 1 v false s) ≡ reading (imm 1) bs s
  unfolding read_into
  imm1 h f = let h' : s.taken + 1 ≤ length bs = omega arith in rw f (simp (le-leb _ _ h'))

  pub imm2 : {v : ℕ} → s.taken + 1 < length bs → v ≡ (get_or bs s.taken 0 + 256 * get_or bs (s.taken + 1) 0) % 65536 → On (with_imm 2 v false s) ≡ reading (imm 2) bs s
  unfolding read_into
  imm2 h f = let h' : s.taken + 2 ≤ length bs = omega arith in rw f (simp (le-leb _ _ h'))

  pub long : {v : ℕ} {d : Bool} → s.taken + 3 ≤ length bs → v ≡ (get_or bs s.taken 0 + 256 * (get_or bs (s.taken + 1) 0 + 256 * get_or bs (s.taken + 2) 0)) % 1048576
      → ((k : ℕ) → get_or bs k 0 < 256) → d ≡ leb 16 (get_or bs (s.taken + 2) 0) → On (with_imm 3 v d s) ≡ reading imm20 bs s
  unfolding read_into
  long h f small g =
      let e : s.taken + 1 + 1 ≡ s.taken + 2 = omega arith in
      let l = over_twenty _ _ (get_or bs (s.taken + 2) 0) (small s.taken) (small (s.taken + 1)) in
      rw (f, g ∙ l, ← e) (simp (le-leb _ _ h))
