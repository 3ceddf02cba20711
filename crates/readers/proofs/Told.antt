-- Within the first 256 bytes what the code reads is what the rows read; and where a row's first read ends.
-- Assumes nothing.
use Prim.Native.Nat.{ℕ, ◌+◌, ◌%◌, ◌≤◌, ◌<◌}
use mathlib.Core.Path.{◌≡◌, refl, sym, ap, ◌∙◌}
use mathlib.Core.Bool.{Bool, true, false}
use mathlib.Core.List.{List}
use native.Mathlib.Omega.{arith}
use native.Mathlib.Nat.{mod-eq_of_lt}
use lib.Dec.{eqb, leb, ltb}
use lib.ListN.{length}
use borrow.Author.Tests.{eqb-true}
use Rattle.laws.specs.Choice.{pick}
use Rattle.record.specs.declared.Parts.{Parts}
use Rattle.record.specs.declared.Seen.{Seen}
use Rattle.std.specs.Prelude.{Result, Ok}
use Rattle.record.specs.Answer.{Got, On, Short, found}
use Rattle.record.specs.declared.refusal.Refused.{Refused}
use Rattle.rows.specs.Row.{Num, disp, imm, imm20}
use Rattle.rows.specs.Codes.{size_G}
use Rattle.rows.specs.Fate.{bytes_of}
use Rattle.rows.specs.Run.{bytes, reading, read_disp, read_into, disp_at, imm_at, with_disp, in_full, in_twenty, begun}
use Rattle.readers.specs.steps.Told.{disp_told, imm_told, retold, told, reading_in, found_in}

-- what was read, or nothing, is told as it is if its parts are
same : (f : Parts → Parts) (t : Seen) → f t.parts ≡ t.parts → (l : Bool) → told f (pick l (On t) Short) ≡ pick l (On t) Short
same f t e true = ap (λ p. On (record { parts = p; imm_wide = t.imm_wide; dispabs = t.dispabs; first = t.first; dropped = t.dropped; taken = t.taken })) e
same f t e false = refl

module _ (bs : List ℕ) (s : Seen) (h : s.taken < 256) where
  abbrev place : s.taken % 256 ≡ s.taken
  place = mod-eq_of_lt h

  as_read : (k : Num) → told (retold (s.taken % 256) k) (reading k bs s) ≡ reading k bs s
  unfolding read_disp read_into
  as_read (disp n) = by (eqb n 0) (leb (s.taken + n) (length bs))
    where
      there : Seen
      there = with_disp n (bytes bs s.taken n) s

      by : (x l : Bool) → told (λ q. pick x q (disp_told (s.taken % 256) q)) (pick x (On s) (pick l (On there) Short)) ≡ pick x (On s) (pick l (On there) Short)
      by true l = refl
      by false l = same (disp_told (s.taken % 256)) there (ap (λ p. disp_at p n s.parts) place) l
  as_read (imm n) = same (imm_told (s.taken % 256)) (in_full n (bytes bs s.taken n) s) (ap (λ p. imm_at p n s.parts) place) (leb (s.taken + n) (length bs))
  as_read imm20 = same (imm_told (s.taken % 256)) (in_twenty (bytes bs s.taken 3) s) (ap (λ p. imm_at p 3 s.parts) place) (leb (s.taken + 3) (length bs))

pub near : (k : Num) (bs : List ℕ) (s : Seen) {g : Result Seen Refused} → s.taken < 256 → g ≡ found_in k bs s → g ≡ found bs (reading k bs s)
unfolding reading_in
near k bs s h e = e ∙ ap (found bs) (as_read bs s h k)

-- a row's first read
pub first : (k : Num) (bs : List ℕ) {g : Result Seen Refused} → g ≡ found_in k bs (begun 0) → g ≡ found bs (reading k bs (begun 0))
first k bs h = near k bs (begun 0) (omega arith) h

-- no byte is read
pub none : (bs : List ℕ) (s : Seen) → On s ≡ reading_in (disp 0) bs s
unfolding reading_in read_disp
none bs s = refl

-- as many bytes further on
passed : (k : Num) (s t u : Seen) (l : Bool) → u.taken ≡ s.taken + bytes_of k → pick l (On u) Short ≡ On t → t.taken ≡ s.taken + bytes_of k
passed k s t u true e f = let g : u ≡ t = cc in sym (ap (λ x. x.taken) g) ∙ e
passed k s t u false e f = let z : ◌≡◌ {A = ℕ} 0 1 = cc in absurd (omega arith)

onward : (k : Num) (bs : List ℕ) (s t : Seen) → reading k bs s ≡ On t → t.taken ≡ s.taken + bytes_of k
unfolding read_disp read_into
onward (disp n) bs s t = by (eqb n 0) refl
  where
    by : (x : Bool) → eqb n 0 ≡ x → pick x (On s) (pick (leb (s.taken + n) (length bs)) (On (with_disp n (bytes bs s.taken n) s)) Short) ≡ On t → t.taken ≡ s.taken + n
    by true e f = let g : s ≡ t = cc in sym (ap (λ x. x.taken) g) ∙ omega (arith, eqb-true n 0 e)
    by false e f = passed (disp n) s t _ (leb (s.taken + n) (length bs)) refl f
onward (imm n) bs s t = λ f. passed (imm n) s t _ (leb (s.taken + n) (length bs)) refl f
onward imm20 bs s t = λ f. passed imm20 s t _ (leb (s.taken + 3) (length bs)) refl f

size_small : (c : ℕ) → size_G c ≤ 2
size_small c = by (ltb c 8) (ltb c 12)
  where
    by : (x y : Bool) → pick x 0 (pick y 1 2) ≤ 2
    by true y = omega arith
    by false true = omega arith
    by false false = omega arith

-- a row's second read begins within the first 256 bytes: behind a displacement of at most two
pub second : (n : ℕ) (bs : List ℕ) {t : Seen} {g : Result Seen Refused} → n ≤ 2 → g ≡ found_in (disp n) bs (begun 0) → g ≡ Ok t → t.taken < 256
second n bs {t} l h e =
    let f : reading (disp n) bs (begun 0) ≡ On t = went (reading (disp n) bs (begun 0)) (sym (first (disp n) bs h) ∙ e) in
    omega (arith, onward (disp n) bs (begun 0) t f)
  where
    went : (x : Got) → found bs x ≡ Ok t → x ≡ On t
    went (On u) e = let f : u ≡ t = cc in ap On f
    went Short e = let z : ◌≡◌ {A = ℕ} 0 1 = cc in absurd (omega arith)

pub behind_general : (c : ℕ) (bs : List ℕ) {t : Seen} {g : Result Seen Refused} → g ≡ found_in (disp (size_G c)) bs (begun 0) → g ≡ Ok t → t.taken < 256
behind_general c bs h e = second (size_G c) bs (size_small c) h e
