-- One induction over a row's reads, for what is said in numbers: what holds of an accepted answer, of each refusal, and before a read if it
-- holds behind it, holds of every answer. Laws on refusals and on bytes taken are its cases.
-- Assumes nothing.
use Prim.Native.Nat.{ℕ, ◌+◌, ◌≤◌, ◌<◌}
use mathlib.Core.Path.{◌≡◌, refl, subst}
use mathlib.Core.Bool.{Bool, true, false}
use mathlib.Core.List.{List, [], ◌∷◌}
use native.Mathlib.Omega.{arith}
use lib.ListN.{length, get_or}
use lib.Dec.{eqb, leb, ltb}
use borrow.Author.Tests.{leb-true, leb-false, ltb-true, ltb-false, eqb-true}
use Rattle.record.specs.Answer.{Answer}
use Rattle.record.specs.declared.Opcode.{Opcode}
use Rattle.laws.specs.Choice.{pick}
use Rattle.laws.proofs.Choice.{pick_holds}
use Rattle.record.specs.declared.Seen.{Seen}
use Rattle.record.specs.Answer.{Got}
use Rattle.record.specs.Answer.{On, Short}
use Rattle.rows.specs.Row.{Num, disp, imm, imm20, Refusal, refusal_no, Read, num, cond, stop, Condition, named, unnamed, Face}
use Rattle.rows.specs.Codes.{cond_of}
use Rattle.rows.specs.Fate.{bytes_of}
use Rattle.rows.specs.Run.{reading, read_disp, read_into, and_then, judged, past, renamed, refusal, run}

-- a read that goes on has taken its bytes, and they were there; else they were not
abbrev pub Went : ℕ → ℕ → Seen → Got → Type 0
Went n b s (On t) = (t.taken ≡ s.taken + n) × (t.taken ≤ b)
Went n b s Short = b < s.taken + n

-- so many bytes are there, or not
there : (n : ℕ) (bs : List ℕ) (s t : Seen) → t.taken ≡ s.taken + n → Went n (length bs) s (pick (leb (s.taken + n) (length bs)) (On t) Short)
there n bs s t e =
    pick_holds (Went n (length bs) s) (leb (s.taken + n) (length bs)) (On t) Short (λ l. (e, omega (arith, leb-true (s.taken + n) (length bs) l)))
    (λ l. leb-false (s.taken + n) (length bs) l)

pub reading_went : (k : Num) (bs : List ℕ) (s : Seen) → s.taken ≤ length bs → Went (bytes_of k) (length bs) s (reading k bs s)
unfolding read_disp read_into
reading_went (disp n) bs s h =
    pick_holds (Went n (length bs) s) (eqb n 0) (On s) _ (λ e. omega (arith, eqb-true n 0 e)) (λ e. there n bs s _ refl)
reading_went (imm n) bs s h = there n bs s _ refl
reading_went imm20 bs s h = there 3 bs s _ refl

-- P of reads, the bytes taken before them, and the answer that they come to, of all the bytes there are
pub record Events (bs : List ℕ) (P : List Read → ℕ → Answer → Type 0) : Type 0 where
  pub ends : (n : ℕ) (x : Answer) → n ≤ length bs → x.refusal ≡ 0 → x.taken ≡ n → x.inst.length ≡ n → P [] n x
  pub goes_on : (k : Num) (rs : List Read) (n : ℕ) (x : Answer) → n + bytes_of k ≤ length bs → P rs (n + bytes_of k) x → P (num k ∷ rs) n x
  pub runs_out : (k : Num) (rs : List Read) (n : ℕ) → n ≤ length bs → length bs < n + bytes_of k → P (num k ∷ rs) n (refusal 1 (length bs))
  pub names : (rs : List Read) (n : ℕ) (x : Answer) → n + 1 ≤ length bs → P rs (n + 1) x → P (cond ∷ rs) n x
  pub names_none : (rs : List Read) (n : ℕ) → n + 1 ≤ length bs → P (cond ∷ rs) n (refusal 2 (n + 1))
  pub no_condition_lem : (rs : List Read) (n : ℕ) → n ≡ length bs → P (cond ∷ rs) n (refusal 1 (length bs))
  pub stops : (e : Refusal) (rs : List Read) (n : ℕ) → n ≤ length bs → P (stop e ∷ rs) n (refusal (refusal_no e) n)

module _ {bs : List ℕ} {P : List Read → ℕ → Answer → Type 0} (events : Events bs P) where
  read_along : (k : Num) (rs : List Read) (s : Seen) (g : Got) (f : Seen → Answer) → s.taken ≤ length bs → Went (bytes_of k) (length bs) s g
      → ((t : Seen) → t.taken ≤ length bs → P rs t.taken (f t)) → P (num k ∷ rs) s.taken (and_then bs g f)
  read_along k rs s (On t) f l w h = events.goes_on k rs s.taken (f t) (omega arith) (subst (λ n. P rs n (f t)) w.0 (h t w.1))
  read_along k rs s Short f l w h = events.runs_out k rs s.taken l w

  judged_along : (rs : List Read) (s : Seen) (c : Condition) (f : Opcode → Answer) → s.taken + 1 ≤ length bs → ((o : Opcode) → P rs (s.taken + 1) (f o))
      → P (cond ∷ rs) s.taken (judged c s f)
  judged_along rs s (named o) f l h = events.names rs s.taken (f o) l (h o)
  judged_along rs s unnamed f l h = events.names_none rs s.taken l

  condition_along : (rs : List Read) (s : Seen) (x : Answer) → s.taken ≤ length bs → (t : Bool) → ltb s.taken (length bs) ≡ t
      → (s.taken + 1 ≤ length bs → P (cond ∷ rs) s.taken x) → P (cond ∷ rs) s.taken (pick t x (refusal 1 (length bs)))
  condition_along rs s x l true t h = h (omega (arith, ltb-true s.taken (length bs) t))
  condition_along rs s x l false t h = events.no_condition_lem rs s.taken (omega (arith, ltb-false s.taken (length bs) t))

  pub along : (rs : List Read) (f : Face) (s : Seen) → s.taken ≤ length bs → P rs s.taken (run rs bs f s)
  unfolding run
  along [] f s l = events.ends s.taken _ l refl refl refl
  along (num k ∷ rs) f s l = read_along k rs s (reading k bs s) (run rs bs f) l (reading_went k bs s l) (along rs f)
  along (cond ∷ rs) f s l =
      condition_along rs s _ l (ltb s.taken (length bs)) refl
      (λ h. judged_along rs s (cond_of (get_or bs s.taken 0)) (λ o. run rs bs (renamed o f) (past s)) h (λ o. along rs (renamed o f) (past s) h))
  along (stop e ∷ rs) f s l = events.stops e rs s.taken l
