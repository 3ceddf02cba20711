-- What a row comes to goes by how many bytes there are and by its condition bytes, and no condition byte is in a part: so it comes to the same
-- if the bytes of one part are changed. Of any row.
-- Assumes nothing.
use Prim.Native.Nat.{ℕ, ◌+◌}
use mathlib.Core.Path.{◌≡◌, refl, sym, ap, ap₂, ◌∙◌, subst}
use mathlib.Core.Bool.{Bool, true, false}
use mathlib.Core.List.{List, [], ◌∷◌}
use native.Mathlib.Omega.{arith}
use lib.Dec.{eqb, leb, ltb}
use lib.ListN.{length, get_or}
use borrow.Author.Tests.{eqb-true}
use Rattle.laws.specs.Choice.{pick}
use Rattle.laws.proofs.Choice.{pick_holds}
use Rattle.record.specs.Answer.{Answer}
use Rattle.record.specs.declared.Opcode.{Opcode}
use Rattle.record.specs.declared.Seen.{Seen}
use Rattle.record.specs.Answer.{Got}
use Rattle.record.specs.Answer.{On, Short}
use Rattle.record.specs.declared.fields.Field.{Field}
use Rattle.record.specs.Parts.{part_of}
use Rattle.rows.specs.Codes.{cond_of}
use Rattle.rows.specs.Fate.{bytes_of}
use Rattle.rows.specs.Parts.{DifferIn}
use Rattle.rows.specs.Row.{Num, disp, imm, imm20, Read, num, cond, stop, Condition, named, unnamed, Face}
use Rattle.rows.specs.Run.{reading, read_disp, read_into, and_then, judged, past, renamed, run}
use Rattle.rows.specs.Spans.{Spans, follow, disp_next, cond_next, parts_in}
use Rattle.rows.proofs.Laid.{Standing, imm_next_lem, cond_next_lem, after_disp, stays_free, condition_free}

-- the same refusal or the same opcode, after as many bytes
pub record Alike (x y : Answer) : Type 0 where
  pub refusal : y.refusal ≡ x.refusal
  pub taken : y.taken ≡ x.taken
  pub opcode : y.inst.opcode ≡ x.inst.opcode

module _ (bs cs : List ℕ) where
  -- of reads of which the first begins at n: the same condition bytes
  abbrev pub SameConditions : List Read → ℕ → Type 0
  SameConditions [] n = Unit {0}
  SameConditions (num k ∷ rs) n = SameConditions rs (n + bytes_of k)
  SameConditions (cond ∷ rs) n = (get_or cs n 0 ≡ get_or bs n 0) × SameConditions rs (n + 1)
  SameConditions (stop e ∷ rs) n = Unit {0}

  -- both went on to a place, or none did
  abbrev Both : ℕ → Got → Got → Type 0
  Both n (On s) (On u) = (s.taken ≡ n) × (u.taken ≡ n)
  Both n (On s) Short = ⊥
  Both n Short (On u) = ⊥
  Both n Short Short = Unit {0}

  both_there : (n : ℕ) (s u : Seen) → s.taken ≡ n → u.taken ≡ n → (x y : Bool) → x ≡ y → Both n (pick x (On s) Short) (pick y (On u) Short)
  both_there n s u h k true true e = (h, k)
  both_there n s u h k false false e = tt
  both_there n s u h k true false e = let z : ◌≡◌ {A = ℕ} 0 1 = cc in absurd (omega arith)
  both_there n s u h k false true e = let z : ◌≡◌ {A = ℕ} 0 1 = cc in absurd (omega arith)

  module _ (long : length cs ≡ length bs) where
    read_both : (n p : ℕ) (s u v w : Seen) → s.taken ≡ p → u.taken ≡ p → v.taken ≡ s.taken + n → w.taken ≡ u.taken + n
        → Both (p + n) (pick (leb (s.taken + n) (length bs)) (On v) Short) (pick (leb (u.taken + n) (length cs)) (On w) Short)
    read_both n p s u v w h k hv kw =
        both_there (p + n) v w (omega arith) (omega arith) _ _ (ap₂ leb (ap (λ x. x + n) (h ∙ sym k)) (sym long))

    reading_both : (k : Num) (p : ℕ) (s u : Seen) → s.taken ≡ p → u.taken ≡ p → Both (p + bytes_of k) (reading k bs s) (reading k cs u)
    unfolding read_disp read_into
    reading_both (disp n) p s u h l = by (eqb n 0) refl
      where
        by : (x : Bool) → eqb n 0 ≡ x → Both (p + n) (read_disp n bs s) (read_disp n cs u)
        by true e = let q = eqb-true n 0 e in rw e (omega arith, omega arith)
        by false e = rw e (read_both n p s u _ _ h l refl refl)
    reading_both (imm n) p s u h l = read_both n p s u _ _ h l refl refl
    reading_both imm20 p s u h l = read_both 3 p s u _ _ h l refl refl

    -- the rest of a row, from the same place
    abbrev pub Goes : List Read → Type 0
    Goes rs = (f : Face) (s u : Seen) (p : ℕ) → s.taken ≡ p → u.taken ≡ p → SameConditions rs p → Alike (run rs bs f s) (run rs cs f u)

    then_both : (n : ℕ) (g h : Got) (k l : Seen → Answer) → Both n g h → ((s u : Seen) → s.taken ≡ n → u.taken ≡ n → Alike (k s) (l u))
        → Alike (and_then bs g k) (and_then cs h l)
    then_both n (On s) (On u) k l b f = f s u b.0 b.1
    then_both n (On s) Short k l b f = absurd b
    then_both n Short (On u) k l b f = absurd b
    then_both n Short Short k l b f = record { refusal = refl; taken = long; opcode = refl }

    judged_both : (c : Condition) (s u : Seen) (k l : Opcode → Answer) → u.taken ≡ s.taken → ((o : Opcode) → Alike (k o) (l o)) → Alike (judged c s k) (judged c u l)
    judged_both (named o) s u k l e h = h o
    judged_both unnamed s u k l e h = record { refusal = refl; taken = ap (λ x. x + 1) e; opcode = refl }

    pick_both : (x y : Bool) (a b c d : Answer) → x ≡ y → Alike a b → Alike c d → Alike (pick x a c) (pick y b d)
    pick_both true true a b c d e h k = h
    pick_both false false a b c d e h k = k
    pick_both true false a b c d e h k = let z : ◌≡◌ {A = ℕ} 0 1 = cc in absurd (omega arith)
    pick_both false true a b c d e h k = let z : ◌≡◌ {A = ℕ} 0 1 = cc in absurd (omega arith)

    pub alike : (rs : List Read) → Goes rs
    unfolding run
    alike [] f s u p h k c = record { refusal = refl; taken = k ∙ sym h; opcode = refl }
    alike (num j ∷ rs) f s u p h k c =
        then_both (p + bytes_of j) (reading j bs s) (reading j cs u) (run rs bs f) (run rs cs f) (reading_both j p s u h k) (λ v w x y. alike rs f v w (p + bytes_of j) x y c)
    alike (cond ∷ rs) f s u p h k c =
        let q : get_or cs u.taken 0 ≡ get_or bs s.taken 0 = ap (λ x. get_or cs x 0) k ∙ c.0 ∙ ap (λ x. get_or bs x 0) (sym h) in
        pick_both (ltb s.taken (length bs)) (ltb u.taken (length cs)) _ _ _ _ (ap₂ ltb (h ∙ sym k) (sym long))
        (rw q (judged_both (cond_of (get_or bs s.taken 0)) s u _ _ (k ∙ sym h)
        (λ o. alike rs (renamed o f) (past s) (past u) (p + 1) (ap (λ x. x + 1) h) (ap (λ x. x + 1) k) c.1)))
        (record { refusal = refl; taken = long; opcode = refl })
    alike (stop e ∷ rs) f s u p h k c = record { refusal = refl; taken = k ∙ sym h; opcode = refl }

-- no condition byte is in a part
module _ (f : Field) (bs cs : List ℕ) where
  abbrev pub Differ : Spans → Type 0
  Differ z = DifferIn (part_of f (parts_in z)) bs cs

  disp_length : (n : ℕ) (z : Spans) → (pick (eqb n 0) z (disp_next n z)).length ≡ z.length + n
  disp_length n z = pick_holds (λ y. y.length ≡ z.length + n) (eqb n 0) z (disp_next n z) (λ e. omega (arith, eqb-true n 0 e)) (λ e. refl)

  pub conditions : (rs : List Read) (z : Spans) → Standing z → Differ (follow rs z) → SameConditions bs cs rs z.length
  unfolding follow
  conditions [] z h d = tt
  conditions (num (disp n) ∷ rs) z h d = subst (SameConditions bs cs rs) (disp_length n z) (conditions rs _ (after_disp n z h) d)
  conditions (num (imm n) ∷ rs) z h d = conditions rs _ (imm_next_lem z.length n (parts_in z) h) d
  conditions (num imm20 ∷ rs) z h d = conditions rs _ (imm_next_lem z.length 3 (parts_in z) h) d
  conditions (cond ∷ rs) z h d =
      (d.elsewhere z.length ((stays_free rs (cond_next z) z.length (condition_free z h)).none f), conditions rs _ (cond_next_lem z.length (parts_in z) h) d)
  conditions (stop e ∷ rs) z h d = tt
