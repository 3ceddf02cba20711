-- What stands at a place, in numbers; the law of a turn: a walk is the step here and the walk from where it leads; and by it what holds
-- along a walk.
-- Assumes nothing.
use Prim.Native.Nat.{ℕ, zero, suc, ◌+◌, ◌-◌, ◌≤◌, ◌<◌}
use mathlib.Core.Path.{◌≡◌, refl, sym, ap, subst, ◌∙◌}
use mathlib.Core.Bool.{Bool, true, false, false≢true}
use mathlib.Core.List.{List}
use native.Mathlib.Omega.{arith}
use lib.Dec.{leb, eqb}
use lib.ListN.{length, drop, length-drop}
use borrow.Author.Tests.{leb-true, leb-false, eqb-true, eqb-false, le-leb}
use Rattle.record.specs.Answer.{Answer}
use Rattle.rows.specs.Row.{Table}
use Rattle.rows.specs.Run.{decode_by}
use Rattle.rows.proofs.Taken.{counted}
use Rattle.rows.proofs.Length.{at_least}
use Rattle.sweep.specs.declared.Rule.{Rule}
use Rattle.sweep.specs.declared.Rule.TheVariants.{GoOn, Stop}
use Rattle.sweep.specs.Step.{Step}
use Rattle.sweep.specs.Step.{End, Accepted, Refused}
use Rattle.sweep.specs.Walk.{step_at, Walk, last, more, Onward, stop, on, onward, visit, go, walk}
use Rattle.sweep.specs.Sweep.{is_accepted}
use Rattle.sweep.specs.Visits.{bytes_of}

-- what a walk asks of a reading: where it accepts, it takes a byte at least and no more than are left
pub record Advances (reading : List ℕ → Answer) : Type 0 where
  pub some : (bs : List ℕ) → (reading bs).refusal ≡ 0 → 1 ≤ (reading bs).taken
  pub within : (bs : List ℕ) → (reading bs).taken ≤ length bs

-- a walk does not both stop and go on
pub never : {q : ℕ} → stop ≡ on q → ⊥
never e = let z : ◌≡◌ {A = ℕ} 0 1 = cc in omega arith

-- a step in numbers
abbrev pub Told : List ℕ → ℕ → Step → Type 0
Told bs p End = length bs ≤ p
Told bs p (Accepted r t) = (p < length bs) × (1 ≤ t) × (t ≤ length bs - p)
Told bs p (Refused e t) = (p < length bs) × (t ≤ length bs - p) × (e ≡ 0 → ⊥)

pub accepted_inside : (bs : List ℕ) (p : ℕ) (s : Step) → Told bs p s → is_accepted s ≡ true → p < length bs
accepted_inside bs p End h e = absurd (false≢true e)
accepted_inside bs p (Accepted r t) h e = h.0
accepted_inside bs p (Refused x t) h e = h.0

-- the bytes of a place are inside the image
pub bytes_left : (bs : List ℕ) (p : ℕ) (s : Step) → Told bs p s → bytes_of s ≤ length bs - p
bytes_left bs p End h = omega arith
bytes_left bs p (Accepted r t) h = h.2
bytes_left bs p (Refused e t) h = omega (arith, h.0)

-- the answer that a step comes from
abbrev pub From : Answer → Step → Type 0
From x End = Unit {0}
From x (Accepted r t) = x.refusal ≡ 0
From x (Refused e t) = (x.refusal ≡ 0 → ⊥) × (x.refusal ≡ e) × (x.taken ≡ t)

pub from : (reading : List ℕ → Answer) (bs : List ℕ) (p : ℕ) {s : Step} → s ≡ step_at reading bs p → From (reading (drop p bs)) s
unfolding step_at
from reading bs p e = subst (From x) (sym e) (by (leb (length bs) p) (eqb x.refusal 0) refl refl)
  where
    x : Answer
    x = reading (drop p bs)

    by : (a b : Bool) → leb (length bs) p ≡ a → eqb x.refusal 0 ≡ b → From x (step_at reading bs p)
    by true b e f = rw e tt
    by false true e f = rw (e, f) (eqb-true _ 0 f)
    by false false e f = rw (e, f) (eqb-false _ 0 f, refl, refl)

module _ {reading : List ℕ → Answer} (advances : Advances reading) (bs : List ℕ) where
  pub told : (p : ℕ) {s : Step} → s ≡ step_at reading bs p → Told bs p s
  unfolding step_at
  told p e = subst (Told bs p) (sym e) (by (leb (length bs) p) (eqb x.refusal 0) refl refl)
    where
      x : Answer
      x = reading (drop p bs)

      by : (a b : Bool) → leb (length bs) p ≡ a → eqb x.refusal 0 ≡ b → Told bs p (step_at reading bs p)
      by true b e f = rw e (leb-true _ _ e)
      by false true e f = rw (e, f) (omega (arith, leb-false), advances.some (drop p bs) (eqb-true _ 0 f), rw length-drop at (advances.within (drop p bs)))
      by false false e f = rw (e, f) (omega (arith, leb-false), rw length-drop at (advances.within (drop p bs)), eqb-false _ 0 f)

  pub end : (p : ℕ) → length bs ≤ p → step_at reading bs p ≡ End
  unfolding step_at
  end p h = rw (le-leb _ _ h)

  module _ (rule : Rule) where
    -- where a step leads lies behind it, inside the image or at its end
    pub further : (p q : ℕ) (s : Step) → Told bs p s → onward rule p s ≡ on q → (p < q) × (q ≤ length bs)
    further p q End h e = absurd (never e)
    further p q (Accepted r t) h e = let z : p + t ≡ q = cc in omega arith
    further p q (Refused r t) h e = by rule e
      where
        by : (rule : Rule) → onward rule p (Refused r t) ≡ on q → (p < q) × (q ≤ length bs)
        by GoOn e = let z : p + 1 ≡ q = cc in omega arith
        by Stop e = absurd (never e)

    same : (p : ℕ) (s : Step) {f g : ℕ → Walk} (o : Onward) → ((q : ℕ) → o ≡ on q → f q ≡ g q) → visit p s o f ≡ visit p s o g
    same p s stop h = refl
    same p s (on q) h = ap (more p s) (h q refl)

    at_end : (k p : ℕ) → length bs ≤ p → go reading rule bs k p ≡ last p End
    unfolding go
    at_end zero p h = refl
    at_end (suc k) p h = rw (end p h)

    -- more turns than there are bytes left change nothing
    enough : (k m p : ℕ) → length bs - p ≤ k → length bs - p ≤ m → go reading rule bs k p ≡ go reading rule bs m p
    unfolding go
    enough zero m p h g = sym (at_end m p (omega arith))
    enough (suc k) zero p h g = at_end (suc k) p (omega arith)
    enough (suc k) (suc m) p h g =
        same p (step_at reading bs p) (onward rule p (step_at reading bs p)) (λ q e. let l = further p q (step_at reading bs p) (told p refl) e in enough k m q (omega arith) (omega arith))

    -- the walk from a place is the step there, and the walk from where it leads
    pub turned : (p : ℕ) {s : Step} → s ≡ step_at reading bs p → walk reading rule bs p ≡ visit p s (onward rule p s) (walk reading rule bs)
    unfolding go walk
    turned p {s} e = by (length bs - p) refl
      where
        by : (k : ℕ) → length bs - p ≡ k → go reading rule bs k p ≡ visit p s (onward rule p s) (walk reading rule bs)
        by zero f = rw (e ∙ end p (omega arith))
        by (suc k) f =
            ap (λ z. visit p z (onward rule p z) (go reading rule bs k)) (sym e)
            ∙ same p s (onward rule p s) (λ q g. let l = further p q s (told p e) g in enough k (length bs - q) q (omega arith) (omega arith))

    -- what holds at the places where a walk stops, and at a place if it holds where that leads, holds of every walk
    pub along : (P : ℕ → Walk → Type 0)
        → ((p : ℕ) (s : Step) → s ≡ step_at reading bs p → onward rule p s ≡ stop → P p (last p s))
        → ((p q : ℕ) (s : Step) (w : Walk) → w ≡ walk reading rule bs q → s ≡ step_at reading bs p → onward rule p s ≡ on q → P q w → P p (more p s w))
        → (p : ℕ) → P p (walk reading rule bs p)
    along P stops leads p = from (length bs - p) p (omega arith)
      where
        here : ℕ → Step
        here p = step_at reading bs p

        by : (p : ℕ) (o : Onward) → onward rule p (here p) ≡ o → ((q : ℕ) → o ≡ on q → P q (walk reading rule bs q)) → P p (visit p (here p) o (walk reading rule bs))
        by p stop e later = stops p (here p) refl e
        by p (on q) e later = leads p q (here p) (walk reading rule bs q) refl refl e (later q refl)

        from : (k p : ℕ) → length bs - p ≤ k → P p (walk reading rule bs p)
        from zero p h = subst (P p) (sym (turned p (sym (end p (omega arith))))) (stops p End (sym (end p (omega arith))) refl)
        from (suc k) p h =
            subst (P p) (sym (turned p refl))
            (by p (onward rule p (here p)) refl (λ q e. let l = further p q (here p) (told p refl) e in from k q (omega arith)))

-- decoding by any table
pub by_table : (t : Table) → Advances (decode_by t)
by_table t = record { some = λ bs z. let l = at_least t bs z in omega arith; within = λ bs. (counted t bs).within }
