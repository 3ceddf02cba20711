-- A walk by either rule is a run first: the stopping walk from its place; then, by the rule of going on, the walk behind the refused place.
-- Assumes nothing.
use Prim.Native.Nat.{ℕ, ◌+◌, ◌-◌, ◌≤◌, ◌<◌}
use mathlib.Core.Path.{◌≡◌, refl, sym, ap, ◌∙◌}
use mathlib.Core.List.{List, ◌∷◌}
use native.Mathlib.Omega.{arith}
use lib.ListN.{length, set, length-set}
use Rattle.laws.specs.Over.{put}
use Rattle.laws.proofs.Over.{put_none, put_one}
use Rattle.record.specs.Answer.{Answer}
use Rattle.sweep.specs.declared.Rule.{Rule}
use Rattle.sweep.specs.declared.Rule.TheVariants.{GoOn, Stop}
use Rattle.sweep.specs.Step.{Step}
use Rattle.sweep.specs.Step.{End, Accepted, Refused}
use Rattle.sweep.specs.Walk.{step_at, Walk, last, more, Onward, stop, on, onward, walk}
use Rattle.sweep.specs.Sweep.{is_accepted, places, last_place, last_step, refusal_of, total, taken, Outcome}
use Rattle.sweep.specs.steps.Before.{outcome_in, behind}
use Rattle.sweep.proofs.Walk.{Advances, never, Told, told, along}
use Rattle.sweep.proofs.Before.{counted, here_counted}

-- of a step at which the stopping rule stops: with no refusal it is the image's end, where both rules stop
at_end : (rule : Rule) (bs : List ℕ) (q : ℕ) (s : Step) → Told bs q s → onward Stop q s ≡ stop → refusal_of s ≡ 0 → onward rule q s ≡ stop
at_end rule bs q End h o z = refl
at_end rule bs q (Accepted r t) h o z = absurd (never (sym o))
at_end rule bs q (Refused e t) h o z = absurd (h.2 z)

-- with a refusal it is inside the image, and going on leads one byte on
refused_inside : (bs : List ℕ) (q : ℕ) (s : Step) → Told bs q s → (refusal_of s ≡ 0 → ⊥) → q < length bs
refused_inside bs q End h z = absurd (z refl)
refused_inside bs q (Accepted r t) h z = h.0
refused_inside bs q (Refused e t) h z = h.0

one_on : (q : ℕ) (s : Step) (walk : ℕ → Walk) (n m d : ℕ) (ss : List ℕ) → (refusal_of s ≡ 0 → ⊥)
    → counted q s (onward GoOn q s) walk n m d ss ≡ behind (walk (q + 1)) n (m + 1) d ss
one_on q End walk n m d ss z = absurd (z refl)
one_on q (Accepted r t) walk n m d ss z = absurd (z refl)
one_on q (Refused e t) walk n m d ss z = refl

-- a run told e, k, q and the starts behind it, of a sweep by a rule whose answer is x, with m refused places before and d bytes read, the
-- run's among them: what is left of it
pub record Continues (rule : Rule) (walk : ℕ → Walk) (bs : List ℕ) (x : Outcome) (m d e k q : ℕ) (after : List ℕ) : Type 0 where
  pub ended : e ≡ 0 → outcome_in 0 k q m d after ≡ x
  pub stopped : rule ≡ Stop → outcome_in e k q m d after ≡ x
  pub inside : (e ≡ 0 → ⊥) → q < length bs
  pub passed : rule ≡ GoOn → (e ≡ 0 → ⊥) → behind (walk (q + 1)) k (m + 1) d after ≡ x

module _ {reading : List ℕ → Answer} (advances : Advances reading) (bs : List ℕ) where
  -- the last step of a stopping walk
  last_step_lem : (p : ℕ) → let w = walk reading Stop bs p in (last_step w ≡ step_at reading bs (last_place w)) × (onward Stop (last_place w) (last_step w) ≡ stop)
  last_step_lem =
      along advances bs Stop (λ p w. (last_step w ≡ step_at reading bs (last_place w)) × (onward Stop (last_place w) (last_step w) ≡ stop))
      (λ p s e o. (e, o)) (λ p q s w u e o h. h)

  module _ (rule : Rule) where
    -- the place where a stopping walk w stops, and the walk by the rule from where that leads
    abbrev then : Walk → ℕ → ℕ → ℕ → List ℕ → Outcome
    then w n m d ss =
        counted (last_place w) (last_step w) (onward rule (last_place w) (last_step w)) (walk reading rule bs) (n + length (places is_accepted w)) m (d + total taken w)
        (put n (places is_accepted w) ss)

    -- a walk by either rule is the stopping walk first
    run_counted : (p n m d : ℕ) (ss : List ℕ) → n + (length bs - p) ≤ length ss → behind (walk reading rule bs p) n m d ss ≡ then (walk reading Stop bs p) n m d ss
    run_counted =
        along advances bs Stop (λ p w. (n m d : ℕ) (ss : List ℕ) → n + (length bs - p) ≤ length ss → behind (walk reading rule bs p) n m d ss ≡ then w n m d ss) stops leads
      where
        stops : (p : ℕ) (s : Step) → s ≡ step_at reading bs p → onward Stop p s ≡ stop → (n m d : ℕ) (ss : List ℕ) → n + (length bs - p) ≤ length ss
            → behind (walk reading rule bs p) n m d ss ≡ then (last p s) n m d ss
        stops p s e o n m d ss room =
            let k : n ≡ n + 0 = omega arith in
            here_counted advances bs rule p n m d ss room e refl ∙ λ i. counted p s (onward rule p s) (walk reading rule bs) (k i) m (d + taken s) (sym (put_none n ss) i)

        leads : (p q : ℕ) (s : Step) (w : Walk) → w ≡ walk reading Stop bs q → s ≡ step_at reading bs p → onward Stop p s ≡ on q
            → ((n m d : ℕ) (ss : List ℕ) → n + (length bs - q) ≤ length ss → behind (walk reading rule bs q) n m d ss ≡ then w n m d ss)
            → (n m d : ℕ) (ss : List ℕ) → n + (length bs - p) ≤ length ss → behind (walk reading rule bs p) n m d ss ≡ then (more p s w) n m d ss
        leads p q End w u e o h n m d ss room = absurd (never o)
        leads p q (Refused x t) w u e o h n m d ss room = absurd (never o)
        leads p q (Accepted r t) w u e o h n m d ss room =
            let l = told advances bs p e in
            let z : p + t ≡ q = cc in
            let k : n + 1 + length (places is_accepted w) ≡ n + length (p ∷ places is_accepted w) = omega arith in
            let sum : d + t + total taken w ≡ d + (t + total taken w) = omega arith in
            here_counted advances bs rule p n m d ss room e o ∙ h (n + 1) m (d + t) (set ss n p) (rw length-set (omega arith))
            ∙ λ i. counted (last_place w) (last_step w) (onward rule (last_place w) (last_step w)) (walk reading rule bs) (k i) m (sum i)
            (sym (put_one n ss p (places is_accepted w) (omega arith)) i)

    -- a run from p that read r bytes, with n starts, m refused places and d bytes read before, f with the run's
    module _ (p n m d : ℕ) (ss : List ℕ) (room : n + (length bs - p) ≤ length ss) {e k q r f : ℕ} {after : List ℕ}
        (ran : outcome_in e k q 0 r after ≡ behind (walk reading Stop bs p) n 0 0 ss) (sum : d + r ≡ f) where
      abbrev step : Step
      step = last_step (walk reading Stop bs p)

      refusal : e ≡ refusal_of step
      refusal = ap (λ x. x.swept.refusal) ran

      place : q ≡ last_place (walk reading Stop bs p)
      place = ap (λ x. x.swept.place) ran

      there : Told bs q step
      there = told advances bs q ((last_step_lem p).0 ∙ ap (step_at reading bs) (sym place))

      stops_there : onward Stop q step ≡ stop
      stops_there = ap (λ z. onward Stop z step) place ∙ (last_step_lem p).1

      read : f ≡ d + total taken (walk reading Stop bs p)
      read = omega (arith, ap (λ x. x.swept.read) ran)

      moved : {o : Onward} → onward rule q step ≡ o → counted q step o (walk reading rule bs) k m f after ≡ behind (walk reading rule bs p) n m d ss
      moved leads =
          ap (λ o. counted q step o (walk reading rule bs) k m f after) (sym leads)
          ∙ (λ i. counted (place i) step (onward rule (place i) step) (walk reading rule bs) (ap (λ x. x.swept.count) ran i) m (read i) (ap (λ x. x.starts) ran i))
          ∙ sym (run_counted p n m d ss room)

      stays : onward rule q step ≡ stop → outcome_in e k q m f after ≡ behind (walk reading rule bs p) n m d ss
      stays leads = ap (λ x. outcome_in x k q m f after) refusal ∙ moved leads

      pub continues : {x : Outcome} → behind (walk reading rule bs p) n m d ss ≡ x → Continues rule (walk reading rule bs) bs x m f e k q after
      continues whole = record {
        ended = λ z. ap (λ y. outcome_in y k q m f after) (sym z) ∙ stays (at_end rule bs q step there stops_there (sym refusal ∙ z)) ∙ whole;
        stopped = λ s. stays (ap (λ x. onward x q step) s ∙ stops_there) ∙ whole;
        inside = λ z. refused_inside bs q step there (λ y. z (refusal ∙ y));
        passed = λ g z. sym (one_on q step (walk reading rule bs) k m f after (λ y. z (refusal ∙ y))) ∙ moved (ap (λ x. onward x q step) g) ∙ whole;
      }
