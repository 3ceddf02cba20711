-- What the two rules have to do with each other, by any reading.
-- Assumes nothing.
use Prim.Native.Nat.{ℕ}
use mathlib.Core.Path.{◌≡◌, refl, sym, ap, ◌∙◌}
use mathlib.Core.Bool.{true, false}
use mathlib.Core.List.{List, [], ◌∷◌}
use Rattle.laws.specs.Choice.{pick}
use Rattle.record.specs.Answer.{Answer}
use Rattle.sweep.specs.declared.Rule.TheVariants.{GoOn, Stop}
use Rattle.sweep.specs.Step.{Step}
use Rattle.sweep.specs.Step.{End, Accepted, Refused}
use Rattle.sweep.specs.Walk.{step_at, Walk, last, more, stop, on, onward, visit, walk}
use Rattle.sweep.specs.Sweep.{is_accepted, is_refused, places, last_step, refusal_of}
use Rattle.sweep.specs.Visits.{passed}
use Rattle.sweep.proofs.Walk.{Advances, never, told, turned, along}

module _ {reading : List ℕ → Answer} (advances : Advances reading) (bs : List ℕ) where
  -- what the stopping rule passes was accepted, so it counts no refused place
  accepted_only : (p q : ℕ) (s : Step) → onward Stop p s ≡ on q → (is_accepted s ≡ true) × (is_refused s ≡ false)
  accepted_only p q End e = absurd (never e)
  accepted_only p q (Accepted r t) e = (refl, refl)
  accepted_only p q (Refused x t) e = absurd (never e)

  pub counts_none : (p : ℕ) → places is_refused (walk reading Stop bs p) ≡ []
  counts_none =
      along advances bs Stop (λ p w. places is_refused w ≡ []) (λ p s e o. refl)
      (λ p q s w u e o h. ap (λ z. pick z (p ∷ places is_refused w) (places is_refused w)) (accepted_only p q s o).1 ∙ h)

  pub passes_starts : (p : ℕ) → passed (walk reading Stop bs p) ≡ places is_accepted (walk reading Stop bs p)
  passes_starts =
      along advances bs Stop (λ p w. passed w ≡ places is_accepted w) (λ p s e o. refl)
      (λ p q s w u e o h. ap (λ z. p ∷ z) h ∙ ap (λ z. pick z (p ∷ places is_accepted w) (places is_accepted w)) (sym (accepted_only p q s o).0))

  -- where the stopping walk comes to the image's end, going on visits the same places
  pub same_walk : (p : ℕ) → refusal_of (last_step (walk reading Stop bs p)) ≡ 0 → walk reading GoOn bs p ≡ walk reading Stop bs p
  same_walk = along advances bs Stop (λ p w. refusal_of (last_step w) ≡ 0 → walk reading GoOn bs p ≡ w) at_last further
    where
      at_last : (p : ℕ) (s : Step) → s ≡ step_at reading bs p → onward Stop p s ≡ stop → refusal_of s ≡ 0 → walk reading GoOn bs p ≡ last p s
      at_last p End e o z = turned advances bs GoOn p e
      at_last p (Accepted r t) e o z = absurd (never (sym o))
      at_last p (Refused x t) e o z = absurd ((told advances bs p e).2 z)

      further : (p q : ℕ) (s : Step) (w : Walk) → w ≡ walk reading Stop bs q → s ≡ step_at reading bs p → onward Stop p s ≡ on q
          → (refusal_of (last_step w) ≡ 0 → walk reading GoOn bs q ≡ w) → refusal_of (last_step w) ≡ 0 → walk reading GoOn bs p ≡ more p s w
      further p q End w u e o h z = absurd (never o)
      further p q (Accepted r t) w u e o h z =
          turned advances bs GoOn p e ∙ ap (λ k. visit p (Accepted r t) k (walk reading GoOn bs)) o ∙ ap (more p (Accepted r t)) (h z)
      further p q (Refused x t) w u e o h z = absurd (never o)
