-- The places that a walk visits, by any reading: each is what stands there, they rise, and they are counted.
-- Assumes nothing.
use Prim.Native.Nat.{ℕ, ◌+◌, ◌≤◌, ◌<◌}
use mathlib.Core.Path.{◌≡◌, refl, subst}
use mathlib.Core.List.{List}
use native.Mathlib.Omega.{arith}
use lib.ListN.{length}
use Rattle.record.specs.Answer.{Answer}
use Rattle.sweep.specs.declared.Rule.{Rule}
use Rattle.sweep.specs.Step.{Step}
use Rattle.sweep.specs.Step.{End, Accepted, Refused}
use Rattle.sweep.specs.Walk.{step_at, Walk, last, more, stop, on, onward, walk}
use Rattle.sweep.specs.Sweep.{is_accepted, is_refused, places, last_step, total}
use Rattle.sweep.specs.Visits.{Visits, at_last, here, later, Rises, one, then, passed, decodings}
use Rattle.sweep.proofs.Walk.{Advances, never, told, further, along}

-- the accepted places, those refused and passed, and the one where the walk stops if it was decoded
pub counted : (w : Walk) → total decodings w ≡ length (places is_accepted w) + length (places is_refused w) + decodings (last_step w)
counted (last p s) = omega arith
counted (more p End w) = omega (arith, counted w)
counted (more p (Accepted r t) w) = omega (arith, counted w)
counted (more p (Refused e t) w) = omega (arith, counted w)

module _ {reading : List ℕ → Answer} (advances : Advances reading) (bs : List ℕ) (rule : Rule) where
  -- what is visited from p on stands there, at p or behind
  pub visited : (p q : ℕ) (s : Step) → Visits (walk reading rule bs p) q s → (s ≡ step_at reading bs q) × (p ≤ q)
  visited = along advances bs rule (λ p w. (q : ℕ) (s : Step) → Visits w q s → (s ≡ step_at reading bs q) × (p ≤ q)) stops leads
    where
      stops : (p : ℕ) (s : Step) → s ≡ step_at reading bs p → onward rule p s ≡ stop → (k : ℕ) (t : Step) → Visits (last p s) k t → (t ≡ step_at reading bs k) × (p ≤ k)
      stops p s e o k t at_last = (e, omega arith)

      leads : (p q : ℕ) (s : Step) (w : Walk) → w ≡ walk reading rule bs q → s ≡ step_at reading bs p → onward rule p s ≡ on q
          → ((k : ℕ) (t : Step) → Visits w k t → (t ≡ step_at reading bs k) × (q ≤ k)) → (k : ℕ) (t : Step) → Visits (more p s w) k t → (t ≡ step_at reading bs k) × (p ≤ k)
      leads p q s w u e o h k t here = (e, omega arith)
      leads p q s w u e o h k t (later v) = ((h k t v).0, omega (arith, (h k t v).1, further advances bs rule p q s (told advances bs p e) o))

  pub rises : (p : ℕ) → Rises (walk reading rule bs p)
  rises = along advances bs rule (λ p w. Rises w) (λ p s e o. one) (λ p q s w u e o h. then (behind p q s w u e o) h)
    where
      behind : (p q : ℕ) (s : Step) (w : Walk) → w ≡ walk reading rule bs q → s ≡ step_at reading bs p → onward rule p s ≡ on q → (k : ℕ) (t : Step) → Visits w k t → p < k
      behind p q s w u e o k t v = omega (arith, (visited q k t (subst (λ z. Visits z k t) u v)).1, further advances bs rule p q s (told advances bs p e) o)

  -- each place from which the walk goes on was accepted or refused
  pub passed_each : (p : ℕ) → let w = walk reading rule bs p in length (passed w) ≡ length (places is_accepted w) + length (places is_refused w)
  passed_each = along advances bs rule (λ p w. length (passed w) ≡ length (places is_accepted w) + length (places is_refused w)) (λ p s e o. refl) leads
    where
      leads : (p q : ℕ) (s : Step) (w : Walk) → w ≡ walk reading rule bs q → s ≡ step_at reading bs p → onward rule p s ≡ on q
          → length (passed w) ≡ length (places is_accepted w) + length (places is_refused w)
          → length (passed (more p s w)) ≡ length (places is_accepted (more p s w)) + length (places is_refused (more p s w))
      leads p q End w u e o h = absurd (never o)
      leads p q (Accepted r t) w u e o h = omega (arith, h)
      leads p q (Refused x t) w u e o h = omega (arith, h)
