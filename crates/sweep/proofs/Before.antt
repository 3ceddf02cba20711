-- How a step, and how a run of them, moves the outcome on that a walk has with starts kept, refused places passed and bytes read before it.
-- Assumes nothing.
use Prim.Native.Nat.{ℕ, ◌+◌, ◌-◌, ◌≤◌, ◌<◌}
use mathlib.Core.Path.{◌≡◌, refl, ap, ◌∙◌}
use mathlib.Core.Bool.{true}
use mathlib.Core.List.{List}
use native.Mathlib.Omega.{arith}
use lib.ListN.{length, set}
use Rattle.laws.proofs.Over.{put_none, put_one}
use Rattle.record.specs.Answer.{Answer}
use Rattle.sweep.specs.declared.Rule.{Rule}
use Rattle.sweep.specs.Step.{Step}
use Rattle.sweep.specs.Step.{End, Accepted, Refused}
use Rattle.sweep.specs.Walk.{step_at, Walk, Onward, stop, on, onward, visit, walk}
use Rattle.sweep.specs.Sweep.{is_accepted, places, refusal_of, taken, Outcome, outcome_of}
use Rattle.sweep.specs.steps.Before.{outcome_in, behind}
use Rattle.sweep.proofs.Walk.{Advances, told, accepted_inside, turned}

alike : {e n k p m l d f : ℕ} {ss ts : List ℕ} → n ≡ k → m ≡ l → d ≡ f → ss ≡ ts → outcome_in e n p m d ss ≡ outcome_in e k p l f ts
alike {e = e} {p = p} a b c z i = outcome_in e (a i) p (b i) (c i) (z i)

pub none_before : (w : Walk) (ss : List ℕ) → behind w 0 0 0 ss ≡ outcome_of w ss
none_before w ss = alike (omega arith) (omega arith) (omega arith) refl

-- the step at a place, kept or counted, and the walk from where it leads; d bytes were read, the step's among them
abbrev pub counted : ℕ → Step → Onward → (ℕ → Walk) → ℕ → ℕ → ℕ → List ℕ → Outcome
counted p s stop walk n m d ss = outcome_in (refusal_of s) n p m d ss
counted p End (on q) walk n m d ss = behind (walk q) n m d ss
counted p (Accepted r t) (on q) walk n m d ss = behind (walk q) (n + 1) m d (set ss n p)
counted p (Refused e t) (on q) walk n m d ss = behind (walk q) n (m + 1) d ss

step_counted : (p : ℕ) (s : Step) (o : Onward) (walk : ℕ → Walk) (n m d : ℕ) (ss : List ℕ) → (is_accepted s ≡ true → n < length ss)
    → behind (visit p s o walk) n m d ss ≡ counted p s o walk n m (d + taken s) ss
step_counted p s stop walk n m d ss room = alike (omega arith) (omega arith) refl (put_none n ss)
step_counted p End (on q) walk n m d ss room = alike refl refl (omega arith) refl
step_counted p (Accepted r t) (on q) walk n m d ss room = alike (omega arith) refl (omega arith) (put_one n ss p (places is_accepted (walk q)) (room refl))
step_counted p (Refused e t) (on q) walk n m d ss room = alike refl (omega arith) (omega arith) refl

module _ {reading : List ℕ → Answer} (advances : Advances reading) (bs : List ℕ) where
  -- by a rule, with an entry for each byte from a place on
  module _ (rule : Rule) where
    -- the step there, and the walk from where it leads
    pub here_counted : (p n m d : ℕ) (ss : List ℕ) {s : Step} {o : Onward} → n + (length bs - p) ≤ length ss → s ≡ step_at reading bs p → onward rule p s ≡ o
        → behind (walk reading rule bs p) n m d ss ≡ counted p s o (walk reading rule bs) n m (d + taken s) ss
    here_counted p n m d ss {s} {o} room e leads =
        ap (λ w. behind w n m d ss) (turned advances bs rule p e ∙ ap (λ z. visit p s z (walk reading rule bs)) leads)
        ∙ step_counted p s o (walk reading rule bs) n m d ss (λ a. omega (arith, accepted_inside bs p s (told advances bs p e) a))
