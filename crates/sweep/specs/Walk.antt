-- Document 01, the sweep, and request A1: what stands at a place of an image, and a walk from place to place by a rule.
use Rattle.std.specs.Prelude.{ℕ, zero, suc, ◌+◌, ◌-◌, List, length, drop, leb, eqb}
use Rattle.laws.specs.Choice.{pick}
use Rattle.record.specs.Answer.{Answer}
use Rattle.sweep.specs.declared.Rule.{Rule}
use Rattle.sweep.specs.declared.Rule.TheVariants.{GoOn, Stop}
use Rattle.sweep.specs.Step.{Step}
use Rattle.sweep.specs.Step.{End, Accepted, Refused}

-- what an answer makes of a place: 0 is no refusal
abbrev pub answered : Answer → Step
answered x = pick (eqb x.refusal 0) (Accepted x.inst x.taken) (Refused x.refusal x.taken)

-- at the end nothing is decoded
unfoldable pub step_at : (List ℕ → Answer) → List ℕ → ℕ → Step
step_at reading bs p = pick (leb (length bs) p) End (answered (reading (drop p bs)))

-- the places that a walk visits, in order, with the step at each
pub data Walk : Type 0 where
  last : ℕ → Step → Walk
  more : ℕ → Step → Walk → Walk

-- from a place a walk stops there, or goes on at another
pub data Onward : Type 0 where
  stop : Onward
  on : ℕ → Onward

-- request A1: a refused place leads one byte on; document 01's rule stops at it
abbrev pub past_refused : Rule → ℕ → Onward
past_refused GoOn p = on (p + 1)
past_refused Stop p = stop

-- the bytes taken lead from an accepted place to the next, by both rules
abbrev pub onward : Rule → ℕ → Step → Onward
onward rule p End = stop
onward rule p (Accepted r t) = on (p + t)
onward rule p (Refused e t) = past_refused rule p

-- a place and its step, and the walk from where it leads
abbrev pub visit : ℕ → Step → Onward → (ℕ → Walk) → Walk
visit p s stop walk = last p s
visit p s (on q) walk = more p s (walk q)

-- by any reading
module _ (reading : List ℕ → Answer) (rule : Rule) (bs : List ℕ) where
  -- with at most so many places visited before the end
  unfoldable pub go : ℕ → ℕ → Walk
  go zero p = last p End
  go (suc k) p = visit p (step_at reading bs p) (onward rule p (step_at reading bs p)) (go k)

  -- from a place on: as many as there are bytes left are enough, by `turned` of proofs/Walk
  unfoldable pub walk : ℕ → Walk
  walk p = go (length bs - p) p
