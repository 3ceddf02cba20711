-- Document 01's sweep and request A1's, read off the walk by their rule and, by request A9, a table: the accepted places, how many were refused and passed, where and
-- why it stops, and by request A13 how many bytes its decodings took.
use Rattle.std.specs.Prelude.{ℕ, ◌+◌, ◌≡◌, Bool, true, false, List, [], ◌∷◌, length, ltb}
use Rattle.laws.specs.Choice.{pick}
use Rattle.laws.specs.Over.{over}
use Rattle.rows.specs.Row.{Table}
use Rattle.rows.specs.Run.{decode_by}
use Rattle.sweep.specs.declared.Rule.{Rule}
use Rattle.sweep.specs.Swept.{Swept, not_swept}
use Rattle.sweep.specs.Step.{Step}
use Rattle.sweep.specs.Step.{End, Accepted, Refused}
use Rattle.sweep.specs.Walk.{Walk, last, more, walk}

-- whether an instruction stands at a place, and whether a refusal does
abbrev pub is_accepted : Step → Bool
is_accepted End = false
is_accepted (Accepted r t) = true
is_accepted (Refused e t) = false

abbrev pub is_refused : Step → Bool
is_refused End = false
is_refused (Accepted r t) = false
is_refused (Refused e t) = true

-- the places from which a walk goes on and whose step is such, in their order
abbrev pub places : (Step → Bool) → Walk → List ℕ
places such (last p s) = []
places such (more p s w) = pick (such s) (p ∷ places such w) (places such w)

-- where a walk stops, and what stands there
abbrev pub last_place : Walk → ℕ
last_place (last p s) = p
last_place (more p s w) = last_place w

abbrev pub last_step : Walk → Step
last_step (last p s) = s
last_step (more p s w) = last_step w

-- the end is no refusal
abbrev pub refusal_of : Step → ℕ
refusal_of End = 0
refusal_of (Accepted r t) = 0
refusal_of (Refused e t) = e

-- a number of each visited place, all together
abbrev pub total : (Step → ℕ) → Walk → ℕ
total of (last p s) = of s
total of (more p s w) = of s + total of w

-- request A13: the bytes that the decoding at a place took, accepted or refused; at the end nothing is decoded
abbrev pub taken : Step → ℕ
taken End = 0
taken (Accepted r t) = t
taken (Refused e t) = t

-- what is returned, and the list of starts as it is left
pub record Outcome : Type 0 where
  pub swept : Swept
  pub starts : List ℕ

abbrev pub outcome : Swept → List ℕ → Outcome
outcome r ss = record { swept = r; starts = ss }

-- the starts are the accepted places, over the first entries; a place where the walk stops is not counted as refused, but what its decoding
-- took was read
abbrev pub outcome_of : Walk → List ℕ → Outcome
outcome_of w ss = outcome (record {
  refusal = refusal_of (last_step w);
  count = length (places is_accepted w);
  place = last_place w;
  refused = length (places is_refused w);
  read = total taken w;
}) (over (places is_accepted w) ss)

-- 7 for an image over 4,096 bytes, then 6 for fewer entries than bytes
unfoldable pub whole : Table → Rule → List ℕ → List ℕ → Outcome
whole t rule bs ss =
    pick (ltb 4096 (length bs)) (outcome (not_swept 7) ss)
    (pick (ltb (length ss) (length bs)) (outcome (not_swept 6) ss) (outcome_of (walk (decode_by t) rule bs 0) ss))

-- the promise: what is returned, and every entry of the starts as it is left
pub record Sweeps (t : Table) (rule : Rule) (image starts : List ℕ) (r : Swept) (after : List ℕ) : Type 0 where
  pub returned : r ≡ (whole t rule image starts).swept
  pub kept : after ≡ (whole t rule image starts).starts
