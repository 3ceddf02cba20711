-- The outcome of a walk with starts kept, refused places passed and bytes read before it, and what a run promises of it.
use Rattle.std.specs.Prelude.{ℕ, ◌+◌, ◌-◌, ◌≤◌, ◌≡◌, List, length, Option, Some, None}
use Rattle.record.specs.declared.refusal.Refused.{Refused}
use Rattle.record.specs.Answer.{number_of}
use Rattle.laws.specs.Over.{put}
use Rattle.rows.specs.Row.{Table}
use Rattle.rows.specs.Run.{decode_by}
use Rattle.sweep.specs.declared.Rule.TheVariants.{Stop}
use Rattle.sweep.specs.declared.Stopped.{Stopped}
use Rattle.sweep.specs.Walk.{Walk, walk}
use Rattle.sweep.specs.Sweep.{is_accepted, is_refused, places, last_place, last_step, refusal_of, total, taken, Outcome, outcome}

abbrev pub outcome_in : (refusal count place refused read : ℕ) → List ℕ → Outcome
outcome_in e n p m d ss = outcome (record { refusal = e; count = n; place = p; refused = m; read = d }) ss

-- with n starts in ss, m refused places and d bytes read before
abbrev pub behind : Walk → ℕ → ℕ → ℕ → List ℕ → Outcome
behind w n m d ss =
    outcome_in (refusal_of (last_step w)) (n + length (places is_accepted w)) (last_place w) (m + length (places is_refused w)) (d + total taken w)
    (put n (places is_accepted w) ss)

-- what a refusal tells of the bytes taken, where so many are left: 1 all of them, 4 one, any other one at least; 0 is the image's end
pub record Took (refusal taken left : ℕ) : Type 0 where
  pub none : refusal ≡ 0 → taken ≡ 0
  pub all : refusal ≡ 1 → taken ≡ left
  pub one : refusal ≡ 4 → taken ≡ 1
  pub some : (refusal ≡ 0 → ⊥) → 1 ≤ taken

-- what a run stopped at: 0 and no byte at the image's end
abbrev pub why_no : Option Refused → ℕ
why_no None = 0
why_no (Some e) = number_of e.why

abbrev pub taken_there : Option Refused → ℕ
taken_there None = 0
taken_there (Some e) = e.taken

-- a run from a place on, with starts kept before: the stopping walk from there, whose instructions took the bytes up to where it stops, and
-- no more starts than bytes
pub record Runs (t : Table) (image : List ℕ) (from kept : ℕ) (starts : List ℕ) (r : Stopped) (after : List ℕ) : Type 0 where
  pub walked : outcome_in (why_no r.refused) r.count r.place 0 (r.place - from + taken_there r.refused) after ≡ behind (walk (decode_by t) Stop image from) kept 0 0 starts
  pub long : length after ≡ length starts
  pub ahead : from ≤ r.place
  pub inside : r.place + taken_there r.refused ≤ length image
  pub took : Took (why_no r.refused) (taken_there r.refused) (length image - r.place)
  pub few : r.count + from ≤ r.place + kept
