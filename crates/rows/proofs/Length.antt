-- How long an accepted instruction is, for any row table: at least two bytes, and at most two more than its rows read.
-- Assumes nothing.
use Prim.Native.Nat.{ℕ, ◌+◌, ◌≤◌, ◌<◌}
use mathlib.Core.Path.{◌≡◌}
use mathlib.Core.Bool.{Bool, true, false}
use mathlib.Core.List.{List, [], ◌∷◌}
use native.Mathlib.Omega.{arith}
use lib.ListN.{get_or}
use Rattle.laws.specs.Choice.{pick}
use Rattle.laws.proofs.Choice.{pick_holds}
use Rattle.rows.specs.Row.{Table}
use Rattle.rows.specs.Fate.{reach}
use Rattle.rows.specs.Groups.{document01}
use Rattle.rows.specs.Run.{refusal, run_row, begun, decode_by, decode_rows}
use Rattle.rows.proofs.Along.{Events, along}
use Rattle.rows.proofs.Taken.{row_counted}
use Rattle.rows.proofs.Counts.{five}

events : (bs : List ℕ) → Events bs (λ rs n x. x.taken ≤ n + reach rs)
events bs = record {
  ends = λ n x l z t h. omega arith;
  goes_on = λ k rs n x l h. omega arith;
  runs_out = λ k rs n l s. omega arith;
  names = λ rs n x l h. omega arith;
  names_none = λ rs n l. omega arith;
  no_condition_lem = λ rs n e. omega arith;
  stops = λ e rs n l. omega arith;
}

module _ (t : Table) (m : ℕ) (far : (a b : ℕ) → t.known a ≡ true → b < 256 → reach (t.row_at a b).reads ≤ m) where
  -- accepted or refused
  pub at_most : (bs : List ℕ) → get_or bs 1 0 < 256 → (decode_by t bs).taken ≤ 2 + m
  unfolding decode_by run_row
  at_most [] l = omega arith
  at_most (a ∷ []) l = pick_holds (λ x. x.taken ≤ 2 + m) (t.known a) (refusal 1 1) (refusal 4 1) (λ e. omega arith) (λ e. omega arith)
  at_most (a ∷ b ∷ bs) l =
      pick_holds (λ x. x.taken ≤ 2 + m) (t.known a) _ (refusal 4 1)
      (λ e. omega (arith, along (events (a ∷ b ∷ bs)) (t.row_at a b).reads (t.row_at a b).face (begun (t.row_at a b).number) (omega arith), far a b e l))
      (λ e. omega arith)

-- an accepted instruction has its first two bytes
module _ (t : Table) where
  pub at_least : (bs : List ℕ) → (decode_by t bs).refusal ≡ 0 → 2 ≤ (decode_by t bs).taken
  unfolding decode_by
  at_least [] = λ z. absurd (omega arith)
  at_least (a ∷ []) = by (t.known a)
    where
      by : (k : Bool) → (pick k (refusal 1 1) (refusal 4 1)).refusal ≡ 0 → 2 ≤ (pick k (refusal 1 1) (refusal 4 1)).taken
      by true z = absurd (omega arith)
      by false z = absurd (omega arith)
  at_least (a ∷ b ∷ bs) = by (t.known a)
    where
      by : (k : Bool) → (pick k (run_row (t.row_at a b) (a ∷ b ∷ bs)) (refusal 4 1)).refusal ≡ 0 → 2 ≤ (pick k (run_row (t.row_at a b) (a ∷ b ∷ bs)) (refusal 4 1)).taken
      by true z = (row_counted (t.row_at a b) a b bs).grown
      by false z = absurd (omega arith)

-- document 01: accepted lengths are 2 to 7, and a refusal takes no more
pub two_to_seven : (bs : List ℕ) → get_or bs 1 0 < 256 → (decode_rows bs).refusal ≡ 0 → (2 ≤ (decode_rows bs).taken) × ((decode_rows bs).taken ≤ 7)
two_to_seven bs l z = (at_least document01 bs z, at_most document01 5 five bs l)

pub seven : (bs : List ℕ) → get_or bs 1 0 < 256 → (decode_rows bs).taken ≤ 7
seven = at_most document01 5 five
