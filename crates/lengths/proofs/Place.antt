-- The place of a first byte's row: a known one has a row.
-- Assumes nothing.
use Prim.Native.Nat.{ℕ, ◌<◌}
use mathlib.Core.Path.{◌≡◌}
use mathlib.Core.Bool.{true}
use lib.Dec.{T, ltb, ltb→lt}
use Rattle.rows.specs.All.{every_first}
use Rattle.rows.specs.Groups.{groups, known}
use Rattle.rows.proofs.All.{every_first_lem}
use Rattle.lengths.specs.steps.Table.{rows}
use Rattle.lengths.specs.steps.Entry.{place}

all_below : T (every_first (λ a. ltb (place a) rows) groups)
unfolding groups place
all_below = tt

pub below : (a : ℕ) → known a ≡ true → place a < rows
below a e = ltb→lt (place a) rows (every_first_lem (λ a. ltb (place a) rows) all_below a e)
