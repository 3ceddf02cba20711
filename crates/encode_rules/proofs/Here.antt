-- Every row of both readings is plain, so `best` is right for document 01.
-- Assumes nothing.
use Prim.Native.Nat.{ℕ, ◌<◌}
use mathlib.Core.Path.{◌≡◌}
use mathlib.Core.Bool.{Bool, true, false}
use lib.Dec.{T}
use Rattle.record.specs.declared.Record.{Record}
use Rattle.record.specs.Same.{field_of, key}
use Rattle.rows.specs.All.{every_code}
use Rattle.rows.specs.Groups.{known, rows_of, document01}
use Rattle.rows.specs.Row.{Row}
use Rattle.rows.proofs.All.{every_code_lem}
use Rattle.by_manual.specs.Table.{table_by}
use Rattle.by_manual.specs.Lists.{every_changed}
use Rattle.by_manual.proofs.Each.{each_tested}
use Rattle.encode_rules.specs.Says.{Right}
use Rattle.encode_rules.specs.steps.Search.{disps, imms, conds, tidy, plain, best}
use Rattle.encode_rules.proofs.Bools.{so}
use Rattle.encode_rules.proofs.Optimal.{optimal}

plain_at : ℕ → ℕ → Row → Bool
plain_at a b w = plain w

all_plain : T (every_code (λ a b. plain_at a b (document01.row_at a b)))
unfolding every_code plain_at rows_of plain tidy disps imms conds field_of
all_plain = tt

changed_plain : T (every_changed plain_at)
unfolding every_changed plain_at plain tidy disps imms conds field_of
changed_plain = tt

here : (a b : ℕ) → known a ≡ true → b < 256 → T (plain_at a b (document01.row_at a b))
here a b e l = every_code_lem (λ a b. plain_at a b (document01.row_at a b)) all_plain b l a e

pub plains : (a b : ℕ) → known a ≡ true → b < 256 → plain (document01.row_at a b) ≡ true
unfolding plain_at
plains a b e l = so _ (here a b e l)

pub plains_by : (r : Bool) (a b : ℕ) → (table_by r).known a ≡ true → b < 256 → plain ((table_by r).row_at a b) ≡ true
unfolding plain_at
plains_by false a b e l = plains a b e l
plains_by true a b e l = so _ (each_tested plain_at changed_plain here a b e l)

pub by_search : (r : Record) → Right document01 r (best document01 (key r))
by_search = optimal document01 plains
