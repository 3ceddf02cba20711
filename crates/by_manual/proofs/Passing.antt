-- Tests that every code of both readings passes: how far rows read, how late they refuse, and where their numbers stand.
-- Assumes nothing.
use Prim.Native.Nat.{ℕ, ◌/◌, ◌%◌, ◌≤◌, ◌<◌}
use mathlib.Core.Path.{◌≡◌, subst}
use mathlib.Core.Bool.{Bool, true, false}
use mathlib.Core.List.{List}
use lib.Dec.{T, leb, leb→le}
use lib.ListN.{get_or}
use Rattle.laws.specs.Choice.{both}
use Rattle.laws.proofs.Choice.{both_left}
use Rattle.rows.specs.Row.{Row}
use Rattle.rows.specs.Groups.{groups, known, rows_of}
use Rattle.rows.specs.All.{every_first}
use Rattle.rows.specs.Fate.{reach, most_taken}
use Rattle.rows.specs.Run.{decode_by}
use Rattle.rows.specs.Spans.{spans_of}
use Rattle.rows.proofs.All.{every_first_lem}
use Rattle.rows.proofs.Depth.{kept, within, Passes, codes_pass}
use Rattle.rows.proofs.Late.{Spaced, spaced, firsts_spaced}
use Rattle.rows.proofs.Length.{at_most, at_least}
use Rattle.rows.proofs.Plain.{plain_spans, Plain, passed, plain_at_lem}
use Rattle.by_manual.specs.Changed.{becomes, change_at}
use Rattle.by_manual.specs.Table.{by_manual, table_by}
use Rattle.by_manual.specs.Lists.{on_changed, every_changed}
use Rattle.by_manual.proofs.Each.{each_row, each_tested, every_changed_lem}

-- no row reads more than five bytes behind its second, or refuses later than document 01's
short : ℕ → ℕ → Row → Bool
short a b w = both (leb (reach w.reads) 5) (kept most_taken 2 w.reads)

all_short : T (every_changed short)
unfolding every_changed short
all_short = tt

pub codes_passed : (m : Bool) → Passes (table_by m)
unfolding within short
codes_passed false = codes_pass
codes_passed true = each_tested short all_short codes_pass

-- so accepted lengths are 2 to 7, and a refusal takes no more
fives : (m : Bool) (a b : ℕ) → (table_by m).known a ≡ true → b < 256 → reach ((table_by m).row_at a b).reads ≤ 5
unfolding within
fives m a b k l = leb→le _ 5 (both_left (leb (reach ((table_by m).row_at a b).reads) 5) _ (codes_passed m a b k l))

pub seven_by : (m : Bool) (bs : List ℕ) → get_or bs 1 0 < 256 → (decode_by (table_by m) bs).taken ≤ 7
seven_by m = at_most (table_by m) 5 (fives m)

pub two_to_seven_by : (m : Bool) (bs : List ℕ) → get_or bs 1 0 < 256 → (decode_by (table_by m) bs).refusal ≡ 0 → (2 ≤ (decode_by (table_by m) bs).taken) × ((decode_by (table_by m) bs).taken ≤ 7)
two_to_seven_by m bs l z = (at_least (table_by m) bs z, seven_by m bs l)

-- request A13: what follows a late refusal
all_spaced : T (every_first (λ a. every_first (spaced by_manual a) groups) groups)
unfolding groups spaced within known rows_of change_at
all_spaced = tt

pub spaced_by : (m : Bool) → Spaced (table_by m)
spaced_by false = firsts_spaced
spaced_by true = λ a b e f. every_first_lem (spaced by_manual a) (every_first_lem (λ a. every_first (spaced by_manual a) groups) all_spaced a e) b f

-- request A5: the parts of a row's numbers
plainly : ℕ → ℕ → Row → Bool
plainly a b w = plain_spans a b (spans_of w)

all_plain : T (every_changed plainly)
unfolding every_changed plainly plain_spans spans_of
all_plain = tt

changed_plain : (a b : ℕ) (w : Row) → b < 256 → change_at a (b / 16) (b % 16) ≡ becomes w → Plain a b (spans_of w)
unfolding plainly
changed_plain a b w l e = passed a b (spans_of w) (subst (λ c. T (on_changed (plainly a b) c)) e (every_changed_lem plainly b l all_plain a))

pub plain_by : (m : Bool) (a b : ℕ) → (table_by m).known a ≡ true → b < 256 → Plain a b (spans_of ((table_by m).row_at a b))
plain_by false = plain_at_lem
plain_by true = each_row (λ a b w. Plain a b (spans_of w)) plain_at_lem changed_plain
