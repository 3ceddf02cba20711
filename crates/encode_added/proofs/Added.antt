-- The changed rows whose code goes by their names, as a table of their own: the choice among them is right there.
-- Assumes nothing.
use Prim.Native.Nat.{ℕ, ◌/◌, ◌%◌, ◌<◌}
use mathlib.Core.Path.{◌≡◌, refl, ap}
use mathlib.Core.Bool.{Bool, true, false, false≢true}
use lib.Dec.{T, eqb}
use Rattle.laws.specs.Choice.{pick, both}
use Rattle.laws.specs.Range.{upto}
use Rattle.record.specs.declared.Opcode.{Opcode}
use Rattle.record.specs.declared.Key.{Key}
use Rattle.record.specs.Same.{among, field_of, base_of}
use Rattle.rows.specs.Codes.{cond_of}
use Rattle.rows.specs.Row.{InvalidOpcode, Row, Table}
use Rattle.rows.specs.Rows.{row, refused}
use Rattle.rows.specs.Groups.{known, document01}
use Rattle.by_manual.specs.Changed.{Change, stays, becomes, change_at}
use Rattle.by_manual.specs.Table.{changed, by_manual}
use Rattle.by_manual.specs.Lists.{on_changed, every_changed}
use Rattle.by_manual.proofs.Each.{every_changed_lem}
use Rattle.encode_rules.specs.steps.Search.{cond_byte, disps, imms, conds, live, aim}
use Rattle.encode_rules.specs.steps.Can.{fits, can}
use Rattle.encode_rules.specs.steps.Direct.{Choice, nothing, able, Beats}
use Rattle.encode_rules.proofs.Bools.{so}
use Rattle.encode_choice.specs.declared.Asked.{Asked}
use Rattle.encode_choice.specs.steps.Choose.{asked, drops_zero, place}
use Rattle.encode_choice.specs.steps.Coarse.{whole, coarse, regular, row_test, code_test}
use Rattle.encode_choice.specs.steps.Coded.{is_wide}
use Rattle.encode_choice.proofs.Chosen.{asked_steady}
use Rattle.encode_choice.proofs.Coarse.{beats}
use Rattle.encode_added.specs.steps.Entries.{Codes, named, below8, nibble, entry_of, goes, goes_as}

-- in place of all other rows
abbrev pub outside : Row
outside = refused InvalidOpcode

-- operand 0's number is part of the code
abbrev pub number_in_code : Row → Bool
number_in_code w = both (is_wide (field_of w.face.op0)) (eqb (imms w.reads) 0)

abbrev pub kept : Row → Row
kept w = pick (number_in_code w) outside w

abbrev pub row_by : Change → Row
row_by stays = outside
row_by (becomes w) = kept w

-- (its first bytes are all that are known)
abbrev pub added : Table
added = record { known = known; row_at = λ a b. row_by (change_at a (b / 16) (b % 16)) }

-- a test that passes outside and at the changed rows passes at each of its codes
pub each_added : (f : ℕ → ℕ → Row → Bool) → ((a b : ℕ) → f a b outside ≡ true) → T (every_changed (λ a b w. f a b (kept w))) → (a b : ℕ) → b < 256 → f a b (added.row_at a b) ≡ true
each_added f out t a b l = by (change_at a (b / 16) (b % 16)) (every_changed_lem (λ a b w. f a b (kept w)) b l t a)
  where
    by : (c : Change) → T (on_changed (λ w. f a b (kept w)) c) → f a b (row_by c) ≡ true
    by stays u = out a b
    by (becomes w) u = so _ u

-- its live rows are those of the reading by the manual
pub added_within : (a b : ℕ) → known a ≡ true → b < 256 → live (added.row_at a b) ≡ true → added.row_at a b ≡ by_manual.row_at a b
unfolding row
added_within a b k l v = by (change_at a (b / 16) (b % 16)) refl v
  where
    by : (c : Change) → change_at a (b / 16) (b % 16) ≡ c → live (row_by c) ≡ true → row_by c ≡ changed c (document01.row_at a b)
    by stays e v = absurd (false≢true v)
    by (becomes w) e v = sub (number_in_code w) v
      where
        sub : (n : Bool) → live (pick n outside w) ≡ true → pick n outside w ≡ w
        sub true v = absurd (false≢true v)
        sub false v = refl

-- the choice among them
abbrev pub by_names : Codes → Asked → Choice
by_names (named f) q = f q
by_names (below8 a b step) q = nothing
by_names nibble q = nothing

unfoldable pub added_by : Opcode → Asked → Choice
added_by o q = pick (goes o q) (by_names (entry_of o).codes q) nothing

abbrev pub choose_added : Key → Choice
choose_added k = added_by k.opcode (asked k)

regularly : ℕ → ℕ → Row → Bool
regularly a b w = regular w

all_regular : T (every_changed (λ a b w. regularly a b (kept w)))
unfolding every_changed regularly regular row imms field_of base_of whole
all_regular = tt

regulars : (a b : ℕ) → known a ≡ true → b < 256 → regular (added.row_at a b) ≡ true
unfolding regularly regular row
regulars a b k l = each_added regularly (λ a b. refl) all_regular a b l

testing : ℕ → ℕ → Row → Bool
testing a b w = row_test added choose_added a b w

all_tested : T (every_changed (λ a b w. testing a b (kept w)))
unfolding every_changed testing upto row change_at known added_by entry_of goes_as can fits aim drops_zero among place cond_of cond_byte disps imms conds field_of base_of whole
all_tested = tt

tested : (a b : ℕ) → known a ≡ true → b < 256 → code_test added choose_added a b ≡ true
unfolding testing code_test row
tested a b k l = each_added testing (λ a b. refl) all_tested a b l

steady : (k : Key) → choose_added (coarse k) ≡ choose_added k
steady k = ap (added_by k.opcode) (asked_steady k)

pub added_beats : (a b : ℕ) (k : Key) → able added a b k ≡ true → Beats added (choose_added k) a b k
added_beats = beats added choose_added regulars tested steady
