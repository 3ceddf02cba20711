-- The two readings know the same first bytes, of which every changed code has one; and which row a code has in each.
-- Assumes nothing.
use Prim.Native.Nat.{ℕ, ◌/◌, ◌%◌, ◌<◌}
use mathlib.Core.Path.{◌≡◌, refl, sym, ◌∙◌}
use mathlib.Core.Bool.{Bool, true, false, false≢true}
use Rattle.laws.specs.Choice.{pick, both}
use Rattle.laws.proofs.Agree.{agree}
use Rattle.rows.specs.Row.{Row}
use Rattle.rows.specs.Groups.{known, document01}
use Rattle.by_manual.specs.Changed.{Change, stays, becomes, change_at}
use Rattle.by_manual.specs.Lists.{is_changed}
use Rattle.by_manual.specs.Table.{changed, by_manual, table_by}
use Rattle.decode_changed.specs.steps.Rows.{new_row}
use Rattle.decode.specs.steps.Rows.{row_by}

pub known_by : (m : Bool) (a : ℕ) → known a ≡ (table_by m).known a
known_by true a = refl
known_by false a = refl

none_unknown : (h n a : ℕ) → a < 256 → pick (known a) false (is_changed (change_at a h n)) ≡ false
unfolding known change_at
none_unknown h n = agree (λ a. pick (known a) false (is_changed (change_at a h n))) (λ a. false) 256 refl

pub changed_known : (h n a : ℕ) → a < 256 → is_changed (change_at a h n) ≡ true → known a ≡ true
changed_known h n a l e = by (known a) (none_unknown h n a l)
  where
    by : (x : Bool) → pick x false (is_changed (change_at a h n)) ≡ false → x ≡ true
    by true k = refl
    by false k = absurd (false≢true (sym k ∙ e))

kept : (c : Change) (r : Row) → is_changed c ≡ false → r ≡ changed c r
kept stays r e = refl
kept (becomes w) r e = absurd (false≢true (sym e))

pub row_kept : (a b : ℕ) → is_changed (change_at a (b / 16) (b % 16)) ≡ false → document01.row_at a b ≡ by_manual.row_at a b
row_kept a b = kept (change_at a (b / 16) (b % 16)) (document01.row_at a b)

pub row_by_lem : (m : Bool) (a b : ℕ) → row_by (change_at a (b / 16) (b % 16)) m (document01.row_at a b) ≡ (table_by m).row_at a b
row_by_lem true a b = by (change_at a (b / 16) (b % 16))
  where
    by : (c : Change) → row_by c true (document01.row_at a b) ≡ changed c (document01.row_at a b)
    by stays = refl
    by (becomes w) = refl
row_by_lem false a b = by (change_at a (b / 16) (b % 16))
  where
    by : (c : Change) → row_by c false (document01.row_at a b) ≡ document01.row_at a b
    by stays = refl
    by (becomes w) = refl

-- a changed row, if the manual's reading is meant
pub chosen : (c : Change) (m : Bool) (r : Row) → row_by c m r ≡ pick (both m (is_changed c)) (new_row c) r
chosen stays true r = refl
chosen stays false r = refl
chosen (becomes w) true r = refl
chosen (becomes w) false r = refl

pub row_own : (c : Change) (m : Bool) (r : Row) → is_changed c ≡ false → r ≡ row_by c m r
row_own stays m r e = refl
row_own (becomes w) m r e = absurd (false≢true (sym e))
