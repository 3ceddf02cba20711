-- The rows of request A7's first bytes: one law for all ten pairs, and one for both lists.
-- Assumes nothing.
use Prim.Native.Nat.{ℕ, ◌%◌, ◌<◌}
use mathlib.Core.Path.{◌≡◌, refl}
use mathlib.Core.Bool.{Bool, true}
use lib.Dec.{eqb}
use Rattle.laws.specs.Choice.{pick}
use Rattle.laws.proofs.Agree.{agree}
use Rattle.rows.specs.Row.{InvalidOpcode, Row}
use Rattle.rows.specs.Rows.{refused}
use Rattle.rows.specs.Pairs.{two}
use Rattle.rows.specs.RegisterList.{list}
use Rattle.rows.specs.Groups.{rows_of}
use Rattle.readers.specs.steps.Width.{width_of}
use Rattle.decode_72.specs.steps.Added.{is_two, is_list, opcode_of, list_opcode}

module _ (h n : ℕ) where
  abbrev pub two_at : ℕ → Row
  two_at a = two (opcode_of a) (width_of (eqb (a % 2) 0)) h n

  abbrev pub list_at : ℕ → Row
  list_at a = list (list_opcode a) h n

  -- a row where the test holds, and none elsewhere
  abbrev where_told : (ℕ → Bool) → (ℕ → Row) → ℕ → Row
  where_told test row a = pick (test a) (row a) (refused InvalidOpcode)

  -- rows that are the same in all 256 cases are so where the test holds
  there : (test : ℕ → Bool) (row : ℕ → Row) (a : ℕ) → where_told test (λ a. rows_of a h n) a ≡ where_told test row a → test a ≡ true → rows_of a h n ≡ row a
  there test row a told e = rw e at told

  told_two : (a : ℕ) → a < 256 → where_told is_two (λ a. rows_of a h n) a ≡ where_told is_two two_at a
  unfolding is_two rows_of two
  told_two = agree (where_told is_two (λ a. rows_of a h n)) (where_told is_two two_at) 256 refl

  told_list : (a : ℕ) → a < 256 → where_told is_list (λ a. rows_of a h n) a ≡ where_told is_list list_at a
  unfolding is_list rows_of list
  told_list = agree (where_told is_list (λ a. rows_of a h n)) (where_told is_list list_at) 256 refl

  pub two_rows : (a : ℕ) → a < 256 → is_two a ≡ true → rows_of a h n ≡ two_at a
  two_rows a l = there is_two two_at a (told_two a l)

  pub list_rows : (a : ℕ) → a < 256 → is_list a ≡ true → rows_of a h n ≡ list_at a
  list_rows a l = there is_list list_at a (told_list a l)
