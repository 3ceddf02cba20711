-- Where the entry of a code stands in the table, and what it tells.
use Rattle.std.specs.Prelude.{ℕ, suc, ◌*◌, ◌/◌, ◌%◌, Bool, List, [], ◌∷◌, get_or, eqb, leb}
use Rattle.laws.specs.Choice.{pick, both, either}
use Rattle.rows.specs.Groups.{known}
use Rattle.rows.specs.Lists.{one_of}
use Rattle.lengths.specs.steps.Table.{sharing, table}

-- the first row that a first byte shares
abbrev pub place_in : List (List ℕ) → ℕ → ℕ
place_in [] a = 0
place_in (firsts ∷ more) a = pick (one_of firsts a) 0 (suc (place_in more a))

unfoldable pub place : ℕ → ℕ
place = place_in sharing

-- a length by its digit, or eight times a refusal by its letter
abbrev pub value_of : ℕ → ℕ
value_of c = pick (leb c 57) (c % 16) (8 * (c % 16))

-- the characters that the table has: a digit up to 7, B and C
abbrev pub is_entry : ℕ → Bool
is_entry c = either (both (leb 48 c) (leb c 55)) (either (eqb c 66) (eqb c 67))

-- by a row's place and a second byte
unfoldable pub character : ℕ → ℕ → ℕ
unfolding table
character p b = get_or (get_or table p []) b 0

abbrev pub entry_at : ℕ → ℕ → ℕ
entry_at p b = value_of (character p b)

abbrev pub refusal_in : ℕ → ℕ
refusal_in x = x / 8

abbrev pub length_in : ℕ → ℕ
length_in x = x % 8

-- what is refused where no byte follows the first, and where there is none
unfoldable pub too_few : List ℕ → ℕ
too_few [] = 1
too_few (a ∷ bs) = pick (known a) 1 4

-- the entry of a code, 0 where the first byte is outside
unfoldable pub entry_of : ℕ → ℕ → ℕ
entry_of a b = pick (known a) (entry_at (place a) b) 0
