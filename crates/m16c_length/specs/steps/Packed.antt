-- The table of lengths in words, one for each second byte.
use Rattle.std.specs.Prelude.{ℕ, ◌+◌, ◌*◌, ◌/◌, ◌%◌, ◌^◌, List, [], ◌∷◌, get_or}
use Rattle.laws.specs.Choice.{pick}
use Rattle.rows.specs.Groups.{known}
use Rattle.lengths.specs.steps.Table.{table}
use Rattle.lengths.specs.steps.Entry.{place, value_of}

-- the entries of a second byte, five bits for each, that of the first row lowest
abbrev pub packed : List (List ℕ) → ℕ → ℕ
packed [] b = 0
packed (cs ∷ css) b = value_of (get_or cs b 0) + 32 * packed css b

unfoldable pub word_at : ℕ → ℕ
unfolding table
word_at = packed table

-- from a bit on
abbrev pub field_at : ℕ → ℕ → ℕ
field_at w s = w / 2 ^ s % 32

-- the lowest bit of a first byte's entry; of one outside the highest bit of a word, which is 0 in all
unfoldable pub shift_of : ℕ → ℕ
shift_of a = pick (known a) (5 * place a) 63
