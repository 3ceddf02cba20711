-- Tests and counts over all codes: the first bytes that have rows, by 256 second bytes.
use Rattle.std.specs.Prelude.{ℕ, ◌+◌, Bool, true, List, [], ◌∷◌}
use Rattle.laws.specs.Choice.{both}
use Rattle.laws.specs.Range.{upto, how_many}
use Rattle.rows.specs.Groups.{Group, groups}

abbrev pub every_first : (ℕ → Bool) → List Group → Bool
every_first f [] = true
every_first f (g ∷ gs) = both (f g.byte) (every_first f gs)

abbrev total_first : (ℕ → ℕ) → List Group → ℕ
total_first f [] = 0
total_first f (g ∷ gs) = f g.byte + total_first f gs

unfoldable pub every_code : (ℕ → ℕ → Bool) → Bool
unfolding upto groups
every_code f = every_first (λ a. upto (f a) 256) groups

unfoldable pub count_codes : (ℕ → ℕ → Bool) → ℕ
unfolding how_many groups
count_codes f = total_first (λ a. how_many (f a) 256) groups

-- what is stated of each first byte, as one tuple
abbrev pub EachFirst : (ℕ → Type 0) → List Group → Type 0
EachFirst P [] = Unit {0}
EachFirst P (g ∷ gs) = P g.byte × EachFirst P gs
