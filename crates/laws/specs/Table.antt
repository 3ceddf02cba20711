-- A test at every entry of a list and its place.
use Rattle.std.specs.Prelude.{ℕ, suc, Bool, true, List, [], ◌∷◌}
use Rattle.laws.specs.Choice.{both}

-- places are counted from i
abbrev pub every : {A : Type 0} → (ℕ → A → Bool) → ℕ → List A → Bool
every f i [] = true
every f i (x ∷ xs) = both (f i x) (every f (suc i) xs)
