-- Bytes over those of a list, the others as they were.
use Rattle.std.specs.Prelude.{ℕ, List, ◌++◌, length, take, drop}

-- over the first
abbrev pub over : List ℕ → List ℕ → List ℕ
over xs l = xs ++ drop (length xs) l

-- from a place on
abbrev pub put : ℕ → List ℕ → List ℕ → List ℕ
put at xs l = take at l ++ over xs (drop at l)
