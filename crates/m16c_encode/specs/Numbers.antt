-- What m16c_encode and m16c_encode_manual do with the numbers that are passed in.
use Rattle.std.specs.Prelude.{ℕ, List}
use Rattle.rows.specs.Row.{Table}
use Rattle.from_numbers.specs.Made.{record_of}
use Rattle.encode_rules.specs.Written.{Left, Encodes}

-- numbers encoded by a table into a buffer from a place on: demand 3 of the record that they make
abbrev pub EncodesNumbers : Table → List ℕ → List ℕ → ℕ → Left → Type 0
EncodesNumbers t ns buf place out = Encodes t (record_of ns) buf place out
