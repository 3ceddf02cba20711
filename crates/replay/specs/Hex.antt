-- The value of upper-case hex digits, in ASCII: 0 to 9 are 48 to 57, A to F are 65 to 70.
use Rattle.std.specs.Prelude.{ℕ, zero, suc, ◌+◌, ◌-◌, ◌*◌, Bool, List, [], ◌∷◌, nat_le, slice_index}
use Rattle.laws.specs.Choice.{pick, both, either}

unfoldable pub is_digit : ℕ → Bool
is_digit c = either (both (nat_le 48 c) (nat_le c 57)) (both (nat_le 65 c) (nat_le c 70))

-- of a character that is no digit 0
unfoldable pub digit_of : ℕ → ℕ
digit_of c = pick (is_digit c) (pick (nat_le c 57) (c - 48) (c - 65 + 10)) 0

-- the number that the one, two, four or eight digits at a place spell
abbrev pub digit_at : List ℕ → ℕ → ℕ
digit_at s at = digit_of (slice_index s at)

abbrev pub byte_at : List ℕ → ℕ → ℕ
byte_at s at = 16 * digit_at s at + digit_at s (at + 1)

abbrev pub word_at : List ℕ → ℕ → ℕ
word_at s at = 256 * byte_at s at + byte_at s (at + 2)

abbrev pub long_at : List ℕ → ℕ → ℕ
long_at s at = 65536 * word_at s at + word_at s (at + 4)

-- so many bytes from a place on
abbrev pub bytes_at : ℕ → List ℕ → ℕ → List ℕ
bytes_at zero s at = []
bytes_at (suc n) s at = byte_at s at ∷ bytes_at n s (at + 2)
