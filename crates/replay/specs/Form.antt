-- Lines as pictures: # stands for a hex digit, any other character for itself.
use Rattle.std.specs.Prelude.{◌≡◌, ℕ, ◌<◌, ◌≤◌, Bool, true, List, length, ◌==◌, slice_index}
use Rattle.laws.specs.Choice.{pick}
use Rattle.replay.specs.Hex.{is_digit}

-- a character fits the one of the form in its place; 35 is the #
abbrev pub fits_at : ℕ → ℕ → Bool
fits_at f c = pick (f == 35) (is_digit c) (c == f)

-- a text has the 49 characters of a form
pub record Has (form s : List ℕ) : Type 0 where
  pub long : length s ≡ 49
  pub fitting : (k : ℕ) → k < 49 → fits_at (slice_index form k) (slice_index s k) ≡ true

-- and says that it gives so many bytes, of which there are not more than it has room for
pub record Gives (form : List ℕ) (given most : ℕ) (s : List ℕ) : Type 0 where
  pub formed : Has form s
  pub few : given ≤ most
