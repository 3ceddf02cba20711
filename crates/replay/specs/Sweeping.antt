-- A line with an image to sweep by a rule: which text is one, the image that it gives, and when it is right.
use Rattle.std.specs.Prelude.{◌≡◌, ℕ, zero, suc, ◌/◌, ◌%◌, ◌≤◌, List, [], ◌∷◌, ◌++◌, length, take, replicate, ◌==◌}
use Rattle.laws.specs.Choice.{pick}
use Rattle.rows.specs.Groups.{document01}
use Rattle.sweep.specs.Sweep.{Sweeps}
use Rattle.sweep.specs.declared.Rule.{Rule}
use Rattle.sweep.specs.declared.Rule.TheVariants.{GoOn, Stop}
use Rattle.sweep.specs.Swept.{Swept}
use Rattle.laws.specs.Text.{spelled}
use Rattle.replay.specs.Form.{Gives}
use Rattle.replay.specs.Hex.{digit_at, byte_at, word_at, bytes_at}

-- bytes given, sixteen bytes; bytes read, refused places or stopping place, refusal; a bit for each start
abbrev pub form_of : Rule → List ℕ
form_of GoOn = spelled "G################################## ## ## # ####\n"
form_of Stop = spelled "S################################## ## ## # ####\n"

-- the texts that are such a line: not more bytes are given than the sixteen there
abbrev pub Whole : Rule → List ℕ → Type 0
Whole rule s = Gives (form_of rule) (byte_at s 1) 16 s

-- the bytes given
abbrev pub image_in : List ℕ → List ℕ
image_in s = take (byte_at s 1) (bytes_at 16 s 3)

-- going on, the place is the image's end, and the line tells how many were refused; stopping, it tells the place, and none is counted
abbrev pub place_in : Rule → List ℕ → ℕ
place_in GoOn s = byte_at s 1
place_in Stop s = byte_at s 39

abbrev pub refused_in : Rule → List ℕ → ℕ
refused_in GoOn s = byte_at s 39
refused_in Stop s = 0

-- the places of the bits that are set among a word's low n, the highest of them place 0
unfoldable pub places : ℕ → ℕ → List ℕ
places zero w = []
places (suc n) w = places n (w / 2) ++ pick (w % 2 == 1) (n ∷ []) []

-- the starts that the line tells
abbrev pub starts_in : List ℕ → List ℕ
starts_in s = places 16 (word_at s 44)

-- what the line says that the sweep returns, but for the count, which the starts tell
abbrev pub swept_in : Rule → List ℕ → (count : ℕ) → Swept
swept_in rule s n = record { refusal = digit_at s 42; count = n; place = place_in rule s; refused = refused_in rule s; read = byte_at s 36 }

-- the first n entries, of at least as many, are these
pub record Begins (n : ℕ) (entries these : List ℕ) : Type 0 where
  pub enough : n ≤ length entries
  pub same : take n entries ≡ these

-- the sweep of the image, passed sixteen zeros, returns what the line says, and leaves starts that begin with those that it tells
pub record Right (rule : Rule) (s : List ℕ) : Type 0 where
  pub after : List ℕ
  pub sweeps : Sweeps document01 rule (image_in s) (replicate 16 0) (swept_in rule s (length (starts_in s))) after
  pub starts : Begins (length (starts_in s)) after (starts_in s)
