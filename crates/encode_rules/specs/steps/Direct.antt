-- A direct encoder's shape: a function of the key names one code, and the code's bytes are the answer.
use Rattle.std.specs.Prelude.{ℕ, ◌≡◌, Bool, true, List, [], ◌∷◌, ltb}
use Rattle.laws.specs.Choice.{pick, both}
use Rattle.record.specs.declared.Key.{Key}
use Rattle.rows.specs.Row.{Row, Table}
use Rattle.rows.specs.Fate.{reach}
use Rattle.encode_rules.specs.Says.{First, Found, bytes, none}
use Rattle.encode_rules.specs.steps.Search.{bytes_by}
use Rattle.encode_rules.specs.steps.Can.{can}

pub data Choice : Type 0 where
  code : ℕ → ℕ → Choice
  nothing : Choice

-- what codes are compared by: the bytes read behind them, first byte, second byte
abbrev pub rank : Row → ℕ → ℕ → List ℕ
rank w a b = reach w.reads ∷ a ∷ b ∷ []

module _ (t : Table) where
  -- a code that there is
  abbrev pub there : ℕ → ℕ → Bool
  there a b = both (ltb a 256) (both (ltb b 256) (t.known a))

  -- and that can encode the key
  unfoldable pub able : ℕ → ℕ → Key → Bool
  able a b k = both (there a b) (can (t.row_at a b) k)

  -- the chosen code's bytes, if it can
  unfoldable pub taken : Choice → Key → Found
  taken (code a b) k = pick (able a b k) (bytes (bytes_by t a b k)) none
  taken nothing k = none

  -- the choice is a code that can, and comes no later than the code a b
  abbrev pub Beats : Choice → ℕ → ℕ → Key → Type 0
  Beats (code x y) a b k = (able x y k ≡ true) × First (rank (t.row_at x y) x y) (rank (t.row_at a b) a b)
  Beats nothing a b k = ⊥
