-- Demand 3: what encoding returns, and what it leaves of the buffer that was passed in.
use Rattle.std.specs.Prelude.{ℕ, ◌+◌, ◌≡◌, List, ◌++◌, length, take, drop, leb}
use Rattle.laws.specs.Choice.{pick}
use Rattle.record.specs.declared.Record.{Record}
use Rattle.rows.specs.Row.{Table}
use Rattle.encode_rules.specs.Says.{Found, bytes, none, Right}

-- the number, the length, and each byte of the buffer
pub record Left : Type 0 where
  pub no : ℕ
  pub length : ℕ
  pub buffer : List ℕ

abbrev pub outcome : ℕ → ℕ → List ℕ → Left
outcome number n bs = record { no = number; length = n; buffer = bs }

-- 5 comes before 6; a place past the end leaves no room even for no bytes, and no answer has fewer than two
unfoldable pub written : Found → List ℕ → ℕ → Left
written none bs place = outcome 5 0 bs
written (bytes xs) bs place =
    pick (leb (place + length xs) (length bs)) (outcome 0 (length xs) (take place bs ++ (xs ++ drop (place + length xs) bs))) (outcome 6 0 bs)

-- a record encoded by a table into a buffer from a place on: what is found is right by the table's rows, and is what is written
pub record Encodes (t : Table) (r : Record) (buf : List ℕ) (place : ℕ) (out : Left) : Type 0 where
  pub found : Found
  pub right : Right t r found
  pub leaves : out ≡ written found buf place
