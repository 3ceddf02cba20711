-- Which first bytes are decoded, and the rows of each: those of document 01, then those of request A7.
use Rattle.std.specs.Prelude.{ℕ, ◌+◌, ◌/◌, ◌%◌, Bool, true, false, List, [], ◌∷◌, eqb}
use Rattle.laws.specs.Choice.{pick}
use Rattle.record.specs.declared.Opcode.TheVariants.{PUSHM, POPM}
use Rattle.record.specs.declared.Width.TheVariants.{B, W}
use Rattle.rows.specs.Row.{InvalidOpcode, Row, Table}
use Rattle.rows.specs.Codes.{no_pair, num_J}
use Rattle.rows.specs.Rows.{row, refused, row74, row76, row78, row_7A, row_7B, row_E, row_7C, row_7CF, row_7D, row_7DC, row_7DD, row_7DF, row_7E, row_EB, row_EB_low}
use Rattle.rows.specs.Pairs.{two, Pair, pairs}
use Rattle.rows.specs.RegisterList.{list}

-- a first byte and its rows
pub record Group : Type 0 where
  pub byte : ℕ
  pub rows : ℕ → ℕ → Row

abbrev group : ℕ → (ℕ → ℕ → Row) → Group
group a r = record { byte = a; rows = r }

-- request A7: even is width B, odd W
unfoldable pub both_widths : List Pair → List Group → List Group
both_widths [] gs = gs
both_widths (p ∷ ps) gs = group p.even (two p.opcode B) ∷ group (p.even + 1) (two p.opcode W) ∷ both_widths ps gs

-- the first bytes (to unfold this is to unfold all rows; of the functions only that which is asked for is computed)
unfoldable pub groups : List Group
unfolding no_pair num_J row row74 row76 row78 row_7A row_7B row_E row_7C row_7CF row_7D row_7DC row_7DD row_7DF row_7E row_EB row_EB_low two both_widths list
groups =
    group 0x74 (row74 B) ∷ group 0x75 (row74 W)
    ∷ group 0x76 (row76 B) ∷ group 0x77 (row76 W)
    ∷ group 0x78 (row78 B) ∷ group 0x79 (row78 W)
    ∷ group 0x7A row_7A
    ∷ group 0x7B row_7B
    ∷ group 0x7C row_7C
    ∷ group 0x7D row_7D
    ∷ group 0x7E row_7E
    ∷ group 0xEB row_EB
    ∷ group 0xEC (list PUSHM) ∷ group 0xED (list POPM)
    ∷ both_widths pairs []

abbrev pub known_in : List Group → ℕ → Bool
known_in [] a = false
known_in (g ∷ gs) a = pick (eqb a g.byte) true (known_in gs a)

abbrev pub rows_in : List Group → ℕ → ℕ → ℕ → Row
rows_in [] a = λ h n. refused InvalidOpcode
rows_in (g ∷ gs) a = pick (eqb a g.byte) g.rows (rows_in gs a)

unfoldable pub known : ℕ → Bool
unfolding groups
known = known_in groups

unfoldable pub rows_of : ℕ → ℕ → ℕ → Row
unfolding groups
rows_of = rows_in groups

-- the table that is decoded by
abbrev pub document01 : Table
document01 = record { known = known; row_at = λ a b. rows_of a (b / 16) (b % 16) }
