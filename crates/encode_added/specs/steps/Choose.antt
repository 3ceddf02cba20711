-- The choice of each reading: by the manual a changed row's code where the names are such a row's, and else document 01's choice.
use Rattle.std.specs.Prelude.{ℕ, ◌+◌, ◌*◌, ◌%◌, Bool, true, false, ltb, eqb}
use Rattle.laws.specs.Choice.{pick, both}
use Rattle.record.specs.declared.Record.{Record}
use Rattle.record.specs.declared.Opcode.{Opcode}
use Rattle.record.specs.declared.Key.{Key}
use Rattle.record.specs.Same.{key}
use Rattle.by_manual.specs.Table.{table_by}
use Rattle.encode_rules.specs.Says.{Found}
use Rattle.encode_rules.specs.steps.Direct.{Choice, code, nothing, taken}
use Rattle.encode_choice.specs.declared.Asked.{Asked}
use Rattle.encode_choice.specs.steps.Choose.{asked, choose_named}
use Rattle.encode_added.specs.steps.Entries.{Codes, named, below8, nibble, entry_of, goes}

-- a nibble sign-extended to 32 bits
abbrev pub extended : ℕ → ℕ
extended n = pick (ltb n 8) n (0xFFFFFFF0 + n)

-- the code of a number below 8, and of one from -8 to 7
abbrev pub below : ℕ → ℕ → ℕ → ℕ → Choice
below a b step n = pick (ltb n 8) (code a (b + step * n)) nothing

abbrev pub signed : ℕ → Choice
signed n = pick (eqb n (extended (n % 16))) (code 0x7D (0xB0 + n % 16)) nothing

-- the code of an entry; n is the number of operand 0
abbrev pub code_by : Codes → Asked → ℕ → Choice
code_by (named f) q n = f q
code_by (below8 a b step) q n = below a b step n
code_by nibble q n = signed n

-- the number is part of the code
abbrev pub is_numbered : Codes → Bool
is_numbered (named f) = false
is_numbered (below8 a b step) = true
is_numbered nibble = true

-- the reading takes a changed row
abbrev pub changes : Bool → Opcode → Asked → Bool
changes false o q = false
changes true o q = goes o q

-- the code for what is asked
unfoldable pub choose_by : Bool → Opcode → Asked → ℕ → Choice
choose_by r o q n = pick (changes r o q) (code_by (entry_of o).codes q n) (choose_named o q)

-- the code is all: no bytes follow, though the name of operand 0 may ask for some
unfoldable pub is_whole : Bool → Opcode → Asked → Bool
is_whole r o q = both (changes r o q) (is_numbered (entry_of o).codes)

-- the code for a key
abbrev pub choice_of : Bool → Key → Choice
choice_of r k = choose_by r k.opcode (asked k) k.number0

-- what the encoder of a reading finds for a record
abbrev pub encoded_by : Bool → Record → Found
encoded_by r x = taken (table_by r) (choice_of r (key x)) (key x)
