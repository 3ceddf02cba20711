-- The names and codes of the rows that request A9 changes: a line an opcode.
-- (Steps of the choice: that these are the changed rows' is proved, not believed.)
use Rattle.std.specs.Prelude.{ℕ, ◌+◌, ◌*◌, Bool, List, [], ◌∷◌, ◌++◌, eqb, take, drop}
use Rattle.laws.specs.Choice.{pick, both}
use Rattle.record.specs.declared.Opcode.{Opcode}
use Rattle.record.specs.declared.Opcode.TheVariants.{ADCF, ADD, BMGE, BMLT, BMNO, DIVU, DIVX, FCLR, FSET, JMPI, JSRI, LDC, LDIPL, MOV, MUL, MULU}
use Rattle.record.specs.declared.Size.{Size}
use Rattle.record.specs.declared.Size.TheVariants as sizes
use Rattle.record.specs.declared.Width.{Width}
use Rattle.record.specs.declared.Operand.TheVariants.{Imm4, Imm8, Disp8_SP, Disp20_A0, Disp20_A1, SP}
use Rattle.record.specs.Numbers.{opcode_no, size_no}
use Rattle.record.specs.Same.{among}
use Rattle.rows.specs.Codes.{word_names, control_names}
use Rattle.encode_rules.specs.steps.Direct.{Choice, code, nothing}
use Rattle.encode_choice.specs.declared.Asked.{Asked}
use Rattle.encode_choice.specs.declared.name_sets.Form.TheVariants.{Multiply}
use Rattle.encode_choice.specs.steps.Forms as forms
use Rattle.encode_choice.specs.steps.Forms.{at, carried, Names, go, general, immediate, none}
use Rattle.encode_choice.specs.steps.Choose.{code_of, unary, binary, jump}
use Rattle.encode_added.specs.declared.sets.Kind.{Kind}
use Rattle.encode_added.specs.declared.sets.Kind.TheVariants as kind

-- how a code is found: by the names that are asked for, or by operand 0's number, of which no bytes follow then
pub data Codes : Type 0 where
  named : (Asked → Choice) → Codes
  below8 : ℕ → ℕ → ℕ → Codes  -- by the code of 0 and the distance to the next
  nibble : Codes  -- of 7D B, sign-extended

-- an opcode, the kind of its changed rows, and their codes
pub record Entry : Type 0 where
  pub opcode : Opcode
  pub kind : Kind
  pub codes : Codes

abbrev entry : Opcode → Kind → Codes → Entry
entry o k c = record { opcode = o; kind = k; codes = c }

-- the names of a kind's operands 0 and 1; where a list is empty, there is no row at that width. (What is multiplied is as in 78 and 79.)
abbrev pub names : Kind → Width → Names
names kind.Alone w = go (general w) none
names kind.Product w = go (immediate w) (forms.names Multiply w).second
names kind.SizedProduct w = go (immediate w) (forms.names Multiply w).second
names kind.ToStack w = go (general w) (Disp8_SP ∷ [])
names kind.ToControl w = go (at w word_names [] []) control_names
names kind.WordJump w = go (at w [] (take 12 word_names ++ (Disp20_A0 ∷ Disp20_A1 ∷ drop 14 word_names)) []) none
names kind.Flag w = go (at w [] none []) none
names kind.FlagNumber w = go (at w [] [] (Imm4 ∷ [])) none
names kind.Level w = go (at w [] (Imm8 ∷ []) []) none
names kind.ToPointer w = go (at w [] (Imm8 ∷ []) []) (SP ∷ [])
names kind.Unchanged w = go [] []

-- a kind's size
abbrev pub size : Kind → Width → Size
size kind.Alone w = carried w
size kind.Product w = sizes.None
size kind.SizedProduct w = carried w
size kind.ToStack w = carried w
size kind.ToControl w = sizes.None
size kind.WordJump w = carried w
size kind.Flag w = sizes.None
size kind.FlagNumber w = sizes.None
size kind.Level w = sizes.None
size kind.ToPointer w = carried w
size kind.Unchanged w = sizes.None

-- LDC: the control register and G(n)
abbrev pub load : Asked → Choice
load q = code 0x7A (16 * (8 + code_of q.op1) + code_of q.op0)

-- the sixteen opcodes that have changed rows
abbrev pub entries : List Entry
entries =
    entry DIVX kind.Alone (named (unary 0x76 9))
    ∷ entry DIVU kind.Alone (named (unary 0x76 0xC))
    ∷ entry ADCF kind.Alone (named (unary 0x76 0xE))
    ∷ entry MULU kind.SizedProduct (named (binary 0x7C 4))
    ∷ entry MUL kind.Product (named (binary 0x7C 5))
    ∷ entry MOV kind.ToStack (named (unary 0x74 3))
    ∷ entry LDC kind.ToControl (named load)
    ∷ entry JMPI kind.WordJump (named (jump 0x20))
    ∷ entry JSRI kind.WordJump (named (jump 0x30))
    ∷ entry BMGE kind.Flag (named (λ q. code 0x7D 0xDA))
    ∷ entry BMNO kind.Flag (named (λ q. code 0x7D 0xDD))
    ∷ entry BMLT kind.Flag (named (λ q. code 0x7D 0xDE))
    ∷ entry FSET kind.FlagNumber (below8 0xEB 4 16)
    ∷ entry FCLR kind.FlagNumber (below8 0xEB 5 16)
    ∷ entry LDIPL kind.Level (below8 0x7D 0xA0 1)
    ∷ entry ADD kind.ToPointer nibble
    ∷ []

-- any other opcode
abbrev absent : Opcode → Entry
absent o = entry o kind.Unchanged (named (λ q. nothing))

-- the entry of an opcode, its kind, and the names and size of its changed rows
abbrev pub entry_in : List Entry → Opcode → Entry
entry_in [] o = absent o
entry_in (e ∷ es) o = pick (eqb (opcode_no o) (opcode_no e.opcode)) e (entry_in es o)

unfoldable pub entry_of : Opcode → Entry
entry_of = entry_in entries

abbrev pub kind_of : Opcode → Kind
kind_of o = (entry_of o).kind

abbrev pub names_of : Opcode → Width → Names
names_of o w = names (kind_of o) w

abbrev pub size_of : Opcode → Width → Size
size_of o w = size (kind_of o) w

-- what is asked for has the names and the size of a kind, and of an opcode's changed rows
unfoldable pub goes_as : Kind → Asked → Bool
goes_as k q = both (among (names k q.width).first q.op0) (both (among (names k q.width).second q.op1) (eqb (size_no q.size) (size_no (size k q.width))))

abbrev pub goes : Opcode → Asked → Bool
goes o q = goes_as (kind_of o) q
