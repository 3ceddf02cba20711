-- Where a row's numbers stand in the bytes of the instruction, and how long it is: document 01's reads, by place instead of by value.
use Rattle.std.specs.Prelude.{ℕ, ◌+◌, ◌^◌, ◌%◌, ◌≡◌, Bool, false, List, [], ◌∷◌, eqb, leb, get_or}
use Rattle.laws.specs.Choice.{pick}
use Rattle.record.specs.declared.Opcode.{Opcode}
use Rattle.record.specs.declared.Operand.TheVariants.{Nothing}
use Rattle.record.specs.declared.Part.{Part}
use Rattle.record.specs.declared.Parts.{Parts}
use Rattle.record.specs.declared.Record.{Record}
use Rattle.record.specs.Parts.{part, no_part}
use Rattle.rows.specs.Row.{disp, imm, imm20, Read, num, cond, stop, Condition, named, Face, Row}
use Rattle.rows.specs.Codes.{cond_of}
use Rattle.rows.specs.Run.{bytes, twenty_bits}

-- the number in imm_wide is part of the code, or was read and kept whole, or was read from the three bytes at a place and kept to 20 bits
pub data Source : Type 0 where
  code : Source
  read : Part → Source
  twenty : ℕ → Source

-- the row names the opcode, or the condition byte at a place does
pub data Naming : Type 0 where
  by_row : Naming
  by_byte : ℕ → Naming

-- where imm_wide, dispabs and first come from, what names the opcode, and the length
pub record Spans : Type 0 where
  pub wide : Source
  pub short : Part
  pub early : Part
  pub naming : Naming
  pub length : ℕ

abbrev pub spans : Source → Part → Part → Naming → ℕ → Spans
spans w s e o l = record { wide = w; short = s; early = e; naming = o; length = l }

-- a later displacement takes dispabs, and the earlier one is kept in first
abbrev pub disp_next : ℕ → Spans → Spans
disp_next n z = spans z.wide (part z.length n) z.short z.naming (z.length + n)

abbrev pub imm_next : Source → ℕ → Spans → Spans
imm_next source n z = spans source z.short z.early z.naming (z.length + n)

abbrev pub cond_next : Spans → Spans
cond_next z = spans z.wide z.short z.early (by_byte z.length) (z.length + 1)

unfoldable pub follow : List Read → Spans → Spans
follow [] z = z
follow (num (disp n) ∷ rs) z = follow rs (pick (eqb n 0) z (disp_next n z))
follow (num (imm n) ∷ rs) z = follow rs (imm_next (read (part z.length n)) n z)
follow (num imm20 ∷ rs) z = follow rs (imm_next (twenty z.length) 3 z)
follow (cond ∷ rs) z = follow rs (cond_next z)
follow (stop e ∷ rs) z = z

-- two bytes are the code
unfoldable pub spans_of : Row → Spans
unfolding follow
spans_of r = follow r.reads (spans code no_part no_part by_row 2)

-- the number that stands at a part, low byte first
abbrev pub number_in : List ℕ → Part → ℕ
number_in bs p = bytes bs p.offset p.width

abbrev pub wide_in : List ℕ → ℕ → Source → ℕ
wide_in bs number code = number
wide_in bs number (read p) = number_in bs p % 256 ^ p.width
wide_in bs number (twenty p) = bytes bs p 3 % twenty_bits

-- request A6: of a 20-bit number alone bits may be dropped
abbrev pub dropped_in : List ℕ → Source → Bool
dropped_in bs code = false
dropped_in bs (read p) = false
dropped_in bs (twenty p) = leb twenty_bits (bytes bs p 3)

-- request A5: where each number was read, if it was
abbrev pub part_in : Source → Part
part_in code = no_part
part_in (read p) = p
part_in (twenty p) = part p 3

abbrev pub parts_in : Spans → Parts
parts_in z = record { imm_wide = part_in z.wide; dispabs = z.short; first = z.early }

abbrev pub named_in : List ℕ → Opcode → Naming → Condition
named_in bs o by_row = named o
named_in bs o (by_byte p) = cond_of (get_or bs p 0)

-- a record made of bytes: the names of a face, whose opcode is o unless a byte names another, and the numbers that stand at the row's parts
pub record Made (bs : List ℕ) (number : ℕ) (o : Opcode) (f : Face) (z : Spans) (r : Record) : Type 0 where
  pub length : r.length ≡ z.length
  pub imm_wide : r.imm_wide ≡ wide_in bs number z.wide
  pub dispabs : r.dispabs ≡ number_in bs z.short
  pub first : r.first ≡ number_in bs z.early
  pub opcode : named_in bs o z.naming ≡ named r.opcode
  pub size : r.size ≡ f.size
  pub width : r.width ≡ f.width
  pub op0 : r.op0 ≡ f.op0
  pub op1 : r.op1 ≡ f.op1
  pub op2 : r.op2 ≡ Nothing
  pub marked : r.marked ≡ f.marked
  pub dropped : r.dropped ≡ dropped_in bs z.wide
  pub parts : r.parts ≡ parts_in z
  pub registers : r.registers ≡ f.registers

-- by a row
abbrev pub MadeBy : Row → List ℕ → Record → Type 0
MadeBy w bs r = Made bs w.number w.face.opcode w.face (spans_of w) r
