-- Request A5: what is asked of the parts of an accepted record, and what stays where the bytes of one part are changed.
use Rattle.std.specs.Prelude.{ℕ, ◌+◌, ◌/◌, ◌%◌, ◌≤◌, ◌<◌, ◌≡◌, Bool, false, List, eqb, leb, length, get_or}
use Rattle.laws.specs.Choice.{pick}
use Rattle.record.specs.declared.Part.{Part}
use Rattle.record.specs.declared.Parts.{Parts}
use Rattle.record.specs.declared.Record.{Record}
use Rattle.record.specs.declared.fields.Field.{Field}
use Rattle.record.specs.declared.fields.Field.TheVariants.{Nowhere as nowhere, Wide as wide, Short as short, Early as early}
use Rattle.record.specs.Parts.{part_of, Inside, Within}
use Rattle.record.specs.Numbered.{numbered}
use Rattle.record.specs.Same.{value_of}
use Rattle.rows.specs.Run.{twenty_bits}
use Rattle.rows.specs.Spans.{Source, code, read, twenty, number_in}

-- of an instruction of n bytes: its parts share no byte, and each lies inside it, behind the second byte
pub record Laid (n : ℕ) (p : Parts) : Type 0 where
  pub inside : Inside n p
  pub behind : (f : Field) (i : ℕ) → Within (part_of f p) i → 2 ≤ i
  pub apart : (f g : Field) (i : ℕ) → Within (part_of f p) i → Within (part_of g p) i → f ≡ g

-- a width is 1, 2 or 3, or both numbers are 0
abbrev pub Sized : Part → Type 0
Sized p = (p.width ≤ 3) × (p.width ≡ 0 → p.offset ≡ 0)

-- what a kind of read keeps of a number: 20 bits, or all of it
abbrev pub kept_by : Source → ℕ → ℕ
kept_by code v = v
kept_by (read p) v = v
kept_by (twenty p) v = v % twenty_bits

-- of any row: what stands at each part, read once more and kept as its kind of read keeps it, is what the field holds
pub record ReadByKind (bs : List ℕ) (wide : Source) (r : Record) : Type 0 where
  pub imm_wide : 0 < r.parts.imm_wide.width → r.imm_wide ≡ kept_by wide (number_in bs r.parts.imm_wide)
  pub dispabs : r.dispabs ≡ number_in bs r.parts.dispabs
  pub first : r.first ≡ number_in bs r.parts.first

-- in document 01's rows the width tells the kind. What is kept of a number that was read from so many bytes: of three 20 bits, and then the rest is dropped
abbrev pub kept_of : ℕ → ℕ → ℕ
kept_of w v = pick (eqb w 3) (v % twenty_bits) v

abbrev pub dropped_of : ℕ → ℕ → Bool
dropped_of w v = pick (eqb w 3) (leb twenty_bits v) false

-- what stands at a part, read once more, is what its field holds
abbrev pub ReadAgain : List ℕ → Record → Type 0
ReadAgain bs r = (f : Field) → 0 < (part_of f r.parts).width → value_of f r ≡ kept_of (part_of f r.parts).width (number_in bs (part_of f r.parts))

-- a byte belongs to a part, or is the last of 7E 2n, which is the condition byte
pub data Covered (a b : ℕ) (r : Record) (i : ℕ) : Type 0 where
  by_part : (f : Field) → Within (part_of f r.parts) i → Covered a b r i
  by_condition : a ≡ 0x7E → b / 16 ≡ 2 → i + 1 ≡ r.length → Covered a b r i

-- all of it, of a record that was decoded from bs, with the first bytes a and b
pub record Placed (a b : ℕ) (bs : List ℕ) (r : Record) : Type 0 where
  pub laid : Laid r.length r.parts
  pub sized : (f : Field) → Sized (part_of f r.parts)
  pub again : ReadAgain bs r
  pub covered : (i : ℕ) → 2 ≤ i → i < r.length → Covered a b r i

-- the second of two byte strings is the first, but for bytes of a part
pub record DifferIn (p : Part) (bs cs : List ℕ) : Type 0 where
  pub long : length cs ≡ length bs
  pub elsewhere : (i : ℕ) → (Within p i → ⊥) → get_or cs i 0 ≡ get_or bs i 0

-- a record as it was, but that v was read into one field in place of what this held
abbrev pub holding : Field → ℕ → Record → Record
holding nowhere v r = r
holding wide v r = numbered (kept_of r.parts.imm_wide.width v) r.dispabs r.first (dropped_of r.parts.imm_wide.width v) r.parts r.registers r
holding short v r = numbered r.imm_wide v r.first r.dropped r.parts r.registers r
holding early v r = numbered r.imm_wide r.dispabs v r.dropped r.parts r.registers r
