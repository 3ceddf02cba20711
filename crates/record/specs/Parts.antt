-- Request A5: where the numbers of an instruction stand in its bytes.
use Rattle.std.specs.Prelude.{ℕ, ◌+◌, ◌≤◌, ◌<◌}
use Rattle.record.specs.declared.Part.{Part}
use Rattle.record.specs.declared.Parts.{Parts}
use Rattle.record.specs.declared.fields.Field.{Field}
use Rattle.record.specs.declared.fields.Field.TheVariants.{Nowhere as nowhere, Wide as wide, Short as short, Early as early}

abbrev pub part : ℕ → ℕ → Part
part o w = record { offset = o; width = w }

-- no byte behind the second was read: both numbers are 0
abbrev pub no_part : Part
no_part = part 0 0

abbrev pub no_parts : Parts
no_parts = record { imm_wide = no_part; dispabs = no_part; first = no_part }

-- parts go by field
abbrev pub part_of : Field → Parts → Part
part_of nowhere p = no_part
part_of wide p = p.imm_wide
part_of short p = p.dispabs
part_of early p = p.first

-- no part reaches further than n bytes
abbrev pub Inside : ℕ → Parts → Type 0
Inside n p = (f : Field) → (part_of f p).offset + (part_of f p).width ≤ n

-- a byte of an instruction is one of a part's
abbrev pub Within : Part → ℕ → Type 0
Within p i = (p.offset ≤ i) × (i < p.offset + p.width)
