-- A row put as the manual puts a code, by its names and parts, and when the two say the same.
use Rattle.std.specs.Prelude.{ℕ, ◌≡◌, T, eqb, Bool}
use Rattle.laws.specs.Choice.{pick, both, either}
use Rattle.record.specs.declared.Part.{Part}
use Rattle.record.specs.declared.Opcode.{Opcode}
use Rattle.record.specs.declared.Opcode.TheVariants.{FCLR, FSET}
use Rattle.record.specs.declared.Operand.{Operand}
use Rattle.record.specs.declared.Operand.TheVariants.{Nothing, Imm4}
use Rattle.record.specs.Numbers.{opcode_no}
use Rattle.record.specs.declared.fields.Field.{Field}
use Rattle.record.specs.declared.fields.Field.TheVariants.{Nowhere as nowhere, Wide as wide, Short as short, Early as early}
use Rattle.record.specs.Same.{same_name, field_of, field0, field1}
use Rattle.manual.specs.Meaning.{Suffix, Spot, nothing, plain, behind, within, flag, Meaning}
use Rattle.rows.specs.Row.{Row}
use Rattle.rows.specs.Spans.{Source, code, read, twenty, spans_of}
use Rattle.rows.specs.Agree.{in_code, recorded, size_fits}

-- the opcodes whose Imm4 is a flag
abbrev pub flag_opcode : Opcode → Bool
flag_opcode o = either (eqb (opcode_no o) (opcode_no FSET)) (eqb (opcode_no o) (opcode_no FCLR))

abbrev pub of_flag : Opcode → Operand → Bool
of_flag o a = both (flag_opcode o) (same_name a Imm4)

-- an operand whose number stands at a part; imm_wide may hold a number of the code
abbrev pub spot_at : Operand → Part → Spot
spot_at a s = behind a s.offset s.width

abbrev pub spot_wide : Opcode → Operand → ℕ → Source → Spot
spot_wide o a number code = pick (of_flag o a) (flag number) (within a (in_code a number))
spot_wide o a number (read s) = spot_at a s
spot_wide o a number (twenty p) = behind a p 3

unfoldable pub spot : Operand → Field → Row → Spot
unfolding same_name spans_of
spot a nowhere r = pick (same_name a Nothing) nothing (plain a)
spot a wide r = spot_wide r.face.opcode a r.number (spans_of r).wide
spot a short r = spot_at a (spans_of r).short
spot a early r = spot_at a (spans_of r).early

abbrev pub spot0 : Row → Spot
spot0 r = spot r.face.op0 (field0 r.face.op0 r.face.op1) r

abbrev pub spot1 : Row → Spot
spot1 r = spot r.face.op1 (field1 r.face.op0 r.face.op1) r

-- a row as a meaning, beside the manual's suffix, which is judged apart
unfoldable pub meaning_of : Row → Suffix → Meaning
unfolding spot field_of
meaning_of r s = record { mnemonic = r.face.opcode; suffix = s; op0 = spot0 r; op1 = spot1 r; length = (spans_of r).length }

-- row and manual say the same of a code
pub record Agrees (a b : ℕ) (r : Row) (m : Meaning) : Type 0 where
  pub said : meaning_of r m.suffix ≡ recorded m
  pub size : T (size_fits a b r.face.size r.face.width m.suffix)
