-- Request A3: an operand's number as it is counted, with a sign for two names.
use Rattle.std.specs.Prelude.{ℕ, zero, suc, ◌%◌, Bool, List, [], ◌∷◌, ltb, ℤ, pos}
use Rattle.std.proofs.Math.IntN.{sub_ℕ}
use Rattle.laws.specs.Choice.{pick}
use Rattle.record.specs.declared.Record.{Record}
use Rattle.record.specs.declared.Operand.{Operand}
use Rattle.record.specs.declared.Operand.TheVariants.{Nothing, Disp8, Disp8_FB}
use Rattle.record.specs.declared.signed.Number.{Number}
use Rattle.record.specs.Same.{among, field_at, value_of}

-- signed are a displacement from the frame base and a jump's distance, as in the maker's manual, and no other
abbrev pub signed_names : List Operand
signed_names = Disp8_FB ∷ Disp8 ∷ []

unfoldable pub is_signed : Operand → Bool
is_signed a = among signed_names a

-- a signed byte: itself below 80 (hex), and 100 less from there on
abbrev pub signed : ℕ → ℤ
signed b = pick (ltb b 0x80) (pos b) (sub_ℕ b 0x100)

-- what a name's field holds, as a number: of a signed name the low byte counts, of any other the whole field
unfoldable pub number_of : Operand → ℕ → ℤ
number_of a v = pick (is_signed a) (signed (v % 0x100)) (pos v)

-- operand k; there are operands 0, 1 and 2
abbrev pub name_at : Record → ℕ → Operand
name_at r zero = r.op0
name_at r (suc zero) = r.op1
name_at r (suc (suc zero)) = r.op2
name_at r (suc (suc (suc k))) = Nothing

-- the number of operand k, and the field that holds it
abbrev pub number_at : Record → ℕ → Number
number_at r k = record { field = field_at r k; value = number_of (name_at r k) (value_of (field_at r k) r) }
