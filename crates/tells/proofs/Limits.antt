-- The numbers of an instruction are shown in full: each is below what its digits can show.
-- Assumes nothing.
use Prim.Native.Nat.{ℕ, suc, ◌^◌, ◌<◌}
use mathlib.Core.Path.{◌≡◌, sym, subst, subst₂}
use mathlib.Core.Bool.{Bool, true}
use mathlib.Core.List.{List}
use native.Mathlib.Omega.{arith}
use native.Mathlib.Nat.{mod-eq_of_lt, lt_of_lt_of_le}
use lib.Dec.{T, leb, leb→le}
use Rattle.laws.specs.Choice.{pick, both}
use Rattle.laws.proofs.Choice.{both_left, both_right}
use Rattle.record.specs.declared.Record.{Record}
use Rattle.record.specs.declared.Opcode.{Opcode}
use Rattle.record.specs.declared.Operand.{Operand}
use Rattle.record.specs.declared.fields.Field.{Field}
use Rattle.record.specs.declared.fields.Field.TheVariants.{Nowhere as nowhere, Wide as wide, Short as short, Early as early}
use Rattle.record.specs.Same.{same_name, among, field_of, field0, field1, value_of}
use Rattle.rows.specs.All.{every_code}
use Rattle.rows.specs.Bytes.{Bytes}
use Rattle.rows.specs.Row.{Face, Row}
use Rattle.rows.specs.Groups.{known, rows_of, document01}
use Rattle.rows.specs.Run.{twenty_bits}
use Rattle.rows.specs.Spans.{Source, code, read, twenty, Spans, spans_of, wide_in, Made, MadeBy}
use Rattle.rows.proofs.All.{every_code_lem}
use Rattle.rows.proofs.Bytes.{bytes_small}
use Rattle.line.specs.Line.{digits_of}
use Rattle.encode_rules.specs.steps.Search.{live}
use Rattle.encode_rules.proofs.Bools.{picked}

-- what the number in a field is below, by where it was read; a number that is part of the code is itself
abbrev wide_limit : ℕ → Source → ℕ
wide_limit number code = suc number
wide_limit number (read s) = 256 ^ s.width
wide_limit number (twenty p) = twenty_bits

abbrev limit : ℕ → Spans → Field → ℕ
limit number z nowhere = 1
limit number z wide = wide_limit number z.wide
limit number z short = 256 ^ z.short.width
limit number z early = 256 ^ z.early.width

module _ (bs : List ℕ) (h : Bytes bs) (number : ℕ) where
  wide_below : (q : Source) → wide_in bs number q < wide_limit number q
  wide_below code = omega arith
  wide_below (read s) = let small = bytes_small s.width s.offset bs h in subst (λ v. v < 256 ^ s.width) (sym (mod-eq_of_lt small)) small
  wide_below (twenty p) = omega arith

  below : (o : Opcode) (f : Face) (z : Spans) (r : Record) → Made bs number o f z r → (x : Field) → value_of x r < limit number z x
  below o f z r m nowhere = omega arith
  below o f z r m wide = subst (λ v. v < wide_limit number z.wide) (sym m.imm_wide) (wide_below z.wide)
  below o f z r m short = subst (λ v. v < 256 ^ z.short.width) (sym m.dispabs) (bytes_small z.short.width z.short.offset bs h)
  below o f z r m early = subst (λ v. v < 256 ^ z.early.width) (sym m.first) (bytes_small z.early.width z.early.offset bs h)

-- both operands of a row, by digits
pub fullb : Row → Bool
fullb w =
    both (leb (limit w.number (spans_of w) (field0 w.face.op0 w.face.op1)) (16 ^ digits_of w.face.op0))
    (leb (limit w.number (spans_of w) (field1 w.face.op0 w.face.op1)) (16 ^ digits_of w.face.op1))

-- the test over all codes
full_at : ℕ → ℕ → Bool
full_at a b = pick (live (document01.row_at a b)) (fullb (document01.row_at a b)) true

all_full : T (every_code full_at)
unfolding every_code full_at fullb spans_of digits_of same_name among field_of rows_of
all_full = tt

pub full : (a b : ℕ) → known a ≡ true → b < 256 → live (document01.row_at a b) ≡ true → T (fullb (document01.row_at a b))
unfolding full_at
full a b k l v = picked (live (document01.row_at a b)) _ (every_code_lem full_at all_full b l a k) v

-- so the numbers that such a row made are below what their digits can show
module _ (w : Row) (t : T (fullb w)) (bs : List ℕ) (h : Bytes bs) (r : Record) (m : MadeBy w bs r) where
  under : (x : Field) → value_of x r < limit w.number (spans_of w) x
  under = below bs h w.number w.face.opcode w.face (spans_of w) r m

  within : (x : Field) (o : Operand) → T (leb (limit w.number (spans_of w) x) (16 ^ digits_of o)) → value_of x r < 16 ^ digits_of o
  within x o l = lt_of_lt_of_le (under x) (leb→le _ _ l)

  pub full0 : value_of (field0 r.op0 r.op1) r < 16 ^ digits_of r.op0
  unfolding fullb
  full0 =
      subst₂ (λ a b. value_of (field0 a b) r < 16 ^ digits_of a) (sym m.op0) (sym m.op1)
      (within (field0 w.face.op0 w.face.op1) w.face.op0 (both_left (leb _ (16 ^ digits_of w.face.op0)) _ t))

  pub full1 : value_of (field1 r.op0 r.op1) r < 16 ^ digits_of r.op1
  unfolding fullb
  full1 =
      subst₂ (λ a b. value_of (field1 a b) r < 16 ^ digits_of b) (sym m.op0) (sym m.op1)
      (within (field1 w.face.op0 w.face.op1) w.face.op1 (both_right (leb _ (16 ^ digits_of w.face.op0)) _ t))
