-- A line of a listing tells what it was made of.
-- Assumes nothing.
use Prim.Native.Nat.{ℕ, ◌%◌}
use mathlib.Core.Path.{◌≡◌, refl, sym, ap, subst, ◌∙◌}
use mathlib.Core.List.{List, ◌++◌}
use native.Mathlib.Omega.{arith}
use lib.Dec.{T}
use lib.IntN.{ℤ}
use lib.ListN.{length, get_or, drop}
use Rattle.record.specs.declared.Record.{Record}
use Rattle.record.specs.declared.Size.{Size}
use Rattle.record.specs.declared.Size.TheVariants as size
use Rattle.record.specs.declared.Width.{Width}
use Rattle.record.specs.declared.Width.TheVariants as width
use Rattle.record.specs.declared.Operand.TheVariants.{Nothing}
use Rattle.record.specs.Signed.{number_at}
use Rattle.record.proofs.Arms.{has}
use Rattle.laws.specs.Text.{spelled}
use Rattle.line.specs.Names.{opcode_name}
use Rattle.line.specs.Line.{width_text, opcode_text, size_text, number_text, operand_text, dropped_text, from_width, line_of}
use Rattle.tells.proofs.Split.{ended, by_length, by_mark}
use Rattle.tells.proofs.Names.{marks, opcode_free, size_free, opcode_told, size_told, width_told, dropped_told}
use Rattle.tells.proofs.Numbers.{digit_told}
use Rattle.tells.proofs.Operands.{silent, spaced, dropped_spaced, dropped_marked, behind, behind_ended, one_told}

-- a line does not show Nothing: no third operand, and a second only behind a first
pub record Led (r : Record) : Type 0 where
  pub no_third : r.op2 ≡ Nothing
  pub in_order : r.op0 ≡ Nothing → r.op1 ≡ Nothing

-- what two records agree in whose lines are equal
pub record Told (r s : Record) : Type 0 where
  pub length : r.length % 16 ≡ s.length % 16
  pub width : r.width ≡ s.width
  pub opcode : r.opcode ≡ s.opcode
  pub size : r.size ≡ s.size
  pub op0 : r.op0 ≡ s.op0
  pub op1 : r.op1 ≡ s.op1
  pub number0 : number_text r.op0 (number_at r 0).value ≡ number_text s.op0 (number_at s 0).value
  pub number1 : number_text r.op1 (number_at r 1).value ≡ number_text s.op1 (number_at s 1).value
  pub dropped : r.dropped ≡ s.dropped

-- a width is one character
width_length : (v w : Width) → length (width_text v) ≡ length (width_text w)
width_length v w = one v ∙ sym (one w)
  where
    one : (w : Width) → length (width_text w) ≡ 1
    one width.None = refl
    one width.B = refl
    one width.W = refl

-- a size begins with a dot
size_ended : (s : Size) (u : List ℕ) → T (ended marks u) → T (ended marks (size_text s ++ u))
size_ended size.None u t = t
size_ended size.B u t = tt
size_ended size.W u t = tt
size_ended size.L u t = tt

-- the parts of a line, each with what is behind it
module _ (r : Record) where
  abbrev value0 : ℤ
  value0 = (number_at r 0).value

  abbrev value1 : ℤ
  value1 = (number_at r 1).value

  abbrev end : List ℕ
  end = dropped_text r.dropped

  abbrev from_second : List ℕ
  from_second = operand_text r.op1 value1 ++ end

  abbrev from_first : List ℕ
  from_first = operand_text r.op0 value0 ++ from_second

  abbrev from_size : List ℕ
  from_size = size_text r.size ++ from_first

  abbrev from_opcode : List ℕ
  from_opcode = opcode_text r.opcode ++ from_size

  -- a space first, if there is anything
  second_spaced : (ms : List ℕ) → T (has ms 32) → T (ended ms from_second)
  second_spaced ms m = spaced ms m r.op1 value1 end (dropped_spaced ms m r.dropped)

  first_spaced : (ms : List ℕ) → T (has ms 32) → T (ended ms from_first)
  first_spaced ms m = spaced ms m r.op0 value0 from_second (second_spaced ms m)

  -- no name stands behind the second operand, and none behind the first if that is Nothing
  second_ended : T (ended marks (behind r.op1 end))
  second_ended = behind_ended r.op1 end (dropped_spaced marks tt r.dropped) (λ e. dropped_marked r.dropped)

  module _ (l : Led r) where
    first_ended : T (ended marks (behind r.op0 from_second))
    first_ended =
        behind_ended r.op0 from_second (second_spaced marks tt)
        (λ e. subst (λ x. T (ended marks (drop 1 (x ++ end)))) (sym (silent r.op1 value1 (l.in_order e))) (dropped_marked r.dropped))

    -- no third operand is shown
    from_width_lem : from_width r ≡ width_text r.width ++ from_opcode
    unfolding from_width
    from_width_lem =
        ap (λ x. width_text r.width ++ (opcode_text r.opcode ++ (size_text r.size
        ++ (operand_text r.op0 value0 ++ (operand_text r.op1 value1 ++ (x ++ end))))))
        (silent r.op2 (number_at r 2).value l.no_third)

-- one part after the other is told
module _ (r s : Record) (l : Led r) (m : Led s) (e : from_width r ≡ from_width s) where
  widths : (width_text r.width ≡ width_text s.width) × (from_opcode r ≡ from_opcode s)
  widths =
      by_length (width_text r.width) (width_text s.width) (from_opcode r) (from_opcode s) (width_length r.width s.width)
      (sym (from_width_lem r l) ∙ e ∙ from_width_lem s m)

  opcodes : (opcode_name r.opcode ≡ opcode_name s.opcode) × (from_size r ≡ from_size s)
  opcodes =
      by_mark marks (opcode_name r.opcode) (opcode_name s.opcode) (from_size r) (from_size s) (opcode_free r.opcode) (opcode_free s.opcode)
      (size_ended r.size (from_first r) (first_spaced r marks tt)) (size_ended s.size (from_first s) (first_spaced s marks tt)) (ap (drop 1) widths.1)

  sizes : (size_text r.size ≡ size_text s.size) × (from_first r ≡ from_first s)
  sizes =
      by_mark (spelled " ") (size_text r.size) (size_text s.size) (from_first r) (from_first s) (size_free r.size) (size_free s.size)
      (first_spaced r (spelled " ") tt) (first_spaced s (spelled " ") tt) opcodes.1

  firsts : (r.op0 ≡ s.op0) × (number_text r.op0 (value0 r) ≡ number_text s.op0 (value0 s)) × (from_second r ≡ from_second s)
  firsts = one_told r.op0 s.op0 (value0 r) (value0 s) (from_second r) (from_second s) sizes.1 (first_ended r l) (first_ended s m)

  seconds : (r.op1 ≡ s.op1) × (number_text r.op1 (value1 r) ≡ number_text s.op1 (value1 s)) × (end r ≡ end s)
  seconds = one_told r.op1 s.op1 (value1 r) (value1 s) (end r) (end s) firsts.2 (second_ended r) (second_ended s)

-- the place and the length take seven characters with their spaces, the length the sixth
pub told : (p q : ℕ) (r s : Record) → Led r → Led s → line_of p r ≡ line_of q s → Told r s
unfolding line_of
told p q r s l m e =
    let f : from_width r ≡ from_width s = ap (drop 7) e in
    record {
      length = omega (arith, digit_told _ _ (ap (λ x. get_or x 5 0) e));
      width = width_told r.width s.width (widths r s l m f).0;
      opcode = opcode_told r.opcode s.opcode (opcodes r s l m f).0;
      size = size_told r.size s.size (sizes r s l m f).0;
      op0 = (firsts r s l m f).0;
      op1 = (seconds r s l m f).0;
      number0 = (firsts r s l m f).1;
      number1 = (seconds r s l m f).1;
      dropped = dropped_told r.dropped s.dropped (seconds r s l m f).2;
    }
