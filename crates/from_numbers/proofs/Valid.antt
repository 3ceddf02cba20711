-- Numbers are valid where each is below its bound.
-- Assumes nothing.
use Prim.Native.Nat.{ℕ, ◌≤◌, ◌<◌}
use mathlib.Core.Path.{◌≡◌, refl}
use mathlib.Core.Bool.{Bool, true, false}
use mathlib.Core.List.{List}
use lib.ListN.{length, get_or}
use lib.Dec.{leb}
use borrow.Author.Tests.{leb-true, ltb-true, le-leb, lt-ltb}
use Rattle.laws.specs.Choice.{both}
use Rattle.record.specs.Names.{opcodes, sizes, widths, operands}
use Rattle.from_numbers.specs.Made.{below, valid}

pub record Bounded (ns : List ℕ) : Type 0 where
  pub long : 12 ≤ length ns
  pub opcode : get_or ns 1 0 < length opcodes
  pub size : get_or ns 2 0 < length sizes
  pub width : get_or ns 3 0 < length widths
  pub op0 : get_or ns 4 0 < length operands
  pub op1 : get_or ns 5 0 < length operands
  pub op2 : get_or ns 6 0 < length operands
  pub dispabs : get_or ns 8 0 < 65536
  pub first : get_or ns 9 0 < 65536

both_true : (a b : Bool) → both a b ≡ true → (a ≡ true) × (b ≡ true)
both_true true b e = (refl, e)
both_true false true e = (e, refl)
both_true false false e = (e, e)

module _ (ns : List ℕ) where
  pub bounded : valid ns ≡ true → Bounded ns
  unfolding valid
  bounded e =
      let p = both_true (leb 12 (length ns)) _ e in
      let q = both_true (below ns 1 (length opcodes)) _ p.1 in
      let r = both_true (below ns 2 (length sizes)) _ q.1 in
      let s = both_true (below ns 3 (length widths)) _ r.1 in
      let t = both_true (below ns 4 (length operands)) _ s.1 in
      let u = both_true (below ns 5 (length operands)) _ t.1 in
      let v = both_true (below ns 6 (length operands)) _ u.1 in
      let w = both_true (below ns 8 65536) _ v.1 in
      record {
        long = leb-true _ _ p.0;
        opcode = ltb-true _ _ q.0;
        size = ltb-true _ _ r.0;
        width = ltb-true _ _ s.0;
        op0 = ltb-true _ _ t.0;
        op1 = ltb-true _ _ u.0;
        op2 = ltb-true _ _ v.0;
        dispabs = ltb-true _ _ w.0;
        first = ltb-true _ _ w.1;
      }

  pub accepted : Bounded ns → true ≡ valid ns
  unfolding valid
  accepted b =
      rw (
        le-leb _ _ b.long,
        lt-ltb _ _ b.opcode,
        lt-ltb _ _ b.size,
        lt-ltb _ _ b.width,
        lt-ltb _ _ b.op0,
        lt-ltb _ _ b.op1,
        lt-ltb _ _ b.op2,
        lt-ltb _ _ b.dispabs,
        lt-ltb _ _ b.first,
      )

  pub refused : (Bounded ns → ⊥) → false ≡ valid ns
  refused f = by (valid ns) refl
    where
      by : (b : Bool) → valid ns ≡ b → false ≡ b
      by true e = absurd (f (bounded e))
      by false e = refl
