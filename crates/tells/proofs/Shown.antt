-- How the names, the number and the reads of a live row go together, so that its records have its code's stamp. One test over all codes, and its laws.
-- Assumes nothing.
use Prim.Native.Nat.{ℕ, ◌≤◌, ◌<◌}
use mathlib.Core.Path.{◌≡◌, sym, ap, subst}
use mathlib.Core.Bool.{Bool, true, false, not}
use lib.Dec.{T, eqb, leb, eqb→eq}
use borrow.Author.Tests.{eqb-true, eq-eqb, le-leb, not-true}
use Rattle.laws.specs.Choice.{pick, both}
use Rattle.laws.specs.Range.{upto}
use Rattle.laws.proofs.Choice.{both_left, both_right}
use Rattle.laws.proofs.Range.{upto_at}
use Rattle.record.specs.declared.Opcode.{Opcode}
use Rattle.record.specs.declared.Opcode.TheVariants.{NOP}
use Rattle.record.specs.declared.Size.TheVariants as size
use Rattle.record.specs.declared.Width.TheVariants.{None}
use Rattle.record.specs.declared.Operand.TheVariants.{Nothing}
use Rattle.record.specs.Numbers.{opcode_no, size_no, width_no, operand_no}
use Rattle.record.proofs.Apart.{opcodes_apart, sizes_apart, widths_apart, operands_apart}
use Rattle.rows.specs.Row.{Condition, named, unnamed, Row}
use Rattle.rows.specs.Codes.{cond_of}
use Rattle.rows.specs.Groups.{known, rows_of, document01}
use Rattle.rows.specs.All.{every_code}
use Rattle.rows.proofs.All.{every_code_lem}
use Rattle.encode_rules.specs.steps.Search.{disps, imms, conds, live}
use Rattle.encode_rules.proofs.Bools.{so, both_true, picked}
use Rattle.encode_rules.proofs.Condition.{condition, means_so}
use Rattle.tells.specs.steps.Stamp.{shown_name, in_code}

-- what is so of a live row
pub record Shown (w : Row) : Type 0 where
  -- beside a number that is part of the code nothing is read
  pub alone : in_code w.face.opcode w.face.size ≡ true → (imms w.reads ≡ 0) × (conds w.reads ≡ 0) × (disps w.reads ≡ 0)
  -- where a condition names the opcode, the row itself names no width and no opcode
  pub width : 1 ≤ conds w.reads → w.face.width ≡ None
  pub opcode : 1 ≤ conds w.reads → w.face.opcode ≡ NOP
  -- and no opcode that a condition names has its number in the code
  pub uncoded : 1 ≤ conds w.reads → (n : ℕ) (o : Opcode) → n < 256 → cond_of n ≡ named o → in_code o w.face.size ≡ false
  -- no operand 1 without an operand 0
  pub order : w.face.op0 ≡ Nothing → w.face.op1 ≡ Nothing

-- the same as tests: a number in the code, and nothing read
aloneb : Row → Bool
aloneb w =
    pick (in_code w.face.opcode w.face.size) (both (eqb (imms w.reads) 0) (both (eqb (conds w.reads) 0) (eqb (disps w.reads) 0))) true

-- a condition, and no width, opcode or size in the row
blankb : Row → Bool
blankb w =
    pick (leb 1 (conds w.reads))
    (both (eqb (width_no w.face.width) (width_no None))
    (both (eqb (opcode_no w.face.opcode) (opcode_no NOP)) (eqb (size_no w.face.size) (size_no size.None))))
    true

-- no operand 0, and no operand 1
orderb : Row → Bool
orderb w = pick (eqb (operand_no w.face.op0) (operand_no Nothing)) (eqb (operand_no w.face.op1) (operand_no Nothing)) true

-- all of them
shownb : Row → Bool
shownb w = both (aloneb w) (both (blankb w) (orderb w))

-- at each live code
right : ℕ → ℕ → Bool
right a b = pick (live (document01.row_at a b)) (shownb (document01.row_at a b)) true

-- the test over all codes
all_right : T (every_code right)
unfolding every_code right shownb aloneb blankb orderb in_code disps imms conds rows_of
all_right = tt

-- a condition's opcode is not INT, and its row has no size
uncodedb : Condition → Bool
uncodedb (named o) = not (in_code o size.None)
uncodedb unnamed = true

-- the test over all condition bytes
all_uncoded : T (upto (λ n. uncodedb (cond_of n)) 256)
unfolding upto uncodedb cond_of in_code
all_uncoded = tt

-- so it has no number in the code
unsized : (n : ℕ) (o : Opcode) → n < 256 → cond_of n ≡ named o → in_code o size.None ≡ false
unfolding uncodedb
unsized n o h e = not-true _ (so _ (subst (λ c. T (uncodedb c)) e (upto_at (λ n. uncodedb (cond_of n)) 256 all_uncoded n h)))

-- what a row's passed tests say of it
module _ (w : Row) where
  alone_so : T (aloneb w) → in_code w.face.opcode w.face.size ≡ true → (imms w.reads ≡ 0) × (conds w.reads ≡ 0) × (disps w.reads ≡ 0)
  unfolding aloneb
  alone_so t e =
      let p = both_true _ _ (so _ (picked (in_code w.face.opcode w.face.size) _ t e)) in
      let q = both_true _ _ p.1 in
      (eqb-true _ 0 p.0, eqb-true _ 0 q.0, eqb-true _ 0 q.1)

  blank_so : T (blankb w) → 1 ≤ conds w.reads → (w.face.width ≡ None) × (w.face.opcode ≡ NOP) × (w.face.size ≡ size.None)
  unfolding blankb
  blank_so t c =
      let p = both_true _ _ (so _ (picked (leb 1 (conds w.reads)) _ t (le-leb 1 _ c))) in
      let q = both_true _ _ p.1 in
      (widths_apart _ None (eqb-true _ _ p.0), opcodes_apart _ NOP (eqb-true _ _ q.0), sizes_apart _ size.None (eqb-true _ _ q.1))

  order_so : T (orderb w) → w.face.op0 ≡ Nothing → w.face.op1 ≡ Nothing
  unfolding orderb
  order_so t e = operands_apart _ Nothing (eqb→eq _ _ (picked (eqb (operand_no w.face.op0) (operand_no Nothing)) _ t (eq-eqb _ _ (ap operand_no e))))

  shown_so : T (shownb w) → Shown w
  unfolding shownb
  shown_so t =
      let u = both_right (aloneb w) _ t in
      let blank = blank_so (both_left (blankb w) _ u) in
      record {
        alone = alone_so (both_left (aloneb w) _ t);
        width = λ c. (blank c).0;
        opcode = λ c. (blank c).1;
        uncoded = λ c n o h e. subst (λ z. in_code o z ≡ false) (sym (blank c).2) (unsized n o h e);
        order = order_so (both_right (blankb w) _ u);
      }

-- every live row of document 01 is so
pub shown : (a b : ℕ) → known a ≡ true → b < 256 → live (document01.row_at a b) ≡ true → Shown (document01.row_at a b)
unfolding right
shown a b k l v = shown_so (document01.row_at a b) (picked (live (document01.row_at a b)) _ (every_code_lem right all_right b l a k) v)

-- an opcode that a condition names is shown as NOP where there is no width
pub shown_by_condition : (n : ℕ) (o : Opcode) → n < 256 → cond_of n ≡ named o → shown_name None o ≡ opcode_no NOP
unfolding shown_name
shown_by_condition n o h e = rw (condition n o h e, means_so (cond_of n) o e)
