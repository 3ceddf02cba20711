-- 7A and 7B: which part of the second byte's codes the row is of.
-- Assumes nothing.
use Prim.Native.Nat.{ℕ, ◌/◌, ◌%◌, ◌≤◌, ◌<◌}
use mathlib.Core.Path.{◌≡◌}
use mathlib.Core.List.{List}
use native.Mathlib.Omega.{arith}
use borrow.Author.Tests.{le-leb, lt-leb}
use Rattle.record.specs.Answer.{Answer}
use Rattle.record.specs.declared.Width.{Width}
use Rattle.rows.specs.Row.{InvalidOperand, Row}
use Rattle.rows.specs.Rows.{row, xchg}
use Rattle.rows.specs.Run.{refusal, run_row}
use Rattle.rows.proofs.Steps.{stops}
use Rattle.readers.proofs.Nibble.{upper}
use Rattle.decode_74.specs.steps.Op7A.{thirds}

module _ (up : ℕ → ℕ → Row) (w : Width) (b : ℕ) (bs : List ℕ) {x : Answer} where
  pub in_upper : b < 256 → 128 ≤ b → x ≡ run_row (up (b / 16 % 8) (b % 16)) bs → x ≡ run_row (thirds up w (b / 16) (b % 16)) bs
  in_upper l g e = let h : 8 ≤ b / 16 = omega arith in rw (le-leb _ _ h, ← upper b l g) e

  pub in_none : b < 128 → 64 ≤ b → x ≡ refusal 3 2 → x ≡ run_row (thirds up w (b / 16) (b % 16)) bs
  unfolding run_row row
  in_none l g e =
      let h : b / 16 < 8 = omega arith in
      let k : 4 ≤ b / 16 = omega arith in
      rw (lt-leb _ _ h, le-leb _ _ k) (stops InvalidOperand _ _ _ _ e)

  pub in_lower : b < 64 → x ≡ run_row (xchg w (b / 16) (b % 16)) bs → x ≡ run_row (thirds up w (b / 16) (b % 16)) bs
  in_lower l e =
      let h : b / 16 < 8 = omega arith in
      let k : b / 16 < 4 = omega arith in
      rw (lt-leb _ _ h, lt-leb _ _ k) e
