-- Which group has a first byte: what the group's function answers is what document 01's row of the code says.
-- Assumes nothing.
use Prim.Native.Nat.{ℕ, ◌/◌, ◌%◌, ◌≤◌, ◌<◌}
use mathlib.Core.Path.{◌≡◌, refl, sym, ap, ◌∙◌}
use mathlib.Core.Logic.{◌⊎◌}
use mathlib.Core.Bool.{Bool, true, false}
use mathlib.Core.List.{List, []}
use native.Mathlib.Omega.{arith}
use lib.Dec.{eqb}
use borrow.Author.Tests.{le-ltb, lt-ltb, ne_eqb}
use Rattle.laws.specs.Choice.{pick, either}
use Rattle.laws.proofs.Agree.{Rest}
use Rattle.record.specs.Answer.{Answer}
use Rattle.record.specs.declared.Opcode.{Opcode}
use Rattle.rows.specs.Pairs.{two}
use Rattle.rows.specs.RegisterList.{list}
use Rattle.rows.specs.Groups.{known, document01}
use Rattle.rows.specs.Run.{refusal, run_row, run}
use Rattle.readers.specs.steps.Width.{width_of}
use Rattle.decode_72.specs.steps.Added.{is_two, is_list, is_added, opcode_of, list_opcode}
use Rattle.decode_72.proofs.Rows.{two_rows, list_rows}
use Rattle.decode.proofs.First.{keys, known_rest}
use Rattle.m16c_decode.specs.steps.Behind.{behind_pairs}

-- by document 01, an answer of the first byte's group
abbrev pub Grouped : ℕ → ℕ → List ℕ → Answer → Type 0
Grouped a b bs x = x ≡ pick (known a) (run_row (document01.row_at a b) bs) (refusal 4 1)

-- a list reads nothing behind its second byte
reads_none : (o : Opcode) (h n : ℕ) (bs : List ℕ) → run_row (list o h n) [] ≡ run_row (list o h n) bs
unfolding run_row run list
reads_none o h n bs = refl

early : (a : ℕ) → a ≤ 0xC1 → is_list a ≡ false
unfolding is_list
early a l = ne_eqb (a / 2) 0x76 (λ e. omega arith)

late : (a : ℕ) → 0xC1 < a → is_two a ≡ false
unfolding is_two
late a l = rw (le-ltb a 0x7F (omega arith), lt-ltb 0xC1 a l) refl

-- behind the groups of one first byte or two: ten pairs, two lists, and what is outside
module _ (a b : ℕ) (bs : List ℕ) (l : a < 256) (r : Rest keys a) (o : (a < 0x74) ⊎ (0x7A ≤ a)) where
  told : (x y : Bool) → is_two a ≡ x → is_list a ≡ y → known a ≡ either x y
  unfolding is_added
  told x y e f = known_rest a l r o ∙ (λ i. either (e i) (f i))

  pub of_two : is_two a ≡ true → Grouped a b bs (run_row (two (opcode_of a) (width_of (eqb (a % 2) 0)) (b / 16) (b % 16)) bs)
  of_two e = rw (told true (is_list a) e refl) (ap (λ r. run_row r bs) (sym (two_rows (b / 16) (b % 16) a l e)))

  pub of_list : 0xC1 < a → Grouped a b bs (behind_pairs a b)
  of_list h = by (is_list a) refl
    where
      by : (x : Bool) → is_list a ≡ x → pick x (run_row (list (list_opcode a) (b / 16) (b % 16)) []) (refusal 4 1) ≡ pick (known a) (run_row (document01.row_at a b) bs) (refusal 4 1)
      by true e = rw (told false true (late a h) e) (reads_none (list_opcode a) (b / 16) (b % 16) bs ∙ ap (λ r. run_row r bs) (sym (list_rows (b / 16) (b % 16) a l e)))
      by false e = rw (told false false (late a h) e) refl

  pub of_none : a ≤ 0xC1 → is_two a ≡ false → Grouped a b bs (refusal 4 1)
  of_none h e = rw (told false false e (early a h)) refl
