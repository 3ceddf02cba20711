-- Rows and manual: where they say the same, where they differ, and where one of them is silent. One test over all codes, and its laws.
-- Assumes nothing.
use Prim.Native.Nat.{ℕ, ◌+◌, ◌<◌}
use mathlib.Core.Path.{◌≡◌, refl, sym, ap, ◌∙◌}
use mathlib.Core.Bool.{Bool, true, false, not}
use lib.Dec.{T, eqb, eqb→eq}
use borrow.Author.Tests.{eq-eqb, ne_eqb}
use Rattle.laws.specs.Choice.{both, either}
use Rattle.laws.specs.Range.{upto}
use Rattle.laws.proofs.Choice.{both_left, both_right}
use Rattle.laws.proofs.Range.{upto_at}
use Rattle.manual.specs.Meaning.{Meaning, Entry, meaning, empty}
use Rattle.manual.specs.Bits as bits
use Rattle.manual.specs.Bits.{condition_at}
use Rattle.manual.specs.Packed.{packed, packed_condition}
use Rattle.manual.specs.Entries.{entry_at}
use Rattle.manual.proofs.Packing.{over, injective, injective_condition}
use Rattle.record.specs.declared.Opcode.{Opcode}
use Rattle.record.specs.Numbers.{opcode_no}
use Rattle.rows.specs.Row.{Condition, named, unnamed, Row}
use Rattle.rows.specs.Codes.{cond_of}
use Rattle.rows.specs.Groups.{known, rows_of, document01}
use Rattle.rows.specs.Fate.{fate}
use Rattle.rows.specs.All.{every_code, count_codes}
use Rattle.rows.specs.Agree.{recorded, size_fits}
use Rattle.rows.specs.steps.Meant.{Agrees, meaning_of}
use Rattle.rows.specs.Lists.{listed_in, starred_row, exchanged_code, starred, unmeant_code, refused_code}
use Rattle.rows.proofs.All.{every_code_lem}

-- the two parts of agreement, as tests
unfoldable pub sized : ℕ → ℕ → Row → Meaning → Bool
sized a b r m = size_fits a b r.face.size r.face.width m.suffix

unfoldable pub said : Row → Meaning → Bool
said r m = eqb (packed (meaning (meaning_of r m.suffix))) (packed (meaning (recorded m)))

-- their numbers have room in the packing, so that equal numbers are equal meanings
unfoldable pub roomy : Row → Meaning → Bool
roomy r m = both (eqb (over (meaning (meaning_of r m.suffix))) 0) (eqb (over (meaning (recorded m))) 0)

unfoldable pub same : ℕ → ℕ → Row → Meaning → Bool
same a b r m = both (both (said r m) (roomy r m)) (sized a b r m)

-- of an accepted and unmarked code
unmarked_right : ℕ → ℕ → Row → Entry → Bool
unmarked_right a b r (meaning m) = both (same a b r m) (not (listed_in unmeant_code a b))
unmarked_right a b r empty = listed_in unmeant_code a b

-- of an accepted and marked one: its row is starred as a whole, or the code differs
marked_right : ℕ → ℕ → Row → Entry → Bool
marked_right a b r (meaning m) = either (listed_in starred_row a b) (not (both (said r m) (sized a b r m)))
marked_right a b r empty = listed_in starred_row a b

-- of a refused one
refused_right : ℕ → ℕ → Entry → Bool
refused_right a b (meaning m) = listed_in refused_code a b
refused_right a b empty = not (listed_in refused_code a b)

judged : Bool → Bool → ℕ → ℕ → Row → Entry → Bool
judged true true a b r e = both (starred a b) (marked_right a b r e)
judged true false a b r e = both (not (starred a b)) (unmarked_right a b r e)
judged false m a b r e = refused_right a b e

right : ℕ → ℕ → Bool
right a b = judged (eqb (fate (document01.row_at a b).reads) 0) (document01.row_at a b).face.marked a b (document01.row_at a b) (entry_at a b)

all_right : T (every_code right)
unfolding every_code right judged refused_right marked_right unmarked_right same roomy said sized over packed entry_at rows_of meaning_of recorded
all_right = tt

-- what a passed test says of a code
module _ (a b : ℕ) (r : Row) (m : Meaning) where
  pub same_agrees : T (same a b r m) → Agrees a b r m
  unfolding same said roomy sized
  same_agrees t =
      let whole = both_left (both (said r m) (roomy r m)) (sized a b r m) t in
      let room = both_right (said r m) (roomy r m) whole in
      let x = meaning_of r m.suffix in
      let y = recorded m in
      let e : meaning x ≡ meaning y =
      injective (meaning x) (meaning y) (eqb→eq _ 0 (both_left (eqb (over (meaning x)) 0) (eqb (over (meaning y)) 0) room))
      (eqb→eq _ 0 (both_right (eqb (over (meaning x)) 0) (eqb (over (meaning y)) 0) room)) (eqb→eq _ _ (both_left (said r m) (roomy r m) whole))
      in
      record { said = cc; size = both_right (both (said r m) (roomy r m)) (sized a b r m) t }

  agrees_same : Agrees a b r m → T (both (said r m) (sized a b r m))
  unfolding said sized
  agrees_same h = rw (eq-eqb _ _ (ap (λ x. packed (meaning x)) h.said)) h.size

not_both : (x y : Bool) → T (either x (not y)) → T y → T x
not_both true y t u = tt
not_both false true t u = t
not_both false false t u = u

-- the test's part that is about a code's mark and entry
module _ (a b : ℕ) (r : Row) where
  unmarked_passed : (x y : Bool) (z : Entry) → x ≡ true → y ≡ false → T (judged x y a b r z) → T (both (not (starred a b)) (unmarked_right a b r z))
  unfolding judged
  unmarked_passed x y z p q t = rw (p, q) at t

  marked_passed : (x y : Bool) (z : Entry) → x ≡ true → y ≡ true → T (judged x y a b r z) → T (both (starred a b) (marked_right a b r z))
  unfolding judged
  marked_passed x y z p q t = rw (p, q) at t

  refused_passed : (x y : Bool) (z : Entry) → x ≡ false → T (judged x y a b r z) → T (refused_right a b z)
  unfolding judged
  refused_passed x y z p t = rw p at t

module _ (a b : ℕ) (k : known a ≡ true) (l : b < 256) where
  abbrev pub row : Row
  row = document01.row_at a b

  here : T (judged (eqb (fate row.reads) 0) row.face.marked a b row (entry_at a b))
  unfolding right
  here = every_code_lem right all_right b l a k

  unmarked_here : fate row.reads ≡ 0 → row.face.marked ≡ false → T (both (not (starred a b)) (unmarked_right a b row (entry_at a b)))
  unmarked_here f u = unmarked_passed a b row _ _ (entry_at a b) (eq-eqb _ 0 f) u here

  marked_here : fate row.reads ≡ 0 → row.face.marked ≡ true → T (both (starred a b) (marked_right a b row (entry_at a b)))
  marked_here f u = marked_passed a b row _ _ (entry_at a b) (eq-eqb _ 0 f) u here

  refused_here : (fate row.reads ≡ 0 → ⊥) → T (refused_right a b (entry_at a b))
  refused_here f = refused_passed a b row _ row.face.marked (entry_at a b) (ne_eqb _ 0 f) here

  -- the row of an unmarked code to which the manual gives a meaning says the same
  pub row_agreement : fate row.reads ≡ 0 → row.face.marked ≡ false → (m : Meaning) → entry_at a b ≡ meaning m → Agrees a b row m
  unfolding unmarked_right
  row_agreement f u m e = same_agrees a b row m (both_left (same a b row m) _ (rw e at (both_right (not (starred a b)) _ (unmarked_here f u))))

  -- one without is among the 68, and none of these has a meaning
  pub unmeant : fate row.reads ≡ 0 → row.face.marked ≡ false → entry_at a b ≡ empty → T (listed_in unmeant_code a b)
  unfolding unmarked_right
  unmeant f u e = rw e at (both_right (not (starred a b)) _ (unmarked_here f u))

  pub meant : fate row.reads ≡ 0 → row.face.marked ≡ false → (m : Meaning) → entry_at a b ≡ meaning m → T (not (listed_in unmeant_code a b))
  unfolding unmarked_right
  meant f u m e = both_right (same a b row m) _ (rw e at (both_right (not (starred a b)) _ (unmarked_here f u)))

  -- a marked code differs, unless document 01 stars its whole row
  pub difference : fate row.reads ≡ 0 → row.face.marked ≡ true → (m : Meaning) → entry_at a b ≡ meaning m → Agrees a b row m → T (listed_in starred_row a b)
  unfolding marked_right
  difference f u m e h = not_both (listed_in starred_row a b) (both (said row m) (sized a b row m)) (rw e at (both_right (starred a b) _ (marked_here f u))) (agrees_same a b row m h)

  pub marked_unmeant : fate row.reads ≡ 0 → row.face.marked ≡ true → entry_at a b ≡ empty → T (listed_in starred_row a b)
  unfolding marked_right
  marked_unmeant f u e = rw e at (both_right (starred a b) _ (marked_here f u))

  -- the marks are document 01's stars and the 52 codes, and no others
  pub marked_starred : fate row.reads ≡ 0 → row.face.marked ≡ true → T (starred a b)
  marked_starred f u = both_left (starred a b) _ (marked_here f u)

  pub unmarked_plain : fate row.reads ≡ 0 → row.face.marked ≡ false → T (not (starred a b))
  unmarked_plain f u = both_left (not (starred a b)) _ (unmarked_here f u)

  -- of the refused codes six have a meaning
  pub refused_meant : (fate row.reads ≡ 0 → ⊥) → (m : Meaning) → entry_at a b ≡ meaning m → T (listed_in refused_code a b)
  unfolding refused_right
  refused_meant f m e = rw e at (refused_here f)

  pub refused_unmeant : (fate row.reads ≡ 0 → ⊥) → entry_at a b ≡ empty → T (not (listed_in refused_code a b))
  unfolding refused_right
  refused_unmeant f e = rw e at (refused_here f)

-- the lists are as long as they are said to be
pub lists : (count_codes (listed_in exchanged_code) ≡ 52) × (count_codes (listed_in unmeant_code) ≡ 68) × (count_codes (listed_in refused_code) ≡ 6)
unfolding count_codes
lists = (refl, refl, refl)

-- a condition byte, as the manual's packing numbers it
pub condition_no : Condition → ℕ
condition_no (named o) = 1 + opcode_no o
condition_no unnamed = 0

condition_right : ℕ → Bool
condition_right c = eqb (condition_no (cond_of c)) (packed_condition (condition_at c))

all_conditions : T (upto condition_right 256)
unfolding upto condition_right condition_no cond_of packed_condition condition_at
all_conditions = tt

-- the condition bytes of 7E 2x name what the manual names
pub conditions : (c : ℕ) → c < 256 → condition_no (cond_of c) ≡ packed_condition (condition_at c)
unfolding condition_right
conditions c l = eqb→eq _ _ (upto_at condition_right 256 all_conditions c l)

pub condition : (c : ℕ) → c < 256 → (o : Opcode) → cond_of c ≡ named o → condition_at c ≡ bits.named o
unfolding condition_no packed_condition
condition c l o e = injective_condition (condition_at c) (bits.named o) (sym (conditions c l) ∙ ap condition_no e)
