-- What is asked of the table: when it is asked, for which entry, and that what it then tells is the promise.
-- Assumes nothing.
use Prim.Native.Nat.{ℕ, ◌<◌}
use mathlib.Core.Path.{◌≡◌, refl, sym, ap, ◌∙◌}
use mathlib.Core.Bool.{Bool, true, false}
use mathlib.Core.List.{List, [], ◌∷◌}
use Rattle.std.specs.Prelude.{Some, None}
use native.Mathlib.Omega.{arith}
use lib.Dec.{T, ltb, ltb→lt}
use lib.ListN.{length, get_or}
use Rattle.laws.specs.Choice.{pick}
use Rattle.laws.specs.Range.{upto}
use Rattle.laws.proofs.Choice.{pick_holds}
use Rattle.laws.proofs.Range.{upto_at}
use Rattle.rows.specs.Groups.{known, document01}
use Rattle.lengths.specs.Length.{LengthOf}
use Rattle.lengths.specs.steps.Table.{rows, table}
use Rattle.lengths.specs.steps.Entry.{place, character, entry_at, refusal_in, length_in, too_few, entry_of, is_entry}
use Rattle.lengths.proofs.Place.{below}
use Rattle.lengths.proofs.Laws.{of_outside, of_none, of_one}
use Rattle.lengths.proofs.Rule.{entry_right}

-- a first byte with a place is known, and one with none is outside
pub some_known_at : (a : ℕ) {p : ℕ} → Some p ≡ pick (known a) (Some (place a)) None → (known a ≡ true) × (p ≡ place a)
some_known_at a {p} e = by (known a) refl e
  where
    by : (x : Bool) → known a ≡ x → Some p ≡ pick x (Some (place a)) None → (known a ≡ true) × (p ≡ place a)
    by true k e = (k, cc)
    by false k e = absurd cc

pub none_unknown : (a : ℕ) → None ≡ pick (known a) (Some (place a)) None → known a ≡ false
none_unknown a e = by (known a) refl e
  where
    by : (x : Bool) → known a ≡ x → None ≡ pick x (Some (place a)) None → known a ≡ false
    by true k e = absurd cc
    by false k e = k

truly : (b : Bool) → T b → b ≡ true
truly true t = refl
truly false t = absurd t

-- each entry of the table is told
all_told : T (upto (λ p. upto (λ b. is_entry (character p b)) 256) rows)
unfolding upto table character
all_told = tt

pub is_told : (p b : ℕ) → p < rows → b < 256 → is_entry (character p b) ≡ true
is_told p b h l = truly _ (upto_at (λ b. is_entry (character p b)) 256 (upto_at (λ p. upto (λ b. is_entry (character p b)) 256) rows all_told p h) b l)

-- and by its entry, since none of the table is 0
none_zero : T (upto (λ p. upto (λ b. ltb 0 (entry_at p b)) 256) rows)
unfolding upto table character
none_zero = tt

each_some : (p b : ℕ) → p < rows → b < 256 → 0 < entry_at p b
each_some p b h l = ltb→lt 0 _ (upto_at (λ b. ltb 0 (entry_at p b)) 256 (upto_at (λ p. upto (λ b. ltb 0 (entry_at p b)) 256) rows none_zero p h) b l)

pub of_known : (a b : ℕ) → known a ≡ true → entry_of a b ≡ entry_at (place a) b
unfolding entry_of
of_known a b e = ap (λ k. pick k (entry_at (place a) b) 0) e

module _ (a b : ℕ) (l : b < 256) where
  pub zero_unknown : entry_of a b ≡ 0 → known a ≡ false
  unfolding entry_of
  zero_unknown = by (known a) refl
    where
      by : (x : Bool) → known a ≡ x → pick x (entry_at (place a) b) 0 ≡ 0 → x ≡ false
      by true e z = absurd (omega (arith, z, each_some (place a) b (below a e) l))
      by false e z = refl

  pub some_known : (entry_of a b ≡ 0 → ⊥) → known a ≡ true
  unfolding entry_of
  some_known = by (known a) refl
    where
      by : (x : Bool) → known a ≡ x → (pick x (entry_at (place a) b) 0 ≡ 0 → ⊥) → x ≡ true
      by true e n = refl
      by false e n = absurd (n refl)

-- what too few bytes are refused with goes by the first, if there is one
pub of_no_byte : (bs : List ℕ) → length bs ≡ 0 → 1 ≡ too_few bs
unfolding too_few
of_no_byte [] l = refl
of_no_byte (a ∷ bs) l = absurd (omega arith)

of_first : (bs : List ℕ) {k : Bool} → 0 < length bs → known (get_or bs 0 0) ≡ k → pick k 1 4 ≡ too_few bs
unfolding too_few
of_first [] l e = absurd (omega arith)
of_first (a ∷ bs) l e = ap (λ k. pick k 1 4) (sym e)

pub of_inside_byte : (bs : List ℕ) {p : ℕ} → 0 < length bs → Some p ≡ pick (known (get_or bs 0 0)) (Some (place (get_or bs 0 0))) None → 1 ≡ too_few bs
of_inside_byte bs l e = of_first bs l (some_known_at _ e).0

pub of_outside_byte : (bs : List ℕ) → 0 < length bs → None ≡ pick (known (get_or bs 0 0)) (Some (place (get_or bs 0 0))) None → 4 ≡ too_few bs
of_outside_byte bs l e = of_first bs l (none_unknown _ e)

-- the three ways to answer, in the form that the tests give
pub few_right : (bs : List ℕ) → length bs < 2 → LengthOf document01 bs (too_few bs) 0
unfolding too_few
few_right [] l = of_none document01
few_right (a ∷ []) l = pick_holds (λ e. LengthOf document01 (a ∷ []) e 0) (known a) 1 4 (of_one document01 a) (of_outside document01 a [])
few_right (a ∷ b ∷ bs) l = absurd (omega arith)

pub outside_right : (bs : List ℕ) → 1 < length bs → known (get_or bs 0 0) ≡ false → LengthOf document01 bs 4 0
outside_right [] l k = absurd (omega arith)
outside_right (a ∷ bs) l k = of_outside document01 a bs k

pub entry_told : (bs : List ℕ) {x r n : ℕ} → 1 < length bs → known (get_or bs 0 0) ≡ true → get_or bs 1 0 < 256 → x ≡ entry_at (place (get_or bs 0 0)) (get_or bs 1 0)
    → r ≡ refusal_in x → n ≡ length_in x → LengthOf document01 bs r n
entry_told [] l k b e f g = absurd (omega arith)
entry_told (a ∷ []) l k b e f g = absurd (omega arith)
entry_told (a ∷ c ∷ bs) l k b e f g = rw (f ∙ ap refusal_in e, g ∙ ap length_in e) (entry_right a c k b)
