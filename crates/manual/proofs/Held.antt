-- The definitions say of every code, and of every condition byte, what the witnesses' table says of it.
-- Assumes nothing.
use mathlib.Core.Path.{◌≡◌, refl, subst, sym, ◌∙◌}
use mathlib.Core.Bool.{Bool}
use mathlib.Core.List.{List, [], ◌∷◌, map}
use Prim.Native.Nat.{ℕ, suc, ◌/◌, ◌%◌, ◌<◌}
use native.Mathlib.Omega.{arith}
use borrow.Author.Tests.{ne_eqb}
use lib.Dec.{T, eqb, eqb→eq}
use lib.ListN.{length, get_or}
use Rattle.laws.specs.Choice.{both}
use Rattle.laws.specs.Table.{every}
use Rattle.laws.proofs.Choice.{both_left, both_right}
use Rattle.laws.proofs.Table.{at}
use Rattle.manual.specs.Meaning.{Entry, empty}
use Rattle.manual.specs.Bits.{Condition, condition_at}
use Rattle.manual.specs.Entries.{First, firsts, first_bytes, entries_in, entry_at, count}
use Rattle.manual.specs.Packed.{packed, packed_condition}
use Rattle.manual.proofs.Listed.{listed, conditions}
use Rattle.manual.proofs.Packing.{over, injective, injective_condition}

-- an entry, and the number listed for it
right : Entry → ℕ → Bool
right e x = both (eqb (packed e) x) (eqb (over e) 0)

right_number : (e : Entry) (x : ℕ) → T (right e x) → packed e ≡ x
unfolding right
right_number e x t = eqb→eq (packed e) x (both_left (eqb (packed e) x) (eqb (over e) 0) t)

right_fits : (e : Entry) (x : ℕ) → T (right e x) → over e ≡ 0
unfolding right
right_fits e x t = eqb→eq (over e) 0 (both_right (eqb (packed e) x) (eqb (over e) 0) t)

-- a first byte's place, and its list
right_list : ℕ → List ℕ → Bool
right_list j xs = both (eqb (length xs) 256) (every (λ second. right (entry_at (get_or first_bytes j 0) second)) 0 xs)

all_right : T (every right_list 0 listed)
unfolding listed right_list right packed over entry_at
all_right = tt

-- one list, its length and its entries
module _ (j : ℕ) (xs : List ℕ) (t : T (right_list j xs)) where
  whole : length xs ≡ 256
  unfolding right_list
  whole = eqb→eq (length xs) 256 (both_left (eqb (length xs) 256) (every (λ second. right (entry_at (get_or first_bytes j 0) second)) 0 xs) t)

  entry : (second : ℕ) → second < 256 → T (right (entry_at (get_or first_bytes j 0) second) (get_or xs second 0))
  unfolding right_list
  entry second h =
      at (λ k. right (entry_at (get_or first_bytes j 0) k)) 0 xs
      (both_right (eqb (length xs) 256) (every (λ k. right (entry_at (get_or first_bytes j 0) k)) 0 xs) t) second
      (subst (λ (n : ℕ). second < n) (sym whole) h)

as_many : length listed ≡ length first_bytes
unfolding listed
as_many = refl

-- the first bytes, by their places, and the second bytes
module _ (j second : ℕ) (hj : j < length first_bytes) (h : second < 256) where
  passed : T (right (entry_at (get_or first_bytes j 0) second) (get_or (get_or listed j []) second 0))
  passed = entry j (get_or listed j []) (at right_list [] listed all_right j (subst (λ (n : ℕ). j < n) (sym as_many) hj)) second h

  -- the code's entry has the listed number
  pub held : packed (entry_at (get_or first_bytes j 0) second) ≡ get_or (get_or listed j []) second 0
  held = right_number (entry_at (get_or first_bytes j 0) second) (get_or (get_or listed j []) second 0) passed

  -- its numbers fit their digits
  pub fits : over (entry_at (get_or first_bytes j 0) second) ≡ 0
  fits = right_fits (entry_at (get_or first_bytes j 0) second) (get_or (get_or listed j []) second 0) passed

  -- so the listed number leaves only one entry
  pub determined : (e : Entry) → over e ≡ 0 → packed e ≡ get_or (get_or listed j []) second 0 → e ≡ entry_at (get_or first_bytes j 0) second
  determined e f p = injective e (entry_at (get_or first_bytes j 0) second) f fits (p ∙ sym held)

-- a first byte that is not listed has no meaning
absent : (fs : List First) (a h n : ℕ) → ((j : ℕ) → j < length (map (λ f. f.byte) fs) → a ≡ get_or (map (λ f. f.byte) fs) j 0 → ⊥) → entries_in fs a h n ≡ empty
absent [] a h n ne = refl
absent (f ∷ fs) a h n ne = rw (ne_eqb a f.byte (ne 0 (omega arith))) (absent fs a h n (λ j l. ne (suc j) (omega (arith, l))))

pub outside : (a b : ℕ) → ((j : ℕ) → j < length first_bytes → a ≡ get_or first_bytes j 0 → ⊥) → entry_at a b ≡ empty
unfolding entry_at
outside a b = absent firsts a (b / 16) (b % 16)

right_condition : ℕ → ℕ → Bool
right_condition c x = eqb (packed_condition (condition_at c)) x

all_conditions : T (every right_condition 0 conditions)
unfolding conditions right_condition packed_condition condition_at
all_conditions = tt

full : length conditions ≡ 256
unfolding conditions
full = refl

pub held_condition : (c : ℕ) → c < 256 → packed_condition (condition_at c) ≡ get_or conditions c 0
unfolding right_condition
held_condition c h =
    eqb→eq (packed_condition (condition_at c)) (get_or conditions c 0)
    (at right_condition 0 conditions all_conditions c (subst (λ (n : ℕ). c < n) (sym full) h))

-- and the listed number leaves only one condition
pub determined_condition : (c : ℕ) → c < 256 → (d : Condition) → packed_condition d ≡ get_or conditions c 0 → d ≡ condition_at c
determined_condition c h d p = injective_condition d (condition_at c) (p ∙ sym (held_condition c h))

-- how many codes have a meaning
pub meanings : count ≡ 8146
unfolding count
meanings = refl
