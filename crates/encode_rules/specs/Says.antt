-- What an encoder must find: of all byte strings that decode by an unmarked row to the same instruction, the shortest, and of these the first in byte order.
-- Over any table of rows, and over byte strings of any length.
use Rattle.std.specs.Prelude.{ℕ, ◌≤◌, ◌≡◌, false, List, [], ◌∷◌, length}
use Rattle.record.specs.declared.Record.{Record}
use Rattle.record.specs.Same.{Same}
use Rattle.rows.specs.Bytes.{Bytes}
use Rattle.rows.specs.Row.{Table}
use Rattle.rows.specs.Run.{decode_by}

-- byte order, of lists that are as long as each other: xs is ys, or comes before it
abbrev pub First : List ℕ → List ℕ → Type 0
First [] ys = Unit {0}
First (x ∷ xs) [] = ⊥
First (x ∷ xs) (y ∷ ys) = (x ≤ y) × (x ≡ y → First xs ys)

-- ys is not shorter than xs, and if it is as short, it does not come before xs in byte order
pub record Ahead (xs ys : List ℕ) : Type 0 where
  pub short : length xs ≤ length ys
  pub first : length xs ≡ length ys → First xs ys

-- what an encoder finds: bytes, or that there are none (refusal 5)
pub data Found : Type 0 where
  bytes : List ℕ → Found
  none : Found

module _ (t : Table) where
  -- the bytes decode, by an unmarked row, to the same instruction as r
  pub record Says (bs : List ℕ) (r : Record) : Type 0 where
    pub accepted : (decode_by t bs).refusal ≡ 0
    pub unmarked : (decode_by t bs).inst.marked ≡ false
    pub same : Same (decode_by t bs).inst r

  -- and no other bytes that do are shorter, or as short and before them in byte order
  pub record Best (r : Record) (bs : List ℕ) : Type 0 where
    pub bytes : Bytes bs
    pub says : Says bs r
    pub least : (xs : List ℕ) → Bytes xs → Says xs r → Ahead bs xs

  -- what was found for r is right: the best bytes, or none where no bytes encode r
  abbrev pub Right : Record → Found → Type 0
  Right r (bytes bs) = Best r bs
  Right r none = (xs : List ℕ) → Bytes xs → Says xs r → ⊥
