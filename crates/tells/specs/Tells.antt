-- Request A6: which bytes a line of a listing tells, and the four pairs of codes that it cannot tell apart, since they mean the same.
use Rattle.std.specs.Prelude.{ℕ, ◌-◌, ◌≡◌, false, List, [], ◌∷◌, eqb, take}
use Rattle.laws.specs.Choice.{pick, both}
use Rattle.rows.specs.Bytes.{Bytes}
use Rattle.rows.specs.Lists.{one_of}
use Rattle.rows.specs.Run.{decode_rows}

-- behind 7C these mean what the bytes 128 below them mean: both operands are R0L
abbrev pub twins : List ℕ
twins = 0x80 ∷ 0x90 ∷ 0xA0 ∷ 0xB0 ∷ []

-- the second byte that stands for a code
unfoldable pub folded : ℕ → ℕ → ℕ
folded a b = pick (both (eqb a 0x7C) (one_of twins b)) (b - 128) b

-- bytes with the code that stands for theirs
abbrev pub standing : List ℕ → List ℕ
standing [] = []
standing (a ∷ []) = a ∷ []
standing (a ∷ b ∷ bs) = a ∷ folded a b ∷ bs

-- the bytes of the instruction that some bytes begin with, under the code that stands for its own
abbrev pub instruction : List ℕ → List ℕ
instruction bs = standing (take (decode_rows bs).taken bs)

-- bytes that an unmarked row accepts, and of which it drops nothing
pub record Clear (bs : List ℕ) : Type 0 where
  pub bytes : Bytes bs
  pub accepted : (decode_rows bs).refusal ≡ 0
  pub unmarked : (decode_rows bs).inst.marked ≡ false
  pub undropped : (decode_rows bs).inst.dropped ≡ false
