-- What a writer of text returns and leaves.
use Rattle.std.specs.Prelude.{ℕ, ◌≡◌, List, length, leb, Result, Ok, Err}
use Rattle.laws.specs.Choice.{pick}
use Rattle.laws.specs.Over.{over}
use Rattle.record.specs.declared.refusal.Refusal.{Refusal}
use Rattle.record.specs.declared.refusal.Refusal.TheVariants.{TooLittleRoom}

pub record Delivered : Type 0 where
  pub written : Result ℕ Refusal
  pub buffer : List ℕ

-- the text over the first bytes, the others as they were, and its length; or with too little room that refusal, and every byte as it was
unfoldable pub left : List ℕ → List ℕ → Delivered
left xs bs =
    pick (leb (length xs) (length bs))
    (record { written = Ok (length xs); buffer = over xs bs })
    (record { written = Err TooLittleRoom; buffer = bs })

-- the promise, of any text: what is returned, and every byte of the buffer as it is left
pub record Writes (text buffer : List ℕ) (w : Result ℕ Refusal) (after : List ℕ) : Type 0 where
  pub returned : w ≡ (left text buffer).written
  pub kept : after ≡ (left text buffer).buffer
