-- The first byte chooses the group: what a group answers is what the rows of its first bytes say.
-- Assumes nothing.
use Prim.Native.Nat.{ℕ, ◌+◌, ◌%◌, ◌≤◌, ◌<◌}
use mathlib.Core.Path.{◌≡◌, refl, ◌∙◌}
use mathlib.Core.Logic.{◌⊎◌, inl, inr}
use mathlib.Core.Bool.{true, false}
use mathlib.Core.List.{List, [], ◌∷◌}
use native.Mathlib.Omega.{arith}
use lib.Dec.{eqb, leb, ltb}
use borrow.Author.Tests.{lt-leb, le-leb, le-ltb}
use Rattle.laws.specs.Choice.{pick, both}
use Rattle.laws.specs.Range.{Each}
use Rattle.laws.proofs.Agree.{Rest, agree, agree_past}
use Rattle.laws.proofs.Range.{each_from}
use Rattle.record.specs.declared.Width.{Width}
use Rattle.rows.specs.Row.{Row}
use Rattle.rows.specs.Groups.{known}
use Rattle.rows.specs.Run.{refusal, run_row}
use Rattle.readers.specs.steps.Width.{width_of}
use Rattle.decode_72.specs.steps.Added.{is_added}
use Rattle.by_manual.specs.Changed.{change_at}
use Rattle.by_manual.specs.Lists.{is_changed}
use Rattle.decode_changed.proofs.Rows.{none_outside}

-- of two first bytes, the even one has width B
module _ (row_at : ℕ → Row) (bs : List ℕ) (r : Width → Row) (even : ℕ) where
  abbrev Answers : ℕ → Type 0
  Answers a = run_row (r (width_of (eqb (a % 2) 0))) bs ≡ pick (known a) (run_row (row_at a) bs) (refusal 4 1)

  pub of_pair : Each (λ k. Answers (even + k)) 2 → (a : ℕ) → even ≤ a → a < even + 2 → Answers a
  of_pair = each_from Answers even 2

-- as in_part tells them
pub known_told : (a : ℕ) → a < 256 → known a ≡ pick (both (leb 0x74 a) (leb a 0x7E)) true (pick (eqb a 0xEB) true (is_added a))
unfolding known is_added
known_told = agree known (λ a. pick (both (leb 0x74 a) (leb a 0x7E)) true (pick (eqb a 0xEB) true (is_added a))) 256 refl

-- as the last arm of a match on the first byte has it: the pairs are told by their bounds, and the other arms' keys are these, the last first
abbrev pub keys : List ℕ
keys = 0xEB ∷ 0x7E ∷ 0x7D ∷ 0x7C ∷ 0x7B ∷ 0x7A ∷ []

rest_asked : (a : ℕ) → a < 256 → Rest keys a → known a ≡ pick (leb 0x74 a) (pick (ltb a 0x7A) true (is_added a)) (is_added a)
unfolding known is_added
rest_asked = agree_past keys false known (λ a. pick (leb 0x74 a) (pick (ltb a 0x7A) true (is_added a)) (is_added a)) 256 refl

pub known_rest : (a : ℕ) → a < 256 → Rest keys a → (a < 0x74) ⊎ (0x7A ≤ a) → known a ≡ is_added a
known_rest a l r (inl o) = rest_asked a l r ∙ rw (lt-leb 0x74 a o) refl
known_rest a l r (inr o) = rest_asked a l r ∙ rw (le-leb 0x74 a (omega arith), le-ltb a 0x7A o) refl

-- none of these has a changed row
pub unchanged_rest : (h n a : ℕ) → a < 256 → Rest keys a → (a < 0x74) ⊎ (0x7A ≤ a) → is_changed (change_at a h n) ≡ false
unchanged_rest h n a l r o = none_outside h n a l ((((tt, r.0.0.0.0.0.1), r.0.0.0.1), r.0.0.1), r.1) (wider o)
  where
    wider : (a < 0x74) ⊎ (0x7A ≤ a) → (a < 0x74) ⊎ (0x78 ≤ a)
    wider (inl x) = inl x
    wider (inr x) = inr (omega arith)
