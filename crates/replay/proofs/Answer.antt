-- What the answer of a function that tells whether something holds shows.
-- Assumes nothing.
use Rattle.std.proofs.Common.{◌≡◌, ℕ, Bool, true, false, leb, List, refl, arith, le-leb, leb-true}
use Rattle.replay.specs.Form.{Has, Gives}
use Rattle.replay.specs.Verdict.{Tells}

pub not_both : {t : Bool} → t ≡ true → t ≡ false → ⊥
not_both e f = let z : ◌≡◌ {A = ℕ} 0 1 = cc in omega arith

-- the answer false is right where it does not hold
pub refuted : {P : Type 0} → (P → ⊥) → Tells false P
refuted h = (λ e. absurd (not_both e refl), λ p. absurd (h p))

-- whether a line that has its form gives few enough bytes
pub gives : {form s : List ℕ} (n given most : ℕ) → Has form s → n ≡ given → Tells (leb n most) (Gives form given most s)
gives n given most h e = (λ f. record { formed = h; few = rw e at (leb-true n most f) }, λ g. le-leb n most (rw e g.few))
