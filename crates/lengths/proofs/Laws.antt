-- What the promise says, of any row table: it allows one outcome; an accepted string has the length that its first two bytes tell, and a long
-- enough one the refusal; 4 comes before 1.
-- Assumes nothing.
use Prim.Native.Nat.{ℕ, zero, suc, ◌≤◌}
use mathlib.Core.Path.{◌≡◌, refl, sym, ap, ◌∙◌}
use mathlib.Core.Bool.{true, false}
use mathlib.Core.List.{List, [], ◌∷◌}
use native.Mathlib.Omega.{arith}
use lib.ListN.{length}
use Rattle.rows.specs.Row.{Table}
use Rattle.rows.specs.Run.{decode_by}
use Rattle.rows.proofs.Taken.{counted}
use Rattle.rows.proofs.Length.{at_least}
use Rattle.rows.proofs.Refusals.{outside}
use Rattle.lengths.specs.Length.{OfTwo, LengthOf}
use Rattle.lengths.proofs.Fated.{zeros}

module _ (t : Table) where
  two_once : (a b e f : ℕ) {n m : ℕ} → OfTwo t a b e n → OfTwo t a b f m → (e ≡ f) × (n ≡ m)
  two_once a b zero zero x y = (refl, sym (x.every y.some y.accepted) ∙ y.every y.some y.accepted)
  two_once a b zero (suc f) x y = absurd (y.0.never x.some x.accepted)
  two_once a b (suc e) zero x y = absurd (x.0.never y.some y.accepted)
  two_once a b (suc e) (suc f) x y = (sym (x.0.long zeros (omega arith)) ∙ y.0.long zeros (omega arith), x.1 ∙ sym y.1)

  -- no two outcomes
  pub length_of_once : (bs : List ℕ) (e f n m : ℕ) → LengthOf t bs e n → LengthOf t bs f m → (e ≡ f) × (n ≡ m)
  length_of_once [] e f n m x y = (x.0 ∙ sym y.0, x.1 ∙ sym y.1)
  length_of_once (a ∷ []) e f n m x y = (x.0 ∙ sym y.0, x.1 ∙ sym y.1)
  length_of_once (a ∷ b ∷ bs) e f n m x y = two_once a b e f x y

  -- fewer than two bytes are no instruction
  too_few : {A : Type 0} (bs : List ℕ) → length bs ≤ 1 → (decode_by t bs).refusal ≡ 0 → A
  too_few bs l z = absurd (omega (arith, at_least t bs z, (counted t bs).within))

  two_accepted : (a b e : ℕ) (bs : List ℕ) {n : ℕ} → OfTwo t a b e n → (decode_by t (a ∷ b ∷ bs)).refusal ≡ 0 → (e ≡ 0) × (n ≡ (decode_by t (a ∷ b ∷ bs)).inst.length)
  two_accepted a b zero bs x z = (refl, sym (x.every bs z))
  two_accepted a b (suc e) bs x z = absurd (x.0.never bs z)

  -- an accepted string is told its length
  pub of_accepted : (bs : List ℕ) (e n : ℕ) → LengthOf t bs e n → (decode_by t bs).refusal ≡ 0 → (e ≡ 0) × (n ≡ (decode_by t bs).inst.length)
  of_accepted [] e n x z = too_few [] (omega arith) z
  of_accepted (a ∷ []) e n x z = too_few (a ∷ []) (omega arith) z
  of_accepted (a ∷ b ∷ bs) e n x z = two_accepted a b e bs x z

  -- and one of seven bytes or more its refusal
  pub of_refused : (bs : List ℕ) (e n : ℕ) → LengthOf t bs (suc e) n → 7 ≤ length bs → (decode_by t bs).refusal ≡ suc e
  of_refused [] e n x l = absurd (omega arith)
  of_refused (a ∷ []) e n x l = absurd (omega arith)
  of_refused (a ∷ b ∷ bs) e n x l = x.0.long bs l

  -- 4 for a first byte outside, whatever follows
  pub of_outside : (a : ℕ) (bs : List ℕ) → t.known a ≡ false → LengthOf t (a ∷ bs) 4 0
  of_outside a [] e = (sym (ap (λ x. x.refusal) (outside t a [] e)), refl)
  of_outside a (b ∷ bs) e = (
    record {
      never = λ cs z. absurd (omega (arith, ap (λ x. x.refusal) (outside t a (b ∷ cs) e)));
      long = λ cs l. ap (λ x. x.refusal) (outside t a (b ∷ cs) e);
    },
    refl,
  )

  -- then 1 for fewer than two bytes
  pub of_none : LengthOf t [] 1 0
  unfolding decode_by
  of_none = (refl, refl)

  pub of_one : (a : ℕ) → t.known a ≡ true → LengthOf t (a ∷ []) 1 0
  unfolding decode_by
  of_one a e = rw e (refl, refl)
