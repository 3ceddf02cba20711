-- What two bytes with a known first one tell, of any row table whose codes pass the test of Depth: a length of 2 to 7, or refusal 2 or 3.
-- Assumes nothing.
use Prim.Native.Nat.{ℕ, zero, suc, ◌≤◌, ◌<◌}
use mathlib.Core.Path.{◌≡◌, refl, sym, ◌∙◌}
use mathlib.Core.Bool.{true}
use mathlib.Core.List.{List, ◌∷◌}
use mathlib.Core.Logic.{◌⊎◌, inl, inr}
use native.Mathlib.Omega.{arith}
use lib.Dec.{leb, leb→le}
use Rattle.record.specs.Answer.{Answer}
use Rattle.laws.proofs.Choice.{both_left}
use Rattle.rows.specs.Row.{Table}
use Rattle.rows.specs.Fate.{most_taken, reach}
use Rattle.rows.specs.Run.{decode_by}
use Rattle.rows.proofs.Taken.{counted, row_counted}
use Rattle.rows.proofs.Length.{at_least, at_most}
use Rattle.rows.proofs.Refusals.{at_most_four, four_takes_one}
use Rattle.rows.proofs.Depth.{Passes, within, bounded}
use Rattle.lengths.specs.Length.{OfTwo}
use Rattle.lengths.proofs.Fated.{zeros}

left_over : (e : ℕ) → e ≤ 4 → (e ≡ 0 → ⊥) → (e ≡ 1 → ⊥) → (e ≡ 4 → ⊥) → (e ≡ 2) ⊎ (e ≡ 3)
left_over zero l z o f = absurd (z refl)
left_over (suc zero) l z o f = absurd (o refl)
left_over (suc (suc zero)) l z o f = inl refl
left_over (suc (suc (suc zero))) l z o f = inr refl
left_over (suc (suc (suc (suc zero)))) l z o f = absurd (f refl)
left_over (suc (suc (suc (suc (suc e))))) l z o f = absurd (omega arith)

module _ (t : Table) (passes : Passes t) (a b : ℕ) (known : t.known a ≡ true) (second : b < 256) where
  abbrev x : List ℕ → Answer
  x bs = decode_by t (a ∷ b ∷ bs)

  takes_two : (bs : List ℕ) → 2 ≤ (x bs).taken
  unfolding decode_by
  takes_two bs = rw known (row_counted (t.row_at a b) a b bs).grown

  pub refusals_told : (e n : ℕ) → OfTwo t a b (suc e) n → (suc e ≡ 2) ⊎ (suc e ≡ 3)
  refusals_told e n told =
      let told-refusal = told.0.long zeros (omega arith) in
      let limits = bounded most_taken t 5 (omega arith) passes (a ∷ b ∷ zeros) second in
      left_over (suc e) (omega (arith, at_most_four t (a ∷ b ∷ zeros))) (λ z. omega arith)
      (λ o. omega (arith, limits.short (told-refusal ∙ o)))
      (λ f. omega (arith, four_takes_one t (a ∷ b ∷ zeros) (told-refusal ∙ f), takes_two zeros))

  far : (a b : ℕ) → t.known a ≡ true → b < 256 → reach (t.row_at a b).reads ≤ 5
  unfolding within
  far a b k l = leb→le (reach (t.row_at a b).reads) 5 (both_left (leb (reach (t.row_at a b).reads) 5) _ (passes a b k l))

  pub lengths_told : (n : ℕ) → OfTwo t a b 0 n → (2 ≤ n) × (n ≤ 7)
  lengths_told n told =
      let bs = told.some in
      let e = sym ((counted t (a ∷ b ∷ bs)).accepted told.accepted) ∙ told.every bs told.accepted in
      (omega (arith, at_least t (a ∷ b ∷ bs) told.accepted), omega (arith, at_most t 5 far (a ∷ b ∷ bs) second))
