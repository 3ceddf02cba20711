-- The places of a word's bits, from the last place down.
-- Assumes nothing.
use Rattle.std.proofs.Common.{◌≡◌, ℕ, suc, ◌/◌, ◌%◌, eqb, List, [], ◌∷◌, ◌++◌, length, refl, sym, ap, ap₂, ◌∙◌, append-nil, arith, length-append, eq-eqb, ne_eqb, eqb-true}
use Rattle.std.proofs.lemmas.List.{same_from_push}
use Rattle.replay.specs.Verdict.{Tells}
use Rattle.replay.specs.Sweeping.{places}

module _ {place n : ℕ} (w : ℕ) (f : place ≡ suc n) where
  pub unset : (w % 2 ≡ 1 → ⊥) → places place w ≡ places n (w / 2)
  unfolding places
  unset h = ap (λ k. places k w) f ∙ rw (ne_eqb _ 1 h) (append-nil (places n (w / 2)))

  module _ (odd : w % 2 ≡ 1) where
    last : places place w ≡ places n (w / 2) ++ (n ∷ [])
    unfolding places
    last = ap (λ k. places k w) f ∙ rw (eq-eqb _ 1 odd)

    pub none_left : {starts : List ℕ} → length starts ≡ 0 → starts ≡ places place w → ⊥
    none_left e s = omega (arith, e, ap length (s ∙ last), length-append (places n (w / 2)) (n ∷ []))

    module _ {starts before : List ℕ} {end : ℕ} (cut : starts ≡ before ++ (end ∷ [])) where
      pub down : starts ≡ places place w → (before ≡ places n (w / 2)) × (end ≡ n)
      down s = same_from_push before (places n (w / 2)) end n (sym cut ∙ s ∙ last)

      pub up : end ≡ n → before ≡ places n (w / 2) → starts ≡ places place w
      up e b = cut ∙ ap₂ (λ xs x. xs ++ (x ∷ [])) b e ∙ sym last

-- no place is left: no start may be left either
pub at_end : (starts : List ℕ) (w : ℕ) {place : ℕ} → place ≡ 0 → Tells (eqb (length starts) 0) (starts ≡ places place w)
unfolding places
at_end [] w f = (λ e. sym (ap (λ k. places k w) f), λ s. refl)
at_end (x ∷ starts) w {place} f =
    let none : places place w ≡ [] = ap (λ k. places k w) f in
    (λ e. absurd (omega (arith, eqb-true _ 0 e)), λ s. absurd (omega (arith, ap length (s ∙ none))))
