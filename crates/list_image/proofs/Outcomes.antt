-- What words ask for leaves one outcome.
-- Assumes nothing.
use Prim.Native.Nat.{ℕ, ◌<◌}
use mathlib.Core.Path.{◌≡◌, refl, sym, ap, ◌∙◌}
use mathlib.Core.Bool.{Bool, true, false}
use mathlib.Core.List.{List, [], ◌∷◌}
use lib.Dec.{eqb, leb}
use lib.ListN.{get_or}
use borrow.Author.Tests.{eqb-true, eqb-false, leb-true, leb-false}
use Rattle.sweep.specs.declared.Rule.{Rule}
use Rattle.sweep.specs.declared.Rule.TheVariants.{GoOn, Stop}
use Rattle.list_image.specs.declared.asked.Asked.{Asked}
use Rattle.std.specs.Prelude.{Option, Some, None}
use Rattle.list_image.specs.Asked.{AsksFor, By}

-- answers as numbers and back, by which two of them can be compared
by_number : Bool → Rule → ℕ
by_number false GoOn = 0
by_number false Stop = 1
by_number true GoOn = 2
by_number true Stop = 3

number : Option Asked → ℕ
number (Some r) = by_number r.manual r.rule
number None = 4

numbered : ℕ → Option Asked
numbered n = get_or (By false GoOn ∷ By false Stop ∷ By true GoOn ∷ By true Stop ∷ []) n None

back_by : (m : Bool) (rule : Rule) → numbered (by_number m rule) ≡ By m rule
unfolding by_number numbered
back_by false GoOn = refl
back_by false Stop = refl
back_by true GoOn = refl
back_by true Stop = refl

back : (r : Option Asked) → numbered (number r) ≡ r
unfolding number numbered
back (Some r) = back_by r.manual r.rule
back None = refl

-- two that cannot differ are one
one : (r s : Option Asked) → ((r ≡ s → ⊥) → ⊥) → r ≡ s
one r s same = by (eqb (number r) (number s)) refl
  where
    by : (x : Bool) → eqb (number r) (number s) ≡ x → r ≡ s
    by true e = sym (back r) ∙ ap numbered (eqb-true _ _ e) ∙ back s
    by false e = absurd (same (λ p. eqb-false _ _ e (ap number p)))

module _ (count : ℕ) (first second : List ℕ) where
  -- words that ask for something leave no choice, and others are not known
  more : (r s : Option Asked) → AsksFor count first second r → AsksFor count first second s → 1 < count → (r ≡ s → ⊥) → ⊥
  more r s a b h differ =
      differ
      (a.other h (λ w. differ (a.stopping w ∙ sym (b.stopping w))) (λ w. differ (a.manual w ∙ sym (b.manual w))) (λ w. differ (a.both w ∙ sym (b.both w)))
      ∙ sym (b.other h (λ w. differ (a.stopping w ∙ sym (b.stopping w))) (λ w. differ (a.manual w ∙ sym (b.manual w))) (λ w. differ (a.both w ∙ sym (b.both w)))))

  pub asks_once : (r s : Option Asked) → AsksFor count first second r → AsksFor count first second s → r ≡ s
  asks_once r s a b = by (leb count 1) refl
    where
      by : (t : Bool) → leb count 1 ≡ t → r ≡ s
      by true e = a.nothing (leb-true count 1 e) ∙ sym (b.nothing (leb-true count 1 e))
      by false e = one r s (more r s a b (leb-false count 1 e))
