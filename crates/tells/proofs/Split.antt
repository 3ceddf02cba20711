-- A text in two parts tells both, where the first part has a known length, or no mark in it and a mark or nothing behind it.
-- Assumes nothing.
use Prim.Native.Nat.{ℕ}
use mathlib.Core.Path.{◌≡◌, refl, sym, ap, ap₂, subst, ◌∙◌}
use mathlib.Core.Bool.{Bool, true, false}
use mathlib.Core.List.{List, [], ◌∷◌, ◌++◌, head-eq_of_cons-eq, tail-eq_of_cons-eq}
use lib.Dec.{T}
use lib.ListN.{length, take, drop}
use lib.Seq.{take_at, drop_at}
use Rattle.laws.specs.Choice.{pick}
use Rattle.record.proofs.Arms.{has}

-- two first parts of one length
pub by_length : (x y u v : List ℕ) → length x ≡ length y → x ++ u ≡ y ++ v → (x ≡ y) × (u ≡ v)
by_length x y u v h e = (
  sym (take_at x u (length x) refl) ∙ ap (take (length x)) e ∙ take_at y v (length x) (sym h),
  sym (drop_at x u (length x) refl) ∙ ap (drop (length x)) e ∙ drop_at y v (length x) (sym h),
)

-- a text with none of the marks in it
abbrev pub free : List ℕ → List ℕ → Bool
free ms [] = true
free ms (c ∷ cs) = pick (has ms c) false (free ms cs)

-- a text that begins with a mark, or is empty
abbrev pub ended : List ℕ → List ℕ → Bool
ended ms [] = true
ended ms (c ∷ cs) = has ms c

-- a first character that is a mark and is none
clash : (m b : Bool) → T m → T (pick m false b) → ⊥
clash true b t f = f
clash false b t f = t

-- the rest of a text without marks
later : (m b : Bool) → T (pick m false b) → T b
later true b f = absurd f
later false b f = f

-- two first parts without marks, each in front of a mark or the end
pub by_mark : (ms x y u v : List ℕ) → T (free ms x) → T (free ms y) → T (ended ms u) → T (ended ms v) → x ++ u ≡ y ++ v → (x ≡ y) × (u ≡ v)
by_mark ms [] [] u v f g s t e = (refl, e)
by_mark ms [] (b ∷ y) u v f g s t e = absurd (clash (has ms b) (free ms y) (subst (λ z. T (ended ms z)) e s) g)
by_mark ms (a ∷ x) [] u v f g s t e = absurd (clash (has ms a) (free ms x) (subst (λ z. T (ended ms z)) (sym e) t) f)
by_mark ms (a ∷ x) (b ∷ y) u v f g s t e =
    let r = by_mark ms x y u v (later (has ms a) (free ms x) f) (later (has ms b) (free ms y) g) s t (tail-eq_of_cons-eq e) in
    (ap₂ ◌∷◌ (head-eq_of_cons-eq e) r.0, r.1)
