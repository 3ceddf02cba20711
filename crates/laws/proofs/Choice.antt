-- What two tests at once show, or one of two, and what holds of a choice.
-- Assumes nothing.
use mathlib.Core.Path.{◌≡◌, refl}
use mathlib.Core.Bool.{Bool, true, false}
use lib.Dec.{T}
use Rattle.laws.specs.Choice.{pick, both, either}

pub both_left : (a b : Bool) → T (both a b) → T a
both_left true b t = tt
both_left false b t = t

pub both_right : (a b : Bool) → T (both a b) → T b
both_right true b t = t
both_right false b t = absurd t

-- what follows from each of two tests follows if one of them passes
pub one_of : {A : Type 0} (a b : Bool) → T (either a b) → (T a → A) → (T b → A) → A
one_of true b t f g = f tt
one_of false b t f g = g t

-- what holds of each answer under its test holds of what is chosen
pub pick_holds : {A : Type 0} (P : A → Type 0) (t : Bool) (x y : A) → (t ≡ true → P x) → (t ≡ false → P y) → P (pick t x y)
pick_holds P true x y f g = f refl
pick_holds P false x y f g = g refl
