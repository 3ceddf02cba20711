-- Reading n bytes and writing a number's n bytes undo one another.
-- Assumes nothing.
use Prim.Native.Nat.{ℕ, zero, suc, ◌+◌, ◌*◌, ◌/◌, ◌%◌, ◌^◌, ◌≤◌, ◌<◌}
use mathlib.Core.Path.{◌≡◌, refl, sym, ap, ap₂, ◌∙◌}
use mathlib.Core.List.{List, [], ◌∷◌, ◌++◌}
use native.Mathlib.Omega.{arith}
use native.Mathlib.Nat.{div-lt_iff_lt-mul, pow-suc}
use lib.ListN.{length, drop, get_or}
use lib.Seq.{drop-cons}
use Rattle.rows.specs.Run.{bytes}
use Rattle.rows.proofs.Bytes.{one_more}
use Rattle.encode_rules.specs.steps.Digits.{Grab, some, short, push, grab, digits}
use Rattle.rows.specs.Bytes.{Bytes}

-- what was read is spelled by the bytes that it was read from
pub spelled : (n : ℕ) (bs : List ℕ) (v : ℕ) (rest : List ℕ) → Bytes bs → grab n bs ≡ some v rest → bs ≡ digits n v ++ rest
spelled zero bs v rest h e = cc
spelled (suc n) [] v rest h e = let z : ◌≡◌ {A = ℕ} 0 1 = cc in absurd (omega arith)
spelled (suc n) (b ∷ bs) v rest h e = go (grab n bs) refl e (λ u. spelled n bs u rest h.1)
  where
    go : (g : Grab) → grab n bs ≡ g → push b g ≡ some v rest → ((u : ℕ) → grab n bs ≡ some u rest → bs ≡ digits n u ++ rest)
        → b ∷ bs ≡ digits (suc n) v ++ rest
    go short f k ih = let z : ◌≡◌ {A = ℕ} 0 1 = cc in absurd (omega arith)
    go (some u tail) f k ih =
        let e₁ : b + 256 * u ≡ v = cc in
        let e₂ : tail ≡ rest = cc in
        let low : b ≡ v % 256 = omega (arith, h.0) in
        let high : u ≡ v / 256 = omega (arith, h.0) in
        ap₂ (λ x xs. x ∷ xs) low (ih u (f ∙ ap (some u) e₂) ∙ ap (λ m. digits n m ++ rest) high)

-- and a number's bytes are read as that number
pub read_back : (n v : ℕ) (rest : List ℕ) → v < 256 ^ n → grab n (digits n v ++ rest) ≡ some v rest
read_back zero v rest h = ap (λ x. some x rest) (omega arith)
read_back (suc n) v rest h =
    let g : v < 256 ^ n * 256 = rw pow-suc at h in
    let q : v / 256 < 256 ^ n = (div-lt_iff_lt-mul {k = 256} {x = v} {y = 256 ^ n} (omega arith)).1 g in
    ap (push (v % 256)) (read_back n (v / 256) rest q) ∙ ap (λ x. some x rest) (omega arith)

pub grab_bytes : (n : ℕ) (bs : List ℕ) (p : ℕ) → p + n ≤ length bs → grab n (drop p bs) ≡ some (bytes bs p n) (drop (p + n) bs)
grab_bytes zero bs p h = let e : p ≡ p + 0 = omega arith in ap (λ q. some 0 (drop q bs)) e
grab_bytes (suc n) bs p h =
    let e : suc p + n ≡ p + suc n = omega arith in
    ap (grab (suc n)) (drop-cons bs p 0 (omega arith))
    ∙ ap (push (get_or bs p 0)) (grab_bytes n bs (suc p) (omega arith))
    ∙ ap₂ (λ v q. some v (drop q bs)) (sym (one_more bs p n)) e
