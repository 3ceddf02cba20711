-- What is left of bytes are bytes, and numbers read from them are small and told by them.
-- Assumes nothing.
use Prim.Native.Nat.{ℕ, zero, suc, ◌+◌, ◌-◌, ◌*◌, ◌^◌, ◌≤◌, ◌<◌}
use mathlib.Core.Path.{◌≡◌, refl, sym, ap, ap₂, subst, ◌∙◌}
use mathlib.Core.Bool.{Bool, true, false}
use mathlib.Core.List.{List, [], ◌∷◌}
use native.Mathlib.Omega.{arith}
use native.Mathlib.Nat.{pow-suc}
use native.Mathlib.Numerals.{add-one}
use lib.Dec.{ltb}
use lib.ListN.{length, get_or, drop}
use borrow.Author.Tests.{ltb-true, ltb-false}
use Rattle.laws.specs.Over.{put}
use Rattle.laws.proofs.Over.{put_within, put_before, put_behind}
use Rattle.rows.specs.Bytes.{Bytes}
use Rattle.rows.specs.Run.{bytes}

pub at_bytes : (p : ℕ) (bs : List ℕ) → Bytes bs → get_or bs p 0 < 256
at_bytes zero [] h = omega arith
at_bytes (suc p) [] h = omega arith
at_bytes zero (b ∷ bs) h = h.0
at_bytes (suc p) (b ∷ bs) h = at_bytes p bs h.1

pub drop_bytes : (p : ℕ) (bs : List ℕ) → Bytes bs → Bytes (drop p bs)
drop_bytes zero bs h = h
drop_bytes (suc p) [] h = tt
drop_bytes (suc p) (b ∷ bs) h = drop_bytes p bs h.1

each_byte : (bs : List ℕ) → ((k : ℕ) → get_or bs k 0 < 256) → Bytes bs
each_byte [] h = tt
each_byte (b ∷ bs) h = (h 0, each_byte bs (λ k. h (suc k)))

-- bytes put over bytes
pub put_bytes : (at : ℕ) (l xs : List ℕ) → at + length xs ≤ length l → Bytes l → Bytes xs → Bytes (put at xs l)
put_bytes at l xs room h g = each_byte (put at xs l) (λ k. by k (ltb k at) refl (ltb k (at + length xs)) refl)
  where
    by : (k : ℕ) (x : Bool) → ltb k at ≡ x → (y : Bool) → ltb k (at + length xs) ≡ y → get_or (put at xs l) k 0 < 256
    by k true p y q = subst (λ v. v < 256) (sym (put_before at l xs room k (ltb-true _ _ p))) (at_bytes k l h)
    by k false p true q =
        let i = ltb-false k at p in
        let j = ltb-true k (at + length xs) q in
        let e : at + (k - at) ≡ k = omega arith in
        subst (λ n. get_or (put at xs l) n 0 < 256) e (subst (λ v. v < 256) (sym (put_within at l xs room (k - at) (omega arith))) (at_bytes (k - at) xs g))
    by k false p false q = subst (λ v. v < 256) (sym (put_behind at l xs room k (ltb-false _ _ q))) (at_bytes k l h)

pub one_more : (bs : List ℕ) (p n : ℕ) → bytes bs p (suc n) ≡ get_or bs p 0 + 256 * bytes bs (suc p) n
one_more bs p zero = omega arith
one_more bs p (suc n) = ap (λ q. get_or bs p 0 + 256 * bytes bs q (suc n)) (add-one p)

-- a number is told by its bytes, wherever they stand
pub bytes_alike : (bs cs : List ℕ) (n p q : ℕ) → ((k : ℕ) → k < n → get_or cs (p + k) 0 ≡ get_or bs (q + k) 0) → bytes cs p n ≡ bytes bs q n
bytes_alike bs cs zero p q h = refl
bytes_alike bs cs (suc n) p q h =
    one_more cs p n ∙ ap₂ (λ x y. x + 256 * y) here (bytes_alike bs cs n (suc p) (suc q) (λ k l. behind k (h (suc k) (omega arith)))) ∙ sym (one_more bs q n)
  where
    here : get_or cs p 0 ≡ get_or bs q 0
    here = let i : p + 0 ≡ p = omega arith in let j : q + 0 ≡ q = omega arith in rw (i, j) at (h 0 (omega arith))

    behind : (k : ℕ) → get_or cs (p + suc k) 0 ≡ get_or bs (q + suc k) 0 → get_or cs (suc p + k) 0 ≡ get_or bs (suc q + k) 0
    behind k e = let i : suc p + k ≡ p + suc k = omega arith in let j : suc q + k ≡ q + suc k = omega arith in rw (i, j) e

pub bytes_small : (n p : ℕ) (bs : List ℕ) → Bytes bs → bytes bs p n < 256 ^ n
bytes_small zero p bs h = omega arith
bytes_small (suc n) p bs h =
    let k : 256 ^ suc n ≡ 256 ^ n * 256 = pow-suc 256 n in
    let e = one_more bs p n in
    let i = bytes_small n (suc p) bs h in
    let j = at_bytes p bs h in
    omega arith
