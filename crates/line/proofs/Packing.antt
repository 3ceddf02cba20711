-- The characters of a packed word, one after the other.
-- Assumes nothing.
use Prim.Native.Nat.{ℕ, zero, suc, ◌+◌, ◌-◌, ◌*◌, ◌/◌, ◌%◌, ◌^◌, ◌<◌, ◌≤◌}
use mathlib.Core.Path.{◌≡◌, refl, sym, ap, subst, ◌∙◌}
use mathlib.Core.Bool.{Bool, true, false}
use mathlib.Core.List.{List, [], ◌∷◌, ◌++◌}
use native.Mathlib.Omega.{arith}
use native.Mathlib.Nat.{pow-suc}
use native.Mathlib.Numerals.{add-one}
use lib.Dec.{leb}
use lib.Pow.{pow_pos, pow_mono, pow-add, shr_lt}
use lib.ListN.{length, get_or, drop, length-append, drop_of_length-le}
use lib.Seq.{drop-cons}
use borrow.Author.Tests.{ne_eqb, leb-true, leb-false}
use Rattle.line.specs.steps.Packed.{up_to, chars, text}

pub spent : (n : ℕ) → up_to n 0 ≡ []
unfolding up_to
spent zero = refl
spent (suc n) = refl

-- no more than eight
pub last : (n w : ℕ) → 8 ≤ n → up_to (8 - n) w ≡ []
unfolding up_to
last n w h = let e : 8 - n ≡ 0 = omega arith in rw e

pub next : (n w : ℕ) → n < 8 → (w ≡ 0 → ⊥) → up_to (8 - n) w ≡ w % 256 ∷ up_to (8 - (n + 1)) (w / 256)
unfolding up_to
next n w h z = let e : 8 - n ≡ suc (8 - (n + 1)) = omega arith in rw e (rw (ne_eqb w 0 z))

-- the text of the words from a place on: that of the word there and of those behind it
pub text_at : (k : ℕ) (ws : List ℕ) → k < length ws → text (drop k ws) ≡ chars (get_or ws k 0) ++ text (drop (k + 1) ws)
unfolding text
text_at k ws h = ap text (drop-cons ws k 0 h) ∙ ap (λ m. chars (get_or ws k 0) ++ text (drop m ws)) (sym (add-one k))

pub text_length : (k : ℕ) (ws : List ℕ) → k < length ws → length (text (drop k ws)) ≡ length (chars (get_or ws k 0)) + length (text (drop (k + 1) ws))
text_length k ws h = ap length (text_at k ws h) ∙ length-append (chars (get_or ws k 0)) (text (drop (k + 1) ws))

pub text_end : (k : ℕ) (ws : List ℕ) → length ws ≤ k → text (drop k ws) ≡ []
unfolding text
text_end k ws h = ap text (drop_of_length-le ws h)

-- of m binary digits, more than eight: those behind the lowest eight
behind : (m w : ℕ) → w < 2 ^ (m + 8) → 2 ^ (m + 8) ≤ 2 * w + 1 → (w / 256 < 2 ^ m) × (2 ^ m ≤ 2 * (w / 256) + 1)
behind m w l h = let e : 2 ^ (m + 8) ≡ 2 ^ m * 256 = pow-add 2 m 8 in (shr_lt m 8 l, omega (arith, e, h))

-- a word of m binary digits, of which n characters are taken at most, has one for each eight digits and one for those left
abbrev Counted : ℕ → ℕ → ℕ → Type 0
Counted n m w = w < 2 ^ m → 2 ^ m ≤ 2 * w + 1 → m ≤ 8 * n → length (up_to n w) ≡ (m + 7) / 8

pub counted : (n m w : ℕ) → Counted n m w
unfolding up_to
counted zero m w l h b = omega arith
counted (suc n) zero w l h b = let e : w ≡ 0 = omega arith in rw e
counted (suc n) (suc k) w l h b = rw (ne_eqb w 0 (λ e. omega (arith, e, h, pow_pos k, pow-suc 2 k))) (by (leb k 7) refl (counted n (suc k - 8) (w / 256)))
  where
    by : (t : Bool) → leb k 7 ≡ t → Counted n (suc k - 8) (w / 256) → suc (length (up_to n (w / 256))) ≡ (suc k + 7) / 8
    by true t rest =
        let few = leb-true k 7 t in
        let s : w / 256 ≡ 0 = omega (arith, l, pow_mono {i = suc k} {j = 8} (omega (arith, few))) in
        rw s (rw (spent n) (omega (arith, few)))
    by false t rest =
        let e : suc k ≡ (suc k - 8) + 8 = omega (arith, leb-false k 7 t) in
        let s = behind (suc k - 8) w (subst (λ m. w < 2 ^ m) e l) (subst (λ m. 2 ^ m ≤ 2 * w + 1) e h) in
        omega (arith, rest s.0 s.1 (omega (arith, e)), e)
