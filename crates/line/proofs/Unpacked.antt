-- What was packed is what the words spell.
-- Assumes nothing.
use Prim.Native.Nat.{ℕ, zero, suc, ◌+◌, ◌*◌, ◌-◌, ◌/◌, ◌%◌, ◌^◌, ◌≤◌}
use mathlib.Core.Path.{◌≡◌, refl, sym, ap, ◌∙◌, subst}
use mathlib.Core.Bool.{Bool, true, false}
use mathlib.Core.List.{List, [], ◌∷◌, ◌++◌, map, append-nil}
use native.Mathlib.Omega.{arith}
use native.Mathlib.Nat.{suc-add, zero-add}
use lib.ListN.{length, length-append}
use lib.Dec.{T, ltb, eqb}
use borrow.Author.Tests.{lt-ltb, ltb-true, ne_eqb}
use Rattle.laws.specs.Choice.{pick, both}
use Rattle.laws.proofs.Choice.{both_left, both_right}
use Rattle.line.specs.Characters.{hex}
use lib.IntN.{ℤ, pos, negsuc}
use Rattle.line.specs.Line.{sign_text, equals}
use Rattle.line.specs.steps.Packed.{pack, up_to, chars, text}
use Rattle.line.proofs.Packing.{spent}
use Rattle.line.proofs.Digits.{character}

-- at most n characters, none of them zero
abbrev pub wordy : ℕ → List ℕ → Bool
wordy n [] = true
wordy zero (c ∷ cs) = false
wordy (suc n) (c ∷ cs) = both (both (ltb 0 c) (ltb c 256)) (wordy n cs)

holds : {b : Bool} → b ≡ true → T b
holds e = subst T (sym e) tt

truly : (b : Bool) → T b → b ≡ true
truly true t = refl
truly false t = absurd t

pub unpacked : (n : ℕ) (cs : List ℕ) → T (wordy n cs) → up_to n (pack cs) ≡ cs
unfolding up_to
unpacked n [] t = spent n
unpacked zero (c ∷ cs) t = absurd t
unpacked (suc n) (c ∷ cs) t =
    let ok = both_left (both (ltb 0 c) (ltb c 256)) (wordy n cs) t in
    let above = ltb-true 0 c (truly (ltb 0 c) (both_left (ltb 0 c) (ltb c 256) ok)) in
    let below = ltb-true c 256 (truly (ltb c 256) (both_right (ltb 0 c) (ltb c 256) ok)) in
    let m : (c + 256 * pack cs) % 256 ≡ c = omega arith in
    let d : (c + 256 * pack cs) / 256 ≡ pack cs = omega arith in
    rw (ne_eqb (c + 256 * pack cs) 0 (λ z. omega arith)) (rw (m, d) (ap (λ xs. c ∷ xs) (unpacked n cs (both_right (both (ltb 0 c) (ltb c 256)) (wordy n cs) t))))

-- digits in front of other characters
pub wordy_hex : (k n v : ℕ) (cs : List ℕ) → T (wordy n cs) → T (wordy (k + n) (hex k v ++ cs))
wordy_hex zero n v cs t = subst (λ m. T (wordy m cs)) (sym (zero-add n)) t
wordy_hex (suc k) n v cs t =
    let h = character (v / 16 ^ k % 16) (omega arith) in
    subst (λ m. T (wordy m (hex (suc k) v ++ cs))) (sym (suc-add k n))
    (rw (lt-ltb _ _ h.0, lt-ltb _ _ h.1) (wordy_hex k n v cs t))

pub wordy_digits : (k n v : ℕ) → T (wordy (k + n) (hex k v))
wordy_digits k n v = subst (λ cs. T (wordy (k + n) cs)) (append-nil (hex k v)) (wordy_hex k n v [] tt)

wordy_within : (m n v : ℕ) → n ≤ m → T (wordy m (hex n v))
wordy_within m n v h =
    let e : n + (m - n) ≡ m = omega arith in
    subst (λ k. T (wordy k (hex n v))) e (wordy_digits n (m - n) v)

-- a number has at most eight characters: `=`, a sign or none, and up to five digits
pub wordy_equals : (n v : ℕ) (b : Bool) (z : ℤ) → n ≤ 5 → T (wordy 8 (equals n (pick b (sign_text z) []) v))
wordy_equals zero v b z h = tt
wordy_equals (suc n) v true (pos m) h = wordy_within 6 (suc n) v (omega arith)
wordy_equals (suc n) v true (negsuc m) h = wordy_within 6 (suc n) v (omega arith)
wordy_equals (suc n) v false z h = wordy_within 7 (suc n) v (omega arith)

abbrev pub joined : List (List ℕ) → List ℕ
joined [] = []
joined (xs ∷ xss) = xs ++ joined xss

-- texts of which each fits a word
infixr 5 ◌also◌
pub data Wordy : List (List ℕ) → Type 0 where
  done : Wordy []
  ◌also◌ : {xs : List ℕ} {xss : List (List ℕ)} → T (wordy 8 xs) → Wordy xss → Wordy (xs ∷ xss)

pub text_of : {xss : List (List ℕ)} → Wordy xss → text (map pack xss) ≡ joined xss
unfolding text
text_of done = refl
text_of (◌also◌ {xs} {xss} t ts) = ap (λ a. a ++ text (map pack xss)) (unpacked 8 xs t) ∙ ap (λ b. xs ++ b) (text_of ts)

-- eight characters a word are the most
short : (n w : ℕ) → length (up_to n w) ≤ n
unfolding up_to
short zero w = omega arith
short (suc n) w = by (eqb w 0) (short n (w / 256))
  where
    by : (b : Bool) → length (up_to n (w / 256)) ≤ n → length (pick b [] (w % 256 ∷ up_to n (w / 256))) ≤ suc n
    by true i = omega arith
    by false i = omega arith

pub text_short : (ws : List ℕ) → length (text ws) ≤ 8 * length ws
unfolding text
text_short [] = omega arith
text_short (w ∷ ws) = omega (arith, length-append (chars w) (text ws), short 8 w, text_short ws)
