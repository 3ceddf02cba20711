-- Bytes put over those of a list from a place on: none, one more in front, more behind, and over a part of a buffer that was passed in.
-- Assumes nothing.
use Prim.Native.Nat.{ℕ, suc, ◌+◌, ◌-◌, ◌≤◌, ◌<◌}
use mathlib.Core.Path.{◌≡◌, sym, ap, ◌∙◌}
use mathlib.Core.List.{List, [], ◌∷◌, ◌++◌, append_assoc}
use native.Mathlib.Omega.{arith}
use native.Mathlib.Numerals.{add-one}
use lib.ListN.{length, get_or, take, drop, set, length-append, length-drop, take-append-drop, get_or-append}
use lib.Seq.{append_snoc, take-suc-set, drop-set-lt, drop-drop, take_at, drop_at, length-take-le, get_or-append-add, get_or-take, get_or-drop}
use borrow.Rule.Slice.PartMut.{put_mid}
use Rattle.laws.specs.Over.{over, put}
use Rattle.laws.proofs.Rest.{rest, given_back}

module _ (at : ℕ) (l : List ℕ) where
  pub put_none : put at [] l ≡ l
  put_none = take-append-drop at l

  pub put_one : (x : ℕ) (xs : List ℕ) → at < length l → put at (x ∷ xs) l ≡ put (at + 1) xs (set l at x)
  put_one x xs h =
      let s : at + suc (length xs) ≡ suc at + length xs = omega arith in
      let d : drop (suc (length xs)) (drop at l) ≡ drop (length xs) (drop (suc at) (set l at x)) =
      drop-drop (suc (length xs)) at l ∙ ap (λ k. drop k l) s ∙ sym (drop-drop (length xs) (suc at) l)
      ∙ ap (drop (length xs)) (sym (drop-set-lt (suc at) l at x (omega arith)))
      in
      ap (λ z. take at l ++ x ∷ (xs ++ z)) d
      ∙ sym (append_snoc (take at l) x (over xs (drop (suc at) (set l at x))))
      ∙ ap (λ z. z ++ over xs (drop (suc at) (set l at x))) (sym (take-suc-set l at x h))
      ∙ ap (λ k. put k xs (set l at x)) (sym (add-one at))

  -- with what stays behind counted from the first
  pub put_whole : (xs : List ℕ) → put at xs l ≡ take at l ++ (xs ++ drop (at + length xs) l)
  put_whole xs = ap (λ z. take at l ++ (xs ++ z)) (drop-drop (length xs) at l)

  module _ (xs : List ℕ) (h : at + length xs ≤ length l) where
    abbrev behind : List ℕ
    behind = drop (length xs) (drop at l)

    joined : put at xs l ≡ (take at l ++ xs) ++ behind
    joined = sym (append_assoc (take at l) xs behind)

    joined_length : length (take at l ++ xs) ≡ at + length xs
    joined_length = omega (arith, length-append (take at l) xs, length-take-le at l (omega arith))

    pub put_length : length (put at xs l) ≡ length l
    put_length =
        ap length joined ∙ length-append (take at l ++ xs) behind
        ∙ omega (arith, joined_length, length-drop (length xs) (drop at l), length-drop at l)

    -- what stands there then, and what stays
    pub put_within : (k : ℕ) → k < length xs → get_or (put at xs l) (at + k) 0 ≡ get_or xs k 0
    put_within k m =
        ap (λ n. get_or (put at xs l) (n + k) 0) (sym (length-take-le at l (omega arith))) ∙ get_or-append-add (take at l) (xs ++ behind) k 0
        ∙ get_or-append xs behind 0 k m

    pub put_before : (i : ℕ) → i < at → get_or (put at xs l) i 0 ≡ get_or l i 0
    put_before i m =
        let e = length-take-le at l (omega arith) in
        get_or-append (take at l) (xs ++ behind) 0 i (omega arith) ∙ get_or-take at l i 0 m

    pub put_behind : (i : ℕ) → at + length xs ≤ i → get_or (put at xs l) i 0 ≡ get_or l i 0
    put_behind i m =
        let k = i - (at + length xs) in
        let j : length (take at l ++ xs) + k ≡ i = omega (arith, joined_length) in
        let n : at + (length xs + k) ≡ i = omega arith in
        ap (λ x. get_or x i 0) joined ∙ ap (λ x. get_or ((take at l ++ xs) ++ behind) x 0) (sym j) ∙ get_or-append-add (take at l ++ xs) behind k 0
        ∙ get_or-drop (length xs) (drop at l) k 0 ∙ get_or-drop at l (length xs + k) 0 ∙ ap (λ x. get_or l x 0) n

    -- up to the next place
    pub put_taken : {n : ℕ} → n ≡ at + length xs → take n (put at xs l) ≡ take at l ++ xs
    put_taken {n} e = ap (take n) joined ∙ take_at (take at l ++ xs) behind n (joined_length ∙ sym e)

    -- and what is put there
    pub put_more : (ys : List ℕ) {n : ℕ} → n ≡ at + length xs → put at (xs ++ ys) l ≡ put n ys (put at xs l)
    put_more ys {n} e =
        let d : drop (length (xs ++ ys)) (drop at l) ≡ drop (length ys) behind =
        ap (λ k. drop k (drop at l)) (length-append xs ys) ∙ sym (drop-drop (length ys) (length xs) (drop at l))
        in
        let f : behind ≡ drop n (put at xs l) = sym (ap (drop n) joined ∙ drop_at (take at l ++ xs) behind n (joined_length ∙ sym e)) in
        ap (λ z. take at l ++ ((xs ++ ys) ++ z)) d
        ∙ ap (λ z. take at l ++ z) (append_assoc xs ys (drop (length ys) behind))
        ∙ sym (append_assoc (take at l) xs (ys ++ drop (length ys) behind))
        ∙ ap (λ z. z ++ (ys ++ drop (length ys) behind)) (sym (put_taken e))
        ∙ ap (λ z. take n (put at xs l) ++ (ys ++ drop (length ys) z)) f

-- one more behind
pub put_last : (at : ℕ) (l xs : List ℕ) (x : ℕ) {n : ℕ} → n ≡ at + length xs → n < length l → put at (xs ++ x ∷ []) l ≡ set (put at xs l) n x
put_last at l xs x {n} e h =
    let g : at + length xs ≤ length l = omega arith in
    put_more at l xs g (x ∷ []) e ∙ put_one n (put at xs l) x [] (omega (arith, put_length at l xs g)) ∙ put_none (n + 1) (set (put at xs l) n x)

-- the buffer once bytes were written over what was passed in of it
pub written_part : (at : ℕ) (l xs : List ℕ) → at ≤ length l → {ys : List ℕ} → ys ≡ over xs (take (length l - at) (drop at l)) → put_mid at (length l - at) l ys ≡ put at xs l
written_part at l xs h {ys} e = given_back at l h ys ∙ ap (λ z. take at l ++ z) (e ∙ ap (over xs) (rest at l))

module _ (at : ℕ) (l xs : List ℕ) (h : at + length xs ≤ length l) {ys : List ℕ} (e : ys ≡ over xs (take (length l - at) (drop at l))) where
  part : put_mid at (length l - at) l ys ≡ put at xs l
  part = written_part at l xs (omega arith) e

  pub written_length : length (put_mid at (length l - at) l ys) ≡ length l
  written_length = ap length part ∙ put_length at l xs h

  -- and what is still to be put behind it
  pub written_on : (zs : List ℕ) {n : ℕ} → n ≡ length xs → put at (xs ++ zs) l ≡ put (at + n) zs (put_mid at (length l - at) l ys)
  written_on zs {n} g = put_more at l xs h zs (ap (λ k. at + k) g) ∙ ap (put (at + n) zs) (sym part)
