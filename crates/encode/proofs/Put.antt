-- A plan's bytes, written a part at a time, and in a buffer from a place on, with room for them and without.
-- Assumes nothing.
use Prim.Native.Nat.{ℕ, ◌+◌, ◌-◌, ◌≤◌, ◌<◌}
use mathlib.Core.Path.{◌≡◌, sym, ap, ap₂, ◌∙◌}
use mathlib.Core.List.{List, ◌∷◌, ◌++◌}
use native.Mathlib.Omega.{arith}
use lib.ListN.{length, take, drop, set, length-append, length-set}
use borrow.Rule.Slice.PartMut.{put_mid}
use borrow.Author.Tests.{le-leb, lt-leb}
use Rattle.laws.specs.Over.{over, put}
use Rattle.laws.proofs.Over.{put_one, put_whole, put_length, put_more, written_part}
use Rattle.encode_rules.specs.steps.Digits.{digits}
use Rattle.encode_rules.specs.Says.{bytes}
use Rattle.encode_rules.specs.Written.{outcome, written}
use Rattle.encode_rules.proofs.Runs.{digits_length}
use Rattle.encode.specs.declared.plan.Plan.{Plan}
use Rattle.encode.specs.steps.Plan.{planned}

pub planned_length : (p : Plan) → 2 + p.number.count + p.rest.count ≡ length (planned p)
planned_length p =
    let xs = digits p.number.count p.number.value in
    let ys = digits p.rest.count p.rest.value in
    omega (arith, length-append xs ys, digits_length p.number.count p.number.value, digits_length p.rest.count p.rest.value)

-- a code's two bytes, then a number, then another
module _ (l : List ℕ) (p : Plan) (h : 2 + p.number.count + p.rest.count ≤ length l) {x : List ℕ}
    (number : x ≡ put 2 (digits p.number.count p.number.value) (set (set l 0 p.first) 1 p.second)) where
  abbrev coded : List ℕ
  coded = set (set l 0 p.first) 1 p.second

  long : length coded ≡ length l
  long = simp length-set

  pub room : 2 + p.number.count + p.rest.count ≤ length x
  room =
      let e = digits_length p.number.count p.number.value in
      omega (arith, long, ap length number, put_length 2 coded (digits p.number.count p.number.value) (omega (arith, long)))

  pub laid : {y : List ℕ} → y ≡ put (2 + p.number.count) (digits p.rest.count p.rest.value) x → y ≡ over (planned p) l
  laid rest =
      let xs = digits p.number.count p.number.value in
      let ys = digits p.rest.count p.rest.value in
      let e = digits_length p.number.count p.number.value in
      let place : 2 + p.number.count ≡ 2 + length xs = omega arith in
      rest ∙ ap (put (2 + p.number.count) ys) number
      ∙ sym
      (put_one 0 l p.first (p.second ∷ xs ++ ys) (omega arith)
      ∙ put_one 1 (set l 0 p.first) p.second (xs ++ ys) (simp length-set (omega arith))
      ∙ put_more 2 coded xs (omega (arith, long)) ys place)

module _ (bs : List ℕ) (k : ℕ) (xs : List ℕ) where
  pub none : length bs < k + length xs → outcome 6 0 bs ≡ written (bytes xs) bs k
  unfolding written
  none h = rw (lt-leb _ _ h)

  pub some : {n : ℕ} {ys : List ℕ} → n ≡ length xs → k + length xs ≤ length bs → ys ≡ over xs (take (length bs - k) (drop k bs))
      → outcome 0 n (put_mid k (length bs - k) bs ys) ≡ written (bytes xs) bs k
  unfolding written
  some l h e = rw (le-leb _ _ h) (ap₂ (outcome 0) l (written_part k bs xs (omega arith) e ∙ put_whole k bs xs))
