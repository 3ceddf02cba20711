-- Request A13, beyond what it asks: going on reads at most three times what is left of the image, by any reading that makes up for each late
-- refusal at the places behind it.
-- Assumes nothing.
use Prim.Native.Nat.{ℕ, zero, suc, ◌+◌, ◌*◌, ◌-◌, ◌≤◌, ◌<◌}
use mathlib.Core.Path.{◌≡◌, refl, sym, ap, subst, ◌∙◌}
use mathlib.Core.Logic.{◌⊎◌, inl, inr}
use mathlib.Core.Bool.{Bool, true, false}
use mathlib.Core.List.{List}
use native.Mathlib.Omega.{arith}
use lib.Dec.{leb, leb→le}
use lib.ListN.{length, drop, length-drop}
use lib.Seq.{drop-drop}
use borrow.Author.Tests.{leb-true, leb-false}
use Rattle.laws.specs.Range.{upto, total as sum}
use Rattle.laws.proofs.Range.{upto_at}
use Rattle.record.specs.Answer.{Answer}
use Rattle.rows.specs.Bytes.{Bytes}
use Rattle.rows.specs.Row.{Table}
use Rattle.rows.specs.Run.{decode_by}
use Rattle.rows.proofs.Bytes.{at_bytes, drop_bytes}
use Rattle.rows.proofs.Depth.{Passes, at_most_five}
use Rattle.rows.proofs.Late.{Light, Spaced, behind}
use Rattle.sweep.specs.declared.Rule.TheVariants.{GoOn}
use Rattle.sweep.specs.Step.{Step}
use Rattle.sweep.specs.Step.{End, Accepted, Refused}
use Rattle.sweep.specs.Walk.{step_at, Walk, on, onward, visit, walk}
use Rattle.sweep.specs.Sweep.{total, taken}
use Rattle.sweep.proofs.Walk.{Advances, told, from, further, turned, along}
use Rattle.sweep.proofs.GoingOn.{ends}
use Rattle.sweep.proofs.Read.{Spares, taken_left, takes_six}

-- what it asks of a reading, when that is given bytes and refuses: it takes six only if no more are left; and where it takes more than three
-- of six or more, the next place is light, accepted or of one byte; or there are six, it took four, and the place behind the next one is light
pub record Eases (reading : List ℕ → Answer) : Type 0 where
  pub five : (bs : List ℕ) → Bytes bs → ((reading bs).refusal ≡ 0 → ⊥) → 6 < length bs → (reading bs).taken ≤ 5
  pub next : (bs : List ℕ) → Bytes bs → ((reading bs).refusal ≡ 0 → ⊥) → 6 ≤ length bs → 3 < (reading bs).taken
      → Light (reading (drop 1 bs)) ⊎ ((length bs ≡ 6) × ((reading bs).taken ≤ 4) × Light (reading (drop 2 bs)))

-- what holds if a number is at most another, and if it is above it, holds
split : {P : Type 0} (a b : ℕ) → (a ≤ b → P) → (b < a → P) → P
split {P} a b f g = by (leb a b) refl
  where
    by : (c : Bool) → leb a b ≡ c → P
    by true e = f (leb-true a b e)
    by false e = g (leb-false a b e)

-- up to five, 1 + 2 + … + k is at most three times k
sum_small : (k : ℕ) → k ≤ 5 → sum suc k ≤ 3 * k
unfolding upto sum
sum_small k l = leb→le _ _ (upto_at (λ k. leb (sum suc k) (3 * k)) 6 tt k (omega arith))

module _ {reading : List ℕ → Answer} (advances : Advances reading) (bs : List ℕ) where
  abbrev Read : ℕ → ℕ
  Read p = total taken (walk reading GoOn bs p)

  turns : (p q : ℕ) {s : Step} → s ≡ step_at reading bs p → onward GoOn p s ≡ on q → Read p ≡ taken s + Read q
  turns p q {s} e o = ap (total taken) (turned advances bs GoOn p e ∙ ap (λ z. visit p s z (walk reading GoOn bs)) o)

  -- no decoding takes more than is left, so that the last places together take no more than 1 + 2 + 3 and so on
  few_left : (p k : ℕ) → length bs - p ≤ k → Read p ≤ sum suc k
  unfolding sum
  few_left = along advances bs GoOn (λ p w. (k : ℕ) → length bs - p ≤ k → total taken w ≤ sum suc k) (λ p s e o k h. rw (ends advances bs p s e o).0 (omega arith)) leads
    where
      leads : (p q : ℕ) (s : Step) (w : Walk) → w ≡ walk reading GoOn bs q → s ≡ step_at reading bs p → onward GoOn p s ≡ on q
          → ((k : ℕ) → length bs - q ≤ k → total taken w ≤ sum suc k) → (k : ℕ) → length bs - p ≤ k → taken s + total taken w ≤ sum suc k
      leads p q s w u e o h zero l = absurd (omega (arith, further advances bs GoOn p q s (told advances bs p e) o))
      leads p q s w u e o h (suc k) l =
          let lies = told advances bs p e in
          let on-from = further advances bs GoOn p q s lies o in
          omega (arith, h k (omega arith), taken_left bs p s lies)

  few : (p : ℕ) → length bs - p ≤ 5 → Read p ≤ 3 * (length bs - p)
  few p l = omega (arith, few_left p (length bs - p) (omega arith), sum_small (length bs - p) l)

  module _ (spares : Spares reading) (bytes : Bytes bs) (eases : Eases reading) where
    takes_five : (p e t : ℕ) → Refused e t ≡ step_at reading bs p → 6 < length bs - p → t ≤ 5
    takes_five p e t s l =
        let f = from reading bs p s in subst (λ n. n ≤ 5) f.2 (eases.five (drop p bs) (drop_bytes p bs bytes) f.0 (rw length-drop l))

    -- from a light place a walk passes some bytes, and reads no more than these before it goes on
    record Passed (p : ℕ) : Type 0 where
      by : ℕ
      some : 1 ≤ by
      inside : p + by ≤ length bs
      reads : Read p ≤ by + Read (p + by)

    passed : (p : ℕ) → p < length bs → Light (reading (drop p bs)) → Passed p
    passed p l light = at (step_at reading bs p) refl
      where
        refused : (e t : ℕ) → Refused e t ≡ step_at reading bs p → Light (reading (drop p bs)) → t ≤ 1
        refused e t s (inl z) = absurd ((from reading bs p s).0 z)
        refused e t s (inr o) = omega (arith, o, (from reading bs p s).2)

        at : (s : Step) → s ≡ step_at reading bs p → Passed p
        at End e = absurd (omega (arith, told advances bs p e))
        at (Accepted r t) e = let lies = told advances bs p e in record { by = t; some = omega arith; inside = omega arith; reads = omega (arith, turns p (p + t) e refl) }
        at (Refused x t) e = record { by = 1; some = omega arith; inside = omega arith; reads = omega (arith, turns p (p + 1) e refl, refused x t e light) }

    light_at : (p k : ℕ) → Light (reading (drop k (drop p bs))) → Light (reading (drop (p + k) bs))
    light_at p k = subst (λ r. Light (reading r)) (drop-drop k p bs)

    -- the last six bytes, of which the first place takes t, read at most 18
    module _ (p t : ℕ) (six : length bs - p ≡ 6) where
      by_next : t ≤ 6 → Passed (p + 1) → t + Read (p + 1) ≤ 18
      unfolding sum
      by_next l n =
          split n.by 1 (λ one. omega (arith, n.some, n.reads, few_left (p + 1 + n.by) 4 (omega (arith, n.some))))
          (λ more. omega (arith, n.inside, n.reads, few (p + 1 + n.by) (omega (arith, n.some))))

      by_third : t ≤ 4 → Passed (p + 1 + 1) → t + Read (p + 1) ≤ 18
      unfolding sum
      by_third l n = at (step_at reading bs (p + 1)) refl
        where
          third : Read (p + 1 + 1) ≤ 9
          third =
              split n.by 1 (λ one. omega (arith, n.some, n.reads, few_left (p + 1 + 1 + n.by) 3 (omega (arith, n.some))))
              (λ more. omega (arith, n.inside, n.reads, few (p + 1 + 1 + n.by) (omega (arith, n.some))))

          at : (s : Step) → s ≡ step_at reading bs (p + 1) → t + Read (p + 1) ≤ 18
          at End e = absurd (omega (arith, told advances bs (p + 1) e))
          at (Accepted r k) e =
              let lies = told advances bs (p + 1) e in
              by_next (omega arith) (record { by = k; some = omega arith; inside = omega arith; reads = omega (arith, turns (p + 1) (p + 1 + k) e refl) })
          at (Refused x k) e = omega (arith, third, turns (p + 1) (p + 1 + 1) e refl, taken_left bs (p + 1) (Refused x k) (told advances bs (p + 1) e))

    -- at a place, if it is so behind it
    module _ (p : ℕ) (so-behind : (q : ℕ) → p < q → Read q ≤ 3 * (length bs - q)) where
      -- a late refusal: the last six bytes, or more
      module _ (e t : ℕ) (s : Refused e t ≡ step_at reading bs p) (h : 5 < length bs - p) where
        by_light : Passed (p + 1) → t + Read (p + 1) ≤ 3 * (length bs - p)
        by_light n =
            split (length bs - p) 6 (λ l. omega (arith, by_next p t (omega arith) (takes_six advances bs spares bytes p e t s) n))
            (λ l. omega (arith, n.some, n.inside, n.reads, so-behind (p + 1 + n.by) (omega arith), takes_five p e t s l))

        makes_up : Light (reading (drop 1 (drop p bs))) ⊎ ((length (drop p bs) ≡ 6) × ((reading (drop p bs)).taken ≤ 4) × Light (reading (drop 2 (drop p bs))))
            → t + Read (p + 1) ≤ 3 * (length bs - p)
        makes_up (inl light) = by_light (passed (p + 1) (omega arith) (light_at p 1 light))
        makes_up (inr (six, four, light)) =
            let left : length bs - p ≡ 6 = sym (length-drop p bs) ∙ six in
            let two : p + 2 ≡ p + 1 + 1 = omega arith in
            let third = passed (p + 1 + 1) (omega arith) (subst (λ q. Light (reading (drop q bs))) two (light_at p 2 light)) in
            omega (arith, by_third p t left (omega (arith, (from reading bs p s).2)) third)

        late : 3 < t → t + Read (p + 1) ≤ 3 * (length bs - p)
        late g = let f = from reading bs p s in makes_up (eases.next (drop p bs) (drop_bytes p bs bytes) f.0 (rw length-drop h) (omega (arith, f.2)))

      refused : (e t : ℕ) → Refused e t ≡ step_at reading bs p → Read p ≤ 3 * (length bs - p)
      refused e t s =
          let on-from = turns p (p + 1) s refl in
          split t 3 (λ l. omega (arith, so-behind (p + 1) (omega arith), told advances bs p s))
          (λ g. split (length bs - p) 5 (λ l. few p l) (λ h. omega (arith, late e t s h g)))

      here : (s : Step) → s ≡ step_at reading bs p → Read p ≤ 3 * (length bs - p)
      unfolding sum
      here End e = omega (arith, few_left p 0 (omega (arith, told advances bs p e)))
      here (Accepted r t) e = let lies = told advances bs p e in omega (arith, turns p (p + t) e refl, so-behind (p + t) (omega arith))
      here (Refused x t) e = refused x t e

    pub three_times : (p : ℕ) → Read p ≤ 3 * (length bs - p)
    unfolding sum
    three_times p = within (length bs - p) p (omega arith)
      where
        within : (k p : ℕ) → length bs - p ≤ k → Read p ≤ 3 * (length bs - p)
        within zero p l = omega (arith, few_left p 0 l)
        within (suc k) p l = here p (λ q g. within k q (omega arith)) (step_at reading bs p) refl

-- decoding by a table
pub eases_by : (t : Table) → Passes t → Spaced t → Eases (decode_by t)
eases_by t passes spaced = record {
  five = λ bs b z l. at_most_five t passes bs (at_bytes 1 bs b) z l;
  next = λ bs b z l g. behind t spaced bs b l z g;
}
