-- Request A13: how much a walk reads, by any reading. Stopping, no more than is left of the image. Going on, at most six times as much, if
-- a refusal takes at most six bytes.
-- Assumes nothing.
use Prim.Native.Nat.{ℕ, ◌+◌, ◌*◌, ◌-◌, ◌≤◌}
use mathlib.Core.Path.{◌≡◌, sym, subst}
use mathlib.Core.List.{List}
use native.Mathlib.Omega.{arith}
use lib.ListN.{length, drop}
use Rattle.record.specs.Answer.{Answer}
use Rattle.rows.specs.Bytes.{Bytes}
use Rattle.rows.specs.Row.{Table}
use Rattle.rows.specs.Run.{decode_by}
use Rattle.rows.proofs.Bytes.{at_bytes, drop_bytes}
use Rattle.rows.proofs.Depth.{Passes, at_most_six}
use Rattle.sweep.specs.declared.Rule.TheVariants.{GoOn, Stop}
use Rattle.sweep.specs.Step.{Step}
use Rattle.sweep.specs.Step.{End, Accepted, Refused}
use Rattle.sweep.specs.Walk.{step_at, Walk, on, onward, walk}
use Rattle.sweep.specs.Sweep.{total, taken}
use Rattle.sweep.proofs.Walk.{Advances, never, Told, told, from, further, along}
use Rattle.sweep.proofs.GoingOn.{ends}

-- what the ceiling of going on asks of a reading besides, when it is given bytes and refuses: it takes at most six
pub record Spares (reading : List ℕ → Answer) : Type 0 where
  pub six : (bs : List ℕ) → Bytes bs → ((reading bs).refusal ≡ 0 → ⊥) → (reading bs).taken ≤ 6

pub taken_left : (bs : List ℕ) (p : ℕ) (s : Step) → Told bs p s → taken s ≤ length bs - p
taken_left bs p End h = omega arith
taken_left bs p (Accepted r t) h = h.2
taken_left bs p (Refused e t) h = omega arith

-- by the stopping rule a walk passes what it reads
passes : (p q : ℕ) (s : Step) → onward Stop p s ≡ on q → q ≡ p + taken s
passes p q End o = absurd (never o)
passes p q (Accepted r t) o = let z : p + t ≡ q = cc in sym z
passes p q (Refused e t) o = absurd (never o)

module _ {reading : List ℕ → Answer} (advances : Advances reading) (bs : List ℕ) where
  pub stopping : (p : ℕ) → total taken (walk reading Stop bs p) ≤ length bs - p
  stopping =
      along advances bs Stop (λ p w. total taken w ≤ length bs - p)
      (λ p s e o. taken_left bs p s (told advances bs p e))
      (λ p q s w u e o h. let l = further advances bs Stop p q s (told advances bs p e) o in let z = passes p q s o in omega (arith, h))

  module _ (spares : Spares reading) (bytes : Bytes bs) where
    pub takes_six : (p e t : ℕ) → Refused e t ≡ step_at reading bs p → t ≤ 6
    takes_six p e t s = let f = from reading bs p s in subst (λ n. n ≤ 6) f.2 (spares.six (drop p bs) (drop_bytes p bs bytes) f.0)

    pub six_times : (p : ℕ) → total taken (walk reading GoOn bs p) ≤ 6 * (length bs - p)
    six_times = along advances bs GoOn (λ p w. total taken w ≤ 6 * (length bs - p)) (λ p s e o. rw (ends advances bs p s e o).0 (omega arith)) leads
      where
        leads : (p q : ℕ) (s : Step) (w : Walk) → w ≡ walk reading GoOn bs q → s ≡ step_at reading bs p → onward GoOn p s ≡ on q
            → total taken w ≤ 6 * (length bs - q) → taken s + total taken w ≤ 6 * (length bs - p)
        leads p q End w u e o h = absurd (never o)
        leads p q (Accepted r t) w u e o h = let z : p + t ≡ q = cc in omega (arith, h, told advances bs p e)
        leads p q (Refused x t) w u e o h = let z : p + 1 ≡ q = cc in omega (arith, h, told advances bs p e, takes_six p x t e)

-- decoding by a table
pub spares_by : (t : Table) → Passes t → Spares (decode_by t)
spares_by t passes = record { six = λ bs b z. at_most_six t passes bs (at_bytes 1 bs b) z }
