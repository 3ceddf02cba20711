-- Request A1: what the rule of going on visits, by any reading. Every byte from where it begins is in one accepted instruction or is one
-- refused place; every place is visited that is not behind the first byte of an accepted instruction; and it comes to the image's end.
-- Assumes nothing.
use Prim.Native.Nat.{ℕ, ◌+◌, ◌-◌, ◌≤◌, ◌<◌}
use mathlib.Core.Path.{◌≡◌, refl, sym, ap, subst, ◌∙◌}
use mathlib.Core.Bool.{Bool, true, false}
use mathlib.Core.List.{List}
use native.Mathlib.Omega.{arith}
use lib.Dec.{ltb}
use lib.ListN.{length}
use borrow.Author.Tests.{ltb-true, ltb-false}
use Rattle.record.specs.Answer.{Answer}
use Rattle.sweep.specs.declared.Rule.TheVariants.{GoOn}
use Rattle.sweep.specs.Step.{Step}
use Rattle.sweep.specs.Step.{End, Accepted, Refused}
use Rattle.sweep.specs.Walk.{step_at, Walk, more, stop, on, onward, walk}
use Rattle.sweep.specs.Sweep.{last_place, last_step, total}
use Rattle.sweep.specs.Visits.{Visits, here, later, bytes_of, Belongs, InOne, Inside}
use Rattle.sweep.proofs.Walk.{Advances, never, Told, told, further, along}
use Rattle.sweep.proofs.Places.{visited}

-- a step leads behind its bytes, but for the image's end
behind_bytes : (p q : ℕ) (s : Step) → onward GoOn p s ≡ on q → q ≡ p + bytes_of s
behind_bytes p q End e = absurd (never e)
behind_bytes p q (Accepted r t) e = let z : p + t ≡ q = cc in sym z
behind_bytes p q (Refused x t) e = let z : p + 1 ≡ q = cc in sym z

stops_at_end : (p : ℕ) (s : Step) → onward GoOn p s ≡ stop → s ≡ End
stops_at_end p End e = refl
stops_at_end p (Accepted r t) e = absurd (never (sym e))
stops_at_end p (Refused x t) e = absurd (never (sym e))

module _ {reading : List ℕ → Answer} (advances : Advances reading) (bs : List ℕ) where
  pub ends : (p : ℕ) (s : Step) → s ≡ step_at reading bs p → onward GoOn p s ≡ stop → (s ≡ End) × (length bs ≤ p)
  ends p s e o = let z = stops_at_end p s o in (z, told advances bs p (sym z ∙ e))

  -- to the image's end, whatever is refused
  pub to_the_end : (p : ℕ) → p ≤ length bs → let w = walk reading GoOn bs p in (last_place w ≡ length bs) × (last_step w ≡ End)
  to_the_end =
      along advances bs GoOn (λ p w. p ≤ length bs → (last_place w ≡ length bs) × (last_step w ≡ End))
      (λ p s e o h. let z = ends p s e o in (omega (arith, z.1), z.0))
      (λ p q s w u e o h g. h (further advances bs GoOn p q s (told advances bs p e) o).1)

  -- the bytes of the accepted and the refused places together are those of the image
  pub bytes_add_up : (p : ℕ) → p ≤ length bs → total bytes_of (walk reading GoOn bs p) ≡ length bs - p
  bytes_add_up =
      along advances bs GoOn (λ p w. p ≤ length bs → total bytes_of w ≡ length bs - p)
      (λ p s e o h. let z = ends p s e o in ap bytes_of z.0 ∙ omega (arith, z.1))
      (λ p q s w u e o h g. let l = further advances bs GoOn p q s (told advances bs p e) o in let z = behind_bytes p q s o in omega (arith, h l.1))

  -- every byte is in one accepted instruction or is one refused place, and in one only
  pub in_one : (p b : ℕ) → p ≤ b → b < length bs → InOne (walk reading GoOn bs p) b
  in_one = along advances bs GoOn (λ p w. (b : ℕ) → p ≤ b → b < length bs → InOne w b) (λ p s e o b g l. absurd (omega (arith, (ends p s e o).1))) leads
    where
      leads : (p q : ℕ) (s : Step) (w : Walk) → w ≡ walk reading GoOn bs q → s ≡ step_at reading bs p → onward GoOn p s ≡ on q
          → ((b : ℕ) → q ≤ b → b < length bs → InOne w b) → (b : ℕ) → p ≤ b → b < length bs → InOne (more p s w) b
      leads p q s w u e o h b g l = by (ltb b q) refl
        where
          next : q ≡ p + bytes_of s
          next = behind_bytes p q s o

          only_here : b < q → (k : ℕ) (t : Step) → Visits (more p s w) k t → Belongs b k t → k ≡ p
          only_here c k t here i = refl
          only_here c k t (later v) i = absurd (omega (arith, i.0, (visited advances bs GoOn q k t (subst (λ z. Visits z k t) u v)).1))

          only_later : q ≤ b → (i : InOne w b) (k : ℕ) (t : Step) → Visits (more p s w) k t → Belongs b k t → k ≡ i.place
          only_later c i k t here j = absurd (omega (arith, j.1, next))
          only_later c i k t (later v) j = i.only k t v j

          by : (c : Bool) → ltb b q ≡ c → InOne (more p s w) b
          by true c = record { place = p; step = s; visited = here; belongs = (g, omega (arith, ltb-true b q c, next)); only = only_here (ltb-true b q c) }
          by false c =
              let i = h b (ltb-false b q c) l in
              record { place = i.place; step = i.step; visited = later i.visited; belongs = i.belongs; only = only_later (ltb-false b q c) i }

  -- every place is visited but those behind the first byte of an accepted instruction
  pub visits_all : (p b : ℕ) → p ≤ b → b < length bs → (Inside (walk reading GoOn bs p) b → ⊥) → Visits (walk reading GoOn bs p) b (step_at reading bs b)
  visits_all p b g l out = by i.step i.visited i.belongs
    where
      w : Walk
      w = walk reading GoOn bs p

      i : InOne w b
      i = in_one p b g l

      here_is : {s : Step} → Visits w i.place s → i.place ≡ b → Visits w b (step_at reading bs b)
      here_is {s} v e = subst (λ q. Visits w q (step_at reading bs q)) e (subst (Visits w i.place) (visited advances bs GoOn p i.place s v).0 v)

      by : (s : Step) → Visits w i.place s → Belongs b i.place s → Visits w b (step_at reading bs b)
      by End v j = absurd (omega (arith, j))
      by (Refused e t) v j = here_is v (omega (arith, j))
      by (Accepted r t) v j = at (ltb i.place b) refl
        where
          at : (c : Bool) → ltb i.place b ≡ c → Visits w b (step_at reading bs b)
          at true c = absurd (out (record { place = i.place; inst = r; taken = t; accepted = v; behind = ltb-true i.place b c; within = j.1 }))
          at false c = here_is v (omega (arith, j, ltb-false i.place b c))

  -- inside the image a place has a byte at least
  first_byte : (b : ℕ) (s : Step) → Told bs b s → b < length bs → Belongs b b s
  first_byte b End h l = absurd (omega (arith, h))
  first_byte b (Accepted r t) h l = (omega arith, omega (arith, h.1))
  first_byte b (Refused e t) h l = (omega arith, omega arith)

  -- and those are not visited
  pub none_inside : (p b : ℕ) (s : Step) → Visits (walk reading GoOn bs p) b s → Inside (walk reading GoOn bs p) b → ⊥
  none_inside p b s v i =
      let lies = told advances bs i.place (visited advances bs GoOn p i.place (Accepted i.inst i.taken) i.accepted).0 in
      let l : b < length bs = omega (arith, lies, i.within) in
      let seen = visited advances bs GoOn p b s v in
      let one = in_one p b seen.1 l in
      let a = one.only b s v (first_byte b s (told advances bs b seen.0) l) in
      let c = one.only i.place (Accepted i.inst i.taken) i.accepted (omega (arith, i.behind), i.within) in
      omega (arith, a, c, i.behind)
