-- What the laws of walks say of a sweep's answer, by any table; and what it reads, by either reading.
-- Assumes nothing.
use Prim.Native.Nat.{ℕ, ◌+◌, ◌*◌, ◌≤◌}
use mathlib.Core.Path.{◌≡◌, refl, ap}
use mathlib.Core.Bool.{Bool, true, false}
use mathlib.Core.List.{List}
use native.Mathlib.Omega.{arith}
use lib.Dec.{ltb}
use lib.ListN.{length}
use borrow.Author.Tests.{le-ltb}
use Rattle.laws.specs.Choice.{pick}
use Rattle.rows.specs.Bytes.{Bytes}
use Rattle.rows.specs.Row.{Table}
use Rattle.rows.specs.Run.{decode_by}
use Rattle.by_manual.specs.Table.{table_by}
use Rattle.by_manual.proofs.Passing.{codes_passed, spaced_by}
use Rattle.sweep.specs.declared.Rule.{Rule}
use Rattle.sweep.specs.declared.Rule.TheVariants.{GoOn, Stop}
use Rattle.sweep.specs.Walk.{walk}
use Rattle.sweep.specs.Swept.{not_swept}
use Rattle.sweep.specs.Sweep.{last_step, refusal_of, total, Outcome, outcome, outcome_of, whole}
use Rattle.sweep.specs.Visits.{bytes_of, decodings}
use Rattle.sweep.proofs.Walk.{by_table}
use Rattle.sweep.proofs.Places.{counted}
use Rattle.sweep.proofs.Rules.{counts_none, same_walk}
use Rattle.sweep.proofs.GoingOn.{to_the_end, bytes_add_up}
use Rattle.sweep.proofs.Read.{stopping, six_times, spares_by}
use Rattle.sweep.proofs.Eased.{three_times, eases_by}

-- an image that is not too long, with an entry for each byte
module _ (t : Table) (bs ss : List ℕ) (h : length bs ≤ 4096) (g : length bs ≤ length ss) where
  pub walked : (rule : Rule) → whole t rule bs ss ≡ outcome_of (walk (decode_by t) rule bs 0) ss
  unfolding whole
  walked rule = rw (le-ltb _ _ h, le-ltb _ _ g)

  -- going on comes to the image's end, and counts each decoding once; the bytes of starts and refused places are those of the image
  pub goes_on : let r = (whole t GoOn bs ss).swept in let w = walk (decode_by t) GoOn bs 0 in
      (r.refusal ≡ 0) × (r.place ≡ length bs) × (r.count + r.refused ≡ total decodings w) × (total bytes_of w ≡ length bs)
  goes_on =
      let e = to_the_end (by_table t) bs 0 (omega arith) in
      let w = walk (decode_by t) GoOn bs 0 in
      let none : decodings (last_step w) ≡ 0 = ap decodings e.1 in
      rw (walked GoOn) (ap refusal_of e.1, e.0, omega (arith, counted w, none), omega (arith, bytes_add_up (by_table t) bs 0 (omega arith)))

-- whatever it is given, a sweep's answer is a refusal or the walk's: what holds of the three holds of it
answer : (t : Table) (rule : Rule) (bs ss : List ℕ) (P : Outcome → Type 0) → P (outcome (not_swept 7) ss) → P (outcome (not_swept 6) ss) → P (outcome_of (walk (decode_by t) rule bs 0) ss)
    → P (whole t rule bs ss)
unfolding whole
answer t rule bs ss P seven six swept = by (ltb 4096 (length bs)) (ltb (length ss) (length bs))
  where
    by : (x y : Bool) → P (pick x (outcome (not_swept 7) ss) (pick y (outcome (not_swept 6) ss) (outcome_of (walk (decode_by t) rule bs 0) ss)))
    by true y = seven
    by false true = six
    by false false = swept

-- stopping counts no refused place
pub stops_at_once : (t : Table) (bs ss : List ℕ) → (whole t Stop bs ss).swept.refused ≡ 0
stops_at_once t bs ss = answer t Stop bs ss (λ x. x.swept.refused ≡ 0) refl refl (ap length (counts_none (by_table t) bs 0))

-- request A13: stopping reads no more than the image; going on, of bytes, at most six times as much, and at most three times
pub stopping_reads : (t : Table) (bs ss : List ℕ) → (whole t Stop bs ss).swept.read ≤ length bs
stopping_reads t bs ss = answer t Stop bs ss (λ x. x.swept.read ≤ length bs) (omega arith) (omega arith) (omega (arith, stopping (by_table t) bs 0))

-- (by either reading)
module _ (m : Bool) (bs ss : List ℕ) (b : Bytes bs) where
  abbrev t : Table
  t = table_by m

  pub going_on_reads_six : (whole t GoOn bs ss).swept.read ≤ 6 * length bs
  going_on_reads_six = answer t GoOn bs ss (λ x. x.swept.read ≤ 6 * length bs) (omega arith) (omega arith) (omega (arith, six_times (by_table t) bs (spares_by t (codes_passed m)) b 0))

  pub going_on_reads_three : (whole t GoOn bs ss).swept.read ≤ 3 * length bs
  going_on_reads_three =
      answer t GoOn bs ss (λ x. x.swept.read ≤ 3 * length bs) (omega arith) (omega arith)
      (omega (arith, three_times (by_table t) bs (spares_by t (codes_passed m)) b (eases_by t (codes_passed m) (spaced_by m)) 0))

-- an image that the stopping sweep takes to its end: both sweeps return and leave the same
pub both_alike : (t : Table) (bs ss : List ℕ) → (whole t Stop bs ss).swept.refusal ≡ 0 → whole t GoOn bs ss ≡ whole t Stop bs ss
unfolding whole
both_alike t bs ss = by (ltb 4096 (length bs)) (ltb (length ss) (length bs)) refl refl
  where
    by : (a b : Bool) → ltb 4096 (length bs) ≡ a → ltb (length ss) (length bs) ≡ b → (whole t Stop bs ss).swept.refusal ≡ 0 → whole t GoOn bs ss ≡ whole t Stop bs ss
    by true b e f z = rw e
    by false true e f z = rw (e, f)
    by false false e f z = rw (e, f) (ap (λ w. outcome_of w ss) (same_walk (by_table t) bs 0 (rw (e, f) at z)))
