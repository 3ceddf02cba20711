-- The sweep's promise leaves one outcome, by either rule: what is returned, and every entry of the list that was passed in.
-- Assumes nothing.
use Prim.Native.Nat.{ℕ}
use mathlib.Core.Path.{◌≡◌, refl, sym, ap, ◌∙◌}
use mathlib.Core.Bool.{true, false, false≢true}
use mathlib.Core.List.{List}
use lib.Dec.{eqb}
use Rattle.laws.specs.Choice.{pick}
use Rattle.std.specs.Prelude.{Option, Some, None, Result, Ok, Err}
use Rattle.record.specs.declared.refusal.Refusal.{Refusal}
use Rattle.record.specs.declared.refusal.Refusal.TheVariants.{ExhaustedInput, InvalidOpcode, InvalidOperand, FirstByteOutside, NoString, TooLittleRoom, ImageTooLong}
use Rattle.rows.specs.Row.{Table}
use Rattle.readers.proofs.Results.{refusal_by, same_refusal}
use Rattle.sweep.specs.declared.Rule.{Rule}
use Rattle.sweep.specs.declared.Swept as source
use Rattle.sweep.specs.Swept.{Swept, stop_no, swept_of, begins, has_begun}
use Rattle.sweep.specs.Sweep.{Sweeps}

pub sweeps_once : {t : Table} {rule : Rule} {image starts : List ℕ} {r s : Swept} {after later : List ℕ} → Sweeps t rule image starts r after → Sweeps t rule image starts s later
    → (r ≡ s) × (after ≡ later)
sweeps_once a b = (a.returned ∙ sym b.returned, a.kept ∙ sym b.kept)

-- the stop with a number, none for 0
abbrev stop_by : ℕ → Option Refusal
stop_by n = pick (eqb n 0) None (Some (refusal_by n))

stopped_by : (x : Option Refusal) → stop_by (stop_no x) ≡ x
stopped_by None = refl
stopped_by (Some ExhaustedInput) = refl
stopped_by (Some InvalidOpcode) = refl
stopped_by (Some InvalidOperand) = refl
stopped_by (Some FirstByteOutside) = refl
stopped_by (Some NoString) = refl
stopped_by (Some TooLittleRoom) = refl
stopped_by (Some ImageTooLong) = refl

-- the numbers tell the result, where it is known whether it is an error
told_apart : (x y : Result source.Swept Refusal) → has_begun x ≡ has_begun y → swept_of x ≡ swept_of y → x ≡ y
told_apart (Ok s) (Ok t) h e =
    let stop : s.stop ≡ t.stop = sym (stopped_by s.stop) ∙ ap (λ x. stop_by x.refusal) e ∙ stopped_by t.stop in
    λ i. Ok (record { stop = stop i; count = (e i).count; place = (e i).place; refused = (e i).refused; read = (e i).read })
told_apart (Ok s) (Err f) h e = absurd (false≢true (sym h))
told_apart (Err f) (Ok t) h e = absurd (false≢true h)
told_apart (Err f) (Err g) h e = ap Err (same_refusal (ap (λ x. x.refusal) e))

-- and of what the function itself returns
pub results_once : {t : Table} {rule : Rule} {image starts : List ℕ} {x y : Result source.Swept Refusal} {after later : List ℕ}
    → Sweeps t rule image starts (swept_of x) after → has_begun x ≡ begins image starts → Sweeps t rule image starts (swept_of y) later → has_begun y ≡ begins image starts
    → (x ≡ y) × (after ≡ later)
results_once {x = x} {y = y} a h b k =
    let e = sweeps_once a b in
    (told_apart x y (h ∙ sym k) e.0, e.1)
