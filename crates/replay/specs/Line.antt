-- Any line of the stored list, by its first character: E (69) a record to encode, M (77) one to encode by the manual, S (83) an image to sweep up to a refusal, G (71) one to sweep
-- to its end, N (78) a record with an operand to ask for, P (80) bytes whose numbers are to be placed, any other bytes to decode.
use Rattle.std.specs.Prelude.{ℕ, true, false, List, ◌==◌, slice_index}
use Rattle.laws.specs.Choice.{pick}
use Rattle.sweep.specs.declared.Rule.TheVariants.{GoOn, Stop}
use Rattle.replay.specs.declared.kind.Kind.{Kind}
use Rattle.replay.specs.declared.kind.Kind.TheVariants.{Encodes, Sweeps, Asks, Places, Decodes}
use Rattle.replay.specs.declared.verdict.Verdict.{Verdict}
use Rattle.replay.specs.Decoding as decoding
use Rattle.replay.specs.Encoding as encoding
use Rattle.replay.specs.Sweeping as sweeping
use Rattle.replay.specs.Asking as asking
use Rattle.replay.specs.Placing as placing
use Rattle.replay.specs.Verdict.{Judged}

-- what the first character tells
abbrev pub kind_of : List ℕ → Kind
kind_of s =
    pick (slice_index s 0 == 69) (Encodes false)
    (pick (slice_index s 0 == 83) (Sweeps Stop)
    (pick (slice_index s 0 == 71) (Sweeps GoOn)
    (pick (slice_index s 0 == 78) Asks
    (pick (slice_index s 0 == 80) Places
    (pick (slice_index s 0 == 77) (Encodes true) Decodes)))))

-- a line has the form of its kind
abbrev pub Whole : Kind → List ℕ → Type 0
Whole (Encodes manual) s = encoding.Whole manual s
Whole (Sweeps rule) s = sweeping.Whole rule s
Whole Asks s = asking.Whole s
Whole Places s = placing.Whole s
Whole Decodes s = decoding.Whole s

-- what it says is what the promise of its kind allows
abbrev pub Right : Kind → List ℕ → Type 0
Right (Encodes manual) s = encoding.Right manual s
Right (Sweeps rule) s = sweeping.Right rule s
Right Asks s = asking.Right s
Right Places s = placing.Right s
Right Decodes s = decoding.Right s

-- what a verdict says of a line
abbrev pub Says : Verdict → List ℕ → Type 0
Says v s = Judged (Whole (kind_of s) s) (Right (kind_of s) s) v
