-- No refusal has the number 0, which says that there is none.
-- Assumes nothing.
use Prim.Native.Nat.{ℕ, ◌≤◌}
use mathlib.Core.Path.{◌≡◌}
use native.Mathlib.Omega.{arith}
use Rattle.record.specs.declared.refusal.Refusal.{Refusal}
use Rattle.record.specs.declared.refusal.Refusal.TheVariants.{ExhaustedInput, InvalidOpcode, InvalidOperand, FirstByteOutside, NoString, TooLittleRoom, ImageTooLong}
use Rattle.record.specs.Answer.{number_of}

one_up : (e : Refusal) → 1 ≤ number_of e
one_up ExhaustedInput = omega arith
one_up InvalidOpcode = omega arith
one_up InvalidOperand = omega arith
one_up FirstByteOutside = omega arith
one_up NoString = omega arith
one_up TooLittleRoom = omega arith
one_up ImageTooLong = omega arith

pub refused : (e : Refusal) → number_of e ≡ 0 → ⊥
refused e z = omega (arith, one_up e)
