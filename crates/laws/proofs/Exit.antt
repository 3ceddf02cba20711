-- The exit of a `?` returns the error that it met.
-- Assumes nothing.
use mathlib.Core.Path.{◌≡◌, ap}
use Rattle.std.specs.Prelude.{Result, Ok, Err}
use Rattle.std.specs.Result.{IsErrAnd}

pub passed : {A E : Type 0} {x : Result A E} {e : E} → IsErrAnd x (λ y. y ≡ e) → x ≡ Err e
passed {x = Ok a} h = absurd h
passed {x = Err y} h = ap Err h
