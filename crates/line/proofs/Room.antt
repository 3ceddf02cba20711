-- What a writer of text answers, with and without room.
-- Assumes nothing.
use Prim.Native.Nat.{ℕ, ◌≤◌, ◌<◌}
use mathlib.Core.Path.{◌≡◌, ap, subst}
use mathlib.Core.List.{List}
use native.Mathlib.Omega.{arith}
use lib.ListN.{length}
use borrow.Author.Tests.{le-leb, lt-leb}
use Rattle.laws.specs.Over.{over}
use Rattle.std.specs.Prelude.{Result, Ok, Err}
use Rattle.record.specs.declared.refusal.Refusal.{Refusal}
use Rattle.record.specs.declared.refusal.Refusal.TheVariants.{TooLittleRoom}
use Rattle.line.specs.Left.{left, Writes}

module _ (xs bs : List ℕ) {n : ℕ} (e : n ≡ length xs) where
  pub no_room : length bs < n → Writes xs bs (Err TooLittleRoom) bs
  unfolding left
  no_room h = let g : length bs < length xs = omega arith in record { returned = rw (lt-leb _ _ g); kept = rw (lt-leb _ _ g) }

  pub room : {ys : List ℕ} → n ≤ length bs → ys ≡ over xs bs → Writes xs bs (Ok n) ys
  unfolding left
  room h q = let g : length xs ≤ length bs = omega arith in record { returned = rw (le-leb _ _ g) (ap Ok e); kept = rw (le-leb _ _ g) q }

-- what holds of a text holds of an equal one
pub said : (bs : List ℕ) {xs ys zs : List ℕ} {w : Result ℕ Refusal} → ys ≡ xs → Writes ys bs w zs → Writes xs bs w zs
said bs {xs} {ys} {zs} {w} e h = subst (λ s. Writes s bs w zs) e h
