-- Fewer than two bytes have no length: decoding refuses them, with the blank record.
-- Assumes nothing.
use Prim.Native.Nat.{ℕ, ◌<◌}
use mathlib.Core.Path.{◌≡◌, refl, sym, ap, ◌∙◌, subst}
use mathlib.Core.Bool.{Bool, true, false}
use mathlib.Core.List.{List, [], ◌∷◌}
use native.Mathlib.Omega.{arith}
use lib.ListN.{length}
use Rattle.record.specs.Answer.{Answer}
use Rattle.rows.specs.Groups.{known, document01}
use Rattle.rows.specs.Run.{decode_by, decode_rows}
use Rattle.lengths.specs.Length.{LengthOf}
use Rattle.lengths.proofs.Zeros.{few}

none : (bs : List ℕ) → length bs < 2 → (decode_rows bs).inst.length ≡ 0
unfolding decode_by
none [] l = refl
none (a ∷ []) l = by (known a) refl
  where
    by : (x : Bool) → known a ≡ x → (decode_rows (a ∷ [])).inst.length ≡ 0
    by true e = rw e refl
    by false e = rw e refl
none (a ∷ b ∷ bs) l = absurd (omega arith)

pub fewer : (bs : List ℕ) {x : Answer} → length bs < 2 → x ≡ decode_rows bs → LengthOf document01 bs x.refusal x.inst.length
fewer bs {x} l e = subst (LengthOf document01 bs x.refusal) (sym (ap (λ y. y.inst.length) e ∙ none bs l)) (few bs l e)
