-- `decode_74::op74::size_74` meets its contract: the set has those of eight numbers at which the definition gives a size.
use Prim.Native.Nat.{ℕ, ◌%◌}
use mathlib.Core.Path.{◌≡◌, refl, sym, ap, ◌∙◌}
use mathlib.Core.Bool.{Bool, true, false}
use native.Mathlib.Omega.{arith}
use lib.Dec.{eqb, ltb}
use Rattle.laws.specs.Choice.{pick}
use Rattle.laws.proofs.Agree.{agree}
use Rattle.record.specs.declared.Size.{Size}
use Rattle.record.specs.declared.Size.TheVariants as size
use Rattle.record.specs.declared.Width.{Width}
use Rattle.rows.specs.Rows.{size_of}
use Rattle.readers.specs.steps.Set.{holds}
use Rattle.readers.specs.steps.Width.{width_of}
use Rattle.decode_74.specs.steps.Op74.{size74}
use Rattle.decode_74.proofs.op74.size_74.Goals as goal

abbrev sized : ℕ → Bool
sized k = pick (ltb k 3) false (pick (eqb k 5) false true)

chosen : (x y : Bool) (z : Size) → pick (pick x false (pick y false true)) z size.None ≡ pick x size.None (pick y size.None z)
chosen true y z = refl
chosen false true z = refl
chosen false false z = refl

by_set : (w : Width) (h : ℕ) {t : Bool} → t ≡ holds 0xD8 (h % 8) → pick t (size_of w) size.None ≡ size74 w h
by_set w h e =
    ap (λ t. pick t (size_of w) size.None) (e ∙ agree (holds 0xD8) sized 8 refl (h % 8) (omega arith)) ∙ chosen (ltb (h % 8) 3) (eqb (h % 8) 5) (size_of w)

pub returns-then-has : goal.returns-then-has
returns-then-has c = c.size_of.ensures ∙ by_set (width_of c.args.byte) c.args.h (sym c.if-has.true ∙ c.has.ensures)

pub returns : goal.returns
returns c = by_set (width_of c.args.byte) c.args.h (sym c.if-has.false ∙ c.has.ensures)
