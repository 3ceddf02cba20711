-- What a plain row has, and which rows can have made an unmarked record.
-- Assumes nothing.
use Prim.Native.Nat.{ℕ, ◌≤◌}
use mathlib.Core.Path.{◌≡◌, refl, sym, ap₂, ◌∙◌, subst}
use mathlib.Core.Bool.{Bool, true, false}
use mathlib.Core.List.{List}
use lib.Dec.{eqb}
use borrow.Author.Tests.{leb-true, eqb-true}
use Rattle.laws.specs.Choice.{pick, both}
use Rattle.record.specs.declared.Record.{Record}
use Rattle.rows.specs.Row.{Row}
use Rattle.rows.specs.Fate.{fate}
use Rattle.rows.specs.Run.{begun}
use Rattle.encode_rules.specs.steps.Search.{disps, imms, other, live, tidy, shorts_of, wides_of, plain}
use Rattle.encode_rules.proofs.Bools.{both_true}
use Rattle.encode_rules.proofs.Runs.{Runs}
use Rattle.encode_rules.proofs.Spell.{kept, no_stop}

pub record Plain (w : Row) : Type 0 where
  pub tidy : tidy w.reads ≡ true
  pub disps : disps w.reads ≡ shorts_of w.face
  pub imms : imms w.reads ≤ wides_of w.face
  pub once : wides_of w.face ≤ 1

picked : (b x : Bool) → b ≡ true → pick b x true ≡ true → x ≡ true
picked b x e h = subst (λ c. pick c x true ≡ true) e h

pub plain_is : (w : Row) → plain w ≡ true → live w ≡ true → Plain w
unfolding plain
plain_is w f l =
    let a = both_true _ _ (picked (live w) _ l f) in
    let b = both_true _ _ a.1 in
    let c = both_true _ _ b.1 in
    record { tidy = a.0; disps = eqb-true _ _ b.0; imms = leb-true _ _ c.0; once = leb-true _ _ c.1 }

pub unmarked : (m : Bool) → other m ≡ true → m ≡ false
unmarked false e = refl
unmarked true e = sym e

pub live_is : (w : Row) → live w ≡ true → (w.face.marked ≡ false) × (fate w.reads ≡ 0)
live_is w e = let b = both_true _ _ e in (unmarked w.face.marked b.0, eqb-true _ _ b.1)

-- a row that made an unmarked record is live
pub lives : (w : Row) (xs : List ℕ) (t : Record) → Runs w.reads xs w.face (begun w.number) t → t.marked ≡ false → live w ≡ true
lives w xs t q u =
    let k = kept w.reads xs w.face (begun w.number) t q in
    ap₂ (λ m e. both (other m) (eqb e 0)) (sym k.faced.marked ∙ u) (no_stop w.reads xs w.face (begun w.number) t q)
