-- Every decoding, by either reading, is an answer that can be delivered; and delivered it is what is promised.
-- Assumes nothing.
use Prim.Native.Nat.{ℕ, ◌+◌, ◌≤◌, ◌<◌}
use mathlib.Core.Path.{◌≡◌, sym, ap, subst, ◌∙◌}
use mathlib.Core.Bool.{Bool}
use mathlib.Core.List.{List, ◌++◌}
use native.Mathlib.Omega.{arith}
use lib.ListN.{length, get_or, drop}
use lib.Seq.{get_or-drop}
use borrow.Author.Tests.{lt-ltb, le-ltb}
use Rattle.rows.specs.Row.{Table}
use Rattle.rows.specs.Run.{decode_by}
use Rattle.rows.proofs.Taken.{counted}
use Rattle.rows.proofs.Third.{no_third}
use Rattle.by_manual.specs.Table.{table_by}
use Rattle.by_manual.proofs.Passing.{seven_by}
use Rattle.record.specs.Answer.{Answer}
use Rattle.m16c_decode.specs.Decoded.{entries, numbers_of, decoded, Decodes}
use Rattle.m16c_decode.specs.steps.Filled.{Small, Filled}

-- a second byte is a byte, wherever decoding begins
pub small : (m : Bool) (image : List ℕ) (at : ℕ) → ((k : ℕ) → get_or image k 0 < 256) → Small (decode_by (table_by m) (drop at image))
small m image at h =
    let bs = drop at image in
    let few = seven_by m bs (subst (λ x. x < 256) (sym (get_or-drop at image 1 0)) (h (at + 1))) in
    (few, omega (arith, (counted (table_by m) bs).short), no_third (table_by m) bs)

-- under another name
pub same_small : {x y : Answer} → x ≡ y → Small y → Small x
same_small e = subst Small (sym e)

pub same_filled : {x y : Answer} {r : ℕ} {after : List ℕ} → x ≡ y → Filled x r after → Filled y r after
same_filled e f = record { returned = f.returned ∙ ap (λ x. x.refusal) e; kept = f.kept ∙ ap numbers_of e }

module _ (t : Table) (image : List ℕ) (at : ℕ) (out : List ℕ) {r : ℕ} where
  pub no_room : length out < entries → r ≡ 6 → Decodes t image at out r out
  unfolding decoded
  no_room h e = record { returned = rw (lt-ltb _ entries h) e; kept = rw (lt-ltb _ entries h) }

  -- what such an answer's function keeps is the promise
  pub keeps : entries ≤ length out → {x : Answer} → x ≡ decode_by t (drop at image) → {after : List ℕ} → Filled x r after → Decodes t image at out r (after ++ drop entries out)
  unfolding decoded
  keeps h e f =
      let g = same_filled e f in
      record { returned = rw (le-ltb _ entries h) g.returned; kept = rw (le-ltb _ entries h) (ap (λ l. l ++ drop entries out) g.kept) }
