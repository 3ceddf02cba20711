-- A page with a line more, and pages one after the other.
-- Assumes nothing.
use Prim.Native.Nat.{ℕ, ◌+◌, ◌-◌, ◌≤◌}
use mathlib.Core.Path.{◌≡◌, refl, sym, ap, ◌∙◌}
use mathlib.Core.List.{List, [], ◌++◌, append_assoc, append-nil}
use mathlib.Core.Logic.{◌⊎◌, inl, inr}
use native.Mathlib.Omega.{arith}
use lib.ListN.{length, take, drop}
use borrow.Rule.Slice.PartMut.{put_mid}
use Rattle.laws.specs.Over.{over}
use Rattle.laws.proofs.Over.{put_taken, written_part}
use Rattle.rows.specs.Row.{Table}
use Rattle.sweep.specs.declared.Rule.{Rule}
use Rattle.sweep.specs.Walk.{Onward, stop, on}
use Rattle.std.specs.Prelude.{Option, Some, None}
use Rattle.listing.specs.declared.page.Next.{Next}
use Rattle.listing.specs.Listing.{listing}
use Rattle.listing.specs.steps.Page.{to_list, next_of, Paged, none, more}

-- what is next tells where a walk leads
pub leads : (o : Onward) {q : ℕ} → next_of o ≡ Some q → o ≡ on q
leads stop e = cc
leads (on p) e = cc

pub stops : (o : Onward) → next_of o ≡ None → o ≡ stop
stops stop e = refl
stops (on p) e = cc

module _ (at : ℕ) (l xs : List ℕ) {n : ℕ} {ys : List ℕ} (h : at + length xs ≤ length l)
    (put : (n ≡ length xs) × (ys ≡ over xs (take (length l - at) (drop at l)))) where
  filled : take (at + n) (put_mid at (length l - at) l ys) ≡ take at l ++ xs
  filled = ap (take (at + n)) (written_part at l xs (omega arith) put.1) ∙ put_taken at l xs h (ap (λ k. at + k) put.0)

  -- the line there, and what is listed behind it
  pub line_more : (behind : List ℕ) {here whole : List ℕ} → here ≡ xs ++ behind → take at l ++ here ≡ whole → take (at + n) (put_mid at (length l - at) l ys) ++ behind ≡ whole
  line_more behind e all = ap (λ z. z ++ behind) filled ∙ append_assoc (take at l) xs behind ∙ ap (λ z. take at l ++ z) (sym e) ∙ all

  pub line_last : {here whole : List ℕ} → here ≡ xs → take at l ++ here ≡ whole → take (at + n) (put_mid at (length l - at) l ys) ++ [] ≡ whole
  line_last e all = line_more [] (e ∙ sym (append-nil xs)) all

whole : {t : Table} {rule : Rule} {bs : List ℕ} {next : Option Next} {text : List ℕ} → Paged t rule bs next text → text ≡ to_list t rule bs next
whole none = refl
whole (more {r = r} {out = out} filled rest) = ap (λ z. take r.length out ++ z) (whole rest) ∙ filled.same

-- from where the listing begins, pages of any size are the listing
pub one_after_the_other : {t : Table} {rule : Rule} {bs : List ℕ} {first : Option Next} {text : List ℕ} → to_list t rule bs first ≡ listing t rule bs → Paged t rule bs first text → text ≡ listing t rule bs
one_after_the_other begun pages = whole pages ∙ begun
