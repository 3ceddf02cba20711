-- The changed rows are the manual's: each accepts exactly where the manual gives its code a meaning, is unmarked, and says the same. So what
-- an unmarked code with a meaning decodes to by this reading is the manual's instruction.
-- Assumes nothing.
use Prim.Native.Nat.{ℕ, ◌/◌, ◌%◌, ◌<◌}
use mathlib.Core.Path.{◌≡◌, refl, sym, subst, ◌∙◌}
use mathlib.Core.Bool.{Bool, true, false, not}
use mathlib.Core.List.{List, ◌∷◌}
use lib.Dec.{T, eqb, eqb→eq}
use borrow.Author.Tests.{eq-eqb}
use Rattle.laws.specs.Choice.{both}
use Rattle.laws.proofs.Choice.{both_left, both_right}
use Rattle.manual.specs.Meaning.{Meaning, Entry, meaning, empty}
use Rattle.manual.specs.Packed.{packed}
use Rattle.manual.specs.Entries.{entry_at}
use Rattle.manual.proofs.Packing.{over}
use Rattle.rows.specs.Bytes.{Bytes}
use Rattle.rows.specs.Row.{Row}
use Rattle.rows.specs.Groups.{known, document01}
use Rattle.rows.specs.Fate.{fate}
use Rattle.rows.specs.Run.{decode_by}
use Rattle.rows.specs.Spans.{spans_of}
use Rattle.rows.specs.Agree.{recorded, AsManual}
use Rattle.rows.specs.steps.Meant.{meaning_of, Agrees}
use Rattle.rows.proofs.Agree.{sized, said, roomy, same, same_agrees, row_agreement}
use Rattle.rows.proofs.Manual.{plain_naming, naming_at, as_manual}
use Rattle.rows.proofs.Spans.{accepted}
use Rattle.by_manual.specs.Changed.{becomes, change_at}
use Rattle.by_manual.specs.Table.{by_manual}
use Rattle.by_manual.specs.Lists.{on_changed, every_changed}
use Rattle.by_manual.proofs.Each.{every_changed_lem, each_row}
use Rattle.by_manual.proofs.Passing.{plain_by}

accepts : Row → Bool
accepts w = eqb (fate w.reads) 0

judged : ℕ → ℕ → Row → Entry → Bool
judged a b w (meaning m) = both (both (accepts w) (not w.face.marked)) (both (same a b w m) (plain_naming (spans_of w).naming (meaning m)))
judged a b w empty = not (accepts w)

right : ℕ → ℕ → Row → Bool
right a b w = judged a b w (entry_at a b)

all_right : T (every_changed right)
unfolding every_changed right judged accepts same roomy said sized over packed entry_at spans_of meaning_of recorded plain_naming
all_right = tt

module _ (a b : ℕ) (w : Row) (l : b < 256) (new : change_at a (b / 16) (b % 16) ≡ becomes w) where
  here : (e : Entry) → entry_at a b ≡ e → T (judged a b w e)
  unfolding right
  here e k = subst (λ x. T (judged a b w x)) k (subst (λ c. T (on_changed (right a b) c)) new (every_changed_lem right b l all_right a))

  -- it accepts where the manual gives a meaning, and then it is unmarked and says the same
  pub meant : (m : Meaning) → entry_at a b ≡ meaning m → (fate w.reads ≡ 0) × (w.face.marked ≡ false) × Agrees a b w m
  unfolding judged accepts
  meant m k =
      let x = here (meaning m) k in
      let y = both_left (both (accepts w) (not w.face.marked)) _ x in (
        eqb→eq _ 0 (both_left (accepts w) _ y),
        unmarked w.face.marked (both_right (accepts w) _ y),
        same_agrees a b w m (both_left (same a b w m) _ (both_right (both (accepts w) (not w.face.marked)) _ x)),
      )
    where
      unmarked : (x : Bool) → T (not x) → x ≡ false
      unmarked false t = refl
      unmarked true t = absurd t

  -- and refuses where it gives none
  pub unmeant : entry_at a b ≡ empty → fate w.reads ≡ 0 → ⊥
  unfolding judged accepts
  unmeant k z = subst (λ x. T (not x)) (eq-eqb _ 0 z) (here empty k)

  pub naming : (m : Meaning) → entry_at a b ≡ meaning m → T (plain_naming (spans_of w).naming (meaning m))
  unfolding judged
  naming m k = both_right (same a b w m) _ (both_right (both (accepts w) (not w.face.marked)) _ (here (meaning m) k))

-- every unmarked row of this reading whose code has a meaning says the same, changed or document 01's
row_agreement_here : (a b : ℕ) → known a ≡ true → b < 256 → fate (by_manual.row_at a b).reads ≡ 0 → (by_manual.row_at a b).face.marked ≡ false
    → (m : Meaning) → entry_at a b ≡ meaning m → Agrees a b (by_manual.row_at a b) m
row_agreement_here =
    each_row (λ a b w. fate w.reads ≡ 0 → w.face.marked ≡ false → (m : Meaning) → entry_at a b ≡ meaning m → Agrees a b w m)
    row_agreement (λ a b w l new f u m e. (meant a b w l new m e).2)

naming_here : (a b : ℕ) → known a ≡ true → b < 256 → (m : Meaning) → entry_at a b ≡ meaning m → T (plain_naming (spans_of (by_manual.row_at a b)).naming (meaning m))
naming_here =
    each_row (λ a b w. (m : Meaning) → entry_at a b ≡ meaning m → T (plain_naming (spans_of w).naming (meaning m)))
    (λ a b k l m e. subst (λ y. T (plain_naming (spans_of (document01.row_at a b)).naming y)) e (naming_at a b k l)) naming

module _ (a b : ℕ) (bs : List ℕ) (h : Bytes (a ∷ b ∷ bs)) where
  pub agreement_here : (decode_by by_manual (a ∷ b ∷ bs)).refusal ≡ 0 → (decode_by by_manual (a ∷ b ∷ bs)).inst.marked ≡ false
      → (m : Meaning) → entry_at a b ≡ meaning m → AsManual a b (a ∷ b ∷ bs) m (decode_by by_manual (a ∷ b ∷ bs)).inst
  agreement_here z u m e =
      let x = accepted by_manual a b bs z in
      as_manual by_manual a b bs h z m (plain_by true a b x.known h.1.0)
      (row_agreement_here a b x.known h.1.0 x.alive (sym x.made.marked ∙ u) m e) (naming_here a b x.known h.1.0 m e)
