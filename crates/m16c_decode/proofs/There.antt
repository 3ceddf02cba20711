-- What a code comes to by either reading: by the manual a changed row's answer, and in all other cases that of its first byte's group.
-- Assumes nothing.
use Prim.Native.Nat.{ℕ, ◌+◌, ◌/◌, ◌%◌, ◌≤◌, ◌<◌}
use mathlib.Core.Path.{◌≡◌, refl, sym, ap, ◌∙◌}
use mathlib.Core.Logic.{◌⊎◌, inl, inr}
use mathlib.Core.Bool.{Bool, true, false}
use mathlib.Core.List.{List}
use lib.Dec.{eqb}
use Rattle.laws.specs.Choice.{pick}
use Rattle.laws.specs.Range.{Each}
use Rattle.laws.proofs.Agree.{Rest}
use Rattle.laws.proofs.Range.{each_from}
use Rattle.record.specs.Answer.{Answer}
use Rattle.record.specs.declared.Width.{Width}
use Rattle.rows.specs.Row.{Row}
use Rattle.rows.specs.Pairs.{two}
use Rattle.rows.specs.Groups.{known, document01}
use Rattle.rows.specs.Run.{refusal, run_row}
use Rattle.readers.specs.steps.Width.{width_of}
use Rattle.by_manual.specs.Changed.{Change, change_at}
use Rattle.by_manual.specs.Lists.{is_changed}
use Rattle.by_manual.specs.Table.{by_manual, table_by}
use Rattle.decode_72.specs.steps.Added.{is_two, opcode_of}
use Rattle.decode.proofs.First.{keys, unchanged_rest}
use Rattle.decode.proofs.Readings.{changed_known, row_kept}
use Rattle.m16c_decode.specs.steps.Behind.{behind_pairs}
use Rattle.m16c_decode.specs.steps.Coded.{coded}
use Rattle.m16c_decode.proofs.Grouped.{Grouped, of_two, of_list, of_none}

module _ (m : Bool) (a b : ℕ) (bs : List ℕ) where
  abbrev pub Right : Answer → Type 0
  Right x = x ≡ coded (table_by m) a b bs

  -- an answer of the group is right where the reading keeps the row
  pub by_group : (m ≡ false) ⊎ (is_changed (change_at a (b / 16) (b % 16)) ≡ false) → {x : Answer} → Grouped a b bs x → Right x
  by_group (inl e) g = rw e g
  by_group (inr u) g = g ∙ kept m
    where
      kept : (m : Bool) → coded document01 a b bs ≡ coded (table_by m) a b bs
      kept false = refl
      kept true = ap (λ r. pick (known a) (run_row r bs) (refusal 4 1)) (row_kept a b u)

  -- that of a changed row is right by the manual
  pub by_change : m ≡ true → a < 256 → is_changed (change_at a (b / 16) (b % 16)) ≡ true → Right (run_row (by_manual.row_at a b) bs)
  by_change e l new = rw (e, changed_known (b / 16) (b % 16) a l new) refl

  -- behind these first bytes none is changed
  module _ (l : a < 256) (r : Rest keys a) (o : (a < 0x74) ⊎ (0x7A ≤ a)) where
    kept_rest : {x : Answer} → Grouped a b bs x → Right x
    kept_rest = by_group (inr (unchanged_rest (b / 16) (b % 16) a l r o))

    pub a_list : 0xC1 < a → Right (behind_pairs a b)
    a_list h = kept_rest (of_list a b bs l r o h)

    pub a_pair : is_two a ≡ true → Right (run_row (two (opcode_of a) (width_of (eqb (a % 2) 0)) (b / 16) (b % 16)) bs)
    a_pair e = kept_rest (of_two a b bs l r o e)

    pub outside : a ≤ 0xC1 → is_two a ≡ false → Right (refusal 4 1)
    outside h e = kept_rest (of_none a b bs l r o h e)

-- of one first byte
module _ {a k : ℕ} (e : a ≡ k) (b : ℕ) where
  pub key_changed : {x : Bool} → is_changed (change_at k (b / 16) (b % 16)) ≡ x → is_changed (change_at a (b / 16) (b % 16)) ≡ x
  key_changed u = rw e u

  pub alone : (m : Bool) (bs : List ℕ) {x : Answer} → Grouped k b bs x → (m ≡ false) ⊎ (is_changed (change_at k (b / 16) (b % 16)) ≡ false) → Right m a b bs x
  alone m bs g o = rw e (by_group m k b bs o g)

-- of two first bytes, the even one has width B
module _ (a b even : ℕ) (low : even ≤ a) (high : a < even + 2) where
  abbrev width_at : ℕ → Width
  width_at a = width_of (eqb (a % 2) 0)

  pub pair_changed : (change : Width → ℕ → ℕ → Change) {x : Bool} → Each (λ i. change_at (even + i) ≡ change (width_at (even + i))) 2
      → ((w : Width) → x ≡ is_changed (change w (b / 16) (b % 16))) → is_changed (change_at a (b / 16) (b % 16)) ≡ x
  pair_changed change e asked =
      ap (λ c. is_changed (c (b / 16) (b % 16))) (each_from (λ a. change_at a ≡ change (width_at a)) even 2 e a low high) ∙ sym (asked (width_at a))

  module _ (bs : List ℕ) (row : Width → ℕ → ℕ → Row) where
    abbrev paired : ℕ → Answer
    paired a = run_row (row (width_at a) (b / 16) (b % 16)) bs

    grouped : Each (λ i. Grouped (even + i) b bs (paired (even + i))) 2 → Grouped a b bs (paired a)
    grouped e = each_from (λ a. Grouped a b bs (paired a)) even 2 e a low high

    -- an answer of the pair's group is right where the reading keeps its rows
    pub pair : (m : Bool) (change : Width → ℕ → ℕ → Change) → Each (λ i. Grouped (even + i) b bs (paired (even + i))) 2
        → Each (λ i. change_at (even + i) ≡ change (width_at (even + i))) 2
        → (m ≡ false) ⊎ ((w : Width) → false ≡ is_changed (change w (b / 16) (b % 16))) → Right m a b bs (paired a)
    pair m change g e o = by_group m a b bs (kept o) (grouped g)
      where
        kept : (m ≡ false) ⊎ ((w : Width) → false ≡ is_changed (change w (b / 16) (b % 16))) → (m ≡ false) ⊎ (is_changed (change_at a (b / 16) (b % 16)) ≡ false)
        kept (inl n) = inl n
        kept (inr k) = inr (pair_changed change e k)
