-- A table of which every live row stands in another: what holds of its codes holds of the other's.
-- Assumes nothing.
use Prim.Native.Nat.{ℕ, ◌<◌}
use mathlib.Core.Path.{◌≡◌, sym, ap, subst₂, ◌∙◌}
use mathlib.Core.Bool.{true}
use mathlib.Core.List.{◌∷◌}
use lib.Dec.{ltb}
use borrow.Author.Tests.{ltb-true}
use Rattle.laws.specs.Choice.{pick, both}
use Rattle.record.specs.declared.Key.{Key}
use Rattle.rows.specs.Row.{Table}
use Rattle.encode_rules.specs.Says.{First, bytes, none}
use Rattle.encode_rules.specs.steps.Search.{spell, live, aim, bytes_by}
use Rattle.encode_rules.specs.steps.Can.{can}
use Rattle.encode_rules.specs.steps.Direct.{Choice, code, nothing, rank, able, taken, Beats}
use Rattle.encode_rules.proofs.Bools.{both_true}
use Rattle.encode_rules.proofs.Can.{parts}

-- at a code where the rows are one
module _ (s t : Table) (same : s.known ≡ t.known) (a b : ℕ) (k : Key) (e : s.row_at a b ≡ t.row_at a b) where
  pub able_in : able s a b k ≡ able t a b k
  unfolding able
  able_in = λ i. both (both (ltb a 256) (both (ltb b 256) (same i a))) (can (e i) k)

  pub taken_in : taken s (code a b) k ≡ taken t (code a b) k
  unfolding taken bytes_by
  taken_in = λ i. pick (able_in i) (bytes (a ∷ b ∷ spell (e i).reads (aim (e i).face k))) none

module _ (s t : Table) (same : s.known ≡ t.known)
    (within : (a b : ℕ) → s.known a ≡ true → b < 256 → live (s.row_at a b) ≡ true → s.row_at a b ≡ t.row_at a b) where
  at_able : (a b : ℕ) (k : Key) → able s a b k ≡ true → s.row_at a b ≡ t.row_at a b
  unfolding able
  at_able a b k u =
      let p = both_true (both (ltb a 256) (both (ltb b 256) (s.known a))) _ u in
      let q = both_true (ltb b 256) _ (both_true (ltb a 256) _ p.0).1 in
      within a b q.1 (ltb-true _ _ q.0) (parts (s.row_at a b) k p.1).lives

  pub beats_in : (c : Choice) (a b : ℕ) (k : Key) → s.row_at a b ≡ t.row_at a b → Beats s c a b k → Beats t c a b k
  beats_in (code x y) a b k e (u, f) =
      let d = at_able x y k u in
      (sym (able_in s t same x y k d) ∙ u, subst₂ First (ap (λ w. rank w x y) d) (ap (λ w. rank w a b) e) f)
  beats_in nothing a b k e z = absurd z
