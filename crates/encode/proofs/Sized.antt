-- A name's slot, by its size.
-- Assumes nothing.
use Prim.Native.Nat.{ℕ, ◌*◌, ◌/◌, ◌%◌, ◌^◌, ◌≤◌}
use mathlib.Core.Path.{◌≡◌, sym, ap, subst, ◌∙◌}
use lib.Dec.{eqb, leb}
use borrow.Author.Tests.{eqb-true, leb-true}
use Rattle.record.specs.declared.Operand.{Operand}
use Rattle.record.specs.Same.{same_name, among}
use Rattle.record.proofs.Arms.{every_operand}
use Rattle.encode_rules.proofs.Bools.{so}
use Rattle.encode.specs.steps.Slots.{size_of, count_of, limit_of}

module _ (o : Operand) {n : ℕ} (e : n ≡ size_of o) where
  pub sized_count : n / 32 ≡ count_of o
  unfolding size_of count_of same_name among
  sized_count = ap (λ n. n / 32) e ∙ eqb-true _ _ (so _ (every_operand (λ o. eqb (size_of o / 32) (count_of o)) tt o))

  pub sized_short : n / 32 ≤ 3
  unfolding size_of count_of same_name among
  sized_short = subst (λ n. n / 32 ≤ 3) (sym e) (leb-true _ _ (so _ (every_operand (λ o. leb (size_of o / 32) 3) tt o)))

  -- (as `1 << (n % 32)` computes)
  pub sized_limit : 1 * 2 ^ (n % 32) % 4294967296 ≡ limit_of o
  unfolding size_of count_of limit_of same_name among
  sized_limit = ap (λ n. 1 * 2 ^ (n % 32) % 4294967296) e ∙ eqb-true _ _ (so _ (every_operand (λ o. eqb (1 * 2 ^ (size_of o % 32) % 4294967296) (limit_of o)) tt o))
