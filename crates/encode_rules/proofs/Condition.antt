-- A condition's byte is known by its opcode.
-- Assumes nothing.
use Prim.Native.Nat.{ℕ, ◌<◌}
use mathlib.Core.Path.{◌≡◌, refl, ap, ◌∙◌, subst}
use mathlib.Core.Bool.{Bool, true, false}
use mathlib.Core.List.{List, [], ◌∷◌}
use native.Mathlib.Omega.{arith}
use lib.Dec.{T, eqb}
use borrow.Author.Tests.{eqb-true, eq-eqb}
use Rattle.laws.specs.Choice.{pick}
use Rattle.laws.specs.Range.{upto}
use Rattle.laws.proofs.Range.{upto_at}
use Rattle.record.specs.declared.Opcode.{Opcode}
use Rattle.record.specs.Numbers.{opcode_no}
use Rattle.record.proofs.Apart.{opcodes_apart}
use Rattle.rows.specs.Row.{Condition, named, unnamed}
use Rattle.rows.specs.Codes.{cond_of}
use Rattle.rows.specs.Bytes.{Bytes}
use Rattle.encode_rules.proofs.Bools.{so}
use Rattle.encode_rules.specs.steps.Search.{means, seek, cond_bytes, cond_byte}

abbrev backs : Condition → ℕ → Bool
backs (named o) v = eqb (cond_byte o) v
backs unnamed v = true

each_backs : T (upto (λ v. backs (cond_of v) v) 256)
unfolding upto cond_of cond_byte
each_backs = tt

pub condition : (v : ℕ) (o : Opcode) → v < 256 → cond_of v ≡ named o → cond_byte o ≡ v
condition v o h e = eqb-true _ _ (so _ (subst (λ c. T (backs c v)) e (upto_at (λ v. backs (cond_of v) v) 256 each_backs v h)))

seek_small : (cs : List ℕ) (o : Opcode) → Bytes cs → seek cs o < 256
seek_small [] o h = omega arith
seek_small (c ∷ cs) o h = by (means (cond_of c) o) (seek_small cs o h.1)
  where
    by : (b : Bool) → seek cs o < 256 → pick b c (seek cs o) < 256
    by true l = h.0
    by false l = l

pub cond_small : (o : Opcode) → cond_byte o < 256
unfolding cond_byte
cond_small o = seek_small cond_bytes o (omega arith)

pub means_so : (c : Condition) (o : Opcode) → c ≡ named o → means c o ≡ true
means_so c o e = ap (λ x. means x o) e ∙ eq-eqb (opcode_no o) (opcode_no o) refl

pub so_means : (c : Condition) (o : Opcode) → means c o ≡ true → c ≡ named o
so_means (named p) o e = ap named (opcodes_apart p o (eqb-true _ _ e))
so_means unnamed o e = let z : ◌≡◌ {A = ℕ} 0 1 = cc in absurd (omega arith)
