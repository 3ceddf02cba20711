-- What choice a code or none tells; and what is found for a record with a third operand.
-- Assumes nothing.
use mathlib.Core.Path.{◌≡◌, refl, sym, ap, ◌∙◌}
use mathlib.Core.Bool.{Bool, true, false, false≢true}
use lib.Dec.{eqb}
use borrow.Author.Tests.{eq-eqb}
use Rattle.laws.specs.Choice.{pick}
use Rattle.record.specs.declared.Key.{Key}
use Rattle.record.specs.declared.Record.{Record}
use Rattle.record.specs.declared.Operand.{Operand}
use Rattle.record.specs.declared.Operand.TheVariants.{Nothing}
use Rattle.record.specs.Numbers.{operand_no}
use Rattle.record.specs.Same.{same_name, among, base_of, key}
use Rattle.record.proofs.Arms.{every_operand}
use Rattle.rows.specs.Row.{Table}
use Rattle.encode_rules.specs.Says.{bytes, none}
use Rattle.encode_rules.specs.steps.Search.{bytes_by}
use Rattle.encode_rules.specs.steps.Can.{can}
use Rattle.encode_rules.specs.steps.Direct.{Choice, code, nothing, there, able, taken}
use Rattle.encode_rules.proofs.Bools.{so, both_true, picked}
use Rattle.encode_rules.proofs.Can.{parts}
use Rattle.std.specs.Prelude.{Some, None}
use Rattle.encode_choice.specs.steps.Coded.{coded}
use Rattle.encode_choice.specs.declared.Code.{Code}

pub coded_as : (x : Choice) {c : Code} → coded x ≡ Some c → x ≡ code c.first c.second
coded_as (code a b) {c} e =
    let z : record { first = a; second = b } ≡ c = cc in
    ap (λ c. code c.first c.second) z
coded_as nothing e = cc

pub uncoded : (x : Choice) → coded x ≡ None → x ≡ nothing
uncoded (code a b) e = cc
uncoded nothing e = refl

-- only Nothing has the base Nothing
nothing_only : (o : Operand) → base_of Nothing ≡ base_of o → same_name o Nothing ≡ true
unfolding base_of same_name among
nothing_only o e = so _ (picked _ _ (every_operand (λ o. pick (eqb (operand_no (base_of Nothing)) (operand_no (base_of o))) (same_name o Nothing) true) tt o) (eq-eqb _ _ (ap operand_no e)))

module _ (t : Table) where
  pub none_taken : {x : Choice} → x ≡ nothing → (k : Key) → none ≡ taken t x k
  unfolding taken
  none_taken e k = ap (λ x. taken t x k) (sym e)

  pub third : (r : Record) → same_name r.op2 Nothing ≡ false → (x : Choice) → none ≡ taken t x (key r)
  unfolding taken able
  third r h nothing = refl
  third r h (code a b) = by (able t a b (key r)) refl
    where
      by : (z : Bool) → able t a b (key r) ≡ z → none ≡ pick z (bytes (bytes_by t a b (key r))) none
      by false e = refl
      by true e =
          let c = parts (t.row_at a b) (key r) (both_true (there t a b) (can (t.row_at a b) (key r)) e).1 in
          absurd (false≢true (sym h ∙ nothing_only r.op2 c.base2))
