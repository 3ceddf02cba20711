-- The promise of m16c_encode and m16c_encode_manual allows one outcome: the number returned, the bytes written and every byte of the buffer
-- together. Numbers that make no record are refused with 5, and nothing is touched.
-- Assumes nothing.
use Prim.Native.Nat.{ℕ}
use mathlib.Core.Path.{◌≡◌, refl}
use mathlib.Core.Bool.{Bool, false}
use mathlib.Core.List.{List}
use Rattle.record.specs.Blank.{blank}
use Rattle.rows.specs.Row.{Table}
use Rattle.by_manual.specs.Table.{table_by}
use Rattle.from_numbers.specs.Made.{valid, record_of}
use Rattle.encode_rules.specs.Says.{none}
use Rattle.encode_rules.specs.Written.{Left, outcome, written, Encodes}
use Rattle.encode_rules.proofs.Written.{encodes_once}
use Rattle.encode_added.proofs.Examples.{no_blank}
use Rattle.m16c_encode.specs.Numbers.{EncodesNumbers}

pub encodes_numbers_once : (t : Table) (ns buf : List ℕ) (place : ℕ) (x y : Left) → EncodesNumbers t ns buf place x → EncodesNumbers t ns buf place y → x ≡ y
encodes_numbers_once t ns buf place x y p q = encodes_once t (record_of ns) buf place x y p q

module _ (d : Bool) (ns buf : List ℕ) (place : ℕ) where
  blank_refused : Encodes (table_by d) blank buf place (outcome 5 0 buf)
  unfolding written
  blank_refused = record { found = none; right = no_blank d; leaves = refl }

  pub refused : valid ns ≡ false → EncodesNumbers (table_by d) ns buf place (outcome 5 0 buf)
  refused e = rw e blank_refused

  pub no_record : valid ns ≡ false → (x : Left) → EncodesNumbers (table_by d) ns buf place x → x ≡ outcome 5 0 buf
  no_record e x p = encodes_numbers_once (table_by d) ns buf place x (outcome 5 0 buf) p (refused e)
