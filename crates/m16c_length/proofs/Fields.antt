-- The words hold the entries of the table: each five bits of a word are an entry.
-- Assumes nothing.
use Prim.Native.Nat.{ℕ, ◌*◌, ◌<◌}
use mathlib.Core.Path.{◌≡◌, refl, sym}
use mathlib.Core.Bool.{Bool, true, false}
use native.Mathlib.Omega.{arith}
use lib.Dec.{T, eqb, eqb→eq}
use Rattle.laws.specs.Choice.{pick}
use Rattle.laws.specs.Range.{upto}
use Rattle.laws.proofs.Choice.{pick_holds}
use Rattle.laws.proofs.Range.{upto_at}
use Rattle.rows.specs.Groups.{known}
use Rattle.lengths.specs.steps.Table.{rows, table}
use Rattle.lengths.specs.steps.Entry.{place, character, entry_at, entry_of}
use Rattle.lengths.proofs.Place.{below}
use Rattle.m16c_length.specs.steps.Packed.{word_at, field_at, shift_of}

abbrev same : ℕ → ℕ → Bool
same p b = eqb (entry_at p b) (field_at (word_at b) (5 * p))

all_same : T (upto (λ p. upto (same p) 256) rows)
unfolding upto table character word_at
all_same = tt

pub each_entry : (p b : ℕ) → p < rows → b < 256 → entry_at p b ≡ field_at (word_at b) (5 * p)
each_entry p b h l = eqb→eq _ _ (upto_at (same p) 256 (upto_at (λ p. upto (same p) 256) rows all_same p h) b l)

-- all within a word
pub short : (a : ℕ) → shift_of a < 64
unfolding shift_of
short a = pick_holds (λ s. s < 64) (known a) (5 * place a) 63 (λ e. omega (arith, below a e)) (λ e. omega arith)

-- no word has its highest bit
all_short : T (upto (λ b. eqb (field_at (word_at b) 63) 0) 256)
unfolding upto table word_at
all_short = tt

-- so the bits at a first byte's shift are its entry, and 0 if it is outside
pub each_field : (a b : ℕ) → b < 256 → field_at (word_at b) (shift_of a) ≡ entry_of a b
unfolding shift_of entry_of
each_field a b l = by (known a) refl
  where
    by : (x : Bool) → known a ≡ x → field_at (word_at b) (pick x (5 * place a) 63) ≡ pick x (entry_at (place a) b) 0
    by true e = sym (each_entry (place a) b (below a e) l)
    by false e = eqb→eq _ _ (upto_at (λ b. eqb (field_at (word_at b) 63) 0) 256 all_short b l)
