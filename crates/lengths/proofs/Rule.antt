-- The rule of the table, at every entry: one test, computed over the whole, and the law that it makes.
-- Assumes nothing.
use Prim.Native.Nat.{ℕ, ◌<◌}
use mathlib.Core.Path.{◌≡◌}
use mathlib.Core.Bool.{Bool, true}
use mathlib.Core.List.{List, [], ◌∷◌}
use native.Mathlib.Omega.{arith}
use lib.ListN.{length, get_or}
use lib.Dec.{T, eqb, eqb→eq}
use Rattle.record.specs.Answer.{Answer}
use Rattle.laws.specs.Choice.{both}
use Rattle.laws.specs.Table.{every}
use Rattle.laws.proofs.Choice.{both_left, both_right}
use Rattle.laws.proofs.Table.{at}
use Rattle.rows.specs.All.{every_first}
use Rattle.rows.specs.Codes.{cond_of}
use Rattle.rows.specs.Groups.{groups, known, rows_of, document01}
use Rattle.rows.specs.Run.{read_disp, read_into, run, run_row, decode_by, decode_rows}
use Rattle.rows.proofs.All.{every_first_lem}
use Rattle.lengths.specs.Length.{OfTwo}
use Rattle.lengths.specs.steps.Table.{table}
use Rattle.lengths.specs.steps.Entry.{place, character, value_of, entry_at, refusal_in, length_in}
use Rattle.lengths.proofs.Fated.{zeros, steady, by_five_zeros}

-- an entry tells what decoding answers where zeros follow the code, and that is what it answers whatever follows
unfoldable right : ℕ → ℕ → ℕ → Bool
right a b x =
    both (eqb (refusal_in x) (decode_rows (a ∷ b ∷ zeros)).refusal)
    (both (eqb (length_in x) (decode_rows (a ∷ b ∷ zeros)).inst.length) (steady document01 a b))

abbrev row_right : ℕ → List ℕ → Bool
row_right a cs = both (eqb (length cs) 256) (every (λ b c. right a b (value_of c)) 0 cs)

all_right : T (every_first (λ a. row_right a (get_or table (place a) [])) groups)
unfolding table place groups right steady decode_by run_row run read_disp read_into cond_of known rows_of
all_right = tt

-- what the test asks of an entry
module _ (a b x : ℕ) (t : T (right a b x)) where
  abbrev z : Answer
  z = decode_rows (a ∷ b ∷ zeros)

  refused : refusal_in x ≡ z.refusal
  unfolding right
  refused = eqb→eq (refusal_in x) z.refusal (both_left (eqb (refusal_in x) z.refusal) _ t)

  long : length_in x ≡ z.inst.length
  unfolding right
  long = eqb→eq (length_in x) z.inst.length (both_left (eqb (length_in x) z.inst.length) _ (both_right (eqb (refusal_in x) z.refusal) _ t))

  steadily : T (steady document01 a b)
  unfolding right
  steadily = both_right (eqb (length_in x) z.inst.length) _ (both_right (eqb (refusal_in x) z.refusal) _ t)

module _ (a b : ℕ) (e : known a ≡ true) (l : b < 256) where
  abbrev entry : ℕ
  entry = entry_at (place a) b

  entry_passes : T (right a b entry)
  unfolding character
  entry_passes =
      let cs = get_or table (place a) [] in
      let r = every_first_lem (λ a. row_right a (get_or table (place a) [])) all_right a e in
      let n = eqb→eq (length cs) 256 (both_left (eqb (length cs) 256) _ r) in
      at (λ b c. right a b (value_of c)) 0 cs (both_right (eqb (length cs) 256) _ r) b (omega arith)

  -- decoding a code with five zeros behind it tells what there is to tell
  pub zeros_tell : OfTwo document01 a b (decode_rows (a ∷ b ∷ zeros)).refusal (decode_rows (a ∷ b ∷ zeros)).inst.length
  zeros_tell = by_five_zeros document01 a b e (steadily a b entry entry_passes)

  -- and so does the table
  pub entry_right : OfTwo document01 a b (refusal_in entry) (length_in entry)
  entry_right = rw (refused a b entry entry_passes, long a b entry entry_passes) zeros_tell
