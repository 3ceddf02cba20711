-- The direct choice is right for document 01.
-- Assumes nothing.
use Prim.Native.Nat.{ℕ, ◌<◌}
use mathlib.Core.Path.{◌≡◌, refl, ap}
use mathlib.Core.Bool.{Bool, true, false}
use lib.Dec.{T}
use Rattle.laws.specs.Choice.{pick, both}
use Rattle.record.specs.declared.Record.{Record}
use Rattle.record.specs.declared.Key.{Key}
use Rattle.record.specs.Same.{base_of, field_of, key}
use Rattle.rows.specs.All.{every_code}
use Rattle.rows.specs.Groups.{known, rows_of, document01}
use Rattle.rows.proofs.All.{every_code_lem}
use Rattle.encode_rules.specs.Says.{Right}
use Rattle.encode_rules.specs.steps.Search.{imms, best}
use Rattle.encode_rules.specs.steps.Direct.{able, Beats}
use Rattle.encode_choice.specs.steps.Coarse.{regular, coarse, whole_key, whole, roughly}
use Rattle.encode_choice.specs.steps.Choose.{asked, choose, choose_named, drops_zero, narrow, encoded}
use Rattle.encode_rules.proofs.Bools.{so}
use Rattle.encode_rules.proofs.Optimal.{unique}
use Rattle.encode_rules.proofs.Here.{plains, by_search}
use Rattle.encode_rules.proofs.Direct.{direct}
use Rattle.encode_choice.proofs.Coarse.{like_roughly, beats}
use Rattle.encode_choice.proofs.Tested.{tested}

regular_at : ℕ → ℕ → Bool
regular_at a b = regular (document01.row_at a b)

all_regular : T (every_code regular_at)
unfolding every_code regular_at rows_of regular imms field_of base_of whole
all_regular = tt

regulars : (a b : ℕ) → known a ≡ true → b < 256 → regular (document01.row_at a b) ≡ true
unfolding regular_at
regulars a b e l = so _ (every_code_lem regular_at all_regular b l a e)

-- the choice asks of a number only whether it is 0, or below 256, if it is not part of the code
exactly : (b : Bool) (v : ℕ) → pick b (roughly b v) 0 ≡ pick b v 0
exactly true v = refl
exactly false v = refl

pub asked_steady : (k : Key) → asked (coarse k) ≡ asked k
asked_steady k =
    let x = like_roughly (whole_key k) k.number0 in
    let y = like_roughly (whole_key k) k.number1 in
    let n = exactly (whole_key k) k.number0 in
    λ i. record {
      size = k.size;
      width = k.width;
      op0 = narrow k.base0 (both (drops_zero k.opcode) (x.zero? i)) (x.byte? i);
      op1 = narrow k.base1 (y.zero? i) (y.byte? i);
      number = n i;
    }

steady : (k : Key) → choose (coarse k) ≡ choose k
steady k = ap (choose_named k.opcode) (asked_steady k)

pub chosen_beats : (a b : ℕ) (k : Key) → able document01 a b k ≡ true → Beats document01 (choose k) a b k
chosen_beats = beats document01 choose regulars tested steady

pub chosen : (r : Record) → Right document01 r (encoded r)
chosen = direct document01 plains choose chosen_beats

-- so it is the search's answer
pub as_best : (r : Record) → encoded r ≡ best document01 (key r)
as_best r = unique document01 r _ _ (chosen r) (by_search r)
