-- What follows from document 01's choice being right.
-- Assumes nothing.
use Prim.Native.Nat.{ℕ, ◌≤◌}
use mathlib.Core.Path.{◌≡◌, ap, ◌∙◌, subst}
use mathlib.Core.Bool.{false}
use mathlib.Core.List.{List}
use lib.ListN.{length}
use Rattle.record.specs.declared.Record.{Record}
use Rattle.record.specs.Same.{Same}
use Rattle.rows.specs.Bytes.{Bytes}
use Rattle.rows.specs.Groups.{document01}
use Rattle.rows.specs.Run.{decode_rows}
use Rattle.rows.proofs.Bytes.{at_bytes}
use Rattle.rows.proofs.Length.{two_to_seven}
use Rattle.encode_rules.specs.Says.{Says, Best, bytes, Right}
use Rattle.encode_rules.specs.steps.Direct.{taken}
use Rattle.encode_rules.proofs.Consequences.{all_taken, length_is, no_longer}
use Rattle.encode_rules.proofs.Optimal.{none_dropped}
use Rattle.encode_rules.proofs.Here.{plains}
use Rattle.encode_choice.specs.steps.Choose.{choose, encoded}
use Rattle.encode_choice.proofs.Chosen.{chosen}

-- the bytes found are the best
pub right_bytes : (r : Record) (bs : List ℕ) → encoded r ≡ bytes bs → Best document01 r bs
right_bytes r bs e = subst (Right document01 r) e (chosen r)

-- they decode to the same instruction, which has their number as its length
pub decodes_back : (r : Record) (bs : List ℕ) → encoded r ≡ bytes bs → Says document01 bs r × ((decode_rows bs).inst.length ≡ length bs)
decodes_back r bs e = let b = right_bytes r bs e in (b.says, length_is document01 r bs b)

-- request A6: and drop nothing
pub drops_nothing : (r : Record) (bs : List ℕ) → encoded r ≡ bytes bs → (decode_rows bs).inst.dropped ≡ false
drops_nothing r bs e = none_dropped document01 plains r bs (right_bytes r bs e)

-- there are two to seven of them
pub two_to_seven_bytes : (r : Record) (bs : List ℕ) → encoded r ≡ bytes bs → (2 ≤ length bs) × (length bs ≤ 7)
two_to_seven_bytes r bs e =
    let b = right_bytes r bs e in
    subst (λ n. (2 ≤ n) × (n ≤ 7)) (all_taken document01 r bs b) (two_to_seven bs (at_bytes 1 bs b.bytes) b.says.accepted)

-- what an unmarked row decoded is encoded, in no more bytes
pub encodes_back : (xs : List ℕ) → Bytes xs → (decode_rows xs).refusal ≡ 0 → (decode_rows xs).inst.marked ≡ false
    → (ys : List ℕ) × (encoded (decode_rows xs).inst ≡ bytes ys) × (length ys ≤ (decode_rows xs).inst.length)
encodes_back xs h z u = no_longer document01 xs h z u (encoded (decode_rows xs).inst) (chosen (decode_rows xs).inst)

-- the same instruction is encoded the same, and what was encoded stays as it is
pub encoded_same : (r s : Record) → Same r s → encoded r ≡ encoded s
encoded_same r s e = ap (λ k. taken document01 (choose k) k) e

pub encoded_again : (r : Record) (bs : List ℕ) → encoded r ≡ bytes bs → encoded (decode_rows bs).inst ≡ bytes bs
encoded_again r bs e = encoded_same (decode_rows bs).inst r (right_bytes r bs e).says.same ∙ e
