-- A row's reads as a relation: the bytes left to read, the names and numbers before, the record after.
-- Assumes nothing.
use Prim.Native.Nat.{ℕ, zero, suc, ◌+◌, ◌-◌, ◌/◌, ◌^◌, ◌≤◌, ◌<◌}
use mathlib.Core.Path.{◌≡◌, refl, sym, ap, ◌∙◌}
use mathlib.Core.Bool.{Bool, true, false}
use mathlib.Core.List.{List, [], ◌∷◌, ◌++◌}
use native.Mathlib.Omega.{arith}
use lib.ListN.{length, drop, get_or, length-drop, length-append}
use lib.Dec.{leb, ltb, eqb-suc-zero}
use borrow.Author.Tests.{leb-true, ltb-true, le-leb, lt-ltb}
use Rattle.laws.specs.Choice.{pick}
use Rattle.record.specs.declared.Record.{Record}
use Rattle.record.specs.Answer.{Answer}
use Rattle.record.specs.declared.Opcode.{Opcode}
use Rattle.record.specs.declared.Seen.{Seen}
use Rattle.record.specs.Answer.{On, Short}
use Rattle.rows.specs.Row.{disp, imm, imm20, Refusal, InvalidOpcode, InvalidOperand, refusal_no, Read, num, cond, stop, Condition, named, unnamed, Face}
use Rattle.rows.specs.Codes.{cond_of}
use Rattle.rows.specs.Run.{bytes, with_disp, in_full, in_twenty, read_disp, read_into, accepted_by, refusal, and_then, past, renamed, judged, run}
use Rattle.rows.proofs.Bytes.{bytes_small, drop_bytes}
use Rattle.encode_rules.specs.steps.Digits.{some, grab, digits}
use Rattle.rows.specs.Bytes.{Bytes}
use Rattle.encode_rules.proofs.Digits.{spelled, read_back, grab_bytes}

-- the record that is made at the end, and the answer that it is accepted with
abbrev pub made : Face → Seen → Record
made f s = (accepted_by f s).inst

abbrev pub good : Record → Answer
good t = record { inst = t; taken = t.length; refusal = 0 }

-- n bytes come off xs, as the number v, and P holds of v and of what is left
abbrev pub Off : ℕ → List ℕ → (ℕ → List ℕ → Type 0) → Type 0
Off n xs P = (v : ℕ) × (rest : List ℕ) × (xs ≡ digits n v ++ rest) × (v < 256 ^ n) × P v rest

abbrev pub Runs : List Read → List ℕ → Face → Seen → Record → Type 0
Runs [] xs f s t = made f s ≡ t
Runs (num (disp zero) ∷ rs) xs f s t = Runs rs xs f s t
Runs (num (disp (suc n)) ∷ rs) xs f s t = Off (suc n) xs (λ v rest. Runs rs rest f (with_disp (suc n) v s) t)
Runs (num (imm n) ∷ rs) xs f s t = Off n xs (λ v rest. Runs rs rest f (in_full n v s) t)
Runs (num imm20 ∷ rs) xs f s t = Off 3 xs (λ v rest. Runs rs rest f (in_twenty v s) t)
Runs (cond ∷ rs) xs f s t = Off 1 xs (λ v rest. (o : Opcode) × (cond_of v ≡ named o) × Runs rs rest (renamed o f) (past s) t)
Runs (stop e ∷ rs) xs f s t = ⊥

-- bytes that are there come off
off : (n p : ℕ) (bs : List ℕ) → Bytes bs → p + n ≤ length bs → (P : ℕ → List ℕ → Type 0) → P (bytes bs p n) (drop (p + n) bs) → Off n (drop p bs) P
off n p bs h l P q = (bytes bs p n, drop (p + n) bs, spelled n (drop p bs) (bytes bs p n) (drop (p + n) bs) (drop_bytes p bs h) (grab_bytes n bs p l), bytes_small n p bs h, q)

-- and what comes off is there
record Met (n p : ℕ) (bs : List ℕ) (v : ℕ) (rest : List ℕ) : Type 0 where
  room : p + n ≤ length bs
  number : bytes bs p n ≡ v
  left : drop (p + n) bs ≡ rest

pub digits_length : (n v : ℕ) → length (digits n v) ≡ n
digits_length zero v = refl
digits_length (suc n) v = ap suc (digits_length n (v / 256))

met : (n p : ℕ) (bs : List ℕ) (v : ℕ) (rest : List ℕ) → p ≤ length bs → v < 256 ^ n → drop p bs ≡ digits n v ++ rest → Met n p bs v rest
met n p bs v rest l h e =
    let k : length bs - p ≡ n + length rest =
    sym (length-drop p bs) ∙ ap length e ∙ length-append (digits n v) rest ∙ ap (λ m. m + length rest) (digits_length n v) in
    let room : p + n ≤ length bs = omega arith in
    let g : some (bytes bs p n) (drop (p + n) bs) ≡ some v rest = sym (grab_bytes n bs p room) ∙ ap (grab n) e ∙ read_back n v rest h in
    record { room = room; number = cc; left = cc }

-- an answer that is not refused went on
roomy : (b : Bool) (bs : List ℕ) (s : Seen) (k : Seen → Answer) (x : Answer) → and_then bs (pick b (On s) Short) k ≡ x → x.refusal ≡ 0 → (b ≡ true) × (k s ≡ x)
roomy true bs s k x e z = (refl, e)
roomy false bs s k x e z = absurd (omega (arith, ap (λ y. y.refusal) e))

passed : (b : Bool) (y : Answer) (e n : ℕ) (x : Answer) → 1 ≤ e → pick b y (refusal e n) ≡ x → x.refusal ≡ 0 → (b ≡ true) × (y ≡ x)
passed true y e n x l q z = (refl, q)
passed false y e n x l q z = absurd (omega (arith, ap (λ y. y.refusal) q))

judging : (c : Condition) (s : Seen) (k : Opcode → Answer) (x : Answer) → judged c s k ≡ x → x.refusal ≡ 0 → (o : Opcode) × (c ≡ named o) × (k o ≡ x)
judging (named o) s k x e z = (o, refl, e)
judging unnamed s k x e z = absurd (omega (arith, ap (λ y. y.refusal) e))

-- a row's own refusal is one
pub own : (e : Refusal) → refusal_no e ≡ 0 → ⊥
own InvalidOpcode z = omega arith
own InvalidOperand z = omega arith

pub from_run : (rs : List Read) (bs : List ℕ) (f : Face) (s : Seen) (x : Answer) → Bytes bs → run rs bs f s ≡ x → x.refusal ≡ 0 → Runs rs (drop s.taken bs) f s x.inst
unfolding run read_disp read_into
from_run [] bs f s x h e z = ap (λ y. y.inst) e
from_run (num (disp zero) ∷ rs) bs f s x h e z = from_run rs bs f s x h e z
from_run (num (disp (suc n)) ∷ rs) bs f s x h e z =
    let m = roomy (leb (s.taken + suc n) (length bs)) bs _ (run rs bs f) x (rw eqb-suc-zero at e) z in
    off (suc n) s.taken bs h (leb-true _ _ m.0) _ (from_run rs bs f _ x h m.1 z)
from_run (num (imm n) ∷ rs) bs f s x h e z =
    let m = roomy (leb (s.taken + n) (length bs)) bs _ (run rs bs f) x e z in
    off n s.taken bs h (leb-true _ _ m.0) _ (from_run rs bs f _ x h m.1 z)
from_run (num imm20 ∷ rs) bs f s x h e z =
    let m = roomy (leb (s.taken + 3) (length bs)) bs _ (run rs bs f) x e z in
    off 3 s.taken bs h (leb-true _ _ m.0) _ (from_run rs bs f _ x h m.1 z)
from_run (cond ∷ rs) bs f s x h e z =
    let m = passed (ltb s.taken (length bs)) _ 1 _ x (omega arith) e z in
    let l : s.taken < length bs = ltb-true _ _ m.0 in
    let j = judging (cond_of (get_or bs s.taken 0)) s _ x m.1 z in
    off 1 s.taken bs h (omega arith) _ (j.0, j.1, from_run rs bs (renamed j.0 f) (past s) x h j.2 z)
from_run (stop r ∷ rs) bs f s x h e z = absurd (own r (ap (λ y. y.refusal) e ∙ z))

pub to_run : (rs : List Read) (xs bs : List ℕ) (f : Face) (s : Seen) (t : Record) → s.taken ≤ length bs → drop s.taken bs ≡ xs → Runs rs xs f s t → run rs bs f s ≡ good t
unfolding run read_disp read_into
to_run [] xs bs f s t l d q = ap good q
to_run (num (disp zero) ∷ rs) xs bs f s t l d q = to_run rs xs bs f s t l d q
to_run (num (disp (suc n)) ∷ rs) xs bs f s t l d (v, rest, e, h, q) =
    let m = met (suc n) s.taken bs v rest l h (d ∙ e) in
    rw (eqb-suc-zero, le-leb _ _ m.room, m.number) (to_run rs rest bs f _ t m.room m.left q)
to_run (num (imm n) ∷ rs) xs bs f s t l d (v, rest, e, h, q) =
    let m = met n s.taken bs v rest l h (d ∙ e) in
    rw (le-leb _ _ m.room, m.number) (to_run rs rest bs f _ t m.room m.left q)
to_run (num imm20 ∷ rs) xs bs f s t l d (v, rest, e, h, q) =
    let m = met 3 s.taken bs v rest l h (d ∙ e) in
    rw (le-leb _ _ m.room, m.number) (to_run rs rest bs f _ t m.room m.left q)
to_run (cond ∷ rs) xs bs f s t l d (v, rest, e, h, (o, c, q)) =
    let m = met 1 s.taken bs v rest l h (d ∙ e) in
    rw (lt-ltb s.taken (length bs) (omega (arith, m.room)), m.number, c) (to_run rs rest bs (renamed o f) (past s) t m.room m.left q)
to_run (stop x ∷ rs) xs bs f s t l d q = absurd q
