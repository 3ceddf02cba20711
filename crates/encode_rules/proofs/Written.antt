-- What an encoder leaves: demand 3 allows one outcome, and only the bytes from the place on that were written are touched.
-- Assumes nothing.
use Prim.Native.Nat.{ℕ, ◌+◌, ◌-◌, ◌≤◌}
use mathlib.Core.Path.{◌≡◌, refl, sym, ap, ◌∙◌}
use mathlib.Core.Bool.{Bool, true, false}
use mathlib.Core.List.{List, ◌++◌}
use native.Mathlib.Omega.{arith}
use lib.ListN.{length, take, drop, length-append, length-drop}
use lib.Seq.{length-take-le, take_at, drop_at, drop-drop, take-append_seam, drop-append_seam}
use lib.Dec.{leb}
use borrow.Author.Tests.{leb-true}
use Rattle.laws.specs.Choice.{pick}
use Rattle.record.specs.declared.Record.{Record}
use Rattle.rows.specs.Row.{Table}
use Rattle.encode_rules.specs.Says.{Found, bytes, none}
use Rattle.encode_rules.specs.Written.{Left, outcome, written, Encodes}
use Rattle.encode_rules.proofs.Optimal.{unique}

-- the number, the length and every byte together: no two answers are right, and each is written in one way
pub encodes_once : (t : Table) (r : Record) (buf : List ℕ) (place : ℕ) (x y : Left) → Encodes t r buf place x → Encodes t r buf place y → x ≡ y
encodes_once t r buf place x y p q =
    p.leaves ∙ ap (λ found. written found buf place) (unique t r p.found q.found p.right q.right) ∙ sym q.leaves

-- before the place, from the last byte written on, and as a whole
pub record Kept (bs : List ℕ) (place : ℕ) (x : Left) : Type 0 where
  pub before : take place x.buffer ≡ take place bs
  pub behind : drop (place + x.length) x.buffer ≡ drop (place + x.length) bs
  pub long : length x.buffer ≡ length bs

pub kept : (x : Found) (bs : List ℕ) (place : ℕ) → Kept bs place (written x bs place)
unfolding written
kept none bs place = record { before = refl; behind = refl; long = refl }
kept (bytes xs) bs place = by (leb (place + length xs) (length bs)) refl
  where
    by : (b : Bool) → leb (place + length xs) (length bs) ≡ b
        → Kept bs place (pick b (outcome 0 (length xs) (take place bs ++ (xs ++ drop (place + length xs) bs))) (outcome 6 0 bs))
    by false e = record { before = refl; behind = refl; long = refl }
    by true e =
        let l : place + length xs ≤ length bs = leb-true _ _ e in
        let p : length (take place bs) ≡ place = length-take-le place bs (omega arith) in
        let d : drop place (take place bs ++ (xs ++ drop (place + length xs) bs)) ≡ xs ++ drop (place + length xs) bs = drop_at (take place bs) _ place p in
        let n : length (drop (place + length xs) bs) ≡ length bs - (place + length xs) = length-drop (place + length xs) bs in
        let m : length (xs ++ drop (place + length xs) bs) ≡ length xs + length (drop (place + length xs) bs) = length-append xs _ in
        let o : length (take place bs ++ (xs ++ drop (place + length xs) bs)) ≡ length (take place bs) + length (xs ++ drop (place + length xs) bs) = length-append (take place bs) _ in
        record {
          before = take_at (take place bs) (xs ++ drop (place + length xs) bs) place p;
          behind = sym (drop-drop (length xs) place (take place bs ++ (xs ++ drop (place + length xs) bs))) ∙ ap (drop (length xs)) d ∙ drop-append_seam xs (drop (place + length xs) bs);
          long = omega arith;
        }

-- and with 0 they are the bytes found
pub wrote : (xs bs : List ℕ) (place : ℕ) → (written (bytes xs) bs place).no ≡ 0 → take (length xs) (drop place (written (bytes xs) bs place).buffer) ≡ xs
unfolding written
wrote xs bs place = by (leb (place + length xs) (length bs)) refl
  where
    by : (b : Bool) → leb (place + length xs) (length bs) ≡ b
        → let x : Left = pick b (outcome 0 (length xs) (take place bs ++ (xs ++ drop (place + length xs) bs))) (outcome 6 0 bs) in
        x.no ≡ 0 → take (length xs) (drop place x.buffer) ≡ xs
    by false e z = absurd (omega arith)
    by true e z =
        let l : place + length xs ≤ length bs = leb-true _ _ e in
        let p : length (take place bs) ≡ place = length-take-le place bs (omega arith) in
        ap (take (length xs)) (drop_at (take place bs) (xs ++ drop (place + length xs) bs) place p) ∙ take-append_seam xs (drop (place + length xs) bs)
