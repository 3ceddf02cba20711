-- What follows from an answer being right.
-- Assumes nothing.
use Prim.Native.Nat.{ℕ, zero, suc, ◌≤◌}
use mathlib.Core.Path.{◌≡◌, refl, sym, ap, ◌∙◌}
use mathlib.Core.Bool.{false}
use mathlib.Core.List.{List, [], ◌∷◌}
use native.Mathlib.Omega.{arith}
use lib.ListN.{length, take}
use lib.Seq.{length-take-le, get_or-take}
use Rattle.record.specs.declared.Record.{Record}
use Rattle.record.specs.Same.{Same, key}
use Rattle.rows.specs.Bytes.{Bytes}
use Rattle.rows.specs.Row.{Table}
use Rattle.rows.specs.Run.{decode_by}
use Rattle.rows.proofs.Taken.{counted}
use Rattle.rows.proofs.Behind.{behind}
use Rattle.encode_rules.specs.Says.{Says, Best, Found, bytes, none, Right}

take_bytes : (k : ℕ) (bs : List ℕ) → Bytes bs → Bytes (take k bs)
take_bytes zero bs h = tt
take_bytes (suc k) [] h = tt
take_bytes (suc k) (b ∷ bs) h = (h.0, take_bytes k bs h.1)

module _ (t : Table) where
  -- the bytes taken encode what the bytes encode
  fore : (bs : List ℕ) (r : Record) → Says t bs r → Says t (take (decode_by t bs).taken bs) r
  fore bs r s =
      let l : length (take (decode_by t bs).taken bs) ≡ (decode_by t bs).taken = length-take-le (decode_by t bs).taken bs (counted t bs).within in
      let e : decode_by t (take (decode_by t bs).taken bs) ≡ decode_by t bs =
      behind t bs (take (decode_by t bs).taken bs) (λ z. omega (arith, s.accepted))
      (record { long = omega arith; equal = λ i h. get_or-take (decode_by t bs).taken bs i 0 h }) in
      record { accepted = ap (λ x. x.refusal) e ∙ s.accepted; unmarked = ap (λ x. x.inst.marked) e ∙ s.unmarked; same = ap (λ x. key x.inst) e ∙ s.same }

  -- the best bytes are all taken, and the record that they decode to has their number as its length
  pub all_taken : (r : Record) (bs : List ℕ) → Best t r bs → (decode_by t bs).taken ≡ length bs
  all_taken r bs b =
      let k = (decode_by t bs).taken in
      let w : k ≤ length bs = (counted t bs).within in
      let a = b.least (take k bs) (take_bytes k bs b.bytes) (fore bs r b.says) in
      omega (arith, a.short, length-take-le k bs w)

  pub length_is : (r : Record) (bs : List ℕ) → Best t r bs → (decode_by t bs).inst.length ≡ length bs
  length_is r bs b = (counted t bs).accepted b.says.accepted ∙ all_taken r bs b

  -- what an unmarked row decoded is not refused, and its bytes are not more than were taken
  pub no_longer : (xs : List ℕ) → Bytes xs → (decode_by t xs).refusal ≡ 0 → (decode_by t xs).inst.marked ≡ false → (x : Found) → Right t (decode_by t xs).inst x
      → (ys : List ℕ) × (x ≡ bytes ys) × (length ys ≤ (decode_by t xs).inst.length)
  no_longer xs h z u x = by x
    where
      says : Says t xs (decode_by t xs).inst
      says = record { accepted = z; unmarked = u; same = refl }

      by : (x : Found) → Right t (decode_by t xs).inst x → (ys : List ℕ) × (x ≡ bytes ys) × (length ys ≤ (decode_by t xs).inst.length)
      by none f = absurd (f xs h says)
      by (bytes ys) b =
          let k = (decode_by t xs).taken in
          let a = b.least (take k xs) (take_bytes k xs h) (fore xs (decode_by t xs).inst says) in
          (ys, refl, omega (arith, a.short, length-take-le k xs (counted t xs).within, (counted t xs).accepted z))

  -- what is right for a record is right for every record that is the same instruction
  same_says : (r s : Record) → Same r s → (xs : List ℕ) → Says t xs r → Says t xs s
  same_says r s e xs h = record { accepted = h.accepted; unmarked = h.unmarked; same = h.same ∙ e }

  pub same_right : (r s : Record) → Same r s → (x : Found) → Right t r x → Right t s x
  same_right r s e (bytes bs) b = record {
    bytes = b.bytes;
    says = same_says r s e bs b.says;
    least = λ xs h q. b.least xs h (same_says s r (sym e) xs q);
  }
  same_right r s e none f = λ xs h q. f xs h (same_says s r (sym e) xs q)
