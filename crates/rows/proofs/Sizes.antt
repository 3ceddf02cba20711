-- The bytes that the rule works out from a code are document 01's, at all sixteen codes of the general, the bit and the long form.
-- Assumes nothing.
use Prim.Native.Nat.{ℕ, ◌≤◌, ◌<◌}
use mathlib.Core.Path.{◌≡◌, refl, subst}
use mathlib.Core.List.{List, [], ◌∷◌}
use lib.ListN.{length, get_or}
use Rattle.laws.proofs.Agree.{listed, agree}
use Rattle.record.specs.declared.Seen.{Seen}
use Rattle.rows.specs.Row.{num}
use Rattle.rows.specs.Codes.{num_J, no_pair, refuse, G, Bit, J}
use Rattle.rows.specs.Fate.{bytes_of}
use Rattle.rows.specs.Run.{reading}
use Rattle.rows.specs.Sizes.{Form, general, bit, long, sizes, worked}
use Rattle.rows.proofs.Along.{Went, reading_went}

at_every_code : (f : Form) → listed (λ c. bytes_of (worked f c)) 16 ≡ listed (λ c. get_or (sizes f) c 0) 16
unfolding num_J
at_every_code general = refl
at_every_code bit = refl
at_every_code long = refl

pub worked_out : (f : Form) (c : ℕ) → c < 16 → bytes_of (worked f c) ≡ get_or (sizes f) c 0
worked_out f = agree (λ c. bytes_of (worked f c)) (λ c. get_or (sizes f) c 0) 16 (at_every_code f)

-- so a reader takes the bytes of the list, or finds that fewer are left
pub read_as_listed : (f : Form) (c : ℕ) → c < 16 → (bs : List ℕ) (s : Seen) → s.taken ≤ length bs
    → Went (get_or (sizes f) c 0) (length bs) s (reading (worked f c) bs s)
read_as_listed f c l bs s h = subst (λ n. Went n (length bs) s (reading (worked f c) bs s)) (worked_out f c l) (reading_went (worked f c) bs s h)

-- and the rows' operands are read by the rule
pub of_the_rows : (c : ℕ) → (G c ≡ num (worked general c)) × (Bit c ≡ num (worked bit c)) × (J c ≡ refuse (no_pair c) (num (worked long c) ∷ []))
of_the_rows c = (refl, refl, refl)
