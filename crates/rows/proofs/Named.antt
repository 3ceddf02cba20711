-- Request A7: how many registers a record says that its list names.
-- Assumes nothing.
use Prim.Native.Nat.{ℕ, ◌<◌}
use mathlib.Core.Path.{◌≡◌, refl, ◌∙◌}
use mathlib.Core.Bool.{Bool}
use mathlib.Core.List.{List, ◌∷◌}
use lib.Dec.{T, eqb, eqb→eq}
use lib.ListN.{length}
use Rattle.laws.specs.Choice.{pick, either}
use Rattle.laws.proofs.Agree.{agree}
use Rattle.manual.specs.RegisterList.{pushed, popped, named}
use Rattle.rows.specs.All.{every_code}
use Rattle.rows.specs.Groups.{rows_of, document01}
use Rattle.rows.specs.RegisterList.{registers_in}
use Rattle.rows.specs.Run.{decode_rows}
use Rattle.rows.proofs.All.{every_code_lem}
use Rattle.rows.proofs.Spans.{accepted}

-- so many registers are named, by the manual's order of the bits of PUSHM, and by that of POPM
pub as_many : (b : ℕ) → b < 256 → (length (named pushed b) ≡ registers_in b) × (length (named popped b) ≡ registers_in b)
unfolding registers_in
as_many b l = (agree (λ b. length (named pushed b)) registers_in 256 refl b l, agree (λ b. length (named popped b)) registers_in 256 refl b l)

-- EC and ED count their second byte, every other code counts none
abbrev pub count_of : ℕ → ℕ → ℕ
count_of a b = pick (either (eqb a 0xEC) (eqb a 0xED)) (registers_in b) 0

told : ℕ → ℕ → Bool
told a b = eqb (document01.row_at a b).face.registers (count_of a b)

all_told : T (every_code told)
unfolding every_code told rows_of registers_in
all_told = tt

pub registers_told : (a b : ℕ) (bs : List ℕ) → b < 256 → (decode_rows (a ∷ b ∷ bs)).refusal ≡ 0 → (decode_rows (a ∷ b ∷ bs)).inst.registers ≡ count_of a b
unfolding told
registers_told a b bs l z =
    let x = accepted document01 a b bs z in
    x.made.registers ∙ eqb→eq _ _ (every_code_lem told all_told b l a x.known)
