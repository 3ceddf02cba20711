-- The one table of names: where each form's name of a code stands in it.
-- Assumes nothing.
use Prim.Native.Nat.{ℕ, ◌+◌, ◌<◌}
use mathlib.Core.Path.{◌≡◌, refl}
use mathlib.Core.List.{List, [], ◌∷◌, ◌++◌}
use lib.ListN.{get_or}
use Rattle.laws.proofs.Agree.{listed, agree}
use Rattle.record.specs.declared.Operand.{Operand}
use Rattle.record.specs.declared.Operand.TheVariants.{Nothing, Disp20_A0, Disp20_A1}
use Rattle.record.specs.declared.Width.{Width}
use Rattle.record.specs.declared.Width.TheVariants.{None, B, W}
use Rattle.rows.specs.Codes.{byte_names, word_names, pair_names, name_G, name_P, name_J}
use Rattle.readers.specs.steps.Places.{pair_place, long_place}

abbrev table : List Operand
table = word_names ++ byte_names ++ pair_names ++ (Disp20_A0 ∷ Disp20_A1 ∷ [])

abbrev name : ℕ → Operand
name k = get_or table k Nothing

pub word : (c : ℕ) → c < 16 → name c ≡ name_G W c
word = agree name (name_G W) 16 refl

pub byte : (c : ℕ) → c < 16 → name (16 + c) ≡ name_G B c
byte = agree (λ c. name (16 + c)) (name_G B) 16 refl

pairs : (w : Width) → listed (λ c. name (pair_place c)) 16 ≡ listed (name_P w) 16
pairs None = refl
pairs B = refl
pairs W = refl

pub pair : (w : Width) (c : ℕ) → c < 16 → name (pair_place c) ≡ name_P w c
pair w = agree (λ c. name (pair_place c)) (name_P w) 16 (pairs w)

pub long : (c : ℕ) → c < 16 → name (long_place c) ≡ name_J c
long = agree (λ c. name (long_place c)) name_J 16 refl
