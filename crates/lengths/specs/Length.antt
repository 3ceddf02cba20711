-- Request A4: what the first two bytes tell of every byte string that begins with them, by any table of rows.
use Rattle.std.specs.Prelude.{ℕ, zero, suc, ◌≤◌, ◌≡◌, List, [], ◌∷◌, length}
use Rattle.rows.specs.Row.{Table}
use Rattle.rows.specs.Bytes.{Bytes}
use Rattle.rows.specs.Run.{decode_by}

-- a length: some continuation is accepted, and every accepted one has that length
pub record IsLength (t : Table) (a b n : ℕ) : Type 0 where
  pub some : List ℕ
  pub bytes : Bytes some
  pub accepted : (decode_by t (a ∷ b ∷ some)).refusal ≡ 0
  pub every : (bs : List ℕ) → (decode_by t (a ∷ b ∷ bs)).refusal ≡ 0 → (decode_by t (a ∷ b ∷ bs)).inst.length ≡ n

-- a refusal: no continuation is accepted, and every one of at least seven bytes in all is refused with it
pub record IsRefusal (t : Table) (a b e : ℕ) : Type 0 where
  pub never : (bs : List ℕ) → (decode_by t (a ∷ b ∷ bs)).refusal ≡ 0 → ⊥
  pub long : (bs : List ℕ) → 7 ≤ length (a ∷ b ∷ bs) → (decode_by t (a ∷ b ∷ bs)).refusal ≡ e

-- 0 and a length, or a refusal and 0
abbrev pub OfTwo : Table → ℕ → ℕ → ℕ → ℕ → Type 0
OfTwo t a b zero n = IsLength t a b n
OfTwo t a b (suc e) n = IsRefusal t a b (suc e) × (n ≡ 0)

-- the promise: fewer than two bytes are refused as decoding refuses them, 4 before 1; of more, only the first two count
abbrev pub LengthOf : Table → List ℕ → ℕ → ℕ → Type 0
LengthOf t [] e n = (e ≡ (decode_by t []).refusal) × (n ≡ 0)
LengthOf t (a ∷ []) e n = (e ≡ (decode_by t (a ∷ [])).refusal) × (n ≡ 0)
LengthOf t (a ∷ b ∷ bs) e n = OfTwo t a b e n
