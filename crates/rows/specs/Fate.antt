-- What a row comes to, whatever bytes stand behind its code.
use Rattle.std.specs.Prelude.{ℕ, ◌+◌, Bool, true, false, List, [], ◌∷◌, ltb, eqb, get_or}
use Rattle.rows.specs.Row.{Num, disp, imm, imm20, refusal_no, Read, num, cond, stop}
use Rattle.rows.specs.Groups.{document01}

-- 0 for a row that accepts, else its refusal
abbrev pub fate : List Read → ℕ
fate [] = 0
fate (num k ∷ rs) = fate rs
fate (cond ∷ rs) = fate rs
fate (stop e ∷ rs) = refusal_no e

abbrev pub bytes_of : Num → ℕ
bytes_of (disp n) = n
bytes_of (imm n) = n
bytes_of imm20 = 3

-- the bytes that the reads take, all told
abbrev pub reach : List Read → ℕ
reach [] = 0
reach (num k ∷ rs) = bytes_of k + reach rs
reach (cond ∷ rs) = 1 + reach rs
reach (stop e ∷ rs) = 0

-- whatever bytes stand behind its code, it does not refuse: no test, and no condition byte
abbrev pub smooth : List Read → Bool
smooth [] = true
smooth (num k ∷ rs) = smooth rs
smooth (cond ∷ rs) = false
smooth (stop e ∷ rs) = false

-- request A13: the most bytes that a refusal takes, by its number: 1 to 4
abbrev pub most_taken : ℕ → ℕ
most_taken e = get_or (0 ∷ 6 ∷ 5 ∷ 4 ∷ 1 ∷ []) e 0

-- codes that come to a given end, those of them that are marked, and those whose rows read bytes
unfoldable pub ends : ℕ → ℕ → ℕ → Bool
ends e a b = eqb (fate (document01.row_at a b).reads) e

unfoldable pub marked_at : ℕ → ℕ → Bool
marked_at a b = (document01.row_at a b).face.marked

unfoldable pub reads_at : ℕ → ℕ → Bool
reads_at a b = ltb 0 (reach (document01.row_at a b).reads)
