-- The lists of docs/DIFFERENCES.md, by code.
use Rattle.std.specs.Prelude.{ℕ, ◌/◌, ◌%◌, Bool, false, List, [], ◌∷◌, eqb, ltb, leb}
use Rattle.laws.specs.Choice.{both, either}

abbrev pub one_of : List ℕ → ℕ → Bool
one_of [] x = false
one_of (k ∷ ks) x = either (eqb x k) (one_of ks x)

-- the codes that document 01 stars, by first byte and the second byte's nibbles; 7D's three conditions are starred alone, the rest as rows
abbrev pub starred_EB : ℕ → ℕ → Bool
starred_EB h n = both (ltb h 8) (either (one_of (4 ∷ 5 ∷ []) n) (either (both (eqb n 1) (leb 4 h)) (both (leb 8 n) (leb 6 h))))

abbrev pub starred_row : ℕ → ℕ → ℕ → Bool
starred_row a h n =
    either (both (one_of (0x74 ∷ 0x75 ∷ []) a) (eqb h 3))
    (either (both (one_of (0x76 ∷ 0x77 ∷ []) a) (one_of (9 ∷ 0xC ∷ 0xE ∷ []) h))
    (either (both (eqb a 0x7A) (leb 8 h))
    (either (both (one_of (0x7C ∷ 0x7D ∷ []) a) (one_of (4 ∷ 5 ∷ []) h))
    (either (both (eqb a 0x7C) (eqb h 0xC))
    (either (both (eqb a 0x7D) (one_of (2 ∷ 3 ∷ 0xA ∷ 0xB ∷ []) h)) (both (eqb a 0xEB) (starred_EB h n)))))))

abbrev pub starred_code : ℕ → ℕ → Bool
starred_code a b = both (eqb a 0x7D) (one_of (0xDA ∷ 0xDD ∷ 0xDE ∷ []) b)

-- MOVLH and MOVHL, which the manual has the other way round: 52 codes
abbrev pub exchanged_code : ℕ → ℕ → ℕ → Bool
exchanged_code a h n = both (eqb a 0x7C) (both (one_of (1 ∷ 2 ∷ 9 ∷ 0xA ∷ []) h) (either (leb 6 n) (one_of (1 ∷ 2 ∷ 3 ∷ []) n)))

-- a list by nibbles, at a code
abbrev pub listed_in : (ℕ → ℕ → ℕ → Bool) → ℕ → ℕ → Bool
listed_in f a b = f a (b / 16) (b % 16)

-- all that is marked
abbrev pub starred : ℕ → ℕ → Bool
starred a b = either (listed_in starred_row a b) (either (starred_code a b) (listed_in exchanged_code a b))

-- accepted, unmarked, and without a meaning: 68 codes. Of request A7 A0 or A1 on both sides at width B, and the empty lists
abbrev pub unmeant_code : ℕ → ℕ → ℕ → Bool
unmeant_code a h n =
    either (both (eqb a 0x7C) (both (ltb (h % 8) 4) (one_of (0 ∷ 4 ∷ 5 ∷ []) n)))
    (either (both (eqb a 0x78) (both (one_of (4 ∷ 5 ∷ []) h) (eqb n 4)))
    (either (both (one_of (0x72 ∷ 0x80 ∷ 0x88 ∷ 0x90 ∷ 0x98 ∷ 0xA0 ∷ 0xA8 ∷ 0xB0 ∷ 0xB8 ∷ 0xC0 ∷ []) a) (both (one_of (4 ∷ 5 ∷ []) h) (one_of (4 ∷ 5 ∷ []) n)))
    (both (one_of (0xEC ∷ 0xED ∷ []) a) (both (eqb h 0) (eqb n 0)))))

-- refused, and with a meaning: six codes
abbrev pub refused_code : ℕ → ℕ → ℕ → Bool
refused_code a h n = both (eqb a 0x7D) (both (one_of (2 ∷ 3 ∷ []) h) (one_of (2 ∷ 3 ∷ 5 ∷ []) n))
