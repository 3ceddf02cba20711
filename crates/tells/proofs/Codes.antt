-- The stamp of a live code tells the code, but for four codes that mean what others mean.
-- Assumes nothing.
use Prim.Native.Nat.{ℕ, zero, suc, ◌+◌, ◌*◌, ◌-◌, ◌<◌}
use mathlib.Core.Path.{◌≡◌, refl, sym, subst, ap}
use mathlib.Core.Bool.{Bool, true, false}
use mathlib.Core.List.{List, [], ◌∷◌}
use native.Mathlib.Omega.{arith}
use lib.Dec.{T, eqb, eqb→eq}
use borrow.Author.Tests.{eqb-true}
use Rattle.laws.specs.Choice.{pick, both}
use Rattle.laws.proofs.Agree.{listed, agree}
use Rattle.record.specs.Same.{field_of}
use Rattle.rows.specs.Codes.{cond_of}
use Rattle.rows.specs.Groups.{Group, groups, known, rows_of, document01}
use Rattle.rows.specs.Lists.{one_of}
use Rattle.rows.specs.All.{every_code}
use Rattle.rows.proofs.All.{every_code_lem}
use Rattle.encode_rules.specs.steps.Search.{cond_byte, live}
use Rattle.encode_rules.proofs.Bools.{picked}
use Rattle.tells.specs.Tells.{twins, folded}
use Rattle.tells.specs.steps.Stamp.{shown_name, in_code, code_number, stamp, stamp_digits, stamp_of, code_stamp}
use Rattle.tells.proofs.Apart.{Tree, empty, put, find, apart}

-- of the first bytes only 7C has codes that stand for others, and there the rows are the same
rows_of_7C : listed (λ b. document01.row_at 0x7C (folded 0x7C b)) 256 ≡ listed (λ b. document01.row_at 0x7C b) 256
unfolding folded rows_of
rows_of_7C = refl

-- behind any other first byte each code stands for itself
itself : (a b : ℕ) → eqb a 0x7C ≡ false → folded a b ≡ b
unfolding folded
itself a b e = rw e

-- the code that stands for a code has the same row
pub folded_row : (a b : ℕ) → b < 256 → document01.row_at a (folded a b) ≡ document01.row_at a b
folded_row a b l = by (eqb a 0x7C) refl
  where
    by : (x : Bool) → eqb a 0x7C ≡ x → document01.row_at a (folded a b) ≡ document01.row_at a b
    by true e =
        subst (λ c. document01.row_at c (folded c b) ≡ document01.row_at c b) (sym (eqb-true a 0x7C e))
        (agree (λ n. document01.row_at 0x7C (folded 0x7C n)) (λ n. document01.row_at 0x7C n) 256 rows_of_7C b l)
    by false e = ap (document01.row_at a) (itself a b e)

-- a second byte, or one 128 below it, is a byte
less : (x : Bool) (b : ℕ) → b < 256 → pick x (b - 128) b < 256
less true b l = omega arith
less false b l = l

-- and its second byte is one
pub folded_small : (a b : ℕ) → b < 256 → folded a b < 256
unfolding folded
folded_small a b l = less (both (eqb a 0x7C) (one_of twins b)) b l

-- a live code, as one number, put under its stamp
planted : ℕ → ℕ → Tree → Tree
planted a b t = pick (live (document01.row_at a b)) (put stamp_digits (code_stamp a b) (a * 256 + folded a b) t) t

-- those of a first byte, up to a second byte
below : ℕ → ℕ → Tree → Tree
below a zero t = t
below a (suc n) t = planted a n (below a n t)

-- those of some first bytes
behind : List Group → Tree → Tree
behind [] t = t
behind (g ∷ gs) t = below g.byte 256 (behind gs t)

-- the tree of all live codes
tree : Tree
unfolding groups
tree = behind groups empty

-- a code that is live is found by its stamp (of two codes with one stamp, only the one put last)
found : Tree → ℕ → ℕ → Bool
found t a b = pick (live (document01.row_at a b)) (eqb (find stamp_digits (code_stamp a b) t) (a * 256 + folded a b)) true

-- the test over all codes
all_found : T (every_code (found tree))
unfolding every_code found tree behind below planted put find code_stamp stamp_of stamp code_number in_code shown_name cond_of cond_byte field_of folded rows_of
all_found = tt

-- so each live code is
found_at : (a b : ℕ) → known a ≡ true → b < 256 → live (document01.row_at a b) ≡ true → find stamp_digits (code_stamp a b) tree ≡ a * 256 + folded a b
unfolding found
found_at a b k l v = eqb→eq _ _ (picked (live (document01.row_at a b)) _ (every_code_lem (found tree) all_found b l a k) v)

-- two live codes with one stamp are one code, or mean the same
pub codes_apart : (a b c d : ℕ) → known a ≡ true → known c ≡ true → b < 256 → d < 256
    → live (document01.row_at a b) ≡ true → live (document01.row_at c d) ≡ true
    → code_stamp a b ≡ code_stamp c d → (a ≡ c) × (folded a b ≡ folded c d)
codes_apart a b c d k m l h v u e =
    let n : a * 256 + folded a b ≡ c * 256 + folded c d = apart stamp_digits tree (found_at a b k l v) (found_at c d m h u) e in
    let p = folded_small a b l in
    let q = folded_small c d h in
    (omega arith, omega arith)
