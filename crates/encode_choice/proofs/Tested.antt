-- The choice tested at every code: of document 01's first bytes one at a time (a declaration may take fifty million steps), of request A7's pairs by one law.
-- Assumes nothing.
use Prim.Native.Nat.{ℕ, ◌<◌}
use mathlib.Core.Path.{◌≡◌}
use mathlib.Core.Bool.{Bool, true}
use mathlib.Core.List.{[]}
use lib.Dec.{T}
use Rattle.laws.specs.Range.{upto}
use Rattle.laws.proofs.Range.{upto_at}
use Rattle.record.specs.Same.{among, field_of, base_of}
use Rattle.rows.specs.Codes.{cond_of}
use Rattle.rows.specs.All.{EachFirst}
use Rattle.rows.specs.Pairs.{pairs}
use Rattle.rows.specs.Groups.{both_widths, known, rows_of, groups, document01}
use Rattle.rows.proofs.All.{each_first}
use Rattle.encode_rules.specs.steps.Search.{cond_byte, disps, imms, conds, aim}
use Rattle.encode_rules.specs.steps.Can.{fits, can}
use Rattle.encode_choice.specs.steps.Choose.{choose, choose_named, choose_by, drops_zero, place}
use Rattle.encode_choice.specs.steps.Coarse.{code_test, whole}
use Rattle.encode_choice.specs.steps.Forms.{form_of, goes_with}
use Rattle.encode_rules.proofs.Bools.{so}
use Rattle.encode_choice.proofs.Pairs.{at_bytes}
use Rattle.encode_choice.proofs.PairTests.{pair_tested}

-- every code with the first byte a
unfoldable passed : ℕ → Bool
unfolding upto code_test rows_of known can fits aim choose_named drops_zero goes_with form_of among choose_by place cond_of cond_byte disps imms conds field_of base_of whole
passed a = upto (code_test document01 choose a) 256

-- what that says of each of them
abbrev Passed : ℕ → Type 0
Passed a = (b : ℕ) → b < 256 → code_test document01 choose a b ≡ true

at_each : (a : ℕ) → T (passed a) → Passed a
unfolding passed
at_each a t b l = so _ (upto_at (code_test document01 choose a) 256 t b l)

passed74 : Passed 0x74
unfolding passed
passed74 = at_each 0x74 tt

passed75 : Passed 0x75
unfolding passed
passed75 = at_each 0x75 tt

passed76 : Passed 0x76
unfolding passed
passed76 = at_each 0x76 tt

passed77 : Passed 0x77
unfolding passed
passed77 = at_each 0x77 tt

passed78 : Passed 0x78
unfolding passed
passed78 = at_each 0x78 tt

passed79 : Passed 0x79
unfolding passed
passed79 = at_each 0x79 tt

passed_7A : Passed 0x7A
unfolding passed
passed_7A = at_each 0x7A tt

passed_7B : Passed 0x7B
unfolding passed
passed_7B = at_each 0x7B tt

passed_7C : Passed 0x7C
unfolding passed
passed_7C = at_each 0x7C tt

passed_7D : Passed 0x7D
unfolding passed
passed_7D = at_each 0x7D tt

passed_7E : Passed 0x7E
unfolding passed
passed_7E = at_each 0x7E tt

passed_EB : Passed 0xEB
unfolding passed
passed_EB = at_each 0xEB tt

passed_EC : Passed 0xEC
unfolding passed
passed_EC = at_each 0xEC tt

passed_ED : Passed 0xED
unfolding passed
passed_ED = at_each 0xED tt

passed_pairs : EachFirst Passed (both_widths pairs [])
passed_pairs = at_bytes Passed pair_tested

pub tested : (a b : ℕ) → known a ≡ true → b < 256 → code_test document01 choose a b ≡ true
unfolding groups
tested a b e =
    each_first Passed
    (passed74, (passed75, (passed76, (passed77, (passed78, (passed79, (passed_7A, (passed_7B, (passed_7C, (passed_7D, (passed_7E, (passed_EB, (passed_EC, (passed_ED, passed_pairs))))))))))))))
    a e b
