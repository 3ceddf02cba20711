-- `m16c_decode::decode_at` meets its contract.
-- Assumes nothing.
use mathlib.Core.Path.{◌∙◌}
use mathlib.Core.Bool.{false}
use native.Mathlib.Omega.{arith}
use Rattle.laws.proofs.Rest.{rest}
use Rattle.m16c_decode.proofs.Small.{small, same_small, no_room, keeps}
use Rattle.m16c_decode.proofs.Few.{few, code_told}
use Rattle.m16c_decode.proofs.decode_at.Goals as goal

pub returns-in_default : goal.returns-in_default
returns-in_default g c = no_room _ c.args.image.now c.args.at c.args.out.now (omega (arith, c.in_default.ensures.cases)) c.from.ensures

-- past the image's end
pub fill_few-requires : goal.fill_few-requires
fill_few-requires g c =
    same_small (few _ c.args.image.now c.args.at (grind (arith, c.in_default-get.ensures.lookup))) (small false c.args.image.now c.args.at (λ i. omega (arith, c.type_inv.image i)))

pub returns-in_default-get : goal.returns-in_default-get
returns-in_default-get g c =
    keeps _ c.args.image.now c.args.at c.args.out.now c.in-Some.ensures.cases.enough (few _ c.args.image.now c.args.at (grind (arith, c.in_default-get.ensures.lookup))) (c.fill_few.ensures _)

-- or one byte before it
pub fill_few-requires-in_default-bs : goal.fill_few-requires-in_default-bs
fill_few-requires-in_default-bs g c =
    same_small (few _ c.args.image.now c.args.at (omega (arith, c.in-Some-get.ensures.lookup.0.3, c.in_default-bs.len_below))) (small false c.args.image.now c.args.at (λ i. omega (arith, c.type_inv.image i)))

pub returns-in_default-bs : goal.returns-in_default-bs
returns-in_default-bs g c =
    keeps _ c.args.image.now c.args.at c.args.out.now c.in-Some.ensures.cases.enough (few _ c.args.image.now c.args.at (omega (arith, c.in-Some-get.ensures.lookup.0.3, c.in_default-bs.len_below)))
    (c.fill_few-in_default-bs.ensures _)

pub fill_code-requires : goal.fill_code-requires
fill_code-requires g c =
    same_small (code_told _ (c.in-Some-get.ensures.lookup.0.2 ∙ rest c.args.at c.args.image.now) c.in-len2-up.len_at_least)
    (small _ c.args.image.now c.args.at (λ i. omega (arith, c.type_inv.image i)))

pub returns : goal.returns
returns g c =
    keeps _ c.args.image.now c.args.at c.args.out.now c.in-Some.ensures.cases.enough
    (code_told _ (c.in-Some-get.ensures.lookup.0.2 ∙ rest c.args.at c.args.image.now) c.in-len2-up.len_at_least) c.fill_code.ensures
