-- `m16c_decode::groups::fill_changed` meets its contract: the row that decodes a changed code is the manual's.
-- Assumes nothing.
use Prim.Native.Nat.{ℕ, ◌<◌, ◌-◌, ◌/◌, ◌%◌}
use mathlib.Core.Path.{◌≡◌, ap₂, ◌∙◌}
use mathlib.Core.Bool.{true}
use mathlib.Core.List.{List}
use native.Mathlib.Omega.{arith}
use lib.ListN.{length, take, drop}
use Rattle.laws.proofs.Rest.{rest}
use Rattle.rows.specs.Run.{run_row}
use Rattle.by_manual.specs.Changed.{change_at}
use Rattle.by_manual.specs.Lists.{is_changed}
use Rattle.by_manual.specs.Table.{by_manual}
use Rattle.decode_changed.specs.steps.Rows.{row_of}
use Rattle.decode_changed.proofs.Rows.{in_place}
use Rattle.m16c_decode.proofs.Small.{same_small, same_filled}
use Rattle.m16c_decode.proofs.groups.fill_changed.Goals as goal

the_manuals : (a b : ℕ) (bs : List ℕ) → b < 256 → is_changed (change_at a (b / 16) (b % 16)) ≡ true
    → run_row (row_of a (b / 16) (b % 16)) (take (length bs - 0) (drop 0 bs)) ≡ run_row (by_manual.row_at a b) bs
the_manuals a b bs l h = ap₂ run_row (in_place a b l h) (rest 0 bs)

pub fill-requires : goal.fill-requires
fill-requires c = same_small (c.decode_changed.ensures ∙ the_manuals c.args.a c.args.b c.args.bs.now (omega (arith, c.ranges.b)) c.requires.0) c.requires.1

pub returns : goal.returns
returns c = same_filled (c.decode_changed.ensures ∙ the_manuals c.args.a c.args.b c.args.bs.now (omega (arith, c.ranges.b)) c.requires.0) c.fill.ensures
