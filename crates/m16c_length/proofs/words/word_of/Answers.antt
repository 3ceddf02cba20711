-- Of a byte no value is left but the last.
use mathlib.Core.Path.{◌≡◌, refl}
use native.Mathlib.Omega.{arith}
use Rattle.lengths.specs.steps.Table.{table}
use Rattle.m16c_length.specs.steps.Packed.{word_at}
use Rattle.m16c_length.proofs.words.word_of.Goals as goal

pub returns-in_default : goal.returns-in_default
unfolding word_at table
returns-in_default c =
    let last : c.args.second ≡ 255 = omega arith in
    rw last refl
