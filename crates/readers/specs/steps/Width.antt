-- The groups of two first bytes are told by a bool which of them it is: the even one, with width B, or the odd one, with W.
use Rattle.std.specs.Prelude.{Bool, true, false}
use Rattle.record.specs.declared.Width.{Width}
use Rattle.record.specs.declared.Width.TheVariants.{B, W}

abbrev pub width_of : Bool → Width
width_of true = B
width_of false = W
