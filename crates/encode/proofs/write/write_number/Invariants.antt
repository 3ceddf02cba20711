-- What is left of the number, put where it belongs, makes what the whole number makes.
use Rattle.std.proofs.Common.{◌≡◌, ◌+◌, ◌-◌}
use Rattle.laws.specs.Over.{put}
use Rattle.encode_rules.specs.steps.Digits.{digits}
use Rattle.encode.proofs.write.write_number.Given as goal

abbrev pub invariant-loop-k : goal.invariant-loop-k
invariant-loop-k l = put (l.at + l.k) (digits (l.fn.number.count - l.k) l.rest) l.out ≡ put l.at (digits l.fn.number.count l.fn.number.value) l.initial.out
