-- What a first byte behind the pairs of request A7 comes to: a list of registers, or outside.
use Rattle.std.specs.Prelude.{ℕ, ◌/◌, ◌%◌, []}
use Rattle.laws.specs.Choice.{pick}
use Rattle.record.specs.Answer.{Answer}
use Rattle.rows.specs.RegisterList.{list}
use Rattle.rows.specs.Run.{refusal, run_row}
use Rattle.decode_72.specs.steps.Added.{is_list, list_opcode}

-- (a list reads nothing behind its second byte, so that any bytes will do)
abbrev pub behind_pairs : ℕ → ℕ → Answer
behind_pairs a b = pick (is_list a) (run_row (list (list_opcode a) (b / 16) (b % 16)) []) (refusal 4 1)
