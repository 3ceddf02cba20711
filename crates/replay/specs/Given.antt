-- The bytes that a line gives: a digit says how many, then stand eight of which so many count.
use Rattle.std.specs.Prelude.{ℕ, ◌+◌, List, take}
use Rattle.record.specs.Answer.{Answer}
use Rattle.rows.specs.Run.{decode_rows}
use Rattle.replay.specs.Hex.{digit_at, bytes_at}

-- what the rows of document 01 say of them
abbrev pub answer_at : List ℕ → ℕ → Answer
answer_at s at = decode_rows (take (digit_at s at) (bytes_at 8 s (at + 2)))
