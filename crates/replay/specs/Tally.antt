-- What a verdict adds to the counts, and the lines of a text counted one after the other.
use Rattle.std.specs.Prelude.{◌≡◌, ℕ, ◌+◌, ◌-◌, ◌%◌, ◌^◌, List, Option, Some, length, take, drop, ◌==◌, nat_lt}
use Rattle.laws.specs.Choice.{pick}
use Rattle.replay.specs.declared.tally.Tally.{Tally}
use Rattle.replay.specs.declared.verdict.Verdict.{Verdict}
use Rattle.replay.specs.declared.verdict.Verdict.TheVariants.{Agrees, Differs, Malformed}
use Rattle.replay.specs.Line.{Says}

-- answers, those that differ, malformed lines, and the number of the first malformed line, if there is one
abbrev pub tally : ℕ → ℕ → ℕ → Option ℕ → Tally
tally a d m f = record { answers = a; differ = d; malformed = m; first_malformed = f }

-- counts wrap at 2 ^ 64
abbrev pub one_more : ℕ → ℕ
one_more n = (n + 1) % 2 ^ 64

-- the first malformed line is the one behind the answers so far
abbrev pub counted : Verdict → Tally → Tally
counted Agrees t = tally (one_more t.answers) t.differ t.malformed t.first_malformed
counted Differs t = tally (one_more t.answers) (one_more t.differ) t.malformed t.first_malformed
counted Malformed t =
    tally t.answers t.differ (one_more t.malformed) (pick (one_more t.malformed == 1) (Some (one_more t.answers)) t.first_malformed)

-- a line is counted by what may be said of it
pub record Counted (s : List ℕ) (t r : Tally) : Type 0 where
  pub verdict : Verdict
  pub says : Says verdict s
  pub adds : r ≡ counted verdict t

-- where the line at a place ends: behind 49 characters, or what is left over at the end
abbrev pub line_end : ℕ → ℕ → ℕ
line_end at end = pick (nat_lt (end - at) 49) end (at + 49)

-- from the counts t to r: each line before a place was counted, in order
pub data Tallied : List ℕ → ℕ → Tally → Tally → Type 0 where
  none : {text : List ℕ} {t : Tally} → Tallied text 0 t t
  more : {text : List ℕ} {at end : ℕ} {t m r : Tally} → Tallied text at t m → end ≡ line_end at (length text) → Counted (take (end - at) (drop at text)) m r → Tallied text end t r
