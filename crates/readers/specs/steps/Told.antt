-- A read as the code has it, which tells the place of a number in one byte: of places from 256 on it tells what is left by 256.
use Rattle.std.specs.Prelude.{ℕ, ◌+◌, ◌%◌, Bool, List, eqb, leb, length, take, drop, Result, Ok, Err}
use Rattle.laws.specs.Choice.{pick}
use Rattle.record.specs.declared.Parts.{Parts}
use Rattle.record.specs.declared.Seen.{Seen}
use Rattle.record.specs.Answer.{Got, On, Short, too_few, found}
use Rattle.record.specs.Parts.{part}
use Rattle.rows.specs.Row.{Num, disp, imm, imm20}
use Rattle.record.specs.declared.refusal.Refused.{Refused}
use Rattle.rows.specs.Run.{reading, disp_at, imm_at}

-- dispabs, or what is in imm_wide, said to stand at p
abbrev pub disp_told : ℕ → Parts → Parts
disp_told p q = record { first = q.first; dispabs = part p q.dispabs.width; imm_wide = q.imm_wide }

abbrev pub imm_told : ℕ → Parts → Parts
imm_told p q = record { first = q.first; dispabs = q.dispabs; imm_wide = part p q.imm_wide.width }

-- what was read last
abbrev pub retold : ℕ → Num → Parts → Parts
retold p (disp n) q = pick (eqb n 0) q (disp_told p q)
retold p (imm n) q = imm_told p q
retold p imm20 q = imm_told p q

abbrev pub told : (Parts → Parts) → Got → Got
told f (On s) = On (record { parts = f s.parts; imm_wide = s.imm_wide; dispabs = s.dispabs; first = s.first; dropped = s.dropped; taken = s.taken })
told f Short = Short

unfoldable pub reading_in : Num → List ℕ → Seen → Got
reading_in k bs s = told (retold (s.taken % 256) k) (reading k bs s)

-- n bytes from a place on
abbrev pub behind : ℕ → List ℕ → ℕ → Result (List ℕ) Refused
behind n bs p = pick (leb (p + n) (length bs)) (Ok (take n (drop p bs))) (Err (too_few bs))

-- what a read found, its place told so
abbrev pub disp_in : ℕ → ℕ → Seen → Seen
disp_in n v s =
    record { imm_wide = s.imm_wide; dispabs = v; first = s.dispabs; dropped = s.dropped; parts = disp_at (s.taken % 256) n s.parts; taken = s.taken + n }

abbrev pub imm_in : ℕ → ℕ → Bool → Seen → Seen
imm_in n v d s = record { imm_wide = v; dispabs = s.dispabs; first = s.first; dropped = d; parts = imm_at (s.taken % 256) n s.parts; taken = s.taken + n }

-- a read as a result
abbrev pub found_in : Num → List ℕ → Seen → Result Seen Refused
found_in k bs s = found bs (reading_in k bs s)
