-- Document 01, "What comes back": a record, the bytes taken, and 0 or the refusal's number.
use Rattle.std.specs.Prelude.{ℕ, List, length, Result, Ok, Err}
use Rattle.record.specs.declared.Record.{Record}
use Rattle.record.specs.declared.Seen.{Seen}
use Rattle.record.specs.declared.refusal.Refusal.{Refusal}
use Rattle.record.specs.declared.refusal.Refusal.TheVariants.{ExhaustedInput, InvalidOpcode, InvalidOperand, FirstByteOutside, NoString, TooLittleRoom, ImageTooLong}
use Rattle.record.specs.declared.refusal.Refused.{Refused}
use Rattle.record.specs.Blank.{blank}

pub record Answer : Type 0 where
  pub inst : Record
  pub taken : ℕ
  pub refusal : ℕ

-- document 01's numbers
abbrev pub number_of : Refusal → ℕ
number_of ExhaustedInput = 1
number_of InvalidOpcode = 2
number_of InvalidOperand = 3
number_of FirstByteOutside = 4
number_of NoString = 5
number_of TooLittleRoom = 6
number_of ImageTooLong = 7

-- what a decoding's result tells: an instruction took its length; with a refusal comes the blank record
abbrev pub answer_of : Result Record Refused → Answer
answer_of (Ok r) = record { inst = r; taken = r.length; refusal = 0 }
answer_of (Err e) = record { inst = blank; taken = e.taken; refusal = number_of e.why }

-- 0 or the refusal's number, and a length that is 0 where there is none
abbrev pub refusal_in : Result ℕ Refusal → ℕ
refusal_in (Ok n) = 0
refusal_in (Err e) = number_of e

abbrev pub length_in : Result ℕ Refusal → ℕ
length_in (Ok n) = n
length_in (Err e) = 0

-- a read went on, or too few bytes were left
pub data Got : Type 0 where
  On : Seen → Got
  Short : Got

-- too few bytes: every one was taken
abbrev pub too_few : List ℕ → Refused
too_few bs = record { why = ExhaustedInput; taken = length bs }

-- the same as a result, of a read among these bytes
abbrev pub found : List ℕ → Got → Result Seen Refused
found bs (On s) = Ok s
found bs Short = Err (too_few bs)
