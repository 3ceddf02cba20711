-- What a sweep returns: 0 or a refusal's number, how many starts were kept, where it stopped, how many refused places it passed, and how many
-- bytes its decodings took.
use Rattle.std.specs.Prelude.{ℕ, Bool, true, false, List, length, leb, Option, Some, None, Result, Ok, Err}
use Rattle.laws.specs.Choice.{both}
use Rattle.record.specs.declared.refusal.Refusal.{Refusal}
use Rattle.record.specs.Answer.{number_of}
use Rattle.sweep.specs.declared.Swept as source

pub record Swept : Type 0 where
  pub refusal : ℕ
  pub count : ℕ
  pub place : ℕ
  pub refused : ℕ
  pub read : ℕ

-- 0 for all but the refusal
abbrev pub not_swept : ℕ → Swept
not_swept e = record { refusal = e; count = 0; place = 0; refused = 0; read = 0 }

-- where it stopped; the image's end is no refusal
abbrev pub stop_no : Option Refusal → ℕ
stop_no None = 0
stop_no (Some e) = number_of e

-- a sweep's result, which has no numbers where it was refused before it began
abbrev pub swept_of : Result source.Swept Refusal → Swept
swept_of (Ok s) = record { refusal = stop_no s.stop; count = s.count; place = s.place; refused = s.refused; read = s.read }
swept_of (Err e) = not_swept (number_of e)

-- a sweep begins if the image is not too long and has an entry for each byte; its result is an error exactly where it does not
abbrev pub begins : (image starts : List ℕ) → Bool
begins image starts = both (leb (length image) 4096) (leb (length image) (length starts))

abbrev pub has_begun : Result source.Swept Refusal → Bool
has_begun (Ok s) = true
has_begun (Err e) = false
