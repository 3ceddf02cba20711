-- What can be said of a walk's places: the words of request A1's laws.
use Rattle.std.specs.Prelude.{ℕ, ◌+◌, ◌≤◌, ◌<◌, ◌≡◌, List, [], ◌∷◌}
use Rattle.record.specs.declared.Record.{Record}
use Rattle.sweep.specs.Step.{Step}
use Rattle.sweep.specs.Step.{End, Accepted, Refused}
use Rattle.sweep.specs.Walk.{Walk, last, more}

-- a walk visits a place, and finds that step there
pub data Visits : Walk → ℕ → Step → Type 0 where
  at_last : {p : ℕ} {s : Step} → Visits (last p s) p s
  here : {p : ℕ} {s : Step} {w : Walk} → Visits (more p s w) p s
  later : {p q : ℕ} {s t : Step} {w : Walk} → Visits w q t → Visits (more p s w) q t

-- rising, each once: what is visited later lies behind
pub data Rises : Walk → Type 0 where
  one : {p : ℕ} {s : Step} → Rises (last p s)
  then : {p : ℕ} {s : Step} {w : Walk} → ((q : ℕ) (t : Step) → Visits w q t → p < q) → Rises w → Rises (more p s w)

-- the places from which a walk goes on
abbrev pub passed : Walk → List ℕ
passed (last p s) = []
passed (more p s w) = p ∷ passed w

-- the bytes of a visited place: those of its instruction, or the refused place alone
abbrev pub bytes_of : Step → ℕ
bytes_of End = 0
bytes_of (Accepted r t) = t
bytes_of (Refused e t) = 1

-- byte b is among them
abbrev pub Belongs : ℕ → ℕ → Step → Type 0
Belongs b p s = (p ≤ b) × (b < p + bytes_of s)

-- byte b is in an instruction that the walk accepted or is a refused place that it visits, and in one only
pub record InOne (w : Walk) (b : ℕ) : Type 0 where
  pub place : ℕ
  pub step : Step
  pub visited : Visits w place step
  pub belongs : Belongs b place step
  pub only : (q : ℕ) (s : Step) → Visits w q s → Belongs b q s → q ≡ place

-- place b is behind the first byte of an instruction that the walk accepted
pub record Inside (w : Walk) (b : ℕ) : Type 0 where
  pub place : ℕ
  pub inst : Record
  pub taken : ℕ
  pub accepted : Visits w place (Accepted inst taken)
  pub behind : place < b
  pub within : b < place + taken

-- every place is decoded but the image's end
abbrev pub decodings : Step → ℕ
decodings End = 0
decodings (Accepted r t) = 1
decodings (Refused e t) = 1
