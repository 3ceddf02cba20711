-- How the code holds a text: up to eight characters in a word, the first in its lowest byte, zeros behind them.
use Rattle.std.specs.Prelude.{ℕ, zero, suc, ◌+◌, ◌*◌, ◌/◌, ◌%◌, List, [], ◌∷◌, ◌++◌, take, drop, eqb}
use Rattle.laws.specs.Choice.{pick}
use Rattle.record.specs.declared.Record.{Record}
use Rattle.record.specs.Signed.{number_at}
use Rattle.laws.specs.Text.{spelled}
use Rattle.line.specs.Characters.{hex}
use Rattle.line.specs.Line.{width_text, opcode_text, size_text, shown, number_text, dropped_text}

abbrev pub pack : List ℕ → ℕ
pack [] = 0
pack (c ∷ cs) = c + 256 * pack cs

-- up to n characters of a word
unfoldable pub up_to : ℕ → ℕ → List ℕ
up_to zero w = []
up_to (suc n) w = pick (eqb w 0) [] (w % 256 ∷ up_to n (w / 256))

abbrev pub chars : ℕ → List ℕ
chars w = up_to 8 w

-- the characters of words, one behind the other
unfoldable pub text : List ℕ → List ℕ
text [] = []
text (w ∷ ws) = chars w ++ text ws

-- a name in two words
abbrev pub first_eight : List ℕ → List ℕ
first_eight s = take 8 s

abbrev pub after_eight : List ℕ → List ℕ
after_eight s = drop 8 s

-- what stands before the width
abbrev pub place_text : ℕ → List ℕ
place_text place = hex 4 place ++ spelled " "

abbrev pub length_text : ℕ → List ℕ
length_text n = hex 1 n ++ spelled " "

-- the parts of a line from the width on, each for a word
abbrev pub parts : Record → List (List ℕ)
parts r =
    width_text r.width ∷ opcode_text r.opcode ∷ size_text r.size
    ∷ first_eight (shown r.op0) ∷ after_eight (shown r.op0) ∷ number_text r.op0 (number_at r 0).value
    ∷ first_eight (shown r.op1) ∷ after_eight (shown r.op1) ∷ number_text r.op1 (number_at r 1).value
    ∷ first_eight (shown r.op2) ∷ after_eight (shown r.op2) ∷ number_text r.op2 (number_at r 2).value ∷ dropped_text r.dropped ∷ []

abbrev pub end_parts : ℕ → List (List ℕ)
end_parts place = spelled "END " ∷ hex 4 place ∷ []

abbrev pub refused_parts : ℕ → ℕ → ℕ → List (List ℕ)
refused_parts place refusal taken = hex 4 place ∷ spelled " REFUSED" ∷ (spelled " " ++ hex 1 refusal) ∷ spelled " TAKEN " ∷ hex 1 taken ∷ []
