-- What one answer leaves in the twenty entries, and which answers are delivered.
use Rattle.std.specs.Prelude.{ℕ, ◌≤◌, ◌≡◌, List}
use Rattle.record.specs.Answer.{Answer}
use Rattle.record.specs.declared.Record.{Record}
use Rattle.record.specs.declared.Operand.TheVariants.{Nothing}
use Rattle.m16c_decode.specs.Decoded.{numbers_of}

-- as every decoding is: few bytes, and no third operand
abbrev pub Small : Answer → Type 0
Small x = (x.taken ≤ 7) × (x.inst.length ≤ 7) × (x.inst.op2 ≡ Nothing)

-- a record and the bytes taken, as an answer: its numbers have no refusal among them
abbrev pub answer : Record → ℕ → Answer
answer inst taken = record { inst = inst; taken = taken; refusal = 0 }

-- its refusal is returned, and its numbers are the entries
pub record Filled (x : Answer) (r : ℕ) (after : List ℕ) : Type 0 where
  pub returned : r ≡ x.refusal
  pub kept : after ≡ numbers_of x
