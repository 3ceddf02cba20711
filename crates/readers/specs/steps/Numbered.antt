-- An answer that has its refusal as a number, as the answer that it is.
use Rattle.record.specs.Answer.{Answer}
use Rattle.readers.specs.declared.answer.Numbered.{Numbered}

abbrev pub numbered : Numbered → Answer
numbered a = record { inst = a.inst; taken = a.taken; refusal = a.refusal }
