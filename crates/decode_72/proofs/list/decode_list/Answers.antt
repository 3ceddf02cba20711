-- `decode_72::list::decode_list` meets its contract.
-- Assumes nothing.
use Prim.Native.Nat.{ℕ}
use mathlib.Core.Path.{ap, ◌∙◌}
use mathlib.Core.Bool.{false}
use Rattle.record.specs.Answer.{Answer}
use Rattle.record.specs.declared.Size.TheVariants as size
use Rattle.record.specs.declared.Width.TheVariants.{None}
use Rattle.record.specs.declared.Operand.TheVariants.{Nothing, RegList}
use Rattle.record.proofs.Same.{counting}
use Rattle.rows.specs.RegisterList.{list, registers_in}
use Rattle.rows.specs.Run.{accepted_by, begun, run, run_row}
use Rattle.readers.proofs.Nibble.{joined}
use Rattle.decode_72.proofs.list.decode_list.Goals as goal

-- an answer whose record has another count
counted : ℕ → Answer → Answer
counted n x = record { inst = counting n x.inst; taken = x.taken; refusal = x.refusal }

pub returns : goal.returns
unfolding run_row run list registers_in counted
returns c = λ bs.
    let nibbles = joined c.args.b in
    let named = c.registers_in.ensures ∙ ap registers_in nibbles in
    let begun-so = c.begin.ensures ∙ ap begun (c.from.ensures ∙ nibbles) in
    let opcode = c.list_opcode.ensures in
    ap (counted c.registers_in.result) c.with.ensures
    ∙ (λ i. accepted_by (record { opcode = opcode i; size = size.None; width = None; op0 = RegList; op1 = Nothing; marked = false; registers = named i }) (begun-so i))
