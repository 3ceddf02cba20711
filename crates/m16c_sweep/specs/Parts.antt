-- What the sweeps for C return and leave: the sweep's answer in parts.
use Rattle.std.specs.Prelude.{ℕ, List}
use Rattle.rows.specs.Row.{Table}
use Rattle.sweep.specs.declared.Rule.{Rule}
use Rattle.sweep.specs.Swept.{Swept}
use Rattle.sweep.specs.Sweep.{Sweeps}
use Rattle.m16c_sweep.specs.declared.Numbers.{Numbers}

-- five numbers that stand in one record, as a sweep's answer
abbrev pub told : Numbers → Swept
told n = record { refusal = n.refusal; count = n.count; place = n.place; refused = n.refused; read = n.read }

abbrev pub swept_in : (r count place refused read : ℕ) → Swept
swept_in r count place refused read = record { refusal = r; count = count; place = place; refused = refused; read = read }

-- the promise, by table and rule: the refusal is returned, and count, place, refused, read and starts are left as the sweep says
abbrev pub SweepsInParts : Table → Rule → (image starts : List ℕ) (r count place refused read : ℕ) (after : List ℕ) → Type 0
SweepsInParts t rule image starts r count place refused read after = Sweeps t rule image starts (swept_in r count place refused read) after
