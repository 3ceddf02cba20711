-- 74 and 75: the code's tables are document 01's rows.
-- Assumes nothing.
use Prim.Native.Nat.{ℕ, zero, suc, ◌<◌}
use mathlib.Core.Path.{◌≡◌, refl}
use mathlib.Core.List.{List, [], ◌∷◌}
use Rattle.laws.proofs.Agree.{agree}
use Rattle.record.specs.Answer.{Answer}
use Rattle.record.specs.declared.Width.{Width}
use Rattle.record.specs.declared.Seen.{Seen}
use Rattle.rows.specs.Row.{Num, disp, imm, imm20, num, Face}
use Rattle.rows.specs.Rows.{row, row74}
use Rattle.rows.specs.Run.{read_disp, run}
use Rattle.decode_74.specs.steps.Op74.{reads_of, table74}

pub tables74 : (w : Width) (n h : ℕ) → h < 16 → row74 w h n ≡ table74 w h n
unfolding row row74 table74
tables74 w n = agree (λ h. row74 w h n) (λ h. table74 w h n) 16 refl

-- the code reads what is behind G(n) in any case: where no byte is read, that changes nothing
pub behind : (k : Num) (bs : List ℕ) (f : Face) (s : Seen) {x : Answer} → x ≡ run (num k ∷ []) bs f s → x ≡ run (reads_of k) bs f s
unfolding run read_disp
behind (disp zero) bs f s e = e
behind (disp (suc n)) bs f s e = e
behind (imm n) bs f s e = e
behind imm20 bs f s e = e
