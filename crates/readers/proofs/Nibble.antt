-- The nibbles of a byte.
-- Assumes nothing.
use Prim.Native.Nat.{ℕ, ◌+◌, ◌*◌, ◌/◌, ◌%◌, ◌-◌, ◌≤◌, ◌<◌}
use mathlib.Core.Path.{◌≡◌, ap, ◌∙◌}
use native.Mathlib.Omega.{arith}
use Rattle.record.specs.declared.Operand.{Operand}
use Rattle.record.specs.declared.Width.{Width}
use Rattle.rows.specs.Codes.{name_G, name_K}

pub high : (b : ℕ) → b < 256 → b / 16 % 16 ≡ b / 16
high b h = omega arith

-- the high nibble of a byte with its top bit, without that bit
pub upper : (b : ℕ) → b < 256 → 128 ≤ b → b / 16 % 8 ≡ b / 16 - 8
upper b h l = omega arith

-- a name read by the high nibble
pub named_high : (w : Width) (b : ℕ) {o : Operand} → b < 256 → o ≡ name_G w (b / 16 % 16) → o ≡ name_G w (b / 16)
named_high w b h e = e ∙ ap (name_G w) (high b h)

-- a control register's code that is a whole nibble below 8
pub named_control : (h : ℕ) {o : Operand} → h < 8 → o ≡ name_K (h % 8) → o ≡ name_K h
named_control h l e = let q : h % 8 ≡ h = omega arith in e ∙ ap name_K q

pub joined : (b : ℕ) → b ≡ 16 * (b / 16) + b % 16
joined b = omega arith
