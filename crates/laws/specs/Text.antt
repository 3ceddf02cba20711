-- A text as the list of its characters, each by its number.
use Rattle.std.specs.Prelude.{ℕ, List, [], ◌∷◌}
use Prim.Native.Char.{code}
use Prim.Native.String as string

abbrev pub spelled : string.String → List ℕ
spelled string.[] = []
spelled (string.◌∷◌ c s) = code c ∷ spelled s
