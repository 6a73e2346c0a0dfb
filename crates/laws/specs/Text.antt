-- Texts as bytes.
use Rattle.std.specs.Prelude.{List, [], ◌∷◌, ℕ, zero, suc}
use Prim.Native.Char.{code}
use Prim.Native.String.{String, len, char_at}

-- the codes of k characters from the i-th on
abbrev pub codes_from : ℕ → ℕ → String → List ℕ
codes_from zero i s = []
codes_from (suc k) i s = code (char_at s i) ∷ codes_from k (suc i) s

-- the bytes of a text of plain characters
abbrev pub bytes : String → List ℕ
bytes s = codes_from (len s) 0 s
