-- Document 01's example card, and one card for each refusal of the reader, computed from the definitions.
use mathlib.Core.Path.{◌≡◌, refl}
use mathlib.Core.List.{List, [], ◌∷◌}
use Prim.Native.Nat.{ℕ}
use Rattle.laws.specs.Text.{bytes}
use Rattle.card.specs.Text.{dec}
use Rattle.card.specs.Refusal.{refused_at}
use Rattle.card.specs.declared.refusal.Refusal.TheVariants.{Shape, Name, Limits, OutOfRange, NotAfter, EndNumber}
use Rattle.card.specs.Card.{refused, good, judged, card_of}

-- the example card of document 01
abbrev kestrel : List ℕ
kestrel = bytes
    "rig=kestrel-4\nequations=3\nunknowns=3\noccurs=1,1,1\noccurs=1,3,0\noccurs=2,2,0\noccurs=2,3,0\noccurs=3,1,0\nend=5\n"

abbrev codes : List ℕ
codes = 2 ∷ 0 ∷ 1 ∷ 0 ∷ 1 ∷ 1 ∷ 1 ∷ 0 ∷ 0 ∷ []

read_kestrel : judged kestrel ≡ good (bytes "kestrel-4") 3 3 codes
read_kestrel = refl

written_kestrel : card_of (bytes "kestrel-4") 3 3 codes ≡ kestrel
unfolding card_of dec
written_kestrel = refl

-- 11: no line, no LF, no number, bytes behind the end line
empty : judged [] ≡ refused (refused_at Shape 0)
empty = refl

no_LF : judged (bytes "rig=") ≡ refused (refused_at Shape 0)
no_LF = refl

no_number : judged (bytes "rig=a\nequations=\n") ≡ refused (refused_at Shape 6)
no_number = refl

byte_behind : judged (bytes "rig=a\nequations=3\nunknowns=3\nend=0\nx") ≡ refused (refused_at Shape 35)
byte_behind = refl

-- 12
no_name : judged (bytes "rig=\n") ≡ refused (refused_at Name 0)
no_name = refl

-- 13
too_many : judged (bytes "rig=a\nequations=33\n") ≡ refused (refused_at Limits 6)
too_many = refl

-- 14
too_high : judged (bytes "rig=a\nequations=3\nunknowns=3\noccurs=1,1,4\nend=1\n") ≡ refused (refused_at OutOfRange 29)
too_high = refl

-- 15
equal : judged (bytes "rig=a\nequations=3\nunknowns=3\noccurs=2,2,0\noccurs=2,2,0\nend=2\n") ≡ refused (refused_at NotAfter 42)
equal = refl

-- 16, before a byte behind the end line
wrong_end : judged (bytes "rig=a\nequations=3\nunknowns=3\nend=1\nx") ≡ refused (refused_at EndNumber 29)
wrong_end = refl
