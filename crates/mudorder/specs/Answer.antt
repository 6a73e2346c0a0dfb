-- What answering a reader leaves in a writer, where each of the two says which bytes it has. What standard input and output have, no contract can say.
use Rattle.std.specs.Prelude.{ℕ, List, ⊤, IfSome}
use Rattle.std.specs.declared.option.Option.{Option}
use Rattle.std.specs.Io.KnownBytes.{Keeps, Appends}
use Rattle.report.specs.Printed.{Printed}
use Rattle.mudorder.specs.declared.Failure.{Failure}
use Rattle.mudorder.specs.declared.Failure.TheVariants.{Unread, Untaken}

-- an answer: behind what was written before stands what is printed for all that the reader had left
abbrev pub Answered : Option (List ℕ) → Option (List ℕ) → Option (List ℕ) → Type 0
Answered left before after = IfSome left (λ input. (text : List ℕ) × Printed input text × Appends before after text)

-- no answer: nothing is written where the reader could not be read to its end
abbrev pub Unanswered : Failure → Option (List ℕ) → Option (List ℕ) → Type 0
Unanswered (Unread why) before after = Keeps before after
Unanswered (Untaken why) before after = ⊤

-- it is the writer that failed
abbrev pub IsUntaken : Failure → Type 0
IsUntaken (Unread why) = ⊥
IsUntaken (Untaken why) = ⊤
