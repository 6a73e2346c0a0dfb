-- What reading into a buffer may come to: an input that ended, a full buffer, or a read that failed. No contract can say which bytes stand in standard input,
-- so none says which of the three it is.
use Rattle.std.specs.Prelude.{◌≡◌, ℕ, ◌<◌, List, take, ⊤, IfSome}
use Rattle.std.specs.declared.option.Option.{Option}
use Rattle.std.specs.declared.result.Result.{Result}
use Rattle.std.specs.declared.result.Result.TheVariants.{Ok, Err}
use Rattle.std.specs.Io.{StartsWith}
use Rattle.mudorder.specs.declared.input.Input.{Input}
use Rattle.mudorder.specs.declared.input.Input.TheVariants.{Ended, Full}

-- with a buffer of n bytes: an input that ended left at least one of them; into no bytes at all nothing is read, so that it neither ends nor fails
abbrev pub Possible : {E : Type 0} → ℕ → Result Input E → Type 0
Possible n (Ok (Ended k)) = k < n
Possible n (Ok Full) = Unit {0}
Possible n (Err why) = 0 < n

-- with a reader that says which bytes it has left: where the input ended, all of them stand in the buffer; where the buffer is full, they begin with it
abbrev pub Given : {E : Type 0} → Option (List ℕ) → List ℕ → Result Input E → Type 0
Given left buffer (Ok (Ended k)) = IfSome left (λ input. input ≡ take k buffer)
Given left buffer (Ok Full) = IfSome left (λ input. StartsWith input buffer)
Given left buffer (Err why) = ⊤
