-- What was reported and then written from the buffer for the text is the printed text of the input.
use Rattle.std.proofs.Common.{IfSome, OnOk, MatchResult, IsErrAnd, Result, Ok, Err, ◌≡◌, ◌≤◌, ℕ, List, ◌++◌, None, Some, sym, ap, ◌∙◌, subst, length, take, drop, arith}
use Rattle.std.specs.declared.option.Option.{Option}
use Rattle.std.specs.Io.{StartsWith}
use Rattle.std.specs.Io.KnownBytes.{Appends}
use Rattle.std.proofs.KnownBytes.{starts_with_rest}
use lib.Seq.{take-append_seam}
use borrow.Author.Tests.{le-leb}
use Rattle.report.specs.Printed.{Reported}
use Rattle.report.proofs.Printing.{report_short}
use Rattle.mudorder.specs.Answer.{Answered}

taken : (input before after : List ℕ) (handed : ℕ) → 1024 ≤ length before → (k : Reported input before handed after) → take handed after ≡ k.text
taken input before after handed h k =
    let fits : length k.text ≤ length before = omega (arith, h, k.size, report_short k) in
    ap (λ n. take n after) k.size
    ∙ ap (take (length k.text)) (rw (le-leb _ _ fits) at k.bytes)
    ∙ take-append_seam k.text (drop (length k.text) before)

answer_of : (left old new : Option (List ℕ)) (before after : List ℕ) (handed : ℕ) → 1024 ≤ length before
    → IfSome left (λ input. Reported input before handed after) → Appends old new (take handed after) → Answered left old new
answer_of None old new before after handed h k p = tt
answer_of (Some input) old new before after handed h k p = (k.text, k.printed, subst (Appends old new) (taken input before after handed h k) p)

-- the reader's bytes are an input that was reported, and its text was written
pub answered : {T E : Type 0} (r : Result T E) (left old new : Option (List ℕ)) (before after : List ℕ) (handed : ℕ) → 1024 ≤ length before
    → IfSome left (λ input. Reported input before handed after) → OnOk r (Appends old new (take handed after)) → OnOk r (Answered left old new)
answered (Ok v) left old new before after handed h k p = answer_of left old new before after handed h k p
answered (Err e) left old new before after handed h k p = tt

-- what is reported of a full buffer, whatever follows, is reported of an input that begins with it
pub beginning : (left : Option (List ℕ)) (card before after : List ℕ) (handed : ℕ) → IfSome left (λ input. StartsWith input card)
    → ((rest : List ℕ) → Reported (card ++ rest) before handed after) → IfSome left (λ input. Reported input before handed after)
beginning None card before after handed s k = tt
beginning (Some input) card before after handed s k =
    subst (λ i. Reported i before handed after) (sym (starts_with_rest input card s)) (k (drop (length card) input))

-- what is reported of all that was read is reported of an input that ended there
pub ended : (left : Option (List ℕ)) (card before after : List ℕ) (handed : ℕ) → IfSome left (λ input. input ≡ card) → Reported card before handed after
    → IfSome left (λ input. Reported input before handed after)
ended None card before after handed s k = tt
ended (Some input) card before after handed s k = subst (λ i. Reported i before handed after) (sym s) k

-- what was good before its refusals were named
pub good_before : {T E D : Type 0} (P : E → D → Type 0) (r : Result T E) (m : Result T D) (x : T) → MatchResult r (λ y. m ≡ Ok y) (λ e. IsErrAnd m (P e)) → m ≡ Ok x → r ≡ Ok x
good_before P (Ok y) m x k h = cc
good_before P (Err e) m x k h = absurd (subst (λ n. IsErrAnd n (P e)) h k)
