-- What the functions below the entry promise one another.
use Rattle.std.specs.Prelude.{◌≡◌, Result, Ok, Err, IfOk, List, [], ◌∷◌, ◌++◌, ℕ, ◌*◌, ◌≤◌, eqb, take, drop, replicate}
use Rattle.laws.specs.Tab.{pick}
use Rattle.table.specs.Model.{limit}
use Rattle.card.specs.Card.{judged, name_of}
use Rattle.analysis.specs.Outcome.{code_in, rank_in, index_in, freedom_in, unused, answer_bytes, Reply}
use Rattle.report.specs.Printed.{field, solvable_lines, singular_lines, refused_text, Printed}
use Rattle.card.specs.Refusal.{refusal_number}
use Rattle.report.specs.declared.Analysis.{Analysis}
use Rattle.report.specs.declared.Unfit.{Unfit}
use Rattle.report.specs.declared.Unfit.TheVariants.{TooLong, Faulty}

-- ---- What the analysis handed back: the bytes of its number (`code_in`, ..), and the strips of its answer

-- the first n places of a strip; strips count from 0
abbrev pub strip_in : ℕ → ℕ → List ℕ → List ℕ
strip_in k n answer = take n (drop (k * limit) answer)

-- the places of a strip that are used: those before the first 255
abbrev pub used_in : List ℕ → List ℕ
used_in [] = []
used_in (x ∷ l) = pick (eqb x unused) [] (x ∷ used_in l)

unfoldable pub solvable_text : List ℕ → ℕ → ℕ → List ℕ → List ℕ
solvable_text name n number answer =
    solvable_lines name (index_in number) (freedom_in number) (strip_in 0 n answer) (strip_in 1 n answer) (strip_in 2 n answer)
    (strip_in 3 n answer) (strip_in 4 n answer)

unfoldable pub singular_text : List ℕ → ℕ → List ℕ → List ℕ
singular_text name number answer = singular_lines name (rank_in number) (used_in (strip_in 0 limit answer)) (used_in (strip_in 1 limit answer))

-- code 0 is solvable, any other verdict singular
abbrev pub verdict_text : List ℕ → ℕ → ℕ → List ℕ → List ℕ
verdict_text name n number answer = pick (eqb (code_in number) 0) (solvable_text name n number answer) (singular_text name number answer)

-- ---- What the functions lay, and what they hand one another

-- the rig and the verdict
abbrev pub head_text : List ℕ → List ℕ → List ℕ
head_text name verdict = field "rig=" name ++ field "verdict=" verdict

-- the number and the place of a card of which nothing is analysed
abbrev pub unfit_number : Unfit → ℕ
unfit_number TooLong = 19
unfit_number (Faulty r) = refusal_number r.refusal

abbrev pub unfit_place : Unfit → ℕ
unfit_place TooLong = 0
unfit_place (Faulty r) = r.place

-- the text of what was found
abbrev pub findings_text : List ℕ → Result Analysis Unfit → List ℕ
findings_text name (Ok a) = verdict_text name a.equations a.number a.answer
findings_text name (Err u) = refused_text (unfit_number u) (unfit_place u)

pub record Analysed (E U : ℕ) (table : List ℕ) (a : Analysis) : Type 0 where
  pub equations : a.equations ≡ E
  pub reply : Reply E U table (replicate answer_bytes 0) a.number a.answer

-- what was found is what is printed, and its equations are within the limit
pub record Examined (input : List ℕ) (r : Result Analysis Unfit) : Type 0 where
  pub printed : Printed input (findings_text (name_of (judged input)) r)
  pub within : IfOk r (λ a. a.equations ≤ limit)
