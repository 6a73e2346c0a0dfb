-- Laws of what a card comes to: a refusal of its own, or what the analysis hands back for its table; and of the two ends of the report.
use mathlib.Core.Path.{◌≡◌, refl, ap, sym, ◌∙◌}
use mathlib.Core.List.{List, [], ◌++◌}
use Prim.Native.Nat.{ℕ, ◌+◌, ◌*◌, ◌≤◌}
use native.Mathlib.Omega.{arith}
use lib.ListN.{length, take, drop, replicate}
use lib.Seq.{sets-eq, take_at}
use borrow.Author.Tests.{le-leb, le-ltb}
use Rattle.table.specs.Model.{limit}
use Rattle.table.proofs.Model.{limits}
use Rattle.card.specs.Card.{Judged, refused, good, judged, read_of, name_of}
use Rattle.card.specs.Promise.{ReadDone}
use Rattle.card.specs.Laid.{Laid}
use Rattle.card.specs.declared.refusal.Refused.{Refused}
use Rattle.card.specs.declared.Size.{Size}
use Rattle.card.specs.Refusal.{refusal_number, refused_number, read_equations, read_unknowns}
use Rattle.std.specs.Prelude.{Result, Ok, Err, IsErrAnd}
use Rattle.card.proofs.ListLaws.{cells_within}
use Rattle.card.proofs.WriteLaws.{laid_nothing}
use Rattle.card.proofs.Readable.{good_card}
use Rattle.card.proofs.Theorems.{ReadGood, read_good}
use Rattle.report.specs.Printed.{refused_text, PrintedOf, Printed, input_limit, Reported}
use Rattle.report.specs.Steps.{verdict_text, findings_text, Analysed, Examined}
use Rattle.report.specs.declared.Analysis.{Analysis}
use Rattle.report.specs.declared.Unfit.{Unfit}
use Rattle.report.specs.declared.Unfit.TheVariants.{Faulty}
use Rattle.report.proofs.Truth.{answered_prints}

-- what `?` makes of a refusal
pub faulty_is : {A : Type 0} (r : Result A Unfit) (why : Refused) → IsErrAnd r (λ u. u ≡ Faulty why) → r ≡ Err (Faulty why)
faulty_is (Ok a) why h = absurd h
faulty_is (Err u) why h = ap Err h

-- of a good card what is found is what the analysis hands back for its table
module _ (s name : List ℕ) (E U : ℕ) (t : List ℕ) (p : judged s ≡ good name E U t) {x y : ℕ} (e : x ≡ E) (u : y ≡ U) where
  good_found : (after rest : List ℕ) {f : Analysis} → length s ≤ input_limit → after ≡ t ++ rest → length t ≡ E * U
      → Analysed x y (take (x * y) after) f → Examined s (Ok f)
  good_found after rest {f} h b l d =
      let m = limits E U (good_card s name E U t p).fine.limits in
      let i = d.equations in
      let said : verdict_text name f.equations f.number f.answer ≡ verdict_text name E f.number f.answer = rw (i, e) in
      record {
        printed = record {
          long = λ n. absurd (omega arith);
          short = λ _. rw p (answered_prints s p
              (record { number = f.number; answer = f.answer; reply = rw (e, u, b, take_at t rest (E * U) l) at d.reply; says = said }));
        };
        within = omega (arith, m.0.high);
      }

module _ {s after : List ℕ} {r : Result Size Refused} (h : length s ≤ input_limit) (k : ReadDone s (replicate {A = ℕ} (limit * limit) 0) r after) where
  pub examined_refused : {why : Refused} → r ≡ Err why → Examined s (Err (Faulty why))
  examined_refused {why} n = record { printed = record { long = λ l. absurd (omega arith); short = λ _. go (judged s) refl }; within = tt }
    where
      go : (j : Judged) → judged s ≡ j → PrintedOf j (refused_text (refusal_number why.refusal) why.place)
      go (refused m) p =
          let same : why ≡ m = let a = k.answer ∙ ap (read_of (limit * limit)) p in cc in
          rw same
      go (good name E U t) p =
          let a : r ≡ read_of (limit * limit) (good name E U t) = k.answer ∙ ap (read_of (limit * limit)) p in
          let c = cells_within E U (good_card s name E U t p).fine.limits in
          let b : r ≡ Ok (record { equations = E; unknowns = U }) = rw (le-ltb (limit * limit) (E * U) c) at a in
          cc

  module _ {size : Size} (n : r ≡ Ok size) where
    said : ReadGood s (replicate {A = ℕ} (limit * limit) 0) r after
    said = read_good k (ap refused_number n)

    pub examined_good : {f : Analysis} → Analysed size.equations size.unknowns (take (size.equations * size.unknowns) after) f → Examined s (Ok f)
    examined_good d =
        let w = said.says in
        let rest = drop (w.E * w.U) (replicate {A = ℕ} (limit * limit) 0) in
        good_found s w.name w.E w.U w.t w.is (sym (ap read_equations n) ∙ said.equations) (sym (ap read_unknowns n) ∙ said.unknowns) after rest h said.bytes said.sized d

-- ---- the report where there is room

module _ (before : List ℕ) {s name l : List ℕ} {f : Result Analysis Unfit} {r : ℕ} (k : Examined s f) (e : name ≡ name_of (judged s))
    (m : Laid [] 0 (findings_text name f) l r) where
  printed_is : Printed s (findings_text name f)
  printed_is = rw e k.printed

  pub reported_all : {after : List ℕ} {q : ℕ} → r ≤ length (l ++ before) → Laid (l ++ before) 0 (findings_text name f) after q → Reported s before q after
  reported_all {after} {q} h w =
      let z : l ≡ [] = laid_nothing m in
      let p = m.place in
      let n : r ≤ length before = rw z at h in
      let v : Laid before 0 (findings_text name f) after q = rw z at w in
      let o : 0 + length (findings_text name f) ≡ length (findings_text name f) = omega arith in
      record {
        text = findings_text name f;
        printed = printed_is;
        size = omega (arith, v.place);
        bytes = v.list ∙ sets-eq (findings_text name f) before 0 (omega arith) ∙ rw (o, le-leb (length (findings_text name f)) (length before) (omega arith));
      }
