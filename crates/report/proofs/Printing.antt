-- What is printed for an input is one text, of at most 1,024 bytes: the answer to a model is one, its lists have no more places than the limit, and no number
-- more than four digits.
use mathlib.Core.Path.{◌≡◌, refl, ap, sym, ◌∙◌}
use mathlib.Core.List.{List, ◌++◌, map}
use Prim.Native.Nat.{ℕ, suc, ◌*◌, ◌≤◌}
use native.Mathlib.Omega.{arith}
use lib.Dec.{leb, ltb}
use lib.ListN.{length, get_or, drop, length-append, length-map}
use borrow.Author.Tests.{ltb-true, ltb-false}
use Rattle.laws.specs.Tab.{pick}
use Rattle.laws.proofs.Tests.{test}
use Rattle.table.specs.Model.{limit}
use Rattle.table.proofs.Model.{limits}
use Rattle.card.specs.Text.{comma}
use Rattle.card.specs.Refusal.{refusal_number}
use Rattle.card.specs.Card.{Judged, refused, good, judged}
use Rattle.card.proofs.PutLaws.{dec_short}
use Rattle.card.proofs.Readable.{good_card}
use Rattle.pairing.specs.Pairing.{Rel}
use Rattle.pairing.proofs.Sizes.{rank_one}
use Rattle.pairing.proofs.Lists.{listed_short}
use Rattle.analysis.proofs.One.{worked_one, lists_one}
use Rattle.report.specs.Printed.{commas, split_of, solvable_lines, singular_lines, refused_text, PrintsModel, solvable, singular, PrintedOf, Printed, input_limit, Reported}
use Rattle.analysis.specs.Outcome.{worked_index, worked_freedom}
use Rattle.report.proofs.TextLaws.{joined_short, none_short, place_short}
use Rattle.card.proofs.Theorems.{name_fits}

-- ---- one text

model_one : {name : List ℕ} {E U : ℕ} {edge : Rel} {ord : ℕ → ℕ → ℕ} {text text' : List ℕ}
    → PrintsModel name E U edge ord text → PrintsModel name E U edge ord text' → text ≡ text'
model_one (solvable _ p) (solvable _ q) =
    let s = worked_one p.worked q.worked in p.says ∙ (rw (s.counts, s.tops, s.partner, s.order, s.block)) ∙ sym q.says
model_one (solvable s _) (singular n _) = absurd (n s)
model_one (singular n _) (solvable s _) = absurd (n s)
model_one (singular _ p) (singular _ q) =
    let s = lists_one p.lists q.lists in p.says ∙ (rw (rank_one p.ranked q.ranked, s.0, s.1)) ∙ sym q.says

-- any two texts that are printed for one input are the same
pub one_text : {input text text' : List ℕ} → Printed input text → Printed input text' → text ≡ text'
one_text {input} {text} {text'} a b =
    test (ltb input_limit (length input))
    (λ t. let h = ltb-true input_limit (length input) t in a.long h ∙ sym (b.long h))
    (λ t. let h = ltb-false input_limit (length input) t in go (judged input) (a.short h) (b.short h))
  where
    go : (j : Judged) → PrintedOf j text → PrintedOf j text' → text ≡ text'
    go (refused m) x y = x ∙ sym y
    go (good name E U t) x y = model_one x y

-- and so are any two reports
pub one_report : {input before after after' : List ℕ} {handed handed' : ℕ} → Reported input before handed after → Reported input before handed' after'
    → (handed ≡ handed') × (after ≡ after')
one_report {input} {before} a b =
    let same = one_text a.printed b.printed in (
      a.size ∙ ap length same ∙ sym b.size,
      a.bytes ∙ ap (λ t. pick (leb (length t) (length before)) (t ++ drop (length t) before) before) same ∙ sym b.bytes,
    )

-- ---- how long

refused_short : (m at : ℕ) → length (refused_text m at) ≤ 1024
unfolding refused_text
refused_short m at = simp length-append (omega (arith, dec_short m, place_short at))

singular_short : (name : List ℕ) (rank : ℕ) (a b : List ℕ) → length name ≤ 24 → length a ≤ limit → length b ≤ limit → length (singular_lines name rank a b) ≤ 1024
singular_short name rank a b h i j = simp length-append (omega (arith, dec_short rank, none_short a, none_short b))

solvable_short : (name : List ℕ) (index freedom : ℕ) (a b c d e : List ℕ) → length name ≤ 24
    → length a ≤ limit → length b ≤ limit → length c ≤ limit → length d ≤ limit → length (solvable_lines name index freedom a b c d e) ≤ 1024
solvable_short name index freedom a b c d e h i j k l =
    let commas-short : (l : List ℕ) → length (commas l) ≤ 5 * length l = joined_short (λ _. comma) in
    let blocks-short = joined_short (λ i. split_of (get_or e i 0) (get_or e (suc i) 0)) d in
    simp length-append (omega (arith, dec_short index, dec_short freedom, commas-short a, commas-short b, commas-short c, blocks-short))

model_short : {name : List ℕ} {E U : ℕ} {edge : Rel} {ord : ℕ → ℕ → ℕ} {text : List ℕ} → length name ≤ 24 → E ≤ limit → U ≤ limit
    → PrintsModel name E U edge ord text → length text ≤ 1024
model_short {name} h e u (solvable _ p) =
    let w = p.worked in
    let z = w.sizes in
    rw p.says (solvable_short name (worked_index w) (worked_freedom w) w.counts w.tops (map suc w.partner) (map suc w.order) w.block h
    (omega arith) (omega arith) (rw (length-map w.partner suc) (omega arith)) (rw (length-map w.order suc) (omega arith)))
model_short {name} h e u (singular _ p) =
    let k = p.lists in
    rw p.says (singular_short name p.rank (map suc k.surplus) (map suc k.unfixed) h
    (rw (length-map k.surplus suc) (omega (arith, listed_short k.all_surplus))) (rw (length-map k.unfixed suc) (omega (arith, listed_short k.all_unfixed))))

-- every printed text has at most 1,024 bytes
pub text_short : {input text : List ℕ} → Printed input text → length text ≤ 1024
text_short {input} {text} p =
    test (ltb input_limit (length input))
    (λ t. rw (p.long (ltb-true input_limit (length input) t)) (refused_short 19 0))
    (λ t. go (judged input) refl (p.short (ltb-false input_limit (length input) t)))
  where
    go : (j : Judged) → judged input ≡ j → PrintedOf j text → length text ≤ 1024
    go (refused r) q w = rw w (refused_short (refusal_number r.refusal) r.place)
    go (good name E U t) q p =
        let m = limits E U (good_card input name E U t q).fine.limits in
        model_short (rw q at (name_fits input)) m.0.high m.1.high p

pub report_short : {input before after : List ℕ} {handed : ℕ} → Reported input before handed after → handed ≤ 1024
report_short k = rw k.size (text_short k.printed)
