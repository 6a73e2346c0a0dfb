-- What the report's promise comes to, of any outcome that meets it. With room for all of it the first bytes are the lines of the card's model, and
-- `verdict=solvable` stands there exactly if the model is solvable. A good card is never above the input limit, so 19 does not come in between.
use mathlib.Core.Path.{◌≡◌, refl, ap, sym, ◌∙◌}
use mathlib.Core.Bool.{true}
use mathlib.Core.List.{List, [], ◌∷◌, ◌++◌}
use mathlib.Core.Logic.{◌↔◌}
use Prim.Native.Nat.{ℕ, ◌≤◌}
use native.Mathlib.Omega.{arith}
use lib.ListN.{length, take, drop}
use lib.Seq.{take_at, drop_at}
use borrow.Author.Tests.{eq-eqb, le-leb}
use Rattle.laws.specs.Text.{bytes}
use Rattle.laws.proofs.Tests.{clash}
use Rattle.table.specs.Model.{occurs_at, order_at, rows_of}
use Rattle.pairing.specs.Pairing.{Rel, Solvable}
use Rattle.card.specs.Text.{begins}
use Rattle.card.specs.declared.refusal.Refused.{Refused}
use Rattle.card.specs.Refusal.{refusal_number}
use Rattle.card.specs.Card.{refused, good, judged}
use Rattle.card.proofs.Readable.{good_card}
use Rattle.card.proofs.Longest.{card_length}
use Rattle.report.specs.Printed.{field, refused_text, PrintsSolvable, PrintsSingular, PrintsModel, solvable, singular, input_limit, Printed, Reported}
use Rattle.report.specs.Steps.{head_text}
use Rattle.report.proofs.Printing.{one_text}

-- ---- the two verdicts of a model

module _ {name : List ℕ} {E U : ℕ} {edge : Rel} {ord : ℕ → ℕ → ℕ} {text : List ℕ} where
  if_solvable : PrintsModel name E U edge ord text → Solvable E U edge → PrintsSolvable name E edge ord text
  if_solvable (solvable _ p) s = p
  if_solvable (singular n _) s = absurd (n s)

  if_singular : PrintsModel name E U edge ord text → (Solvable E U edge → ⊥) → PrintsSingular name E U edge text
  if_singular (solvable s _) n = absurd (n s)
  if_singular (singular _ p) n = p

begins_both : (a b c : List ℕ) → begins (a ++ b) (a ++ c) ≡ begins b c
begins_both [] b c = refl
begins_both (x ∷ a) b c = rw (eq-eqb x x refl) (begins_both a b c)

-- each verdict stands there exactly if it is the model's
heads_solvable : {name : List ℕ} {E U : ℕ} {edge : Rel} {ord : ℕ → ℕ → ℕ} {text : List ℕ} → PrintsModel name E U edge ord text
    → (begins (head_text name (bytes "solvable")) text ≡ true) ↔ Solvable E U edge
heads_solvable {name} (solvable s p) = (λ _. s, λ _. rw p.says (begins_both (field "rig=" name) _ _))
heads_solvable {name} (singular n p) = (λ b. clash b (rw p.says (begins_both (field "rig=" name) _ _)), λ s. absurd (n s))

heads_singular : {name : List ℕ} {E U : ℕ} {edge : Rel} {ord : ℕ → ℕ → ℕ} {text : List ℕ} → PrintsModel name E U edge ord text
    → (begins (head_text name (bytes "singular")) text ≡ true) ↔ (Solvable E U edge → ⊥)
heads_singular {name} (solvable s p) = (λ b. clash b (rw p.says (begins_both (field "rig=" name) _ _)), λ n. absurd (n s))
heads_singular {name} (singular n p) = (λ _. n, λ _. rw p.says (begins_both (field "rig=" name) _ _))

-- ---- any outcome of the report

-- a good card is within the input limit
good_short : (input name : List ℕ) (E U : ℕ) (t : List ℕ) → judged input ≡ good name E U t → length input ≤ input_limit
good_short input name E U t q =
    let c = good_card input name E U t q in rw c.bytes (omega (arith, card_length name E U t c.fine))

module _ {input before after : List ℕ} {handed : ℕ} (r : Reported input before handed after) where
  -- where there is room for a text that is printed, that text is left and its length handed back
  pub leaves : {text : List ℕ} → Printed input text → length text ≤ length before → (handed ≡ length text) × (after ≡ text ++ drop (length text) before)
  leaves {text} p h =
      let same : r.text ≡ text = one_text r.printed p in
      (r.size ∙ ap length same, r.bytes ∙ rw (same, le-leb (length text) (length before) h))

  module _ (room : handed ≤ length before) where
    -- the first bytes, as many as were handed back, are the text
    first_bytes : take handed after ≡ r.text
    first_bytes = let (s, b) = leaves r.printed (let z = r.size in omega arith) in rw b (take_at r.text _ handed (sym s))

    pub handed_length : length (take handed after) ≡ handed
    handed_length = rw first_bytes (sym r.size)

    -- and the others are as before
    pub other_bytes : drop handed after ≡ drop handed before
    other_bytes = let (s, b) = leaves r.printed (let z = r.size in omega arith) in rw (b, s) (drop_at r.text _ (length r.text) refl)

    -- of a card that is refused: its number and place
    pub prints_refused : {why : Refused} → length input ≤ input_limit → judged input ≡ refused why
        → take handed after ≡ refused_text (refusal_number why.refusal) why.place
    prints_refused h q = first_bytes ∙ rw q at (r.printed.short h)

    module _ {name t : List ℕ} {E U : ℕ} (q : judged input ≡ good name E U t) where
      -- of a good card: the lines of its model
      pub prints_model : PrintsModel name E U (occurs_at (rows_of E U t)) (order_at (rows_of E U t)) (take handed after)
      prints_model = rw first_bytes (rw q at (r.printed.short (good_short input name E U t q)))

      pub prints_solvable : Solvable E U (occurs_at (rows_of E U t)) → PrintsSolvable name E (occurs_at (rows_of E U t)) (order_at (rows_of E U t)) (take handed after)
      prints_solvable = if_solvable prints_model

      pub prints_singular : (Solvable E U (occurs_at (rows_of E U t)) → ⊥) → PrintsSingular name E U (occurs_at (rows_of E U t)) (take handed after)
      prints_singular = if_singular prints_model

      -- `verdict=solvable` is printed exactly if some pairing takes in all equations and all unknowns, `verdict=singular` exactly if none does
      pub solvable_exactly : (begins (head_text name (bytes "solvable")) (take handed after) ≡ true) ↔ Solvable E U (occurs_at (rows_of E U t))
      solvable_exactly = heads_solvable prints_model

      pub singular_exactly : (begins (head_text name (bytes "singular")) (take handed after) ≡ true) ↔ (Solvable E U (occurs_at (rows_of E U t)) → ⊥)
      singular_exactly = heads_singular prints_model

-- ---- this text and no other

-- it is printed, whatever is printed is it, and any report with room for it hands back its length and leaves its bytes in front
pub record PrintsOnly (input text : List ℕ) : Type 0 where
  pub printed : Printed input text
  pub only : (other : List ℕ) → Printed input other → other ≡ text
  pub reported : {before after : List ℕ} {handed : ℕ} → Reported input before handed after → length text ≤ length before
      → (handed ≡ length text) × (after ≡ text ++ drop (length text) before)

pub prints_only : {input text : List ℕ} → Printed input text → PrintsOnly input text
prints_only p = record { printed = p; only = λ _ o. one_text o p; reported = λ r h. leaves r p h }
