-- Lines there and back: what a line says is what was written into it, and nothing else; a text is its lines with an LF behind each.
use mathlib.Core.Path.{◌≡◌, refl, ap, sym, ◌∙◌}
use mathlib.Core.Bool.{Bool, true, false, not}
use mathlib.Core.List.{List, [], ◌∷◌, ◌++◌, append_assoc, append-nil}
use Prim.Native.Nat.{ℕ, ◌+◌, ◌≤◌}
use native.Mathlib.Omega.{arith}
use lib.Dec.{eqb}
use lib.ListN.{length, drop, drop_of_length-le}
use lib.Seq.{drop-append_seam, drop-append-add, drop-drop}
use borrow.Author.Tests.{eq-eqb, ne_eqb, eqb-true}
use Rattle.laws.proofs.Tests.{test, clash, and_left, and_right, and_both}
use Rattle.std.specs.Prelude.{Option, None, Some}
use Rattle.card.specs.Text.{LF, comma, occurs_key, end_key, begins, is_digit, number, number_of, dec, Lines, none, cut, line, grown, lines_of}
use Rattle.std.specs.List.{list_all}
use Rattle.std.proofs.lemmas.List.Folds.{list_all-append}
use Rattle.card.specs.Entry.{occurrence, name_byte, alone, whole_of, value_of, with_comma, comma_of, order_of, unknown_of, equation_of, triple_of, ended, entry_of}
use Rattle.card.specs.declared.text.Number.{Number}
use Rattle.card.specs.declared.entry.Entry.TheVariants.{Occurs, End}
use Rattle.card.proofs.EntryLaws.{entry_end}
use Rattle.card.proofs.Numbers.{number_dec, number_is, dec_digits}

-- ---- what was written is read

pub begins_key : (key s : List ℕ) → begins key (key ++ s) ≡ true
begins_key [] s = refl
begins_key (k ∷ key) s = and_both (eq-eqb k k refl) (begins_key key s)

number_whole : (n : ℕ) → n ≤ 9999 → number_of (dec n) ≡ Some (number n (length (dec n)))
number_whole n h = ap number_of (sym (append-nil (dec n))) ∙ number_dec n [] h refl

pub whole_dec : (n : ℕ) → n ≤ 9999 → whole_of (dec n) ≡ Some n
whole_dec n h = rw (number_whole n h, eq-eqb (length (dec n)) (length (dec n)) refl)

pub value_dec : (key : List ℕ) (n : ℕ) → n ≤ 9999 → value_of key (key ++ dec n) ≡ Some n
value_dec key n h = rw (begins_key key (dec n), drop-append_seam key (dec n)) (whole_dec n h)

comma_dec : (n : ℕ) (s : List ℕ) → n ≤ 9999 → comma_of (dec n ++ comma ∷ s) ≡ Some (number n (length (dec n) + 1))
comma_dec n s h = rw (number_dec n (comma ∷ s) h refl, drop-append_seam (dec n) (comma ∷ s))

comma_behind : (n : ℕ) (s : List ℕ) → drop (length (dec n) + 1) (dec n ++ comma ∷ s) ≡ s
comma_behind n s = drop-append-add (dec n) (comma ∷ s) 1

triple_dec : (e u k : ℕ) → e ≤ 9999 → u ≤ 9999 → k ≤ 9999 → triple_of (dec e ++ comma ∷ (dec u ++ comma ∷ dec k)) ≡ Some (Occurs (occurrence e u k))
triple_dec e u k a b c =
    rw (comma_dec e (dec u ++ comma ∷ dec k) a, comma_behind e (dec u ++ comma ∷ dec k), comma_dec u (dec k) b, comma_behind u (dec k), whole_dec k c)

occurs_right : (e u k : ℕ) → dec e ++ comma ∷ dec u ++ comma ∷ dec k ≡ dec e ++ comma ∷ (dec u ++ comma ∷ dec k)
occurs_right e u k = append_assoc (dec e) (comma ∷ dec u) (comma ∷ dec k)

pub entry_occurs : (e u k : ℕ) → e ≤ 9999 → u ≤ 9999 → k ≤ 9999 → entry_of (occurs_key ++ dec e ++ comma ∷ dec u ++ comma ∷ dec k) ≡ Some (Occurs (occurrence e u k))
entry_occurs e u k a b c = ap triple_of (occurs_right e u k) ∙ triple_dec e u k a b c

pub entry_ended : (n : ℕ) → n ≤ 9999 → entry_of (end_key ++ dec n) ≡ Some (End n)
entry_ended n h = ap ended (value_dec end_key n h)

-- ---- what is read was written

pub begins_is : (key s : List ℕ) → begins key s ≡ true → s ≡ key ++ drop (length key) s
begins_is [] s h = refl
begins_is (k ∷ key) [] h = clash {b = false} h refl
begins_is (k ∷ key) (b ∷ s) h =
    let e : k ≡ b = eqb-true k b (and_left (eqb k b) (begins key s) h) in
    let r = begins_is key s (and_right (eqb k b) (begins key s) h) in
    cc

pub whole_is : (s : List ℕ) (n : ℕ) → whole_of s ≡ Some n → (s ≡ dec n) × (n ≤ 9999)
whole_is s n e = go (number_of s) refl e
  where
    go : (v : Option Number) → number_of s ≡ v → alone (length s) v ≡ Some n → (s ≡ dec n) × (n ≤ 9999)
    go None p q = cc
    go (Some d) p q =
        test (eqb d.took (length s))
        (λ h.
        let f : Some d.value ≡ Some n = rw h at q in
        let y : d.value ≡ n = cc in
        let k = number_is s d.value d.took p in
        let x : d.took ≡ length s = eqb-true d.took (length s) h in
        let z : drop d.took s ≡ [] = drop_of_length-le s {i = d.took} (omega arith) in
        (k.is ∙ ap (λ l. dec d.value ++ l) z ∙ append-nil (dec d.value) ∙ ap dec y, let l = k.small in omega arith))
        (λ h. let f : None ≡ Some n = rw h at q in cc)

pub value_is : (key s : List ℕ) (n : ℕ) → value_of key s ≡ Some n → (s ≡ key ++ dec n) × (n ≤ 9999)
value_is key s n e =
    test (begins key s)
    (λ h. let k = whole_is (drop (length key) s) n (rw h at e) in (begins_is key s h ∙ ap (λ l. key ++ l) k.0, k.1))
    (λ h. let f : None ≡ Some n = rw h at e in cc)

comma_is : (s : List ℕ) (d : Number) → comma_of s ≡ Some d → (s ≡ dec d.value ++ comma ∷ drop d.took s) × (d.value ≤ 9999)
comma_is s d e = go (number_of s) refl e
  where
    go : (v : Option Number) → number_of s ≡ v → with_comma s v ≡ Some d → (s ≡ dec d.value ++ comma ∷ drop d.took s) × (d.value ≤ 9999)
    go None p q = cc
    go (Some r) p q =
        test (begins (comma ∷ []) (drop r.took s))
        (λ h.
        let f : Some (number r.value (r.took + 1)) ≡ Some d = rw h at q in
        let y : number r.value (r.took + 1) ≡ d = cc in
        let k = number_is s r.value r.took p in
        let z : drop r.took s ≡ comma ∷ drop (r.took + 1) s = begins_is (comma ∷ []) (drop r.took s) h ∙ ap (λ l. comma ∷ l) (drop-drop 1 r.took s) in
        rw (← y) (k.is ∙ ap (λ l. dec r.value ++ l) z, let l = k.small in omega arith))
        (λ h. let f : None ≡ Some d = rw h at q in cc)

-- three numbers of an occurs line
pub record Triple (s : List ℕ) (e u k : ℕ) : Type 0 where
  pub is : s ≡ dec e ++ comma ∷ (dec u ++ comma ∷ dec k)

triple_is : (s : List ℕ) (e u k : ℕ) → triple_of s ≡ Some (Occurs (occurrence e u k)) → Triple s e u k
triple_is s e u k q = first (comma_of s) refl q
  where
    third : (a b : Number) → comma_of s ≡ Some a → comma_of (drop a.took s) ≡ Some b
        → (v : Option ℕ) → whole_of (drop b.took (drop a.took s)) ≡ v → order_of a.value b.value v ≡ Some (Occurs (occurrence e u k)) → Triple s e u k
    third a b p r None w q = cc
    third a b p r (Some h) w q =
        let o : occurrence a.value b.value h ≡ occurrence e u k = cc in
        let x : a.value ≡ e = ap (λ o. o.equation) o in
        let y : b.value ≡ u = ap (λ o. o.unknown) o in
        let z : h ≡ k = ap (λ o. o.order) o in
        let l : drop b.took (drop a.took s) ≡ dec h = (whole_is (drop b.took (drop a.took s)) h w).0 in
        let m : drop a.took s ≡ dec b.value ++ comma ∷ drop b.took (drop a.took s) = (comma_is (drop a.took s) b r).0 in
        let n : s ≡ dec a.value ++ comma ∷ drop a.took s = (comma_is s a p).0 in
        record { is = cc }

    second : (a : Number) → comma_of s ≡ Some a → (v : Option Number) → comma_of (drop a.took s) ≡ v
        → unknown_of a.value (drop a.took s) v ≡ Some (Occurs (occurrence e u k)) → Triple s e u k
    second a p None r q = cc
    second a p (Some b) r q = third a b p r (whole_of (drop b.took (drop a.took s))) refl q

    first : (v : Option Number) → comma_of s ≡ v → equation_of s v ≡ Some (Occurs (occurrence e u k)) → Triple s e u k
    first None p q = cc
    first (Some a) p q = second a p (comma_of (drop a.took s)) refl q

pub entry_occurs_is : (s : List ℕ) (e u k : ℕ) → entry_of s ≡ Some (Occurs (occurrence e u k)) → s ≡ occurs_key ++ dec e ++ comma ∷ dec u ++ comma ∷ dec k
entry_occurs_is s e u k q =
    test (begins end_key s)
    (λ h. ended_occurs (value_of end_key s) (entry_end s h ∙ q))
    (λ h. test (begins occurs_key s)
    (λ o.
    let t : triple_of (drop (length occurs_key) s) ≡ Some (Occurs (occurrence e u k)) = rw (h, o) at q in
    begins_is occurs_key s o ∙ ap (λ l. occurs_key ++ l) ((triple_is (drop (length occurs_key) s) e u k t).is ∙ sym (occurs_right e u k)))
    (λ o. let f : None ≡ Some (Occurs (occurrence e u k)) = rw (h, o) at q in cc))
  where
    ended_occurs : (v : Option ℕ) → ended v ≡ Some (Occurs (occurrence e u k)) → s ≡ occurs_key ++ dec e ++ comma ∷ dec u ++ comma ∷ dec k
    ended_occurs None q = cc
    ended_occurs (Some n) q = cc

pub entry_end_is : (s : List ℕ) (n : ℕ) → entry_of s ≡ Some (End n) → s ≡ end_key ++ dec n
entry_end_is s n q =
    test (begins end_key s)
    (λ h. ended_end (value_of end_key s) refl (entry_end s h ∙ q))
    (λ h. test (begins occurs_key s)
    (λ o. let t : triple_of (drop (length occurs_key) s) ≡ Some (End n) = rw (h, o) at q in triple_end (drop (length occurs_key) s) t)
    (λ o. let f : None ≡ Some (End n) = rw (h, o) at q in cc))
  where
    ended_end : (v : Option ℕ) → value_of end_key s ≡ v → ended v ≡ Some (End n) → s ≡ end_key ++ dec n
    ended_end None p q = cc
    ended_end (Some m) p q = let z : m ≡ n = cc in (value_is end_key s m p).0 ∙ ap (λ i. end_key ++ dec i) z

    triple_end : (x : List ℕ) → triple_of x ≡ Some (End n) → s ≡ end_key ++ dec n
    triple_end x q = first (comma_of x) q
      where
        third : (f g : ℕ) (v : Option ℕ) → order_of f g v ≡ Some (End n) → s ≡ end_key ++ dec n
        third f g None q = cc
        third f g (Some h) q = cc

        second : (f : ℕ) (y : List ℕ) (v : Option Number) → unknown_of f y v ≡ Some (End n) → s ≡ end_key ++ dec n
        second f y None q = cc
        second f y (Some b) q = third f b.value (whole_of (drop b.took y)) q

        first : (v : Option Number) → equation_of x v ≡ Some (End n) → s ≡ end_key ++ dec n
        first None q = cc
        first (Some a) q = second a.value (drop a.took x) (comma_of (drop a.took x)) q

-- ---- a text and its lines

-- no LF among the bytes
abbrev clear : ℕ → Bool
clear b = not (eqb b LF)

pub lines_of_lem : (l s : List ℕ) → list_all clear l ≡ true → lines_of (l ++ LF ∷ s) ≡ line l (lines_of s)
lines_of_lem [] s h = refl
lines_of_lem (b ∷ l) s h =
    let c = and_left (clear b) (list_all clear l) h in
    let n : eqb b LF ≡ false = test (eqb b LF) (λ t. clash {b = clear b} c (rw t)) (λ f. f) in
    rw (n, lines_of_lem l s (and_right (clear b) (list_all clear l) h))

unfoldable pub text_of : Lines → List ℕ
text_of none = []
text_of (cut l) = l
text_of (line l rest) = l ++ LF ∷ text_of rest

pub text_lines : (s : List ℕ) → text_of (lines_of s) ≡ s
unfolding text_of
text_lines [] = refl
text_lines (b ∷ s) =
    test (eqb b LF)
    (λ t. rw (t, text_lines s, eqb-true b LF t))
    (λ f. rw f (go (lines_of s) ∙ ap (λ l. b ∷ l) (text_lines s)))
  where
    go : (ls : Lines) → text_of (grown b ls) ≡ b ∷ text_of ls
    go none = refl
    go (cut l) = refl
    go (line l rest) = refl

pub every_append : (p : ℕ → Bool) (s t : List ℕ) → list_all p s ≡ true → list_all p t ≡ true → list_all p (s ++ t) ≡ true
every_append p s t a b = rw (list_all-append p s t, a, b)

every_imp : (p q : ℕ → Bool) → ((x : ℕ) → p x ≡ true → q x ≡ true) → (s : List ℕ) → list_all p s ≡ true → list_all q s ≡ true
every_imp p q f [] h = refl
every_imp p q f (x ∷ s) h = and_both (f x (and_left (p x) (list_all p s) h)) (every_imp p q f s (and_right (p x) (list_all p s) h))

-- LF is no digit and no byte of a name
digit_clear : (b : ℕ) → is_digit b ≡ true → clear b ≡ true
digit_clear b h = rw (ne_eqb b LF (λ e. clash {b = is_digit LF} (rw e at h) refl))

name_clear : (b : ℕ) → name_byte b ≡ true → clear b ≡ true
name_clear b h = rw (ne_eqb b LF (λ e. clash {b = name_byte LF} (rw e at h) refl))

dec_clear : (n : ℕ) → n ≤ 9999 → list_all clear (dec n) ≡ true
dec_clear n h = every_imp is_digit clear digit_clear (dec n) (dec_digits n h)

-- the lines that are written have no LF inside
pub rig_clear : (key name : List ℕ) → list_all clear key ≡ true → list_all name_byte name ≡ true → list_all clear (key ++ name) ≡ true
rig_clear key name a h = every_append clear key name a (every_imp name_byte clear name_clear name h)

pub value_clear : (key : List ℕ) (n : ℕ) → list_all clear key ≡ true → n ≤ 9999 → list_all clear (key ++ dec n) ≡ true
value_clear key n a h = every_append clear key (dec n) a (dec_clear n h)

pub occurs_clear : (e u k : ℕ) → e ≤ 9999 → u ≤ 9999 → k ≤ 9999 → list_all clear (occurs_key ++ dec e ++ comma ∷ dec u ++ comma ∷ dec k) ≡ true
occurs_clear e u k a b c = every_append clear (dec e ++ comma ∷ dec u) (comma ∷ dec k)
    (every_append clear (dec e) (comma ∷ dec u) (dec_clear e a) (dec_clear u b)) (dec_clear k c)
