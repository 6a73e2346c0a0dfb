-- Laws of the reader's and the name question's last steps: what the lines come to, and what is handed back of it.
use mathlib.Core.Path.{sym, ◌≡◌, refl, ap, ◌∙◌}
use mathlib.Core.Bool.{false}
use mathlib.Core.List.{List}
use Prim.Native.Nat.{ℕ, ◌+◌, ◌-◌, ◌≤◌}
use native.Mathlib.Omega.{arith}
use denote.Ref.{Bor}
use lib.ListN.{length, take, drop}
use Rattle.std.proofs.lemmas.List.{drop-take}
use Rattle.card.specs.Text.{rig_key}
use Rattle.std.specs.Prelude.{Result, Ok, Err, is_err}
use Rattle.card.specs.declared.refusal.Refused.{Refused}
use Rattle.card.specs.declared.head.Head.{Head}
use Rattle.card.specs.Promise.{NamePart}
use Rattle.card.specs.Steps.{from_head, HeadRead, ListRead}

-- ---- where the name lies

part_name : (s : List ℕ) (end : ℕ) → 4 ≤ end → take (end - 4) (drop 4 s) ≡ drop 4 (take end s)
part_name s end h =
    let z : 4 + (end - 4) ≡ end = omega arith in
    sym (ap (λ n. drop 4 (take n s)) (sym z) ∙ drop-take {X = ℕ} 4 (end - 4) s)

-- the name of a good card
pub name_good : {card : Bor (List ℕ)} {q : Result Head Refused} {h : Head} {p : ℕ} (r : Result (List ℕ) Refused) → HeadRead card.now q → q ≡ Ok h
    → ListRead card.now h.limits.equations h.limits.unknowns h.next r → is_err r ≡ false → p ≡ 4 + card.ref_ptr.1
    → NamePart card (record { ref_ptr = (card.ref_ptr.0, p); now = take (h.name_end - 4) (drop 4 card.now) })
name_good (Err m) k e l f z = cc
name_good {card} {q} {h} (Ok t) k e l f z =
    let w = k.same ∙ ap (from_head card.now) e ∙ l.same (drop (length rig_key) (take h.name_end card.now)) in
    record { bytes = rw w (part_name card.now h.name_end (rw e at k.fits).0); block = refl; place = rw w z }
