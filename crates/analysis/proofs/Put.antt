-- Five stretches of a buffer, lent one after the other and each filled with a strip: the strips in order, and behind them what stood there before.
use mathlib.Core.Path.{◌≡◌, sym}
use mathlib.Core.List.{List, ◌++◌, append_assoc}
use Prim.Native.Nat.{ℕ, ◌+◌, ◌*◌}
use native.Mathlib.Omega.{arith}
use lib.ListN.{length, drop, length-append}
use lib.Seq.{take_at, drop_at, drop-drop}
use borrow.Rule.Slice.PartMut.{put_mid, post_of}
use Rattle.table.specs.Model.{limit}
use Rattle.analysis.specs.Outcome.{strip, strips, answer_bytes}
use Rattle.analysis.proofs.Strips.{strip_length}

-- what is filled so far has a places; the next stretch is filled with y
put_next : (p l y : List ℕ) (a : ℕ) → length p ≡ a → put_mid a limit (p ++ drop a l) y ≡ (p ++ y) ++ drop (a + limit) l
put_next p l y a e = rw (take_at p (drop a l) a e, drop_at p (drop a l) a e, drop-drop limit a l) (sym (append_assoc p y (drop (a + limit) l)))

longer : (p : List ℕ) (l : List ℕ) (a : ℕ) → length p ≡ a → length (p ++ strip l) ≡ a + limit
longer p l a e = let s = strip_length l in let q = length-append p (strip l) in omega arith

pub put_five : (before a b c d e : List ℕ) {s t u v w : List ℕ} → s ≡ strip a → t ≡ strip b → u ≡ strip c → v ≡ strip d → w ≡ strip e
    → put_mid (4 * limit) limit (put_mid (3 * limit) limit (put_mid (2 * limit) limit (put_mid limit limit (s ++ post_of 0 limit before) t) u) v) w
    ≡ strips a b c d e ++ drop answer_bytes before
put_five before a b c d e p q r x y = rw (
  p,
  q,
  r,
  x,
  y,
  put_next (strip a) before (strip b) limit (strip_length a),
  put_next (strip a ++ strip b) before (strip c) (2 * limit) two,
  put_next ((strip a ++ strip b) ++ strip c) before (strip d) (3 * limit) three,
  put_next (((strip a ++ strip b) ++ strip c) ++ strip d) before (strip e) (4 * limit) four,
) (simp append_assoc)
  where
    two : length (strip a ++ strip b) ≡ 2 * limit
    two = longer (strip a) b limit (strip_length a)

    three : length ((strip a ++ strip b) ++ strip c) ≡ 3 * limit
    three = longer (strip a ++ strip b) c (2 * limit) two

    four : length (((strip a ++ strip b) ++ strip c) ++ strip d) ≡ 4 * limit
    four = longer ((strip a ++ strip b) ++ strip c) d (3 * limit) three
