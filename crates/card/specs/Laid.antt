-- What the functions that lay bytes into a buffer promise.
-- A type that the code declares: Sheet, a lent buffer and the place of its next byte.
use Rattle.std.specs.Prelude.{◌≡◌, List, ℕ, ◌+◌, length}
use Rattle.std.proofs.lemmas.List.Edits.{sets}
use Rattle.card.specs.declared.put.Sheet.{Sheet}

-- bytes laid into a buffer from a place on, as far as there is room, and the place behind them
pub record Laid (before : List ℕ) (at : ℕ) (bytes after : List ℕ) (next : ℕ) : Type 0 where
  pub list : after ≡ sets before at bytes
  pub place : next ≡ at + length bytes

-- the same of a sheet, whose buffer is still the one that was lent (its ghost name says which)
pub record LaidOn (before : Sheet) (bytes : List ℕ) (after : Sheet) : Type 0 where
  pub same : after.buffer.ghost_name ≡ before.buffer.ghost_name
  pub laid : Laid before.buffer.now before.at bytes after.buffer.now after.at
