-- What judging a lent table of n equations and n unknowns comes to.
-- A type that the code declares: Unpaired. `Misshapen`: the bytes are no such table, or a code is above 4; `Singular rank`: not all can be paired
use Rattle.std.specs.Prelude.{◌≡◌, Bool, true, false, ◌&&◌, Result, Ok, Err, List, ℕ, eqb, length}
use Rattle.table.specs.Model.{well_sized, first_above, occurs_at, rows_of}
use Rattle.table.specs.declared.rows.Table.{Table}
use Rattle.pairing.specs.Pairing.{Rank}
use Rattle.counts.specs.Work.{PairableTable}
use Rattle.shown.specs.declared.judged.Unpaired.{Unpaired}
use Rattle.shown.specs.declared.judged.Unpaired.TheVariants.{Misshapen, Singular}

-- bytes that are such a table, with no code above 4
abbrev pub well_formed : ℕ → List ℕ → Bool
well_formed n bytes = well_sized n n bytes && eqb (first_above bytes) (length bytes)

-- the table where all can be paired; else why not, with the size of a largest pairing
abbrev pub IsPaired : ℕ → List ℕ → Result Table Unpaired → Type 0
IsPaired n bytes (Ok t) = (well_formed n bytes ≡ true) × (t.equations ≡ n) × (t.rows ≡ rows_of n n bytes) × PairableTable t
IsPaired n bytes (Err Misshapen) = well_formed n bytes ≡ false
IsPaired n bytes (Err (Singular rank)) =
    (well_formed n bytes ≡ true) × Rank n n (occurs_at (rows_of n n bytes)) rank × (rank ≡ n → ⊥)
