-- A table of full size to run on.
use Rattle.std.specs.Prelude.{List, ℕ, ◌+◌, ◌*◌, ◌/◌, ◌%◌, eqb}
use Rattle.laws.specs.Tab.{tab, pick}
use Rattle.table.specs.Model.{limit}

-- a band, at equation place e and unknown place u: each equation has its own unknown with code 1, the next one with code `next` and the one
-- before with code `before`; the last equation has its own with code `last`, and the first one, which comes next round the end, with code `corner`
abbrev pub band_code : ℕ → ℕ → ℕ → ℕ → ℕ → ℕ → ℕ
band_code next before corner last e u =
    pick (eqb u (e + 1)) next
    (pick (eqb e (u + 1)) before
    (pick (eqb e u) (pick (eqb (e + 1) limit) last 1)
    (pick (eqb (e + 1) (u + limit)) corner 0)))

-- as it is lent: limit rows of limit codes, row by row
abbrev pub band_table : ℕ → ℕ → ℕ → ℕ → List ℕ
band_table next before corner last = tab (limit * limit) (λ at. band_code next before corner last (at / limit) (at % limit))
