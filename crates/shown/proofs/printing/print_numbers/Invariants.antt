-- `printing::print_numbers`: so many of the numbers stand behind what the writer held.
use Rattle.std.specs.Io.KnownBytes.{Appends}
use Rattle.shown.specs.Printing.{listed}
use Rattle.shown.proofs.printing.print_numbers.Given as goal

abbrev pub invariant-loop-i : goal.invariant-loop-i
invariant-loop-i g l = Appends (g.W.Write.contents l.initial.out) (g.W.Write.contents l.out) (listed l.split l.numbers l.i)
