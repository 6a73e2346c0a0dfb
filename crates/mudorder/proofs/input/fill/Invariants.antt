-- `mudorder::input::fill` meets its contract. The invariant: what was read fits the buffer, whose length stays, and it is what the reader has given. What
-- is left of the buffer falls with each read that gives something.
use Rattle.std.proofs.Common.{length, take, ◌-◌, ◌≡◌, ◌≤◌}
use Rattle.std.specs.Io.KnownBytes.{Consumes}
use Rattle.mudorder.proofs.input.fill.Given as goal

abbrev pub invariant-loop-done : goal.invariant-loop-done
invariant-loop-done g l = record {
  stays : length l.buffer ≡ length l.initial.buffer;
  within : l.done ≤ length l.buffer;
  given : Consumes (g.R.Read.remaining l.initial.reader) (g.R.Read.remaining l.reader) (take l.done l.buffer);
}

abbrev pub decreases-loop-done : goal.decreases-loop-done
decreases-loop-done g l = length l.buffer - l.done
