use Rattle.std.proofs.Common.{◌≡◌, ◌+◌, ◌-◌, ◌≤◌, length}
use Rattle.cells.specs.Fits.{row, first_from, first_row}
use Rattle.cells.proofs.fits.first_fit.Given as goal

abbrev pub invariant-starts : goal.invariant-starts
invariant-starts l = (l.start ≤ length l.cells) × (first_from l.cells l.size l.start (length l.cells - l.start) ≡ first_row l.cells l.size)

abbrev pub invariant-row : goal.invariant-row
invariant-row l = (l.i ≤ l.size) × (row l.cells l.start l.size ≡ row l.cells (l.start + l.i) (l.size - l.i))
