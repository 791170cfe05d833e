use Rattle.std.proofs.Common.{◌≡◌, ◌+◌, ◌-◌, true, false, length, sym, ap, ◌∙◌, arith}
use Rattle.cells.specs.Fits.{row, first_from, first_row, dead_at}
use Rattle.cells.proofs.Places.{row_more, row_none, dead_past, dead_read, start_ends, from_here, from_none}
use Rattle.cells.proofs.fits.first_fit.Goals as goal
use Rattle.cells.proofs.fits.first_fit.Goals.{then-i-cells-via-then-i-cells, then-i-cells-via-else-i-cells+then-ne}

pub starts-init : goal.starts-init
unfolding first_row
starts-init c = (omega arith, ap (first_from c.args.cells.now c.args.size 0) (omega arith))

pub starts-preserved : goal.starts-preserved
starts-preserved c =
    let cs = c.args.cells.now in
    let s = c.starts.start in
    let i = c.row.i in
    let ends : dead_at cs (s + i) ≡ false → first_from cs c.args.size (s + 1) (length cs - (s + 1)) ≡ first_row cs c.args.size = λ d. start_ends cs s i c.args.size c.starts-test.true c.row-test.true c.row.invariant.1 d c.starts.invariant.1 in (
      omega arith,
      elim c.then-i-cells.branch [
        | then-i-cells-via-then-i-cells w ↦ ends (dead_past cs (s + i) (omega (arith, w.if-i-cells.true)))
        | then-i-cells-via-else-i-cells+then-ne w ↦ ends (dead_read cs (s + i) _ w.ne.result true (omega (arith, w.if-i-cells.false)) w.ne.ensures w.if-ne.true)
      ],
    )

pub row-preserved : goal.row-preserved
row-preserved c =
    let cs = c.args.cells.now in
    let s = c.starts.start in
    let i = c.row.i in (
      omega arith,
      c.row.invariant.1 ∙ row_more cs s i c.args.size c.row-test.true (dead_read cs (s + i) _ c.ne.result false (omega arith) c.ne.ensures c.if-ne.false),
    )

pub returns-in-starts-clause-value : goal.returns-in-starts-clause-value
returns-in-starts-clause-value c =
    let cs = c.args.cells.now in
    let full : row cs c.starts.start c.args.size ≡ true = c.row.invariant.1 ∙ row_none cs (c.starts.start + c.row.i) (c.args.size - c.row.i) (omega arith) in
    sym (from_here cs c.args.size c.starts.start (omega arith) full) ∙ c.starts.invariant.1

pub returns-clause-value : goal.returns-clause-value
returns-clause-value c =
    sym (from_none c.args.cells.now c.args.size c.starts.start (length c.args.cells.now - c.starts.start) (omega arith)) ∙ c.starts.invariant.1
