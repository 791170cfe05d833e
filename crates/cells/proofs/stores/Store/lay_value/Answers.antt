use Rattle.std.proofs.Common.{arith}
use Rattle.std.proofs.lemmas.List.{drop-set-lt}
use Rattle.cells.proofs.stores.Store.lay_value.Goals as goal

pub returns-clause-heap : goal.returns-clause-heap
returns-clause-heap c = rw (c.put.ensures.after, ← c.self.view_is) (drop-set-lt 1024 _ c.self.inside.used _ (omega arith))
