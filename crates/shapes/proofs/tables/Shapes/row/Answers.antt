use Rattle.shapes.proofs.Rowed.{row_found, table_of}
use Rattle.shapes.proofs.tables.Shapes.row.Goals as goal

pub returns-clause-some : goal.returns-clause-some
returns-clause-some c = row_found c.self.inside c.self.invariant _ c.self.view_is c.args.place _ c.deref.ensures.value c.get.result c.get.ensures.lookup

pub returns-clause-table : goal.returns-clause-table
returns-clause-table c = table_of c.self.inside c.self.invariant _ c.self.view_is
