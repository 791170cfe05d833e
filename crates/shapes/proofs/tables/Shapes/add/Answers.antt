use Rattle.std.proofs.Common.{refl, rules}
use Rattle.shapes.proofs.Rowed.{below_more, measured_some, sized_more, table_of}
use Rattle.shapes.proofs.tables.Shapes.add.Goals as goal

pub invariant_of-self : goal.invariant_of-self
invariant_of-self c =
    let held = c.self.invariant in
    record {
      few = search rules;
      sized = sized_more _ _ _ c.push_reserved.ensures.items held.sized (rw c.self.view_is (measured_some _ _ c.in_ok-size.ensures).0);
      below = below_more _ _ _ c.push_reserved.ensures.items held.below (search rules);
      room = search rules;
    }

pub returns-then-place-ge2000-clause-table : goal.returns-then-place-ge2000-clause-table
returns-then-place-ge2000-clause-table c = let table = table_of c.self.inside c.self.invariant _ c.self.view_is in (table, table)

pub returns-in_err-size-clause-table : goal.returns-in_err-size-clause-table
returns-in_err-size-clause-table c = let table = table_of c.self.inside c.self.invariant _ c.self.view_is in (table, table)

pub returns-clause-table : goal.returns-clause-table
returns-clause-table c =
    (table_of c.self.inside c.self.invariant _ c.self.view_is, table_of (record { rows = c.push_reserved.new.self }) (invariant_of-self c) _ refl)
