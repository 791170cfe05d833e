use Rattle.shapes.proofs.tables.Shapes.+kind.Given as goal

abbrev pub decreases-kind : goal.decreases-kind
decreases-kind l = l.place
