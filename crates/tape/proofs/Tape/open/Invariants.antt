use Rattle.std.proofs.Common.{◌≡◌, map, take, vec_items, vec_len, vec_capacity}
use Rattle.tape.specs.Entries.{exchange_of}
use Rattle.tape.specs.Views.{exchange}
use Rattle.tape.proofs.Tape.open.Given as goal

abbrev pub invariant-loop-entry : goal.invariant-loop-entry
invariant-loop-entry l =
    (l.self.place ≡ 0)
    × (map exchange (vec_items l.self.entries) ≡ map exchange_of (take l.entry-index l.entry-items))
    × (vec_len l.self.entries ≡ l.entry-index)
    × (vec_capacity l.self.entries ≡ vec_capacity l.initial.self.entries)
