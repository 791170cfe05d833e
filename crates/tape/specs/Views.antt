-- How a tape stands, from what it holds. Assumes nothing.
use Rattle.std.specs.Prelude.{map, drop, vec_items}
use Rattle.buffers.specs.Held.{held}
use Rattle.tape.specs.Entries.{Exchange}
use Rattle.tape.specs.Plays.{Standing}
use Rattle.tape.specs.declared.entries.Entry.{Entry}
use Rattle.tape.specs.declared.Tape.{Tape}

abbrev pub exchange : Entry → Exchange
exchange e = record { asked = held e.request; given = held e.reply }

abbrev pub standing : Tape → Standing
standing t = record { left = map exchange (drop t.place (vec_items t.entries)); shown = held t.present }
