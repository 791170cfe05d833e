-- The cars of tapes are sound. Assumes nothing.
use Rattle.std.specs.Prelude.{ℕ, List, [], ◌∷◌, map}
use Rattle.std.proofs.Common.{lit≤}
use Rattle.std.specs.List.{AllByRecursion}
use Rattle.std.specs.Str.{bytes_eq}
use Rattle.std.proofs.lemmas.Bool.{cond_both}
use Rattle.buffers.specs.Held.{held}
use Rattle.buffers.specs.declared.Buffer.{Buffer}
use Rattle.link.specs.Cars.{silence, reply, Proper, Sound, Short}
use Rattle.link.proofs.Replies.{held_short}
use Rattle.tape.specs.Entries.{Exchange}
use Rattle.tape.specs.Plays.{answer_of, moved, tape_car}
use Rattle.tape.specs.Views.{exchange}
use Rattle.tape.specs.declared.entries.Entry.{Entry}

abbrev Good : Exchange → Type 0
Good e = Proper (reply e.given)

answer_proper : (es : List Exchange) → AllByRecursion Good es → (q : List ℕ) → Proper (answer_of es q)
answer_proper [] a q = tt
answer_proper (e ∷ es) a q = cond_both (bytes_eq e.asked q) (reply e.given) silence Proper (λ _. a.0) (λ _. tt)

moved_good : (es : List Exchange) → AllByRecursion Good es → (q : List ℕ) → AllByRecursion Good (moved es q)
moved_good [] a q = tt
moved_good (e ∷ es) a q = cond_both (bytes_eq e.asked q) es (e ∷ es) (AllByRecursion Good) (λ _. a.1) (λ _. a)

tape_sound : (es : List Exchange) → AllByRecursion Good es → Sound (tape_car es)
tape_sound es a [] q = answer_proper es a q
tape_sound es a (p ∷ ps) q = tape_sound (moved es p) (moved_good es a p) ps q

pub buffer_short : (b : Buffer 7) → Short (held b)
buffer_short b = held_short b (lit≤ tt)

all_good : (es : List Entry) → AllByRecursion Good (map exchange es)
all_good [] = tt
all_good (e ∷ es) = ((e.answered, (buffer_short e.reply).0, (buffer_short e.reply).1), all_good es)

pub entries_sound : (es : List Entry) → Sound (tape_car (map exchange es))
entries_sound es = tape_sound (map exchange es) (all_good es)
