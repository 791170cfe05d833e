use Rattle.std.proofs.Common.{◌≡◌, ℕ, ◌+◌, ◌-◌, ◌≤◌, List, length, take, drop, ◌∙◌, arith}
use Rattle.std.proofs.lemmas.List.{length-take, take_all, take-take}
use Rattle.std.proofs.lemmas.Bool.{and_parts, leb-true}
use Rattle.tape.specs.Entries.{request_length, reply_count}
use Rattle.tape.proofs.entries.Entry.decode.Goals as goal

-- the first n of seven bytes from s on
message : (bs : List ℕ) (s m n : ℕ) → m ≡ n → n ≤ 7 → take 7 (take (s + m - s) (drop s bs)) ≡ take n (take 7 (drop s bs))
message bs s m n e few =
    let short : length (take n (drop s bs)) ≤ 7 = omega (arith, length-take n (drop s bs)) in
    let cut : s + m - s ≡ n = omega arith in
    rw (cut, take_all 7 (take n (drop s bs)) short, take-take n 7 (drop s bs) few)

pub returns : goal.returns
returns c =
    let bs = c.args.bytes.now in
    let asked : request_length bs ≤ 7 = leb-true _ _ (and_parts _ _ c.requires.0).1 in
    let given : reply_count bs ≤ 7 = leb-true _ _ (and_parts _ _ c.requires.1).1 in
    let request = c.prefix.ensures ∙ message bs 3 _ _ c.from-asked.ensures asked in
    let reply = c.prefix-2.ensures ∙ message bs 11 _ _ c.from-given.ensures given in
    λ i. record { asked = request i; given = reply i }
