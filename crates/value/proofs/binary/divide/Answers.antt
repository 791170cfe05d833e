use lib.Signed.{quot_z, rem_z}
use Rattle.std.proofs.Common.{◌≡◌, negsuc, Ok, sym, ◌∙◌, w64, SFits, rules, arith}
use Rattle.std.specs.Int.{int_wrap}
use Rattle.std.proofs.lemmas.Int.{ints, int_wrap_fits, quot_is, rem_is}
use Rattle.value.proofs.Divides.{least, nonzero}
use Rattle.value.proofs.binary.divide.Goals as goal

pub returns-then-left-eqminus9223372036854775808 : goal.returns-then-left-eqminus9223372036854775808
returns-then-left-eqminus9223372036854775808 c =
    let p : c.args.left ≡ negsuc 9223372036854775807 = omega (arith, ints) in
    let q : c.args.right ≡ negsuc 0 = omega (arith, ints) in
    rw (p, q, least)

pub returns-else-right-eqminus1 : goal.returns-else-right-eqminus1
returns-else-right-eqminus1 c =
    let a = c.args.left in
    let b = c.args.right in
    let fits : SFits w64 (quot_z a b) = search rules in
    let quotient = quot_is w64 a b c.ranges.left c.ranges.right fits ∙ sym (int_wrap_fits w64 (quot_z a b) fits) in
    let rest = rem_is w64 a b c.ranges.left c.ranges.right in
    (λ i. Ok (quotient i, rest i)) ∙ sym (nonzero b (int_wrap w64 (quot_z a b), rem_z a b) c.if-right-eq0.false)
