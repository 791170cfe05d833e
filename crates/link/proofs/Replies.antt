-- Present replies, read and compared byte by byte. Assumes nothing.
use Rattle.std.proofs.Common.{◌≡◌, ℕ, zero, suc, ◌+◌, ◌<◌, ◌≤◌, ◌&&◌, nat_eq, List, length, get_or, drop, Some, sym, ◌∙◌, arith, lit<}
use Rattle.std.specs.List.{filter_map, cons_option, list_all, range_with_len}
use Rattle.std.specs.Option.{option_eq}
use Rattle.std.specs.Str.{bytes_eq}
use Rattle.std.proofs.lemmas.List.{drop_more, drop_all, length-take}
use Rattle.std.proofs.lemmas.Bool.{cond-true, lt-ltb}
use Rattle.buffers.specs.Bytes.{byte_at}
use Rattle.buffers.specs.Held.{held}
use Rattle.buffers.specs.declared.Buffer.{Buffer}
use Rattle.buffers.proofs.Bounds.{Below-take}
use Rattle.link.specs.Cars.{Short}

-- what a buffer of at most 64 bytes holds can be a present reply
pub held_short : {n : ℕ} (b : Buffer n) → n ≤ 64 → Short (held b)
held_short b few = (omega (arith, length-take b.len b.bytes), Below-take 256 (lit< tt) b.len b.bytes b.fits)

pub byte_there : (p : List ℕ) (i : ℕ) → i < length p → byte_at p i ≡ Some (get_or p i 0)
byte_there p i h = cond-true _ _ _ (lt-ltb _ _ h)

-- the bytes from i on, read one by one
pub read_from : (p : List ℕ) (i n : ℕ) → i + n ≡ length p → filter_map (byte_at p) (range_with_len i n) ≡ drop i p
read_from p i zero h = sym (drop_all i p (omega arith))
read_from p i (suc n) h =
    let rest = read_from p (i + 1) n (omega arith) in
    (λ t. cons_option (byte_there p i (omega arith) t) (rest t)) ∙ sym (drop_more p i 0 (omega arith))

-- the bytes from i on, compared one by one
pub same_from : (p q : List ℕ) (i n : ℕ) → i + n ≡ length p → i + n ≡ length q → list_all (λ k. option_eq nat_eq (byte_at p k) (byte_at q k)) (range_with_len i n) ≡ bytes_eq (drop i p) (drop i q)
same_from p q i zero h k = λ t. bytes_eq (sym (drop_all i p (omega arith)) t) (sym (drop_all i q (omega arith)) t)
same_from p q i (suc n) h k =
    let x = byte_there p i (omega arith) in
    let y = byte_there q i (omega arith) in
    let rest = same_from p q (i + 1) n (omega arith) (omega arith) in
    (λ t. option_eq nat_eq (x t) (y t) && rest t) ∙ sym (λ t. bytes_eq (drop_more p i 0 (omega arith) t) (drop_more q i 0 (omega arith) t))
