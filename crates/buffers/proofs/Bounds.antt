-- Bounds on the numbers of a list. Assumes nothing.
use Rattle.std.proofs.Common.{ℕ, ◌<◌, List, ◌++◌, ◌+◌, ◌-◌, length, take, drop, replicate, arith}
use Rattle.std.proofs.lemmas.Grind.{common_steps}
use Rattle.buffers.specs.Bytes.{Below}

module _ (m : ℕ) (some : 0 < m) where
  pub Below-take : (n : ℕ) (xs : List ℕ) → Below m xs → Below m (take n xs)
  Below-take n xs b = λ k. grind (arith, common_steps, b k)

  pub Below-drop : (n : ℕ) (xs : List ℕ) → Below m xs → Below m (drop n xs)
  Below-drop n xs b = λ k. grind (arith, common_steps, b (n + k))

  pub Below-append : (xs ys : List ℕ) → Below m xs → Below m ys → Below m (xs ++ ys)
  Below-append xs ys a b = λ k. grind (arith, common_steps, a k, b (k - length xs))

  pub Below-replicate : (n : ℕ) → Below m (replicate n 0)
  Below-replicate n = λ k. grind (arith, common_steps)
