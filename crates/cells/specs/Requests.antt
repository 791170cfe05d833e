-- The request that is put together: at most 7 bytes. Assumes nothing.
use Rattle.std.specs.Prelude.{ℕ, cond, ◌&&◌, List, [], ◌∷◌, ◌++◌, length, ℤ, pos, negsuc, Ok, Err, Result, nat_le, nat_lt}
use Rattle.reason.specs.declared.faults.RunFault.TheVariants.{RequestByte}
use Rattle.value.specs.declared.values.Stop.{Stop}
use Rattle.value.specs.declared.values.Stop.TheVariants.{Fault}

-- one byte more, for a number of 0 to 255 and while there are fewer than 7: the answer, and the request then
abbrev pub put : ℤ → List ℕ → Result Unit Stop × List ℕ
put (pos n) q = cond (nat_le n 255 && nat_lt (length q) 7) (Ok tt, q ++ n ∷ []) (Err (Fault RequestByte), q)
put (negsuc n) q = (Err (Fault RequestByte), q)
