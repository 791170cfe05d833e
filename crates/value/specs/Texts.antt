-- How values, and what stands in their place, are printed. Assumes nothing.
use Rattle.std.specs.Prelude.{ℕ, List, ◌++◌, codes, decimal, if◌then◌else◌}
use Rattle.std.specs.Fmt.{signed_decimal}
use Rattle.reason.specs.Numbers.{fault_number}
use Rattle.value.specs.declared.values.Stop.{Stop}
use Rattle.value.specs.declared.values.Stop.TheVariants.{Fault, Misfit}
use Rattle.value.specs.declared.values.Value.{Value}
use Rattle.value.specs.declared.values.Value.TheVariants.{Nothing, Char, Int, Bool, Pointer}

abbrev pub value_text : Value → List ℕ
value_text Nothing = codes "none"
value_text (Char c) = codes "char " ++ decimal c
value_text (Int n) = codes "int " ++ signed_decimal n
value_text (Bool b) = codes "bool " ++ (if b then codes "true" else codes "false")
value_text (Pointer n) = codes "pointer " ++ signed_decimal n

abbrev pub stop_text : Stop → List ℕ
stop_text (Fault x) = codes "fault " ++ decimal (fault_number x)
stop_text Misfit = codes "misfit"
