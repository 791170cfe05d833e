-- How refusals and run faults are printed. Assumes nothing.
use Rattle.std.specs.Prelude.{ℕ, List, ◌++◌, codes, decimal}
use Rattle.reason.specs.Layers.{numeral, reason_layer, fault_layer}
use Rattle.reason.specs.Numbers.{reason_number, fault_number}
use Rattle.reason.specs.Words.{reason_words, fault_words}
use Rattle.reason.specs.declared.layers.Layer.{Layer}
use Rattle.refusal.specs.Refusals.{Refusal, FaultAt}
use Rattle.refusal.specs.declared.refusals.At.{At}

-- a number, a record, a layer and words
abbrev pub line : ℕ → ℕ → ℕ → List ℕ → List ℕ
line n k l w = decimal n ++ (codes " at record " ++ (decimal k ++ (codes ", layer " ++ (decimal l ++ (codes ": " ++ w)))))

-- of a cause with a number, a layer and words
abbrev pub text_of : {C : Type 0} → (C → ℕ) → (C → Layer) → (C → List ℕ) → At C → List ℕ
text_of number layer words x = line (number x.cause) x.at (numeral (layer x.cause)) (words x.cause)

abbrev pub refusal_text : Refusal → List ℕ
refusal_text x = text_of reason_number reason_layer reason_words x

abbrev pub fault_text : FaultAt → List ℕ
fault_text x = text_of fault_number fault_layer fault_words x
