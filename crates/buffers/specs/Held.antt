-- What a buffer holds. Assumes nothing.
use Rattle.std.specs.Prelude.{ℕ, List, take}
use Rattle.buffers.specs.declared.Buffer.{Buffer}

abbrev pub held : {n : ℕ} → Buffer n → List ℕ
held b = take b.len b.bytes
