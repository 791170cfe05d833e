-- Values: nothing, or a number with its kind. Assumes nothing.
use Rattle.std.specs.Prelude.{ℕ, Bool, true, false, ℤ, pos, Some, None, Ok, Err, Option, Result}
use Rattle.value.specs.declared.kinds.Kind.{Kind}
use Rattle.value.specs.declared.kinds.Kind.TheVariants as kind
use Rattle.value.specs.declared.values.Stop.{Stop}
use Rattle.value.specs.declared.values.Stop.TheVariants.{Misfit}
use Rattle.value.specs.declared.values.Value.{Value}
use Rattle.value.specs.declared.values.Value.TheVariants as value

abbrev pub kind_of : Value → Option Kind
kind_of value.Nothing = None
kind_of (value.Char c) = Some kind.Char
kind_of (value.Int n) = Some kind.Int
kind_of (value.Bool b) = Some kind.Bool
kind_of (value.Pointer n) = Some kind.Pointer

-- false is 0, and true is 1
abbrev pub bit : Bool → ℤ
bit true = pos 1
bit false = pos 0

abbrev pub number_of : Value → Option ℤ
number_of value.Nothing = None
number_of (value.Char c) = Some (pos c)
number_of (value.Int n) = Some n
number_of (value.Bool b) = Some (bit b)
number_of (value.Pointer n) = Some n

-- what a rule gives: a value, or why there is none
abbrev pub Given : Type 0
Given = Result Value Stop

-- the rule does not fit
abbrev pub misfit : Given
misfit = Err Misfit

abbrev pub truth : Bool → Given
truth b = Ok (value.Bool b)

-- a rule that fits one kind alone
abbrev pub with_char : {X : Type 0} → Value → (ℕ → Result X Stop) → Result X Stop
with_char value.Nothing f = Err Misfit
with_char (value.Char c) f = f c
with_char (value.Int n) f = Err Misfit
with_char (value.Bool b) f = Err Misfit
with_char (value.Pointer n) f = Err Misfit

abbrev pub with_int : {X : Type 0} → Value → (ℤ → Result X Stop) → Result X Stop
with_int value.Nothing f = Err Misfit
with_int (value.Char c) f = Err Misfit
with_int (value.Int n) f = f n
with_int (value.Bool b) f = Err Misfit
with_int (value.Pointer n) f = Err Misfit

abbrev pub with_bool : {X : Type 0} → Value → (Bool → Result X Stop) → Result X Stop
with_bool value.Nothing f = Err Misfit
with_bool (value.Char c) f = Err Misfit
with_bool (value.Int n) f = Err Misfit
with_bool (value.Bool b) f = f b
with_bool (value.Pointer n) f = Err Misfit

abbrev pub with_pointer : {X : Type 0} → Value → (ℤ → Result X Stop) → Result X Stop
with_pointer value.Nothing f = Err Misfit
with_pointer (value.Char c) f = Err Misfit
with_pointer (value.Int n) f = Err Misfit
with_pointer (value.Bool b) f = Err Misfit
with_pointer (value.Pointer n) f = f n
