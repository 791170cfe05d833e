-- The number of each refusal and of each run fault. Assumes nothing.
use Rattle.std.specs.Prelude.{ℕ}
use Rattle.reason.specs.declared.errors.CardError.{CardError}
use Rattle.reason.specs.declared.errors.CardError.TheVariants as card
use Rattle.reason.specs.declared.errors.NameError.{NameError}
use Rattle.reason.specs.declared.errors.NameError.TheVariants.{Redeclared, Undeclared, Mistaken, Circular, LocalFunction, NoBody, NoMain}
use Rattle.reason.specs.declared.errors.TypeError.{TypeError}
use Rattle.reason.specs.declared.errors.TypeError.TheVariants.{Rule, NotLvalue, NotScalar, TooLarge, Arguments}
use Rattle.reason.specs.declared.errors.LinkError.{LinkError}
use Rattle.reason.specs.declared.errors.LinkError.TheVariants as link
use Rattle.reason.specs.declared.errors.CallError.{CallError}
use Rattle.reason.specs.declared.errors.CallError.TheVariants.{NoRun, Portion}
use Rattle.reason.specs.declared.reasons.Reason.{Reason}
use Rattle.reason.specs.declared.reasons.Reason.TheVariants.{Card, Names, Types, Link, Call}
use Rattle.reason.specs.declared.faults.RunFault.{RunFault}
use Rattle.reason.specs.declared.faults.RunFault.TheVariants.{ZeroDivisor, IndexRange, NoCell, Unwritten, HeapFull, StackFull, NotABlock, RequestByte, NoSuchByte, FindingsFull, FuelLimit}

abbrev pub card_number : CardError → ℕ
card_number card.Size = 1
card_number card.Mark = 2
card_number card.Padding = 3
card_number card.Reference = 4
card_number card.Owner = 5
card_number card.Range = 6

abbrev pub name_number : NameError → ℕ
name_number Redeclared = 10
name_number Undeclared = 11
name_number Mistaken = 12
name_number Circular = 13
name_number LocalFunction = 14
name_number NoBody = 15
name_number NoMain = 16

abbrev pub type_number : TypeError → ℕ
type_number Rule = 20
type_number NotLvalue = 21
type_number NotScalar = 22
type_number TooLarge = 23
type_number Arguments = 24

abbrev pub link_number : LinkError → ℕ
link_number link.Size = 1
link_number link.Mark = 2
link_number link.Padding = 3
link_number link.Range = 6

abbrev pub call_number : CallError → ℕ
call_number NoRun = 41
call_number Portion = 42

abbrev pub reason_number : Reason → ℕ
reason_number (Card e) = card_number e
reason_number (Names e) = name_number e
reason_number (Types e) = type_number e
reason_number (Link e) = link_number e
reason_number (Call e) = call_number e

abbrev pub fault_number : RunFault → ℕ
fault_number ZeroDivisor = 30
fault_number IndexRange = 31
fault_number NoCell = 32
fault_number Unwritten = 33
fault_number HeapFull = 34
fault_number StackFull = 35
fault_number NotABlock = 36
fault_number RequestByte = 37
fault_number NoSuchByte = 38
fault_number FindingsFull = 39
fault_number FuelLimit = 40
