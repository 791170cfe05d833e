-- What each refusal and each run fault says. Assumes nothing.
use Rattle.std.specs.Prelude.{ℕ, List, codes}
use Rattle.reason.specs.declared.errors.CardError.{CardError}
use Rattle.reason.specs.declared.errors.CardError.TheVariants as card
use Rattle.reason.specs.declared.errors.NameError.{NameError}
use Rattle.reason.specs.declared.errors.NameError.TheVariants.{Redeclared, Undeclared, Mistaken, Circular, LocalFunction, NoBody, NoMain}
use Rattle.reason.specs.declared.errors.TypeError.{TypeError}
use Rattle.reason.specs.declared.errors.TypeError.TheVariants.{Rule, NotLvalue, NotScalar, TooLarge, Arguments}
use Rattle.reason.specs.declared.errors.LinkError.{LinkError}
use Rattle.reason.specs.declared.errors.LinkError.TheVariants as link
use Rattle.reason.specs.declared.errors.CallError.{CallError}
use Rattle.reason.specs.declared.errors.CallError.TheVariants.{NoRun, Portion}
use Rattle.reason.specs.declared.faults.RunFault.{RunFault}
use Rattle.reason.specs.declared.faults.RunFault.TheVariants.{ZeroDivisor, IndexRange, NoCell, Unwritten, HeapFull, StackFull, NotABlock, RequestByte, NoSuchByte, FindingsFull, FuelLimit}
use Rattle.reason.specs.declared.reasons.Reason.{Reason}
use Rattle.reason.specs.declared.reasons.Reason.TheVariants.{Card, Names, Types, Link, Call}

abbrev pub card_words : CardError → List ℕ
card_words card.Size = codes "the card has no record, more than 2,000, or a part of one"
card_words card.Mark = codes "the mark is unknown"
card_words card.Padding = codes "a byte that should be 0 is not"
card_words card.Reference = codes "a field names no record, too early a record or one of the wrong mark"
card_words card.Owner = codes "the record is not named exactly once"
card_words card.Range = codes "a number is out of its range, or a name is no identifier"

abbrev pub name_words : NameError → List ℕ
name_words Redeclared = codes "the name is declared here a second time"
name_words Undeclared = codes "the name has no declaration here"
name_words Mistaken = codes "a type, a variable or a function is taken for another of them"
name_words Circular = codes "the type is declared by way of itself"
name_words LocalFunction = codes "a function is declared inside a let"
name_words NoBody = codes "a function without a body is none of the five outside functions"
name_words NoMain = codes "there is no main to run: a function with a body, no parameter and result int"

abbrev pub type_words : TypeError → List ℕ
type_words Rule = codes "the types do not fit"
type_words NotLvalue = codes "only a variable, an element, a component or what a pointer leads to can stand here"
type_words NotScalar = codes "a whole array, a whole record or void cannot be a value"
type_words TooLarge = codes "more than 1,024 cells are needed"
type_words Arguments = codes "the call has another number of arguments, or the function more than four parameters"

abbrev pub link_words : LinkError → List ℕ
link_words link.Size = codes "the tape has more than 2,000 entries, or a part of one"
link_words link.Mark = codes "the mark is not QA"
link_words link.Padding = codes "a byte after the request is not 0"
link_words link.Range = codes "a length or a count is out of its range"

abbrev pub call_words : CallError → List ℕ
call_words NoRun = codes "there is no run to go on with: start one first"
call_words Portion = codes "the portion of fuel is over 1,000,000"

abbrev pub fault_words : RunFault → List ℕ
fault_words ZeroDivisor = codes "division by 0"
fault_words IndexRange = codes "the index lies outside the array"
fault_words NoCell = codes "the pointer leads to no cell of that kind"
fault_words Unwritten = codes "the cell was never written"
fault_words HeapFull = codes "there is no room for new"
fault_words StackFull = codes "the script is nested too deep, or its variables do not fit"
fault_words NotABlock = codes "del of what is no live block of new"
fault_words RequestByte = codes "put of no byte, or of an eighth byte"
fault_words NoSuchByte = codes "the reply has no such byte"
fault_words FindingsFull = codes "there are 32 findings already"
fault_words FuelLimit = codes "the run has used 1,000,000,000 units of fuel"

abbrev pub reason_words : Reason → List ℕ
reason_words (Card e) = card_words e
reason_words (Names e) = name_words e
reason_words (Types e) = type_words e
reason_words (Link e) = link_words e
reason_words (Call e) = call_words e
