-- The layers and their numbers. Assumes nothing.
use Rattle.std.specs.Prelude.{ℕ}
use Rattle.reason.specs.declared.layers.Layer.{Layer}
use Rattle.reason.specs.declared.layers.Layer.TheVariants.{Card, Names, Types, Run, Link, Call}
use Rattle.reason.specs.declared.errors.CardError.{CardError}
use Rattle.reason.specs.declared.errors.NameError.{NameError}
use Rattle.reason.specs.declared.errors.TypeError.{TypeError}
use Rattle.reason.specs.declared.errors.LinkError.{LinkError}
use Rattle.reason.specs.declared.errors.CallError.{CallError}
use Rattle.reason.specs.declared.faults.RunFault.{RunFault}
use Rattle.reason.specs.declared.reasons.Reason.{Reason}
use Rattle.reason.specs.declared.reasons.Reason.TheVariants as why

abbrev pub numeral : Layer → ℕ
numeral Card = 1
numeral Names = 2
numeral Types = 3
numeral Run = 4
numeral Link = 5
numeral Call = 6

-- each kind of error is its layer's
abbrev pub card_layer : CardError → Layer
card_layer e = Card

abbrev pub name_layer : NameError → Layer
name_layer e = Names

abbrev pub type_layer : TypeError → Layer
type_layer e = Types

abbrev pub link_layer : LinkError → Layer
link_layer e = Link

abbrev pub call_layer : CallError → Layer
call_layer e = Call

-- the layer that refuses
abbrev pub reason_layer : Reason → Layer
reason_layer (why.Card e) = card_layer e
reason_layer (why.Names e) = name_layer e
reason_layer (why.Types e) = type_layer e
reason_layer (why.Link e) = link_layer e
reason_layer (why.Call e) = call_layer e

-- a run fault is the run's
abbrev pub fault_layer : RunFault → Layer
fault_layer x = Run
