-- The order of refusals 1 to 5, by which every entry point that takes a table goes. SPECIFICATION, section 10.2.
use Rattle.std.specs.Prelude.{Bool}
use Rattle.std.proofs.Math.Option.{Option}
use Rattle.expression.specs.Refusal.{unless}
use Rattle.expression.specs.declared.refusal.Refusal.{Refusal}
use Rattle.expression.specs.declared.refusal.Refusal.TheVariants.{SizeAtOdds, WordTooLarge, NodeInvalid, DegreeTooHigh, LookupInvalid}

-- what refusals 1 to 5 test, each true where it passes, and where it is not tested
pub record Tests : Type 0 where
  pub sizes : Bool
  pub words : Bool
  pub nodes : Bool
  pub degrees : Bool
  pub lists : Bool

-- "tested in the order of their numbers, as far as they apply to the entry point": the first that fails, and else what comes later
abbrev pub first_refusal : Tests → Option Refusal → Option Refusal
first_refusal x later =
    unless x.sizes SizeAtOdds
    (unless x.words WordTooLarge
    (unless x.nodes NodeInvalid
    (unless x.degrees DegreeTooHigh
    (unless x.lists LookupInvalid later))))
