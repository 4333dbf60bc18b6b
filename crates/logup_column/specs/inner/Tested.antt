-- What a table has that passed the tests of refusals 1 to 5, with what the entry point tests beside it.
use Rattle.std.specs.Prelude.{◌≡◌, Bool, true, ℕ}
use Rattle.expression.specs.Node.{node_count}
use Rattle.expression.specs.Tests.{traces_within, nodes_within, traces_fit, traces_below, constants_below}
use Rattle.expression.specs.declared.sizes.Limits.{Limits}
use Rattle.lookup.specs.Table.{Table}
use Rattle.lookup.specs.Tests.{lookups_within, lookups_fit, known, lists_agree}

pub record Tested (m : Limits) (p : ℕ) (t : Table) (fit low : Bool) : Type 0 where
  pub within : traces_within m t.traces.shape t.traces.public_values ≡ true
  pub nodes_within : nodes_within m t.nodes ≡ true
  pub lookups_within : lookups_within m t.lookups.lookups t.lookups.tuples ≡ true
  pub traces_fit : traces_fit t.traces.shape t.traces.main t.traces.preprocessed ≡ true
  pub lookups_fit : lookups_fit t.lookups ≡ true
  pub traces_below : traces_below p t.traces ≡ true
  pub constants_below : constants_below p t.nodes ≡ true
  pub known : known t ≡ true
  pub agree : lists_agree (node_count t.nodes) t.lookups ≡ true
  pub fits : fit ≡ true
  pub lows : low ≡ true
