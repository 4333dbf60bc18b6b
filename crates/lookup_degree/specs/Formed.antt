-- What a table has that passed refusals 1 to 5 without its traces.
use Rattle.std.specs.Prelude.{◌≡◌, true, List, ℕ, ◌<◌, ◌≤◌, length}
use Rattle.expression.specs.Node.{node_count}
use Rattle.expression.specs.Tests.{degrees_low}
use Rattle.expression.specs.declared.sizes.Limits.{Limits}
use Rattle.lookup.specs.Lookups.{Lookups, lookup_count, weight}
use Rattle.lookup.specs.Tests.{weight_limit}
use Rattle.lookup.specs.Requires.{Fitting, Agreeing}

pub record Formed (m : Limits) (nodes : List ℕ) (l : Lookups) : Type 0 where
  pub few_nodes : node_count nodes ≤ 1024
  pub few_lookups : lookup_count l.lookups ≤ 64
  pub few_tuples : length l.tuples ≤ 64
  pub fitting : Fitting l
  pub agreeing : Agreeing (node_count nodes) l
  pub weights : (i : ℕ) → i < lookup_count l.lookups → weight l.lookups i ≤ weight_limit l.lookups i
  pub degree : m.degree ≤ 65535
  pub low : degrees_low m nodes ≡ true
