-- What the code asks of its lists: what `building_fits` tests.
use Rattle.std.specs.Prelude.{◌≡◌, List, ℕ, ◌*◌, ◌≤◌, length}
use Rattle.lookup_builder.specs.Building.{interaction_words, interaction_count, first_tuple}
use Rattle.lookup_builder.specs.FromInteractions.{Interactions}
use Rattle.lookup_builder.specs.declared.answer.Kinds.{Kinds}

-- the table's nodes, the words that are lent, and the list for the lookups
pub record BuildSource : Type 0 where
  pub nodes : List ℕ
  pub given : Interactions
  pub lent : List ℕ

abbrev pub build_source : List ℕ → Interactions → List ℕ → BuildSource
build_source nodes given lent = record { nodes = nodes; given = given; lent = lent }

-- the lists of interactions and weights are as long as they say
pub record InteractionsSized (k : Kinds) (interactions weights : List ℕ) : Type 0 where
  pub few : interaction_count k ≤ 64
  pub words : length interactions ≡ interaction_words * interaction_count k
  pub few_weights : length weights ≤ 64
  pub weighed : length weights ≡ first_tuple interactions (interaction_count k)
