-- The lists that a caller lends to balance for several tables. SPECIFICATION, section 2.7: "takes each list once, the parts of table 0
-- first, and says how long each table's parts are".
use mathlib.Core.List.{List, [], ◌∷◌, flat_map}
use Rattle.std.specs.Prelude.{ℕ, ◌/◌, length}
use Rattle.expression.specs.Node.{node_words}
use Rattle.lookup.specs.Lookups.{lookup_words}
use Rattle.lookup.specs.Table.{Table}
use Rattle.balance.specs.Tables.{TableLists}

-- the 14 sizes of a table
unfoldable pub sizes_of : Table → List ℕ
sizes_of t =
    t.traces.shape.main_width
    ∷ t.traces.shape.height
    ∷ t.traces.shape.pre_width
    ∷ t.traces.shape.pre_height
    ∷ length t.traces.main
    ∷ length t.traces.preprocessed
    ∷ length t.traces.public_values
    ∷ length t.nodes / node_words
    ∷ length t.lookups.lookups / lookup_words
    ∷ length t.lookups.names
    ∷ length t.lookups.tuples
    ∷ length t.lookups.multiplicities
    ∷ length t.lookups.flags
    ∷ length t.lookups.elements
    ∷ []

unfoldable pub lists_of : List Table → TableLists
lists_of ts =
    record {
      sizes = flat_map sizes_of ts;
      main = flat_map (λ (t : Table). t.traces.main) ts;
      preprocessed = flat_map (λ (t : Table). t.traces.preprocessed) ts;
      public_values = flat_map (λ (t : Table). t.traces.public_values) ts;
      nodes = flat_map (λ (t : Table). t.nodes) ts;
      lookups =
          record {
            lookups = flat_map (λ (t : Table). t.lookups.lookups) ts;
            names = flat_map (λ (t : Table). t.lookups.names) ts;
            tuples = flat_map (λ (t : Table). t.lookups.tuples) ts;
            multiplicities = flat_map (λ (t : Table). t.lookups.multiplicities) ts;
            flags = flat_map (λ (t : Table). t.lookups.flags) ts;
            elements = flat_map (λ (t : Table). t.lookups.elements) ts;
          };
    }
