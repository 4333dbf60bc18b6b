-- The first of refusals 1 to 5 that a table has, "in the order of their numbers" (SPECIFICATION, section 10.2).
use Rattle.std.specs.Prelude.{ℕ, Bool, true, ◌&&◌, List, leb, ltb}
use Rattle.std.proofs.Math.Option.{Option, none}
use Rattle.expression.specs.Node.{node_count}
use Rattle.expression.specs.Tests.{nodes_within, nodes_fit, constants_below, nodes_known, degrees_low}
use Rattle.expression.specs.declared.sizes.Shape.{Shape}
use Rattle.expression.specs.declared.sizes.Limits.{Limits}
use Rattle.expression.specs.declared.refusal.Refusal.{Refusal}
use Rattle.lookup.specs.Lookups.{Lookups}
use Rattle.lookup.specs.Table.{Table}
use Rattle.lookup.specs.Tests.{sizes, words_below, known, lists_agree, lookups_within, lookups_fit}
use Rattle.lookup.specs.Order.{first_refusal}
use Rattle.lookup.specs.declared.refusals.Columns.{Columns}

-- refusals 3 and 4 of the nodes alone, where there are so many public values, and what comes after them
unfoldable pub nodes_refusal : Limits → Shape → ℕ → List ℕ → Option Refusal → Option Refusal
nodes_refusal m s publics nodes later =
    first_refusal (record { sizes = true; words = true; nodes = nodes_known s publics nodes; degrees = degrees_low m nodes; lists = true }) later

-- refusal 5 of every entry point, alone
unfoldable pub lists_refusal : ℕ → Lookups → Option Refusal
lists_refusal n l = first_refusal (record { sizes = true; words = true; nodes = true; degrees = true; lists = lists_agree n l }) none

unfoldable pub table_refusal : Limits → ℕ → Table → Option Refusal
table_refusal m p t =
    first_refusal
    (record {
      sizes = sizes m t;
      words = words_below p t;
      nodes = known t;
      degrees = degrees_low m t.nodes;
      lists = lists_agree (node_count t.nodes) t.lookups;
    })
    none

-- Packing, degree and building take no traces: they take the widths of the traces and the number of public values.
unfoldable pub columns_within : Limits → Columns → Bool
columns_within m c =
    ltb 0 c.main && leb c.main m.main_columns && leb c.preprocessed m.pre_columns && leb c.public_values m.public_values

-- a table of these columns, as far as its nodes see it
unfoldable pub shape_of : Columns → Shape
shape_of c = record { main_width = c.main; height = 0; pre_width = c.preprocessed; pre_height = 0 }

unfoldable pub form_sizes : Limits → Columns → List ℕ → Lookups → Bool
form_sizes m c nodes l =
    columns_within m c && nodes_within m nodes && lookups_within m l.lookups l.tuples && nodes_fit nodes && lookups_fit l

unfoldable pub form_refusal : Limits → ℕ → Columns → List ℕ → Lookups → Option Refusal
form_refusal m p c nodes l =
    first_refusal
    (record {
      sizes = form_sizes m c nodes l;
      words = constants_below p nodes;
      nodes = nodes_known (shape_of c) c.public_values nodes;
      degrees = degrees_low m nodes;
      lists = lists_agree (node_count nodes) l;
    })
    none
