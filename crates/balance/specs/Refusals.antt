-- Refusals 1 to 5 and 9 of several tables. SPECIFICATION, section 10.2: "a number is tested in all tables before the next number".
use Rattle.std.specs.Prelude.{ℕ, Bool, true, not, ◌&&◌, ◌||◌, List, [], ◌∷◌}
use Rattle.std.proofs.Math.Option.{Option, none}
use Rattle.expression.specs.Node.{node_count}
use Rattle.expression.specs.Refusal.{unless}
use Rattle.expression.specs.Tests.{degrees_low}
use Rattle.expression.specs.declared.sizes.Limits.{Limits}
use Rattle.expression.specs.declared.refusal.Refusal.{Refusal}
use Rattle.expression.specs.declared.refusal.Refusal.TheVariants.{RowsMissing}
use Rattle.lookup.specs.Table.{Table}
use Rattle.lookup.specs.Tests.{sizes, words_below, known, lists_agree, has_lookups, preprocessed_enough}
use Rattle.lookup.specs.Order.{first_refusal}
use Rattle.balance.specs.Tables.{TableLists, tables_of, lists_fit}

unfoldable pub all : (Table → Bool) → List Table → Bool
all f [] = true
all f (t ∷ ts) = f t && all f ts

-- refusal 5; balance does not test columns
unfoldable pub listed : Table → Bool
listed t = lists_agree (node_count t.nodes) t.lookups

-- refusal 9 of balance: "a preprocessed trace, of width above 0, with fewer rows than main"; height 0 is fine
unfoldable pub covered : Table → Bool
covered t = not (has_lookups t.lookups.lookups) || preprocessed_enough t.traces.shape

unfoldable pub tables_refusal : Limits → ℕ → TableLists → Option Refusal
tables_refusal m p l =
    first_refusal
    (record {
      sizes = lists_fit m l && all (sizes m) (tables_of l);
      words = all (words_below p) (tables_of l);
      nodes = all known (tables_of l);
      degrees = all (λ (t : Table). degrees_low m t.nodes) (tables_of l);
      lists = all listed (tables_of l);
    })
    (unless (all covered (tables_of l)) RowsMissing none)
