-- Refusals 1 to 5, 8 and 9 as generation and constraints share them. SPECIFICATION, sections 10.1 and 10.2.
use Rattle.std.specs.Prelude.{ℕ, Bool, true, ◌&&◌, List}
use Rattle.std.proofs.Math.Option.{Option}
use Rattle.expression.specs.Refusal.{unless}
use Rattle.expression.specs.Node.{node_count}
use Rattle.expression.specs.Tests.{degrees_low}
use Rattle.expression.specs.declared.sizes.Limits.{Limits}
use Rattle.expression.specs.declared.sizes.Shape.{Shape}
use Rattle.expression.specs.declared.refusal.Refusal.{Refusal}
use Rattle.expression.specs.declared.refusal.Refusal.TheVariants.{ChallengesMissing, RowsMissing}
use Rattle.lookup.specs.Table.{Table}
use Rattle.lookup.specs.Tests.{sizes, words_below, known, lists_agree, in_position, rows_enough}
use Rattle.lookup.specs.Order.{Tests, first_refusal}

-- what the two test besides the table: sizes by 1, words by 2, the number of challenges by 8
pub record Besides : Type 0 where
  pub sizes : Bool
  pub words : Bool
  pub challenges : Bool

-- nothing besides the table
abbrev pub table_alone : Besides
table_alone = record { sizes = true; words = true; challenges = true }

-- 1 to 5 of a table, with what else is tested by 1 and by 2; 5 "in generation and constraints: a lookup's column is not its position"
abbrev pub logup_tests : Limits → ℕ → Table → Bool → Bool → Tests
logup_tests m p t fit low =
    record {
      sizes = sizes m t && fit;
      words = words_below p t && low;
      nodes = known t;
      degrees = degrees_low m t.nodes;
      lists = lists_agree (node_count t.nodes) t.lookups && in_position t.lookups.lookups;
    }

-- 8, which is tested by `enough`, then 9, and what comes later
abbrev pub rows_refusal : Bool → Shape → List ℕ → Option Refusal → Option Refusal
rows_refusal enough s lookups later = unless enough ChallengesMissing (unless (rows_enough s lookups) RowsMissing later)

-- the first of 1 to 5, 8 and 9, and else what comes later
abbrev pub logup_refusal : Limits → ℕ → Table → Besides → Option Refusal → Option Refusal
logup_refusal m p t b later =
    first_refusal (logup_tests m p t b.sizes b.words) (rows_refusal b.challenges t.traces.shape t.lookups.lookups later)
