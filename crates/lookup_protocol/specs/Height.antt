-- The height bound. SPECIFICATION, section 7.2: "The sum over all lookups of weight × height, exact, must be below p". The lookups of all
-- tables come one table after the other; `counts` has the number of each table's lookups, `heights` its height.
use Rattle.std.specs.Prelude.{ℕ, ◌*◌, Bool, ◌&&◌, List, eqb, leb, ltb, length}
use Rattle.std.proofs.Math.Option.{Option, none}
use Rattle.lists.specs.Count.{total, every}
use Rattle.field.specs.Known.{prime_of}
use Rattle.expression.specs.Choices.{known, limits_of}
use Rattle.expression.specs.Words.{word, all_within}
use Rattle.expression.specs.Refusal.{unless}
use Rattle.expression.specs.declared.choices.Choices.{Choices}
use Rattle.expression.specs.declared.sizes.Limits.{Limits}
use Rattle.expression.specs.declared.refusal.Refusal.{Refusal}
use Rattle.expression.specs.declared.refusal.Refusal.TheVariants.{SizeAtOdds, LookupInvalid, HeightSumTooLarge}
use Rattle.lookup.specs.Lookups.{lookup_words, lookup_count, weight, tuple_start}
use Rattle.lookup.specs.Sizes.{size_start, table_part}
use Rattle.lookup.specs.Tests.{lookup_within, lengths_agree}

-- a table has one size here, the number of its lookups
abbrev pub count_sizes : ℕ
count_sizes = 1

abbrev pub lookup_count_size : ℕ
lookup_count_size = 0

-- the words of table t's lookups
unfoldable pub table_lookups : List ℕ → List ℕ → ℕ → List ℕ
table_lookups lookups counts t = table_part count_sizes counts lookup_count_size lookup_words t lookups

unfoldable pub weight_sum : List ℕ → ℕ
weight_sum lookups = total (weight lookups) (lookup_count lookups)

-- what table t adds
unfoldable pub table_weight : List ℕ → List ℕ → List ℕ → ℕ → ℕ
table_weight lookups counts heights t = weight_sum (table_lookups lookups counts t) * word heights t

unfoldable pub height_sum : List ℕ → List ℕ → List ℕ → ℕ
height_sum lookups counts heights = total (table_weight lookups counts heights) (length counts)

-- refusal 1, "a size is over a limit", of one table's lookups, as far as their words show it: tuples in all, bytes of a bus name, weights
unfoldable pub lookups_small : Limits → List ℕ → Bool
lookups_small m lookups =
    leb (tuple_start lookups (lookup_count lookups)) m.tuples && every (lookup_within m lookups) (lookup_count lookups)

-- the number of tables, their lookups and their heights are within the limits, and there are as many heights as tables
unfoldable pub tables_within : Limits → List ℕ → List ℕ → Bool
tables_within m counts heights =
    leb (length counts) m.tables && eqb (length heights) (length counts) && all_within m.lookups counts && all_within m.height heights

unfoldable pub tables_fit : Limits → List ℕ → List ℕ → List ℕ → Bool
tables_fit m lookups counts heights =
    tables_within m counts heights
    && eqb (length lookups) (lookup_words * size_start count_sizes counts lookup_count_size (length counts))
    && every (λ t. lookups_small m (table_lookups lookups counts t)) (length counts)

-- 1; then 5, as far as the lookups' words show it, in every lookup of every table; then 19: "the sum is not below p"; the sum
unfoldable pub height_refusal : Limits → ℕ → List ℕ → List ℕ → List ℕ → Option Refusal
height_refusal m p lookups counts heights =
    unless (tables_fit m lookups counts heights) SizeAtOdds
    (unless (every (lengths_agree lookups) (lookup_count lookups)) LookupInvalid
    (unless (ltb (height_sum lookups counts heights) p) (HeightSumTooLarge (height_sum lookups counts heights)) none))

-- at the choices of a call: refusal 1 where one of them is unknown
unfoldable pub height_at : Choices → List ℕ → List ℕ → List ℕ → Option Refusal
height_at c lookups counts heights =
    unless (known c) SizeAtOdds (height_refusal (limits_of c.profile) (prime_of c.field) lookups counts heights)
