-- The functions on words, on the lists that stand in a room.
use Rattle.std.specs.Prelude.{ℕ, List, [], get_or}
use Rattle.field.specs.Known.{prime_of}
use Rattle.expression.specs.Choices.{limits_of}
use Rattle.expression.specs.declared.choices.Choices.{Choices}
use Rattle.expression.specs.declared.sizes.Shape.{Shape}
use Rattle.lookup.specs.Lookups.{Lookups, lent_lookups}
use Rattle.lookup.specs.Table.{lent_table}
use Rattle.logup.specs.Generation as generation
use Rattle.balance.specs.Balance as balance
use Rattle.balance.specs.Tables.{lent_tables}
use Rattle.packing.specs.PackSameBus as packing
use Rattle.lookup.specs.declared.refusals.Columns.{Columns}

abbrev pub list : List (List ℕ) → ℕ → List ℕ
list lists k = get_or lists k []

-- generation: main, preprocessed, public values, nodes, challenges, lookups, tuples, multiplicities, flags, elements
abbrev pub generation_on_words : Choices → ℕ → Shape → List ℕ → List (List ℕ) → List ℕ → generation.Outcome
generation_on_words c rule shape names lists trace =
    generation.generation_at c rule
    (lent_table shape (list lists 0) (list lists 1) (list lists 2) (list lists 3) (lent_lookups (list lists 5) names (list lists 6) (list lists 7) (list lists 8) (list lists 9)))
    (list lists 4) trace

-- balance: main, preprocessed, public values, nodes, sizes, lookups, tuples, multiplicities, flags, elements
abbrev pub balance_on_words : Choices → List ℕ → List (List ℕ) → List ℕ → balance.Outcome
balance_on_words c names lists workspace =
    balance.check_at c
    (lent_tables (list lists 4) (list lists 0) (list lists 1) (list lists 2) (list lists 3) (list lists 5) names (list lists 6) (list lists 7) (list lists 8) (list lists 9))
    workspace

-- the lists of the lookups: lookups, tuples, multiplicities, flags, elements
abbrev pub lookups_in : List ℕ → List (List ℕ) → Lookups
lookups_in names lists = lent_lookups (list lists 0) names (list lists 1) (list lists 2) (list lists 3) (list lists 4)

-- packing at known choices: nodes, lookups, tuples, multiplicities, flags, elements
abbrev pub packing_on_words : Choices → ℕ → Columns → List ℕ → List (List ℕ) → Lookups → packing.Outcome
packing_on_words c limit columns names lists lent =
    packing.packing (limits_of c.profile) (prime_of c.field) limit columns (list lists 0)
    (lent_lookups (list lists 1) names (list lists 2) (list lists 3) (list lists 4) (list lists 5)) lent
