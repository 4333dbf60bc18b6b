-- The columns of packing by number, as the code makes them: from the degrees of nodes and tuples, the lookups, the names and the multiplicities.
use Rattle.std.specs.Prelude.{Bool, true, false, cond, ◌&&◌, ◌||◌, List, [], ◌∷◌, ◌++◌, ℕ, suc, ◌+◌, max, min, leb, ltb}
use Rattle.expression.specs.Words.{low_half, high_half}
use Rattle.expression.specs.Values.{bit}
use Rattle.lookup.specs.Lookups.{lookup_count, on_bus, name_length, weight, exclusive, tuple_count, multiplicity_count, flag_count}
use Rattle.lookup.specs.Buses.{name_at, alone_at, same_bus}
use Rattle.lookup_degree.specs.inner.At.{denominator_at, numerator_at}
use Rattle.lookup_buses.specs.Order.{arranged}
use Rattle.packing_columns.specs.declared.columns.OpenColumn.{OpenColumn}

-- what the plan is made from: the degrees of the nodes and of the tuples, the table's lists, and the limit
pub record PlanSource : Type 0 where
  pub nodes : List ℕ
  pub degrees : List ℕ
  pub lookups : List ℕ
  pub names : List ℕ
  pub multiplicities : List ℕ
  pub limit : ℕ

abbrev pub plan_source : List ℕ → List ℕ → List ℕ → List ℕ → List ℕ → ℕ → PlanSource
plan_source nodes degrees lookups names multiplicities limit =
    record { nodes = nodes; degrees = degrees; lookups = lookups; names = names; multiplicities = multiplicities; limit = limit }

-- the larger of the denominators' degree and the numerator's, of lookup i
unfoldable pub top_at : List ℕ → List ℕ → List ℕ → List ℕ → ℕ → ℕ
top_at nodes degrees lookups multiplicities i = max (denominator_at degrees lookups i) (numerator_at nodes degrees lookups multiplicities i)

-- a column of lookup i alone
unfoldable pub opened : List ℕ → List ℕ → List ℕ → List ℕ → ℕ → OpenColumn
opened nodes degrees lookups multiplicities i =
    record {
      head = i;
      sum = denominator_at degrees lookups i;
      top = top_at nodes degrees lookups multiplicities i;
      weight = weight lookups i;
      tuples = tuple_count lookups i;
      multiplicities = multiplicity_count lookups i;
      flags = flag_count lookups i;
    }

abbrev pub opened_at : PlanSource → ℕ → OpenColumn
opened_at s i = opened s.nodes s.degrees s.lookups s.multiplicities i

-- column a with column b merged into it
unfoldable pub merge : OpenColumn → OpenColumn → OpenColumn
merge a b =
    record {
      head = a.head;
      sum = a.sum + b.sum;
      top = max (a.top + b.sum) (a.sum + b.top);
      weight = a.weight + b.weight;
      tuples = a.tuples + b.tuples;
      multiplicities = a.multiplicities + b.multiplicities;
      flags = a.flags + b.flags;
    }

unfoldable pub column_degree : OpenColumn → ℕ
column_degree o = max (1 + o.sum) o.top

-- lookup i is on the bus of lookup j, and the column m that they make is within the limit
unfoldable pub fits : List ℕ → List ℕ → ℕ → ℕ → ℕ → OpenColumn → Bool
fits lookups names limit j i m = same_bus (alone_at true lookups) (name_at lookups names) j i && leb (column_degree m) limit

abbrev pub joins_at : PlanSource → OpenColumn → ℕ → Bool
joins_at s o i = fits s.lookups s.names s.limit o.head i (merge o (opened_at s i))

-- o is the open column; what does not join it closes it, and opens the next
unfoldable pub columns_from : PlanSource → OpenColumn → List ℕ → List OpenColumn
columns_from s o [] = o ∷ []
columns_from s o (i ∷ is) = cond (joins_at s o i) (columns_from s (merge o (opened_at s i)) is) (o ∷ columns_from s (opened_at s i) is)

unfoldable pub columns_of : PlanSource → List ℕ → List OpenColumn
columns_of s [] = []
columns_of s (i ∷ is) = columns_from s (opened_at s i) is

-- the order of the lookups
abbrev pub ordered : List ℕ → List ℕ → List ℕ
ordered lookups names = arranged (alone_at true lookups) (name_at lookups names) (lookup_count lookups)

-- a number as a word: 2^32 - 1 stands for all that is larger
abbrev pub saturated : ℕ → ℕ
saturated n = min n 4294967295

-- the words of column o, the k-th
unfoldable pub column_words : List ℕ → ℕ → OpenColumn → List ℕ
column_words lookups k o =
    bit (on_bus lookups o.head)
    ∷ name_length lookups o.head
    ∷ low_half o.weight
    ∷ k
    ∷ bit (exclusive lookups o.head)
    ∷ saturated o.tuples
    ∷ saturated o.multiplicities
    ∷ saturated o.flags
    ∷ high_half o.weight
    ∷ []

unfoldable pub words_from : List ℕ → ℕ → List OpenColumn → List ℕ
words_from lookups k [] = []
words_from lookups k (o ∷ os) = column_words lookups k o ++ words_from lookups (suc k) os

-- the first lookup of each column
unfoldable pub heads_of : List OpenColumn → List ℕ
heads_of [] = []
heads_of (o ∷ os) = o.head ∷ heads_of os

-- the weight of a bus column is over 2^32 - 1
unfoldable pub over_of : List ℕ → List OpenColumn → Bool
over_of lookups [] = false
over_of lookups (o ∷ os) = (on_bus lookups o.head && ltb 4294967295 o.weight) || over_of lookups os
