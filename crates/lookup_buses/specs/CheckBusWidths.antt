-- The widths of several tables: the words that are lent, and the answer for every input.
use Rattle.std.specs.Prelude.{Bool, cond, ◌&&◌, List, ℕ, ◌%◌, eqb, leb, length, Err, Ok, Result}
use Rattle.std.proofs.Math.Option.{Option, none, some}
use Rattle.lists.specs.Count.{every}
use Rattle.expression.specs.Choices.{known, limits_of}
use Rattle.expression.specs.declared.choices.Choices.{Choices}
use Rattle.expression.specs.Refusal.{Numbers, numbers, unless}
use Rattle.expression.specs.declared.sizes.Limits.{Limits}
use Rattle.expression.specs.declared.refusal.Refusal.{Refusal}
use Rattle.expression.specs.declared.refusal.Refusal.TheVariants.{SizeAtOdds, LookupInvalid}
use Rattle.lookup.specs.Lookups.{Lookups, bus_lookups, lookup_words, lookup_count, name_start, tuple_start}
use Rattle.lookup.specs.Sizes.{table_count, table_part, covers}
use Rattle.lookup.specs.Tests.{lookups_within, lengths_agree}
use Rattle.lookup_buses.specs.Widths.{Tables, widths_refusal, widest}

-- the lists of all tables, one table after the other, and for each table three sizes: how many lookups, bytes of names and tuples it has
pub record BusTables : Type 0 where
  pub lookups : List ℕ
  pub names : List ℕ
  pub tuples : List ℕ
  pub sizes : List ℕ

-- how many sizes a table has, and the place of each
abbrev pub bus_sizes : ℕ
bus_sizes = 3

abbrev pub lookup_count_size : ℕ
lookup_count_size = 0

abbrev pub name_bytes_size : ℕ
name_bytes_size = 1

abbrev pub tuple_count_size : ℕ
tuple_count_size = 2

-- table t
unfoldable pub table_at : BusTables → ℕ → Lookups
table_at l t =
    bus_lookups (table_part bus_sizes l.sizes lookup_count_size lookup_words t l.lookups)
    (table_part bus_sizes l.sizes name_bytes_size 1 t l.names)
    (table_part bus_sizes l.sizes tuple_count_size 1 t l.tuples)

unfoldable pub tables_of : BusTables → Tables
tables_of l = record { count = table_count bus_sizes l.sizes; table = table_at l }

-- refusal 1: the sizes of the tables, and those of each table's lookups
unfoldable pub lists_fit : Limits → BusTables → Bool
lists_fit m l =
    eqb (length l.sizes % bus_sizes) 0
    && leb (table_count bus_sizes l.sizes) m.tables
    && covers bus_sizes l.sizes lookup_count_size lookup_words l.lookups
    && covers bus_sizes l.sizes name_bytes_size 1 l.names
    && covers bus_sizes l.sizes tuple_count_size 1 l.tuples

unfoldable pub table_fits : Limits → Lookups → Bool
table_fits m l =
    lookups_within m l.lookups l.tuples
    && eqb (length l.names) (name_start l.lookups (lookup_count l.lookups))
    && eqb (length l.tuples) (tuple_start l.lookups (lookup_count l.lookups))

unfoldable pub all_fit : Limits → BusTables → Bool
all_fit m l = lists_fit m l && every (λ t. table_fits m (table_at l t)) (table_count bus_sizes l.sizes)

abbrev pub answered : Option Refusal → ℕ → Result ℕ Refusal
answered none d = Ok d
answered (some f) d = Err f

-- 1; then 5, as far as the lookups' words show it, in every lookup of every table; then 6
unfoldable pub widths_answer : Limits → BusTables → Result ℕ Refusal
widths_answer m l =
    answered
    (unless (all_fit m l) SizeAtOdds
    (unless (every (lengths_agree l.lookups) (lookup_count l.lookups)) LookupInvalid (widths_refusal (tables_of l))))
    (widest (tables_of l))

-- at the choices of a call: refusal 1 where one of them is unknown; no prime is read
unfoldable pub widths_at : Choices → BusTables → Result ℕ Refusal
widths_at c l = cond (known c) (widths_answer (limits_of c.profile) l) (Err SizeAtOdds)

-- the tables from the lists that are lent
abbrev pub lent_bus_tables : List ℕ → List ℕ → List ℕ → List ℕ → BusTables
lent_bus_tables lookups names tuples sizes = record { lookups = lookups; names = names; tuples = tuples; sizes = sizes }

-- SPECIFICATION, sections 1.4 and 7.1: "An answer is a number and three 64-bit details", "the width of the widest tuple on any bus" beside it,
-- 0 where it is refused
pub record WidthsNumbers : Type 0 where
  pub answer : Numbers
  pub width : ℕ

-- for each case of the code's enum
unfoldable pub in_numbers : Result ℕ Refusal → WidthsNumbers
in_numbers (Ok n) = record { answer = numbers none; width = n }
in_numbers (Err f) = record { answer = numbers (some f); width = 0 }
