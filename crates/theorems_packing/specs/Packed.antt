-- The packed table, and that it is what packing writes.
use Rattle.std.specs.Prelude.{◌≡◌, false, List, ℕ, T, Ok}
use Rattle.std.proofs.Math.Option.{none}
use Rattle.field.specs.Known.{prime_of}
use Rattle.expression.specs.Choices.{known, limits_of}
use Rattle.expression.specs.declared.choices.Choices.{Choices}
use Rattle.expression.specs.declared.sizes.Limits.{Limits}
use Rattle.lookup.specs.Lookups.{Lookups}
use Rattle.lookup.specs.Table.{Table}
use Rattle.lookup.specs.declared.refusals.Columns.{Columns}
use Rattle.packing.specs.Packing.{overweight}
use Rattle.packing.specs.Written.{words_of}
use Rattle.packing.specs.PackSameBus.{columns, packing_refusal, Outcome, counts, all_written, packing_at}

-- the table with its lookups packed; its traces and its nodes are as they were
abbrev pub packed_table : ℕ → Table → Table
packed_table limit t = record { traces = t.traces; nodes = t.nodes; lookups = words_of (columns limit t.nodes t.lookups) }

-- packing has no refusal 7: no bus column's weight is over 2³² - 1
abbrev pub NotOverweight : ℕ → Table → Type 0
NotOverweight limit t = overweight (columns limit t.nodes t.lookups) ≡ false

-- Where it refuses nothing, `pack_same_bus` writes the packed table's lookups at the front of the lent lists, and says how long they are.
abbrev pub WritesPacked : Limits → ℕ → (ℕ → Columns → List ℕ → Lookups → Lookups → Outcome) → Type 0
WritesPacked m p packing =
    (limit : ℕ) (c : Columns) (t : Table) (lent : Lookups) → packing_refusal m p limit c t.nodes t.lookups lent ≡ none
    → packing limit c t.nodes t.lookups lent
    ≡ record { answer = Ok (counts (packed_table limit t).lookups); lists = all_written (packed_table limit t).lookups lent }

-- at every known field and profile
abbrev pub KnownWritesPacked : Type 0
KnownWritesPacked = (c : Choices) → T (known c) → WritesPacked (limits_of c.profile) (prime_of c.field) (packing_at c)
