-- Packing of one table: the answer, and the lent lists afterwards, for every input.
use Rattle.std.specs.Prelude.{Bool, cond, not, ◌&&◌, List, ℕ, leb, length, Err, Ok, Result}
use Rattle.std.proofs.Math.Option.{Option, none, some}
use Rattle.lists.specs.Count.{or_else}
use Rattle.field.specs.Known.{prime_of}
use Rattle.expression.specs.Choices.{known, limits_of}
use Rattle.expression.specs.declared.choices.Choices.{Choices}
use Rattle.expression.specs.Refusal.{Numbers, numbers, unless}
use Rattle.expression.specs.declared.sizes.Limits.{Limits}
use Rattle.expression.specs.declared.refusal.Refusal.{Refusal}
use Rattle.expression.specs.declared.refusal.Refusal.TheVariants.{SizeAtOdds, WeightTooLarge}
use Rattle.lookup.specs.Lookups.{Lookups, Lookup}
use Rattle.lookup.specs.Refusals.{form_refusal}
use Rattle.lookup.specs.declared.refusals.Columns.{Columns}
use Rattle.lookup_degree.specs.Degree.{node_degrees}
use Rattle.lookup_buses.specs.Widths.{Tables, widths_refusal}
use Rattle.packing.specs.Packing.{packed, overweight}
use Rattle.packing.specs.Written.{words_of, written}
use Rattle.packing.specs.declared.answer.Counts.{Counts}

-- one table by itself
abbrev pub single_table : Lookups → Tables
single_table l = record { count = 1; table = λ t. l }

-- refusal 1: a lent list is as long as the table's own at least. What is written then finds room: packing writes no more than it reads
-- (`packed_no_longer`).
unfoldable pub holds : Lookups → Lookups → Bool
holds lent l =
    leb (length l.lookups) (length lent.lookups)
    && leb (length l.names) (length lent.names)
    && leb (length l.tuples) (length lent.tuples)
    && leb (length l.multiplicities) (length lent.multiplicities)
    && leb (length l.flags) (length lent.flags)
    && leb (length l.elements) (length lent.elements)

-- SPECIFICATION, section 6.2: degrees at t = 0
unfoldable pub columns : ℕ → List ℕ → Lookups → List Lookup
columns limit nodes l = packed (node_degrees 0 nodes) limit l

-- Refusals 1 to 7, "in the order of their numbers" (SPECIFICATION, section 10.2): 1 of the lent lists; 1 to 5 of the table; 6; and 7.
unfoldable pub packing_refusal : Limits → ℕ → ℕ → Columns → List ℕ → Lookups → Lookups → Option Refusal
packing_refusal m p limit c nodes l lent =
    unless (holds lent l) SizeAtOdds
    (or_else (form_refusal m p c nodes l)
    (or_else (widths_refusal (single_table l))
    (unless (not (overweight (columns limit nodes l))) WeightTooLarge none)))

pub record Outcome : Type 0 where
  pub answer : Result Counts Refusal
  pub lists : Lookups

abbrev pub counts : Lookups → Counts
counts w =
    record {
      lookups = length w.lookups;
      names = length w.names;
      tuples = length w.tuples;
      multiplicities = length w.multiplicities;
      flags = length w.flags;
      elements = length w.elements;
    }

-- words at the front of each lent list
abbrev pub all_written : Lookups → Lookups → Lookups
all_written w lent =
    record {
      lookups = written w.lookups lent.lookups;
      names = written w.names lent.names;
      tuples = written w.tuples lent.tuples;
      multiplicities = written w.multiplicities lent.multiplicities;
      flags = written w.flags lent.flags;
      elements = written w.elements lent.elements;
    }

-- refusals 1 to 12 leave lent outputs as they were (SPECIFICATION, section 10.5)
abbrev pub outcome : Option Refusal → Lookups → Lookups → Outcome
outcome (some f) w lent = record { answer = Err f; lists = lent }
outcome none w lent = record { answer = Ok (counts w); lists = all_written w lent }

-- the table's columns, nodes and lookups, and the lent lists
unfoldable pub packing : Limits → ℕ → ℕ → Columns → List ℕ → Lookups → Lookups → Outcome
packing m p limit c nodes l lent = outcome (packing_refusal m p limit c nodes l lent) (words_of (columns limit nodes l)) lent

-- at the choices of a call: refusal 1 where one of them is unknown
unfoldable pub packing_at : Choices → ℕ → Columns → List ℕ → Lookups → Lookups → Outcome
packing_at c limit columns nodes l lent =
    cond (known c) (packing (limits_of c.profile) (prime_of c.field) limit columns nodes l lent)
    (record { answer = Err SizeAtOdds; lists = lent })

-- SPECIFICATION, sections 1.4 and 6.2: "An answer is a number and three 64-bit details", "how much of each list was written" beside it, 0 of each
-- where it is refused, and the lent lists afterwards
pub record PackingNumbers : Type 0 where
  pub answer : Numbers
  pub used : Counts
  pub lists : Lookups

-- for each case of the code's enum
abbrev pub refusal_of : Result Counts Refusal → Option Refusal
refusal_of (Ok c) = none
refusal_of (Err f) = some f

abbrev pub used_of : Result Counts Refusal → Counts
used_of (Ok c) = c
used_of (Err f) = record { lookups = 0; names = 0; tuples = 0; multiplicities = 0; flags = 0; elements = 0 }

unfoldable pub in_numbers : Outcome → PackingNumbers
in_numbers o = record { answer = numbers (refusal_of o.answer); used = used_of o.answer; lists = o.lists }
