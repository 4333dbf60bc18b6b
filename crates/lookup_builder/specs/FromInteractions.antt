-- Building of one table's lookups: the answer, and the lent list afterwards, for every input.
use Rattle.std.specs.Prelude.{Bool, cond, ◌&&◌, List, ◌++◌, ℕ, ◌+◌, ◌*◌, eqb, leb, length, drop, Err, Ok, Result}
use Rattle.std.proofs.Math.Option.{Option, none, some}
use Rattle.lists.specs.Count.{every, or_else}
use Rattle.field.specs.Known.{prime_of}
use Rattle.expression.specs.Choices.{known, limits_of}
use Rattle.expression.specs.declared.choices.Choices.{Choices}
use Rattle.expression.specs.Refusal.{Numbers, numbers, unless}
use Rattle.expression.specs.declared.sizes.Limits.{Limits}
use Rattle.expression.specs.declared.refusal.Refusal.{Refusal}
use Rattle.expression.specs.declared.refusal.Refusal.TheVariants.{SizeAtOdds}
use Rattle.lookup.specs.Lookups.{Lookups, lookup_words, lent_lookups}
use Rattle.lookup.specs.Refusals.{form_refusal}
use Rattle.lookup.specs.declared.refusals.Columns.{Columns}
use Rattle.lookup_builder.specs.declared.answer.LentInteractions.{LentInteractions}
use Rattle.lookup_builder.specs.Building.{interaction_words, interaction_count, tuple_number, first_tuple, built, locals_refusal}
use Rattle.lookup_builder.specs.declared.answer.Kinds.{Kinds}

-- the words that are lent: the interactions, a weight for each tuple, and the lists that the lookups will have
pub record Interactions : Type 0 where
  pub interactions : List ℕ
  pub weights : List ℕ
  pub names : List ℕ
  pub tuples : List ℕ
  pub multiplicities : List ℕ
  pub flags : List ℕ
  pub elements : List ℕ

-- the words from the lists that are lent
abbrev pub lent_interactions : List ℕ → List ℕ → List ℕ → List ℕ → List ℕ → List ℕ → List ℕ → Interactions
lent_interactions interactions weights names tuples multiplicities flags elements =
    record { interactions = interactions; weights = weights; names = names; tuples = tuples; multiplicities = multiplicities; flags = flags; elements = elements }

-- the interactions, from what a caller lends
abbrev pub as_interactions : LentInteractions → Interactions
as_interactions g =
    lent_interactions g.records.now g.weights.now g.names.now g.tuples.now g.multiplicities.now g.flags.now g.elements.now

-- refusal 1 of the interactions: two words each, a weight for each tuple, one tuple of each global, and room for the words of each lookup
unfoldable pub building_fits : Limits → Kinds → List ℕ → List ℕ → List ℕ → ℕ → Bool
building_fits m k interactions weights tuples room =
    leb (interaction_count k) m.lookups
    && eqb (length interactions) (interaction_words * interaction_count k)
    && leb (length tuples) m.tuples
    && eqb (length tuples) (first_tuple interactions (interaction_count k))
    && eqb (length weights) (length tuples)
    && every (λ j. eqb (tuple_number interactions (k.locals + j)) 1) k.globals
    && leb (lookup_words * interaction_count k) room

-- the lookups that are built
abbrev pub lookups_built : Kinds → Interactions → Lookups
lookups_built k g = lent_lookups (built k g.interactions g.weights) g.names g.tuples g.multiplicities g.flags g.elements

-- lookups of which the first are locals: 1 to 5 as of every table, then 6
unfoldable pub built_refusal : Limits → ℕ → Columns → List ℕ → ℕ → Lookups → Option Refusal
built_refusal m p c nodes locals l = or_else (form_refusal m p c nodes l) (locals_refusal locals l.lookups l.tuples)

unfoldable pub building_refusal : Limits → ℕ → Columns → List ℕ → Kinds → Interactions → ℕ → Option Refusal
building_refusal m p c nodes k g room =
    unless (building_fits m k g.interactions g.weights g.tuples room) SizeAtOdds (built_refusal m p c nodes k.locals (lookups_built k g))

pub record Outcome : Type 0 where
  pub answer : Result ℕ Refusal
  pub lookups : List ℕ

-- refusals 1 to 12 leave lent outputs as they were (SPECIFICATION, section 10.5)
abbrev pub outcome : Option Refusal → List ℕ → List ℕ → Outcome
outcome none words lent = record { answer = Ok (length words); lookups = words ++ drop (length words) lent }
outcome (some f) words lent = record { answer = Err f; lookups = lent }

-- the table's columns and nodes, the interactions, and the lent list
unfoldable pub building : Limits → ℕ → Columns → List ℕ → Kinds → Interactions → List ℕ → Outcome
building m p c nodes k g lent = outcome (building_refusal m p c nodes k g (length lent)) (built k g.interactions g.weights) lent

-- at the choices of a call: refusal 1 where one of them is unknown
unfoldable pub building_at : Choices → Columns → List ℕ → Kinds → Interactions → List ℕ → Outcome
building_at c columns nodes k g lent =
    cond (known c) (building (limits_of c.profile) (prime_of c.field) columns nodes k g lent)
    (record { answer = Err SizeAtOdds; lookups = lent })

-- SPECIFICATION, sections 1.4 and 14.1: "An answer is a number and three 64-bit details", how many words were written beside it, 0 where it is
-- refused, and the lent list afterwards
pub record BuildingNumbers : Type 0 where
  pub answer : Numbers
  pub used : ℕ
  pub lookups : List ℕ

-- for each case of the code's enum
abbrev pub refusal_of : Result ℕ Refusal → Option Refusal
refusal_of (Ok n) = none
refusal_of (Err f) = some f

abbrev pub used_of : Result ℕ Refusal → ℕ
used_of (Ok n) = n
used_of (Err f) = 0

unfoldable pub in_numbers : Outcome → BuildingNumbers
in_numbers o = record { answer = numbers (refusal_of o.answer); used = used_of o.answer; lookups = o.lookups }
