-- Refusals 1 to 5 and 9 of a whole table, as tests that hold where there is no such refusal. SPECIFICATION, section 10.
use Rattle.std.specs.Prelude.{ℕ, ◌*◌, ◌%◌, Bool, cond, not, ◌&&◌, ◌||◌, List, eqb, leb, ltb, length}
use Rattle.lists.specs.Count.{every}
use Rattle.expression.specs.Words.{all_below, all_within}
use Rattle.expression.specs.Tests.{traces_within, nodes_within, traces_fit, nodes_fit, traces_below, constants_below, nodes_known}
use Rattle.expression.specs.declared.sizes.Shape.{Shape}
use Rattle.expression.specs.declared.sizes.Limits.{Limits}
use Rattle.lookup.specs.Lookups.{Lookups, lookup_words, lookup_count, on_bus, name_length, weight, column, exclusive, tuple_count, multiplicity_count, flag_count, name_start, tuple_start, multiplicity_start, flag_start, element_start}
use Rattle.lookup.specs.Table.{Table}

-- the most that a weight may be: on a bus 2³² - 1, of a local "its tuple count × (2³² - 1), or without tuples 2³² - 1"
unfoldable pub weight_limit : List ℕ → ℕ → ℕ
weight_limit lookups i = cond (on_bus lookups i || eqb (tuple_count lookups i) 0) 4294967295 (tuple_count lookups i * 4294967295)

-- refusal 1, as far as the words of lookup i show it: the bytes of its name, and its weight
unfoldable pub lookup_within : Limits → List ℕ → ℕ → Bool
lookup_within m lookups i = leb (name_length lookups i) m.name_bytes && leb (weight lookups i) (weight_limit lookups i)

-- refusal 1, "a size is over a limit", of the lookups
unfoldable pub lookups_within : Limits → List ℕ → List ℕ → Bool
lookups_within m lookups tuples =
    leb (lookup_count lookups) m.lookups
    && leb (length tuples) m.tuples
    && all_within m.tuple_words tuples
    && every (lookup_within m lookups) (lookup_count lookups)

-- refusal 1, "at odds with a list's length", of the lookups
unfoldable pub lookups_fit : Lookups → Bool
lookups_fit l =
    eqb (length l.lookups % lookup_words) 0
    && eqb (length l.names) (name_start l.lookups (lookup_count l.lookups))
    && eqb (length l.tuples) (tuple_start l.lookups (lookup_count l.lookups))
    && eqb (length l.multiplicities) (multiplicity_start l.lookups (lookup_count l.lookups))
    && eqb (length l.flags) (flag_start l.lookups (lookup_count l.lookups))
    && eqb (length l.elements) (element_start l.tuples (length l.tuples))

-- refusal 1
unfoldable pub sizes : Limits → Table → Bool
sizes m t =
    traces_within m t.traces.shape t.traces.public_values
    && nodes_within m t.nodes
    && lookups_within m t.lookups.lookups t.lookups.tuples
    && traces_fit t.traces.shape t.traces.main t.traces.preprocessed
    && nodes_fit t.nodes
    && lookups_fit t.lookups

-- refusal 2 of a table: the traces, the public values, the constants
unfoldable pub words_below : ℕ → Table → Bool
words_below p t = traces_below p t.traces && constants_below p t.nodes

-- refusal 3
unfoldable pub known : Table → Bool
known t = nodes_known t.traces.shape (length t.traces.public_values) t.nodes

-- refusal 5: the numbers of tuples, multiplicities and flags
unfoldable pub lengths_agree : List ℕ → ℕ → Bool
lengths_agree lookups i =
    eqb (multiplicity_count lookups i) (tuple_count lookups i)
    && eqb (flag_count lookups i) (cond (exclusive lookups i) (tuple_count lookups i) 0)

-- refusal 5: "names a node that is not there"; n nodes
unfoldable pub nodes_present : ℕ → Lookups → Bool
nodes_present n l = all_below n l.multiplicities && all_below n l.flags && all_below n l.elements

unfoldable pub lists_agree : ℕ → Lookups → Bool
lists_agree n l = every (lengths_agree l.lookups) (lookup_count l.lookups) && nodes_present n l

-- refusal 5: "in generation and constraints: a lookup's column is not its position"
unfoldable pub in_position : List ℕ → Bool
in_position lookups = every (λ i. eqb (column lookups i) i) (lookup_count lookups)

unfoldable pub has_lookups : List ℕ → Bool
has_lookups lookups = ltb 0 (lookup_count lookups)

-- refusal 9: "a preprocessed trace, of width above 0, with fewer rows than main"
unfoldable pub preprocessed_enough : Shape → Bool
preprocessed_enough s = eqb s.pre_width 0 || leb s.height s.pre_height

-- refusal 9: "with lookups: height 0 (generation, constraints)"
unfoldable pub rows_enough : Shape → List ℕ → Bool
rows_enough s lookups = not (has_lookups lookups) || (ltb 0 s.height && preprocessed_enough s)
