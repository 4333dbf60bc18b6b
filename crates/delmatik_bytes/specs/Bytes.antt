-- A table whose lists are bytes, four a word; only the names are bytes in any case. Its words, and its lists in the order in which a room holds them.
use Rattle.std.specs.Prelude.{ℕ, List, [], ◌∷◌}
use Rattle.lookup.specs.Lookups.{Lookups, lent_lookups}
use Rattle.lookup.specs.Table.{Table, lent_table}
use Rattle.wire.specs.Wire.{words_of, bytes_of}

abbrev pub decoded_lookups : Lookups → Lookups
decoded_lookups l =
    lent_lookups (words_of l.lookups) l.names (words_of l.tuples) (words_of l.multiplicities) (words_of l.flags) (words_of l.elements)

abbrev pub encoded_lookups : Lookups → Lookups
encoded_lookups l =
    lent_lookups (bytes_of l.lookups) l.names (bytes_of l.tuples) (bytes_of l.multiplicities) (bytes_of l.flags) (bytes_of l.elements)

abbrev pub lookup_lists : Lookups → List (List ℕ)
lookup_lists l = l.lookups ∷ l.tuples ∷ l.multiplicities ∷ l.flags ∷ l.elements ∷ []

abbrev pub decoded_table : Table → Table
decoded_table t =
    lent_table t.traces.shape (words_of t.traces.main) (words_of t.traces.preprocessed) (words_of t.traces.public_values) (words_of t.nodes)
    (decoded_lookups t.lookups)
