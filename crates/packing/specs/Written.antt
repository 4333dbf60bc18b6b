-- The words that say a list of lookups. SPECIFICATION, sections 2.4 and 6.2.
use Rattle.std.specs.Prelude.{not, ℕ, length, drop}
use mathlib.Core.List.{List, [], ◌∷◌, ◌++◌, map, flat_map}
use Rattle.expression.specs.Words.{low_half, high_half}
use Rattle.expression.specs.Values.{bit}
use Rattle.lookup.specs.Lookups.{Lookups, Lookup}

-- scope, name length, weight, column, exclusive, tuples, multiplicities, flags, and the weight's high half
unfoldable pub lookup_words : Lookup → List ℕ
lookup_words l =
    bit (not l.local)
    ∷ length l.name
    ∷ low_half l.weight
    ∷ l.column
    ∷ bit l.exclusive
    ∷ length l.tuples
    ∷ length l.multiplicities
    ∷ length l.flags
    ∷ high_half l.weight
    ∷ []

unfoldable pub words_of : List Lookup → Lookups
words_of ls =
    record {
      lookups = flat_map lookup_words ls;
      names = flat_map (λ (l : Lookup). l.name) ls;
      tuples = flat_map (λ (l : Lookup). map (λ (t : List ℕ). length t) l.tuples) ls;
      multiplicities = flat_map (λ (l : Lookup). l.multiplicities) ls;
      flags = flat_map (λ (l : Lookup). l.flags) ls;
      elements = flat_map (λ (l : Lookup). flat_map (λ (t : List ℕ). t) l.tuples) ls;
    }

-- a lent list after words were written at its front: "what lies past it is untouched"
abbrev pub written : {A : Type 0} → List A → List A → List A
written words d = words ++ drop (length words) d
