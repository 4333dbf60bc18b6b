-- Lists of bytes that are decoded into a room of words, one list after the other.
use Rattle.std.specs.Prelude.{ℕ, ◌-◌, ◌/◌, ◌%◌, Bool, ◌&&◌, List, [], ◌∷◌, ◌++◌, map, eqb, leb, length}
use Rattle.wire.specs.Wire.{words_of}

-- Lists of so many bytes fit a room of so many words: each is whole words of four bytes, and together they fill the room.
unfoldable pub sizes_fit : List ℕ → ℕ → Bool
sizes_fit [] room = eqb room 0
sizes_fit (bytes ∷ sizes) room = (eqb (bytes % 4) 0 && leb (bytes / 4) room) && sizes_fit sizes (room - bytes / 4)

unfoldable pub fit : List (List ℕ) → List ℕ → Bool
fit lists room = sizes_fit (map length lists) (length room)

-- lists, one after the other
unfoldable pub flat : List (List ℕ) → List ℕ
flat [] = []
flat (l ∷ lists) = l ++ flat lists

-- their words
abbrev pub all_words : List (List ℕ) → List ℕ
all_words lists = flat (map words_of lists)
