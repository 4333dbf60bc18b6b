-- Small cases, by computation.
use Rattle.std.specs.Prelude.{◌≡◌, refl, true, false, [], ◌∷◌}
use Rattle.lists.specs.Count.{joined}
use Rattle.lists.specs.Tab.{tab}
use Rattle.wire.specs.Wire.{word_of, word_at, words_of, word_bytes, bytes_of}
use Rattle.wire.specs.Room.{sizes_fit, fit, flat, all_words}

-- the words 1 and 258, and back
decoded : words_of (1 ∷ 0 ∷ 0 ∷ 0 ∷ 2 ∷ 1 ∷ 0 ∷ 0 ∷ []) ≡ 1 ∷ 258 ∷ []
unfolding words_of word_at word_of tab
decoded = refl

encoded : bytes_of (1 ∷ 258 ∷ []) ≡ 1 ∷ 0 ∷ 0 ∷ 0 ∷ 2 ∷ 1 ∷ 0 ∷ 0 ∷ []
unfolding bytes_of word_bytes joined
encoded = refl

-- a list of one word, an empty one, and one of two: a room of three words, and what stands in it
room : all_words ((7 ∷ 0 ∷ 0 ∷ 0 ∷ []) ∷ [] ∷ (1 ∷ 0 ∷ 0 ∷ 0 ∷ 2 ∷ 1 ∷ 0 ∷ 0 ∷ []) ∷ []) ≡ 7 ∷ 1 ∷ 258 ∷ []
unfolding flat words_of word_at word_of tab
room = refl

fits : fit ((7 ∷ 0 ∷ 0 ∷ 0 ∷ []) ∷ [] ∷ (1 ∷ 0 ∷ 0 ∷ 0 ∷ 2 ∷ 1 ∷ 0 ∷ 0 ∷ []) ∷ []) (9 ∷ 9 ∷ 9 ∷ []) ≡ true
unfolding fit sizes_fit
fits = refl

-- a longer room, a shorter one, and a list that is no whole words
longer : fit ((7 ∷ 0 ∷ 0 ∷ 0 ∷ []) ∷ []) (9 ∷ 9 ∷ []) ≡ false
unfolding fit sizes_fit
longer = refl

shorter : fit ((7 ∷ 0 ∷ 0 ∷ 0 ∷ []) ∷ []) [] ≡ false
unfolding fit sizes_fit
shorter = refl

odd : fit ((7 ∷ 0 ∷ 0 ∷ 0 ∷ 5 ∷ []) ∷ []) (9 ∷ []) ≡ false
unfolding fit sizes_fit
odd = refl
