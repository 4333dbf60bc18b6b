-- Words in bytes, the least byte first.
use Rattle.std.specs.Prelude.{ℕ, ◌+◌, ◌*◌, ◌/◌, ◌%◌, List, [], ◌∷◌, length, get_or}
use Rattle.lists.specs.Count.{joined}
use Rattle.lists.specs.Tab.{tab}

-- the word of four bytes
unfoldable pub word_of : ℕ → ℕ → ℕ → ℕ → ℕ
word_of a b c d = a + 256 * b + 65536 * c + 16777216 * d

-- word i
unfoldable pub word_at : List ℕ → ℕ → ℕ
word_at bytes i = word_of (get_or bytes (4 * i) 0) (get_or bytes (4 * i + 1) 0) (get_or bytes (4 * i + 2) 0) (get_or bytes (4 * i + 3) 0)

-- all whole words
unfoldable pub words_of : List ℕ → List ℕ
words_of bytes = tab (word_at bytes) 0 (length bytes / 4)

-- the four bytes of a word
unfoldable pub word_bytes : ℕ → List ℕ
word_bytes x = x % 256 ∷ x / 256 % 256 ∷ x / 65536 % 256 ∷ x / 16777216 % 256 ∷ []

unfoldable pub bytes_of : List ℕ → List ℕ
bytes_of words = joined (λ i. word_bytes (get_or words i 0)) 0 (length words)
