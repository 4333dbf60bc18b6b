-- Words in lists: a word past the end reads as 0.
use Rattle.std.specs.Prelude.{ℕ, ◌/◌, ◌%◌, Bool, List, leb, ltb, length, get_or}
use Rattle.lists.specs.Count.{every}

abbrev pub word : List ℕ → ℕ → ℕ
word l i = get_or l i 0

-- a number of 64 bits as two words
abbrev pub low_half : ℕ → ℕ
low_half n = n % 4294967296

abbrev pub high_half : ℕ → ℕ
high_half n = n / 4294967296

-- each word is below n
unfoldable pub all_below : ℕ → List ℕ → Bool
all_below n l = every (λ i. ltb (word l i) n) (length l)

-- each word is at most n
unfoldable pub all_within : ℕ → List ℕ → Bool
all_within n l = every (λ i. leb (word l i) n) (length l)
