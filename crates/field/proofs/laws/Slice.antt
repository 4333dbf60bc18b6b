-- Elements in slices of words.
use Rattle.std.specs.Prelude.{◌≡◌, refl, List, [], ◌∷◌, ℕ, ◌+◌, ◌*◌, ◌<◌, length, set}
use Rattle.std.proofs.Common.{arith}
use Rattle.field.specs.Element.{at, Word4, element}

-- four stores into four words
pub four-set : (l : List ℕ) (a b c d : ℕ) → length l ≡ 4 → set (set (set (set l 0 a) 1 b) 2 c) 3 d ≡ a ∷ b ∷ c ∷ d ∷ []
four-set [] a b c d e = absurd (omega arith)
four-set (w ∷ []) a b c d e = absurd (omega arith)
four-set (w ∷ x ∷ []) a b c d e = absurd (omega arith)
four-set (w ∷ x ∷ y ∷ []) a b c d e = absurd (omega arith)
four-set (w ∷ x ∷ y ∷ z ∷ []) a b c d e = refl
four-set (w ∷ x ∷ y ∷ z ∷ v ∷ l) a b c d e = absurd (omega arith)

-- an element of a list of words below p
pub word-element : {p : ℕ} (l : List ℕ) (i : ℕ) → ((k : ℕ) → at l k < p) → Word4 p (element l i)
unfolding element
word-element l i b = record { w0 = b (4 * i); w1 = b (4 * i + 1); w2 = b (4 * i + 2); w3 = b (4 * i + 3) }

-- a list of four words is these four
pub four-words : (l : List ℕ) → length l ≡ 4 → at l 0 ∷ at l 1 ∷ at l 2 ∷ at l 3 ∷ [] ≡ l
four-words [] e = absurd (omega arith)
four-words (w ∷ []) e = absurd (omega arith)
four-words (w ∷ x ∷ []) e = absurd (omega arith)
four-words (w ∷ x ∷ y ∷ []) e = absurd (omega arith)
four-words (w ∷ x ∷ y ∷ z ∷ []) e = refl
four-words (w ∷ x ∷ y ∷ z ∷ v ∷ l) e = absurd (omega arith)

pub element-whole : (l : List ℕ) → length l ≡ 4 → element l 0 ≡ l
unfolding element
element-whole l e = four-words l e
