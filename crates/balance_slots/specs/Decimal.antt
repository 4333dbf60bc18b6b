-- The order of tuples by decimal text. SPECIFICATION, section 8.4: "tuples are compared word by word, each word by its decimal text", "a
-- tuple that another one continues comes before it".
use Rattle.std.specs.Prelude.{ℕ, zero, suc, ◌/◌, ◌%◌, Bool, true, false, cond, List, [], ◌∷◌, ◌++◌, eqb, ltb}

-- the decimal digits of x, the first digit first; n of them at most
unfoldable pub digits : ℕ → ℕ → List ℕ
digits zero x = []
digits (suc n) x = cond (ltb x 10) (x ∷ []) (digits n (x / 10) ++ (x % 10 ∷ []))

-- the decimal text of a word: a word of 32 bits has at most ten digits
abbrev pub text : ℕ → List ℕ
text x = digits 10 x

-- the order of a dictionary, by the order of the letters: a shorter list before its continuations
unfoldable pub in_order : (ℕ → ℕ → Bool) → List ℕ → List ℕ → Bool
in_order less [] [] = false
in_order less [] (y ∷ ys) = true
in_order less (x ∷ xs) [] = false
in_order less (x ∷ xs) (y ∷ ys) = cond (eqb x y) (in_order less xs ys) (less x y)

-- words by their texts, digit by digit: "1" before "10" before "2"
abbrev pub text_less : ℕ → ℕ → Bool
text_less x y = in_order ltb (text x) (text y)

-- tuples by their words' texts
abbrev pub tuple_less : List ℕ → List ℕ → Bool
tuple_less = in_order text_less
