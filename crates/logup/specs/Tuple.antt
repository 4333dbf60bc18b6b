-- The combined value of a tuple and its denominator. SPECIFICATION, section 4.2; Haböck, "Multivariate lookups based on logarithmic
-- derivatives" (ePrint 2022/1530), section 3: the linear factor X - z of a value z at the challenge X, here alpha; several columns are
-- combined by powers of a second challenge, here beta.
use Rattle.std.specs.Prelude.{ℕ, ◌-◌, cond, List, map, eqb, length}
use Rattle.field.specs.Element.{sub4, scale4, sum4, power4, inverse4}
use Rattle.expression.specs.Words.{word}
use Rattle.lookup.specs.Lookups.{Lookups, tuple_nodes}

-- the words of tuple k of lookup i, from the values of the nodes
unfoldable pub tuple : Lookups → List ℕ → ℕ → ℕ → List ℕ
tuple l vals i k = map (word vals) (tuple_nodes l i k)

-- the power of beta that goes with element j of k: under rule 1 "Σ tⱼ·β^(k-1-j)", under rule 2 "Σ tⱼ·β^j"
abbrev pub exponent : ℕ → ℕ → ℕ → ℕ
exponent rule k j = cond (eqb rule 2) j (k - 1 - j)

-- "the combined value" under a rule; "The empty tuple combines to 0."
abbrev pub combine_under : ℕ → ℕ → ℕ → List ℕ → List ℕ → List ℕ
combine_under rule p w beta es = sum4 p (λ j. scale4 p (word es j) (power4 p w beta (exponent rule (length es) j))) (length es)

-- under rule 1. What rule 2 gives is this of the reversed tuple (Rule.antt; theorems_soundness, Rule.antt).
unfoldable pub combine : ℕ → ℕ → List ℕ → List ℕ → List ℕ
combine p w beta es = combine_under 1 p w beta es

-- "Its denominator is α less the combined value."
unfoldable pub denominator : ℕ → ℕ → List ℕ → List ℕ → List ℕ → List ℕ
denominator p w alpha beta es = sub4 p alpha (combine p w beta es)

-- m ÷ d, and 0 where d is 0
unfoldable pub quotient4 : ℕ → ℕ → ℕ → List ℕ → List ℕ
quotient4 p w m d = scale4 p m (inverse4 p w d)
