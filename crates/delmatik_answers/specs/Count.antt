-- A count's answer as numbers: the count, which is its node and its weight. SPECIFICATION, sections 6.4, 10.5 and 14.1.
use Rattle.std.specs.Prelude.{ℕ, List, [], ◌∷◌, Result}
use Rattle.expression.specs.declared.refusal.Refusal.{Refusal}
use Rattle.lookup_count.specs.declared.count.Count.{Count}
use Rattle.delmatik_answers.specs.Refused.{written}

abbrev pub count_words : Count → List ℕ
count_words c = c.node ∷ c.weight ∷ []

-- what stands in the two lent words afterwards: as it was where it is refused
abbrev pub counted_words : Result Count Refusal → List ℕ → List ℕ
counted_words = written count_words
