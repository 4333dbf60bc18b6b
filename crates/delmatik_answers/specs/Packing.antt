-- Packing's answer as numbers: what is refused, and how many words, or bytes of names, of each list are used. SPECIFICATION, sections 10.5
-- and 14.1.
use Rattle.std.specs.Prelude.{ℕ, List, [], ◌∷◌, Result}
use Rattle.std.proofs.Math.Option.{Option}
use Rattle.expression.specs.declared.refusal.Refusal.{Refusal}
use Rattle.packing.specs.declared.answer.Counts.{Counts}
use Rattle.delmatik_answers.specs.Refused.{refused, written}

abbrev pub packing_refused : Result Counts Refusal → Option Refusal
packing_refused = refused

-- lookups, names, tuples, multiplicities, flags, elements
abbrev pub counts_words : Counts → List ℕ
counts_words c = c.lookups ∷ c.names ∷ c.tuples ∷ c.multiplicities ∷ c.flags ∷ c.elements ∷ []

-- what stands in the six lent numbers afterwards: as it was where it is refused
abbrev pub packing_used : Result Counts Refusal → List ℕ → List ℕ
packing_used = written counts_words
