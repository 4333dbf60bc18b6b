-- What a tuple rule gives, as a statement. SPECIFICATION, section 4.2: under rule 1 a tuple of k words combines to "Σ tⱼ·β^(k-1-j)", under
-- rule 2 to "Σ tⱼ·β^j". Its proof is laws/Rule.antt.
use Rattle.std.specs.Prelude.{ℕ, ◌≡◌, List, T}
use Rattle.field.specs.Known.{prime_of, w_of}
use Rattle.expression.specs.Choices.{known}
use Rattle.expression.specs.declared.choices.Choices.{Choices}
use Rattle.lookup.specs.Lookups.{Lookups}
use Rattle.logup.specs.Tuple.{tuple, combine, combine_under}
use Rattle.logup.specs.Rule.{lookups_under}

-- each tuple of the lookups as a rule reads them combines to what the lent tuple combines to under that rule
abbrev pub CombinedByRule : ℕ → ℕ → Type 0
CombinedByRule p w =
    (rule : ℕ) (l : Lookups) (vals beta : List ℕ) (i k : ℕ)
    → combine p w beta (tuple (lookups_under rule l) vals i k) ≡ combine_under rule p w beta (tuple l vals i k)

-- in each field
abbrev pub KnownCombined : Type 0
KnownCombined = (c : Choices) → T (known c) → CombinedByRule (prime_of c.field) (w_of c.field)
