-- From laws of generation within the limits of a profile and in a field to the entry point at its known choices, under each rule.
use Rattle.std.specs.Prelude.{◌≡◌, refl, Bool, true, false, cond, ◌&&◌, ◌||◌, ℕ, ◌≤◌, T, eqb}
use Rattle.std.proofs.Common.{sym, ap₂, subst, lit≤}
use Rattle.lists.specs.laws.Count.{of_true, true_of, eq_of_eqb}
use Rattle.field.specs.Modulus.{Modulus, Certificate}
use Rattle.field.specs.Known.{babybear, koalabear, known_field, prime_of, w_of}
use Rattle.field.proofs.laws.Known.{modulus_of, certificate_of}
use Rattle.expression.specs.Choices.{choices_of, known, known_rule, limits_of}
use Rattle.expression.specs.declared.choices.Choices.{Choices}
use Rattle.expression.specs.declared.sizes.Limits.{Limits}
use Rattle.logup.specs.Rule.{elements_under, table_under}
use Rattle.logup.specs.Generation.{Generation, generation, generation_at}
use Rattle.logup.proofs.laws.Choices.{generation-known}
use Rattle.theorems_soundness.specs.Soundness.{AtKnownChoices}

-- babybear is the least of the known primes
pub prime_least : (field : ℕ) → babybear ≤ prime_of field
unfolding prime_of
prime_least field = by (eqb field 2)
  where
    by : (b : Bool) → babybear ≤ cond b koalabear babybear
    by true = lit≤ tt
    by false = lit≤ tt

-- the fields are two, and so are the rules
one_or_two : (P : ℕ → Type 0) → P 1 → P 2 → (n : ℕ) → T (eqb n 1 || eqb n 2) → P n
one_or_two P one two n ok = by (eqb n 1) refl ok
  where
    by : (b : Bool) → eqb n 1 ≡ b → T (b || eqb n 2) → P n
    by true e t = subst P (sym (eq_of_eqb n 1 e)) one
    by false e t = subst P (sym (eq_of_eqb n 2 (true_of (eqb n 2) t))) two

pub in_each_field : (P : ℕ → Type 0) → P 1 → P 2 → (field : ℕ) → T (known_field field) → P field
unfolding known_field
in_each_field P one two field ok = one_or_two P one two field ok

pub by_each_rule : (P : ℕ → Type 0) → P 1 → P 2 → (rule : ℕ) → T (known_rule rule) → P rule
unfolding known_rule
by_each_rule P one two rule ok = one_or_two P one two rule ok

-- with the cabinet, and each rule
pub known_of : (field : ℕ) → T (known_field field) → T (known (choices_of field 1))
unfolding known
known_of field ok = of_true (ap₂ ◌&&◌ (true_of (known_field field) ok) refl)

pub rule_1 : T (known_rule 1)
unfolding known_rule
rule_1 = tt

pub rule_2 : T (known_rule 2)
unfolding known_rule
rule_2 = tt

-- rule 1 reads a table as it is lent
pub generation_by_rule_1 : (c : Choices) → T (known c)
    → generation_at c 1 ≡ generation (limits_of c.profile) (prime_of c.field) (w_of c.field)
unfolding elements_under
generation_by_rule_1 c k = generation-known c 1 k rule_1

-- what holds of a generation holds of it for the tables as a rule reads them
abbrev pub UnderEachRule : (Limits → ℕ → Generation → Type 0) → Type 0
UnderEachRule S = (m : Limits) (p : ℕ) (g : Generation) (rule : ℕ) → S m p g → S m p (λ t. g (table_under rule t))

module _ (S : Limits → ℕ → Generation → Type 0) (under : UnderEachRule S) where
  pub at_known : ((c : Choices) → T (known c)
      → S (limits_of c.profile) (prime_of c.field) (generation (limits_of c.profile) (prime_of c.field) (w_of c.field)))
      → AtKnownChoices S
  at_known holds c rule k r =
      subst (S (limits_of c.profile) (prime_of c.field)) (sym (generation-known c rule k r))
      (under (limits_of c.profile) (prime_of c.field) (generation (limits_of c.profile) (prime_of c.field) (w_of c.field)) rule (holds c k))

  -- what holds for every prime and value of X⁴ that make a field
  pub of_every_field : ((m : Limits) (p w : ℕ) → Modulus p → Certificate p w → S m p (generation m p w)) → AtKnownChoices S
  of_every_field holds =
      at_known
      (λ c k. holds (limits_of c.profile) (prime_of c.field) (w_of c.field) (modulus_of c.field) (certificate_of c.field))
