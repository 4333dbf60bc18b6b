-- At known choices an entry point is the definition at that profile's limits and that field's prime and value of X⁴, for the table as the rule
-- reads it; at others it is refusal 1.
use Rattle.std.specs.Prelude.{◌≡◌, true, false, cond, ◌&&◌, List, ℕ, T}
use Rattle.std.proofs.Common.{ap₂}
use Rattle.std.proofs.Math.Option.{Option, some}
use Rattle.lists.specs.laws.Count.{true_of}
use Rattle.field.specs.Known.{prime_of, w_of}
use Rattle.expression.specs.Choices.{known, known_rule, limits_of}
use Rattle.expression.specs.Refusal.{unless}
use Rattle.expression.specs.declared.choices.Choices.{Choices}
use Rattle.expression.specs.declared.refusal.Refusal.TheVariants.{SizeAtOdds}
use Rattle.lookup.specs.Table.{Table}
use Rattle.logup.specs.Rule.{table_under}
use Rattle.logup.specs.Generation.{refused, generation, generation_at}
use Rattle.logup.specs.Constraints.{verdict, verdict_at}

both-known : (c : Choices) (rule : ℕ) → T (known c) → T (known_rule rule) → (known c && known_rule rule) ≡ true
both-known c rule k r = ap₂ ◌&&◌ (true_of (known c) k) (true_of (known_rule rule) r)

pub generation-known : (c : Choices) (rule : ℕ) → T (known c) → T (known_rule rule)
    → generation_at c rule ≡ (λ t. generation (limits_of c.profile) (prime_of c.field) (w_of c.field) (table_under rule t))
unfolding generation_at
generation-known c rule k r =
    λ i t challenges buffer. cond (both-known c rule k r i)
    (generation (limits_of c.profile) (prime_of c.field) (w_of c.field) (table_under rule t) challenges buffer)
    (record { answer = refused SizeAtOdds; buffer = buffer })

pub generation_unknown : (c : Choices) (rule : ℕ) (t : Table) (challenges buffer : List ℕ) → (known c && known_rule rule) ≡ false
    → generation_at c rule t challenges buffer ≡ record { answer = refused SizeAtOdds; buffer = buffer }
unfolding generation_at
generation_unknown c rule t challenges buffer e = rw e

pub verdict-known : (c : Choices) (rule : ℕ) → T (known c) → T (known_rule rule)
    → verdict_at c rule ≡ (λ t. verdict (limits_of c.profile) (prime_of c.field) (w_of c.field) (table_under rule t))
unfolding verdict_at
verdict-known c rule k r =
    λ i t challenges width words terminal. unless (both-known c rule k r i) SizeAtOdds
    (verdict (limits_of c.profile) (prime_of c.field) (w_of c.field) (table_under rule t) challenges width words terminal)

pub verdict_unknown : (c : Choices) (rule : ℕ) (t : Table) (challenges : List ℕ) (width : ℕ) (words : List ℕ) (terminal : Option (List ℕ))
    → (known c && known_rule rule) ≡ false → verdict_at c rule t challenges width words terminal ≡ some SizeAtOdds
unfolding verdict_at
verdict_unknown c rule t challenges width words terminal e = rw e
