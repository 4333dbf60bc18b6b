-- The numbers of an outcome leave nothing out: they say which answer it is.
use Rattle.std.specs.Prelude.{◌≡◌, ℕ, Err, Ok, Result}
use Rattle.std.proofs.Common.{sym, ap}
use Rattle.std.proofs.Math.Option.{none, some, some-ne-none, some-injective}
use Rattle.expression.specs.Refusal.{numbers}
use Rattle.expression.specs.laws.Refusal.{numbers_injective}
use Rattle.expression.specs.declared.refusal.Refusal.{Refusal}
use Rattle.lookup_builder.specs.FromInteractions.{Outcome, BuildingNumbers, refusal_of, used_of, in_numbers}

same_answer : (a b : Result ℕ Refusal) → numbers (refusal_of a) ≡ numbers (refusal_of b) → used_of a ≡ used_of b → a ≡ b
same_answer (Ok n) (Ok k) q u = ap Ok u
same_answer (Ok n) (Err f) q u = absurd (some-ne-none f (sym (numbers_injective none (some f) q)))
same_answer (Err f) (Ok n) q u = absurd (some-ne-none f (numbers_injective (some f) none q))
same_answer (Err f) (Err g) q u = ap Err (some-injective f g (numbers_injective (some f) (some g) q))

pub in_numbers_injective : (a b : Outcome) → in_numbers a ≡ in_numbers b → a ≡ b
unfolding in_numbers
in_numbers_injective a b q =
    let e = same_answer a.answer b.answer (ap (λ (n : BuildingNumbers). n.answer) q) (ap (λ (n : BuildingNumbers). n.used) q) in
    λ i. record { answer = e i; lookups = (q i).lookups }
