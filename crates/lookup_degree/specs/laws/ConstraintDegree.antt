-- The numbers of an answer leave nothing out: they say which answer it is.
use Rattle.std.specs.Prelude.{◌≡◌, ℕ, Err, Ok, Result}
use Rattle.std.proofs.Common.{sym, ap}
use Rattle.std.proofs.Math.Option.{none, some, some-ne-none, some-injective}
use Rattle.expression.specs.laws.Refusal.{numbers_injective}
use Rattle.expression.specs.declared.refusal.Refusal.{Refusal}
use Rattle.lookup_degree.specs.ConstraintDegree.{DegreeNumbers, in_numbers}

pub in_numbers_injective : (a b : Result ℕ Refusal) → in_numbers a ≡ in_numbers b → a ≡ b
unfolding in_numbers
in_numbers_injective (Ok d) (Ok e) q = ap Ok (ap (λ (n : DegreeNumbers). n.degree) q)
in_numbers_injective (Ok d) (Err f) q =
    absurd (some-ne-none f (sym (numbers_injective none (some f) (ap (λ (n : DegreeNumbers). n.answer) q))))
in_numbers_injective (Err f) (Ok d) q =
    absurd (some-ne-none f (numbers_injective (some f) none (ap (λ (n : DegreeNumbers). n.answer) q)))
in_numbers_injective (Err f) (Err g) q =
    ap Err (some-injective f g (numbers_injective (some f) (some g) (ap (λ (n : DegreeNumbers). n.answer) q)))
