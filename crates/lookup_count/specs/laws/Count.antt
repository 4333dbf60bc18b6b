-- The numbers of an outcome leave nothing out: they say which answer it is.
use Rattle.std.specs.Prelude.{◌≡◌, Err, Ok, Result}
use Rattle.std.proofs.Common.{sym, ap}
use Rattle.std.proofs.Math.Option.{none, some, some-ne-none, some-injective}
use Rattle.expression.specs.Refusal.{numbers}
use Rattle.expression.specs.laws.Refusal.{numbers_injective}
use Rattle.expression.specs.declared.refusal.Refusal.{Refusal}
use Rattle.lookup_count.specs.declared.count.Count.{Count}
use Rattle.lookup_count.specs.Count.{Outcome, CountNumbers, refusal_of, added_of, in_numbers}

same_answer : (a b : Result Count Refusal) → numbers (refusal_of a) ≡ numbers (refusal_of b) → added_of a ≡ added_of b → a ≡ b
same_answer (Ok c) (Ok d) q u = ap Ok u
same_answer (Ok c) (Err f) q u = absurd (some-ne-none f (sym (numbers_injective none (some f) q)))
same_answer (Err f) (Ok c) q u = absurd (some-ne-none f (numbers_injective (some f) none q))
same_answer (Err f) (Err g) q u = ap Err (some-injective f g (numbers_injective (some f) (some g) q))

pub in_numbers_injective : (a b : Outcome) → in_numbers a ≡ in_numbers b → a ≡ b
unfolding in_numbers
in_numbers_injective a b q =
    let e = same_answer a.answer b.answer (ap (λ (n : CountNumbers). n.answer) q) (ap (λ (n : CountNumbers). n.count) q) in
    λ i. record { answer = e i; nodes = (q i).nodes }
