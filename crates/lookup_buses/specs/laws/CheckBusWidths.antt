-- The numbers of an answer leave nothing out: they say which answer it is.
use Rattle.std.specs.Prelude.{◌≡◌, ℕ, Err, Ok, Result}
use Rattle.std.proofs.Common.{sym, ap}
use Rattle.std.proofs.Math.Option.{none, some, some-ne-none, some-injective}
use Rattle.expression.specs.laws.Refusal.{numbers_injective}
use Rattle.expression.specs.declared.refusal.Refusal.{Refusal}
use Rattle.lookup_buses.specs.CheckBusWidths.{WidthsNumbers, in_numbers}

pub in_numbers_injective : (a b : Result ℕ Refusal) → in_numbers a ≡ in_numbers b → a ≡ b
unfolding in_numbers
in_numbers_injective (Ok n) (Ok k) q = ap Ok (ap (λ (x : WidthsNumbers). x.width) q)
in_numbers_injective (Ok n) (Err f) q =
    absurd (some-ne-none f (sym (numbers_injective none (some f) (ap (λ (x : WidthsNumbers). x.answer) q))))
in_numbers_injective (Err f) (Ok n) q =
    absurd (some-ne-none f (numbers_injective (some f) none (ap (λ (x : WidthsNumbers). x.answer) q)))
in_numbers_injective (Err f) (Err g) q =
    ap Err (some-injective f g (numbers_injective (some f) (some g) (ap (λ (x : WidthsNumbers). x.answer) q)))
