-- Laws of the entry point's answer.
use Rattle.std.specs.Prelude.{◌≡◌, cond, T}
use Rattle.std.proofs.Common.{ap}
use Rattle.std.proofs.Math.Option.{some}
use Rattle.lists.specs.laws.Count.{true_of}
use Rattle.field.specs.Known.{prime_of}
use Rattle.expression.specs.Choices.{known, limits_of}
use Rattle.expression.specs.laws.Refusal.{numbers_injective}
use Rattle.expression.specs.declared.choices.Choices.{Choices}
use Rattle.expression.specs.declared.refusal.Refusal.TheVariants.{SizeAtOdds}
use Rattle.balance.specs.Balance.{Outcome, check, check_at, BalanceNumbers, in_numbers}

-- the numbers of an outcome leave nothing out: they say which refusal it is
pub in_numbers_injective : (a b : Outcome) → in_numbers a ≡ in_numbers b → a ≡ b
unfolding in_numbers
in_numbers_injective a b q =
    let e = numbers_injective a.refusal b.refusal (ap (λ (n : BalanceNumbers). n.answer) q) in
    λ i. record { refusal = e i; workspace = (q i).workspace }

-- known choices: the answer within their limits, modulo their prime
pub check-known : (c : Choices) → T (known c) → check_at c ≡ check (limits_of c.profile) (prime_of c.field)
unfolding check_at
check-known c t =
    λ i l workspace. cond (true_of (known c) t i) (check (limits_of c.profile) (prime_of c.field) l workspace) (record {
      refusal = some SizeAtOdds;
      workspace = workspace;
    })
