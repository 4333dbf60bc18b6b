-- A loop that leaves at the first that is there: none of those before is.
use Rattle.std.specs.Prelude.{◌≡◌, ℕ, ◌+◌, ◌<◌, ◌≤◌, Err, Ok}
use Rattle.std.proofs.Math.Path.{refl}
use Rattle.std.proofs.Common.{sym, ap, ap₂, ◌∙◌, arith}
use Rattle.std.proofs.Math.Option.{Option, none, some}
use Rattle.lists.specs.Count.{first, or_else}
use Rattle.lists.specs.laws.Count.{first_one, first_stop}
use Rattle.expression.specs.Refusal.{Verdict, refusal}
use Rattle.expression.specs.declared.refusal.Refusal.{Refusal}

-- none of the first i is there
pub record NoneYet {A : Type 0} (f : ℕ → Option A) (i : ℕ) : Type 0 where
  pub is : first f i ≡ none

module _ {A : Type 0} where
  pub none_begins : {f : ℕ → Option A} → NoneYet f 0
  unfolding first
  none_begins = record { is = refl }

  pub none_turn : {f : ℕ → Option A} {i : ℕ} → NoneYet f i → f i ≡ none → NoneYet f (i + 1)
  none_turn {f} {i} s e = record { is = first_one f i ∙ ap₂ or_else s.is e }

  pub none_stops : {f : ℕ → Option A} {n i : ℕ} {x : A} → NoneYet f i → i < n → f i ≡ some x → some x ≡ first f n
  none_stops {f} {n} {i} {x} s h e = sym (first_stop f n i x h s.is e)

  pub none_ends : {f : ℕ → Option A} {n i : ℕ} → NoneYet f i → i ≤ n → n ≤ i → none ≡ first f n
  none_ends {f} {n} {i} s g k = let e : i ≡ n = omega arith in sym s.is ∙ ap (first f) e

-- where each turn is a test, and the loop leaves by `?`
pub accepted_turn : {f : ℕ → Option Refusal} {i : ℕ} {v : Verdict} → NoneYet f i → refusal v ≡ f i → v ≡ Ok tt → NoneYet f (i + 1)
accepted_turn {f} {i} {v} s e z = none_turn s (sym e ∙ ap refusal z)

pub refused_stops : {f : ℕ → Option Refusal} {n i : ℕ} {v : Verdict} {r : Refusal} → NoneYet f i → i < n → refusal v ≡ f i → v ≡ Err r → some r ≡ first f n
refused_stops {f} {n} {i} {v} {r} s h e z = none_stops s h (sym e ∙ ap refusal z)
