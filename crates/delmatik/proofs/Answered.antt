-- The number and the details of a verdict are the exported ones.
use Prim.Native.Nat.{ℕ}
use mathlib.Core.Path.{◌≡◌, ap, ◌∙◌}
use mathlib.Core.Option.{Option}
use mathlib.Core.List.{List}
use Rattle.expression.specs.Refusal.{answer_number, answer_details, Numbers}
use Rattle.expression.specs.declared.refusal.Refusal.{Refusal}
use Rattle.delmatik.specs.Exports.{ExportedVerdict, exported_verdict}

pub verdict_is : {n : ℕ} {d : List ℕ} {r s : Option Refusal} → (n ≡ answer_number r) × (d ≡ answer_details r) → r ≡ s → record { number = n; details = d } ≡ exported_verdict s
unfolding exported_verdict
verdict_is (n, d) e = (λ i. record { number = n i; details = d i }) ∙ ap exported_verdict e

-- the same of an entry point that promises numbers
pub numbers_are : {n : ℕ} {d : List ℕ} {x y : Numbers} → (n ≡ x.number) × (d ≡ x.details) → x ≡ y
    → ◌≡◌ {A = ExportedVerdict} (record { number = n; details = d }) (record { number = y.number; details = y.details })
numbers_are (n, d) e = (λ i. record { number = n i; details = d i }) ∙ ap (λ (x : Numbers). record { number = x.number; details = x.details }) e
