-- The outcome of packing, from its answer and its lists.
use mathlib.Core.Path.{◌≡◌}
use Rattle.packing.specs.PackSameBus.{Outcome}

pub outcome_is : {x y : Outcome} → (x.answer ≡ y.answer) × (x.lists ≡ y.lists) → x ≡ y
outcome_is q = λ i. record { answer = q.0 i; lists = q.1 i }
