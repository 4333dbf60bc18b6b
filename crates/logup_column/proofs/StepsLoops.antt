-- The functions without a loop, branch by branch.
use mathlib.Core.Path.{◌≡◌, ap, ◌∙◌}
use mathlib.Core.List.{List}
use Prim.Native.Nat.{ℕ}
use Rattle.field.specs.Element.{sub4}
use Rattle.logup.specs.Tuple.{combine, denominator}

pub denominator_is : {r c : List ℕ} (p w : ℕ) (alpha beta es : List ℕ) → r ≡ sub4 p alpha c → c ≡ combine p w beta es → r ≡ denominator p w alpha beta es
unfolding denominator
denominator_is p w alpha beta es e f = e ∙ ap (sub4 p alpha) f
