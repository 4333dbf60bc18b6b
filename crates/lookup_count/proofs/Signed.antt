-- The magnitude of a signed word, and the count of a number.
use Rattle.std.specs.Prelude.{Result}
use mathlib.Core.Path.{◌≡◌, refl, ap, ap₂, ◌∙◌}
use mathlib.Core.Bool.{Bool}
use mathlib.Core.List.{List}
use Prim.Native.Nat.{ℕ}
use native.Mathlib.Omega.{arith}
use lib.IntN.{ℤ, pos, negsuc, nat_abs}
use lib.Signed.{lt_z}
use mir.Syntax.{w32}
use mir.Val.{SFits, to_z, of_z}
use mir.ValLaws.{to_z-of_z}
use borrow.Author.Tests.{le-ltb}
use Rattle.expression.specs.declared.sizes.Limits.{Limits}
use Rattle.expression.specs.declared.refusal.Refusal.{Refusal}
use Rattle.lookup_count.specs.declared.count.Count.{Count}
use Rattle.lookup_count.specs.Count.{negative, magnitude, residue, count_refusal, counted, nodes_after}

-- a word holds x; what is read back is x
module _ (x : ℤ) (f : SFits w32 x) where
  pub read : to_z w32 (of_z w32 x) ≡ x
  read = to_z-of_z w32 x f

  sign_of : (v : ℤ) → lt_z v (pos 0) ≡ negative v
  sign_of (pos n) = le-ltb n 0 (omega arith)
  sign_of (negsuc n) = refl

  pub sign_is : lt_z (to_z w32 (of_z w32 x)) (pos 0) ≡ negative x
  sign_is = sign_of (to_z w32 (of_z w32 x)) ∙ ap negative read

pub magnitude_is : (x : ℤ) → nat_abs x ≡ magnitude x
magnitude_is (pos n) = refl
magnitude_is (negsuc n) = refl

-- what is written of a sign and a magnitude is written of the number
pub from_is : (m : Limits) (b : Bool) (g : ℕ) {r : Result Count Refusal} {out : List ℕ} (p : ℕ) (nodes : List ℕ) (used : ℕ) (x : ℤ) → b ≡ negative x → g ≡ magnitude x
    → (r ≡ counted (count_refusal m nodes used) used g) × (out ≡ nodes_after (count_refusal m nodes used) nodes used 0 (residue p b g))
    → (r ≡ counted (count_refusal m nodes used) used (magnitude x)) × (out ≡ nodes_after (count_refusal m nodes used) nodes used 0 (residue p (negative x) (magnitude x)))
from_is m b g p nodes used x eb eg k = (
  k.0 ∙ ap (counted (count_refusal m nodes used) used) eg,
  k.1 ∙ ap (nodes_after (count_refusal m nodes used) nodes used 0) (ap₂ (residue p) eb eg),
)
