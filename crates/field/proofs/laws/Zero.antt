-- The test for zero.
use Rattle.std.specs.Prelude.{◌≡◌, refl, true, false, List, ℕ, T}
use Rattle.std.proofs.Common.{eqb→eq}
use Rattle.lists.specs.laws.Count.{and_left, and_right}
use Rattle.field.specs.Element.{at, zero4, one4, is_zero}

pub zero-is_zero : is_zero zero4 ≡ true
unfolding is_zero
zero-is_zero = refl

pub one_not_zero : is_zero one4 ≡ false
unfolding is_zero
one_not_zero = refl

-- the four words that are tested
pub zero-words : (a : List ℕ) → T (is_zero a) → (at a 0 ≡ 0) × (at a 1 ≡ 0) × (at a 2 ≡ 0) × (at a 3 ≡ 0)
unfolding is_zero
zero-words a t = (
  eqb→eq (at a 0) 0 (search (and_left, and_right)),
  eqb→eq (at a 1) 0 (search (and_left, and_right)),
  eqb→eq (at a 2) 0 (search (and_left, and_right)),
  eqb→eq (at a 3) 0 (search (and_left, and_right)),
)
