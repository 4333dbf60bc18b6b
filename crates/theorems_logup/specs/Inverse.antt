-- The inverse in a field as a function of every element.
use Rattle.std.specs.Prelude.{◌≡◌}
use Rattle.algebra.specs.Field.{Field}

module _ (F : Field) where
  abbrev pub inverse_by : (a : F.ring.El) → Dec (a ≡ F.ring.z) → F.ring.El
  inverse_by a (yes e) = F.ring.z
  inverse_by a (no n) = (F.inv a n).0

  -- 1 ÷ a, and 0 where a is 0
  unfoldable pub inverse : F.ring.El → F.ring.El
  inverse a = inverse_by a (F.dec a)

  abbrev pub minus : F.ring.El → F.ring.El → F.ring.El
  minus a b = F.ring.add a (F.ring.neg b)
