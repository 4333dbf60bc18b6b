-- The extension field: quadruples of words with X⁴ = w, for every p and w with a certificate. SPECIFICATION, section 2.1. Its operations are
-- `quartic` of algebra's Ring.antt over the words modulo p; that they make a field is proved in laws.
use Rattle.std.specs.Prelude.{ℕ, List}
use Rattle.algebra.specs.Field.{Field}
use Rattle.algebra.proofs.laws.Quartic.{quartic_field}
use Rattle.field.specs.Element.{at}
use Rattle.field.specs.Modulus.{Certificate}
use Rattle.field.specs.laws.Ring.{mk}
use Rattle.field.specs.laws.Extension.{F1, h, W, W_nonsquare, minus_one}

module _ (p w : ℕ) (C : Certificate p w) where
  abbrev pub K : Field
  K = quartic_field (F1 p w C) (W p w C) (W_nonsquare p w C) (mk p (h p w C) C.root) (minus_one p w C)

  abbrev pub KEl : Type 0
  KEl = K.ring.El

  -- the element that four words stand for
  abbrev pub el : List ℕ → KEl
  el l = (mk p (h p w C) (at l 0), mk p (h p w C) (at l 1), mk p (h p w C) (at l 2), mk p (h p w C) (at l 3))
