-- Four words are told by the element that they stand for.
use Rattle.std.specs.Prelude.{◌≡◌, List, [], ◌∷◌, ℕ, length}
use Rattle.std.proofs.Common.{sym, ◌∙◌}
use Rattle.field.specs.Element.{at}
use Rattle.field.specs.Modulus.{Certificate}
use Rattle.field.specs.Extension.{el}
use Rattle.field.proofs.laws.Slice.{four-words}
use Rattle.field.proofs.laws.Homomorphism.{el_same}
use Rattle.logup.specs.Ledger.{Element}

pub as_four : (l : List ℕ) → length l ≡ 4 → l ≡ at l 0 ∷ at l 1 ∷ at l 2 ∷ at l 3 ∷ []
as_four l e = sym (four-words l e)

module _ (p w : ℕ) (C : Certificate p w) where
  pub same_of_el : (a b : List ℕ) → Element p a → Element p b → el p w C a ≡ el p w C b → a ≡ b
  same_of_el a b ea eb e = as_four a ea.four ∙ el_same p w C a b ea.below eb.below e ∙ sym (as_four b eb.four)
