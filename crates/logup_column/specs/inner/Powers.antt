-- Beta's powers as eight elements. SPECIFICATION, section 15.2: "an array of eight elements of four words each".
use Rattle.std.specs.Prelude.{◌≡◌, List, [], ℕ, get_or}
use Rattle.lists.specs.Tab.{tab}
use Rattle.field.specs.Element.{Word4, power4}

-- beta is its own first power
abbrev pub beta_of : List (List ℕ) → List ℕ
beta_of powers = get_or powers 1 []

pub record Powers (p w : ℕ) (powers : List (List ℕ)) : Type 0 where
  pub are : powers ≡ tab (power4 p w (beta_of powers)) 0 8
  pub word : Word4 p (beta_of powers)
