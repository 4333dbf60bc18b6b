-- Beta's powers: what a table of them holds, and what is read from the eight.
use Rattle.std.specs.Prelude.{◌≡◌, refl, List, [], ◌∷◌, ℕ, ◌<◌, get_or}
use Rattle.std.proofs.Common.{sym, ap, ◌∙◌, subst, arith}
use Rattle.lists.specs.Tab.{tab}
use Rattle.lists.specs.laws.Tab.{tab_at}
use Rattle.field.specs.Element.{Word4, zero4, one4, power4}
use Rattle.field.proofs.laws.Element.{word-lift}
use Rattle.field.proofs.laws.Powers.{word-power4, power4-one}
use Rattle.logup_column.specs.inner.Powers.{beta_of, Powers}

pub word-zero : (p : ℕ) → 1 < p → Word4 p zero4
word-zero p h = word-lift p (omega arith) 0 (omega arith)

pub word-one : (p : ℕ) → 1 < p → Word4 p one4
word-one p h = word-lift p (omega arith) 1 h

-- power n of the eight
pub power_at : (p w : ℕ) (ps : List (List ℕ)) (n : ℕ) → Powers p w ps → n < 8 → get_or ps n [] ≡ power4 p w (beta_of ps) n
power_at p w ps n s h = ap (λ (l : List (List ℕ)). get_or l n []) s.are ∙ tab_at (power4 p w (beta_of ps)) 8 n [] h

pub power_word : (p w : ℕ) (ps : List (List ℕ)) (n : ℕ) → 1 < p → Powers p w ps → n < 8 → Word4 p (get_or ps n [])
power_word p w ps n big s h = subst (Word4 p) (sym (power_at p w ps n s h)) (word-power4 p w (beta_of ps) n big)

-- eight that are the powers of b are beta's powers, for beta = b
pub powers_of : (p w b0 b1 b2 b3 : ℕ) (ps : List (List ℕ)) → Word4 p (b0 ∷ b1 ∷ b2 ∷ b3 ∷ []) → ps ≡ tab (power4 p w (b0 ∷ b1 ∷ b2 ∷ b3 ∷ [])) 0 8
    → Powers p w ps × (beta_of ps ≡ b0 ∷ b1 ∷ b2 ∷ b3 ∷ [])
powers_of p w b0 b1 b2 b3 ps q all =
    (record { are = all ∙ ap (λ (l : List ℕ). tab (power4 p w l) 0 8) (sym first); word = subst (Word4 p) (sym first) q }, first)
  where
    b : List ℕ
    b = b0 ∷ b1 ∷ b2 ∷ b3 ∷ []

    first : beta_of ps ≡ b
    first = ap beta_of all ∙ tab_at (power4 p w b) 8 1 [] (omega arith) ∙ power4-one p w (omega (arith, q.w0)) b refl q
