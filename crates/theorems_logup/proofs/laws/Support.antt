-- The support of a table, computed: the list that `Support` asks for exists.
use Rattle.std.specs.Prelude.{◌≡◌, ◌≢◌}
use Rattle.std.proofs.Math.Path.{refl, sym}
use Rattle.std.proofs.Common.{◌∙◌, ap}
use Rattle.std.proofs.Math.Logic.{⊎_elim, ite}
use mathlib.Core.List.Memᴰ
use mathlib.Core.List.{List, [], ◌∷◌, List-discrete, Memᴰ}
use Rattle.algebra.specs.Field.{Field}
use Rattle.theorems_logup.specs.Tables.{Entries}
use Rattle.theorems_logup.specs.Sets.{Support}

module _ {A : Type 0} (same : Discrete A) where
  abbrev pub member? : (a : A) (l : List A) → Dec (Memᴰ a l)
  member? a [] = no Memᴰ.not-nil
  member? a (x ∷ l) = either (same a x) (member? a l)
    where
      either : Dec (a ≡ x) → Dec (Memᴰ a l) → Dec (Memᴰ a (x ∷ l))
      either (yes e) d = yes (Memᴰ.head e)
      either (no n) (yes m) = yes (Memᴰ.tail m)
      either (no n) (no k) = no (λ m. ⊎_elim n k (Memᴰ.cases_cons m))

module _ (F : Field) (N : Entries F) where
  open N use {word as W, same, zero, Entry, tuple, count}

  abbrev pub support : List Entry → List (List W)
  support [] = []
  support (e ∷ E) = ite (same (count e) zero) (support E) (ite (member? (List-discrete same) (tuple e) (support E)) (support E) (tuple e ∷ support E))

  module _ (e : Entry) (E : List Entry) (S : List (List W)) (below : Support F N E S) where
    Occurs : List Entry → List W → Type 0
    Occurs E t = (e : Entry) × Memᴰ e E × (count e ≢ zero) × (tuple e ≡ t)

    later : (t : List W) → Memᴰ t S → Occurs (e ∷ E) t
    unfolding Occurs
    later t m = let (d, k, n, at) = below.occurs t m in (d, Memᴰ.tail k, n, at)

    fresh : count e ≢ zero → (d : Dec (Memᴰ (tuple e) S)) → Support F N (e ∷ E) (ite d S (tuple e ∷ S))
    unfolding Occurs
    fresh n (yes m) = record {
      once = below.once;
      covers = λ d k z. ⊎_elim (λ at. Memᴰ.cast (ap tuple at) m) (λ h. below.covers d h z) (Memᴰ.cases_cons k);
      occurs = later;
    }
    fresh n (no k) = record {
      once = (λ t m at. k (Memᴰ.cast at m), below.once);
      covers = λ d h z. ⊎_elim (λ at. Memᴰ.head (ap tuple at)) (λ h. Memᴰ.tail (below.covers d h z)) (Memᴰ.cases_cons h);
      occurs = λ t m. ⊎_elim {C = Occurs (e ∷ E) t} (λ at. (e, Memᴰ.head refl, n, sym at)) (later t) (Memᴰ.cases_cons m);
    }

    step : (d : Dec (count e ≡ zero)) → Support F N (e ∷ E) (ite d S (ite (member? (List-discrete same) (tuple e) S) S (tuple e ∷ S)))
    unfolding Occurs
    step (yes none) = record {
      once = below.once;
      covers = λ d k z. ⊎_elim (λ at. absurd (z (ap count at ∙ none))) (λ h. below.covers d h z) (Memᴰ.cases_cons k);
      occurs = later;
    }
    step (no n) = fresh n (member? (List-discrete same) (tuple e) S)

  pub support_is : (E : List Entry) → Support F N E (support E)
  support_is [] = record { once = tt; covers = λ e m _. absurd (Memᴰ.not-nil m); occurs = λ t m. absurd (Memᴰ.not-nil m) }
  support_is (e ∷ E) = step e E (support E) (support_is E) (same (count e) zero)
