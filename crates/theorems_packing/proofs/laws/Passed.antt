-- Lookups that packing passes on as they are: they stay, in order.
use Rattle.std.specs.Prelude.{◌≡◌, Bool, cond, ℕ, suc}
use Rattle.std.proofs.Math.Path.{refl, ap, ap₂}
use Rattle.std.proofs.Common.{sym, ◌∙◌}
use Rattle.std.proofs.Math.Bool.{true, false}
use mathlib.Core.List.{List, [], ◌∷◌, ◌++◌, append-nil, map}
use Rattle.lookup.specs.Lookups.{Lookups, Lookup, lookups_of}
use Rattle.lookup_buses.specs.Order.{keep}
use Rattle.lookup_buses.specs.laws.Order.{keep_append, keep_same}
use Rattle.packing.specs.Packing.{passes, numbered, renumbered, packed}
use Rattle.packing.proofs.laws.Keeps.{packing_keeps}

-- of a lookup what does not depend on its number
module _ {B : Type 0} (g : Lookup → B) (free : (k : ℕ) (x : Lookup) → g (numbered k x) ≡ g x) (f : Lookup → Bool) (same : (k : ℕ) (x : Lookup) → f (numbered k x) ≡ f x) where
  -- renumbering changes nothing
  map-numbered : (k : ℕ) (xs : List Lookup) → map g (keep f (renumbered k xs)) ≡ map g (keep f xs)
  unfolding keep renumbered
  map-numbered k [] = refl
  map-numbered k (x ∷ xs) =
      ap (λ (b : Bool). map g (cond b (numbered k x ∷ keep f (renumbered (suc k) xs)) (keep f (renumbered (suc k) xs)))) (same k x)
      ∙ go (f x) (map-numbered (suc k) xs)
    where
      go : (b : Bool) → map g (keep f (renumbered (suc k) xs)) ≡ map g (keep f xs)
          → map g (cond b (numbered k x ∷ keep f (renumbered (suc k) xs)) (keep f (renumbered (suc k) xs))) ≡ map g (cond b (x ∷ keep f xs) (keep f xs))
      go true e = ap₂ (λ (a : B) (l : List B). a ∷ l) (free k x) e
      go false e = e

  pub passed_on : ((x : Lookup) → f x ≡ true → passes x ≡ true) → (deg : ℕ → ℕ) (limit : ℕ) (l : Lookups)
      → map g (keep f (packed deg limit l)) ≡ map g (keep f (lookups_of l))
  passed_on h deg limit l =
      let o = (packing_keeps deg limit l).others in
      let ls : List Lookup = lookups_of l in
      let c : keep f o.0 ≡ [] = sym (keep_same f passes h o.0) ∙ ap (keep f) o.2 ∙ none in
      ap (λ (xs : List Lookup). map g (keep f xs)) o.1
      ∙ map-numbered 0 (keep passes ls ++ o.0)
      ∙ ap (map g) (keep_append f (keep passes ls) o.0 ∙ ap₂ (λ (x y : List Lookup). x ++ y) (keep_same f passes h ls) c ∙ append-nil (keep f ls))
    where
      none : keep f [] ≡ []
      none = unfold keep in refl
