-- The terms and the fault of a lookup by its own parts are those at its place.
use mathlib.Core.Path.{◌≡◌, ◌∙◌}
use mathlib.Core.List.{List}
use Prim.Native.Nat.{ℕ}
use Rattle.lookup.specs.Lookups.{Lookups, tuple_count}
use Rattle.logup.specs.Column.{Place, branches}
use Rattle.logup.specs.Rows.{place}
use Rattle.logup_column.specs.inner.Results.{LookupTerms}
use Rattle.logup_column.specs.laws.Parts.{Same, fault-same}
use Rattle.logup_column.specs.laws.Terms.{multiplicities-same, denominators_same}

module _ {p w : ℕ} {c : Place} (l : Lookups) (cs vals : List ℕ) (i : ℕ) (s : Same p w c (place p w l cs (λ _. vals) 0 i)) where
  -- it has as many tuples
  pub one-count : tuple_count c.lookups.lookups c.lookup ≡ tuple_count l.lookups i
  unfolding branches place
  one-count = s.counts

  pub one_is : {f : ℕ} {ms ds : List ℕ} → LookupTerms p w c f ms ds → LookupTerms p w (place p w l cs (λ _. vals) 0 i) f ms ds
  one_is t = record { fault≡ = t.fault≡ ∙ fault-same s; multiplicities≡ = t.multiplicities≡ ∙ multiplicities-same s; denominators≡ = t.denominators≡ ∙ denominators_same s }
