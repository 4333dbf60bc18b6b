-- A lookup as a tuple rule reads it: its tuples in the rule's order, all else as it is. What a merge adds up it adds up under either rule.
use Rattle.std.specs.Prelude.{◌≡◌, true, List, map, ℕ, ◌+◌}
use Rattle.std.proofs.Math.Path.{sym, ap}
use Rattle.std.proofs.Common.{◌∙◌, subst}
use Rattle.std.proofs.lemmas.List.{map-append, length-map}
use Rattle.lists.specs.Tab.{tab}
use Rattle.lists.specs.laws.Tab.{map-tab}
use Rattle.lookup.specs.Lookups.{Lookups, Lookup, tuple_count, tuple_nodes, lookup_at}
use Rattle.logup.specs.Rule.{lookups_under}
use Rattle.logup.proofs.laws.Rule.{ordered, nodes_under}
use Rattle.packing.specs.Packing.{on_one_bus, merged}
use Rattle.theorems_packing.specs.inner.Entries.{Aligned}

-- a lookup with other tuples
abbrev with_tuples : Lookup → List (List ℕ) → Lookup
with_tuples x tuples =
    record {
      local = x.local;
      name = x.name;
      weight = x.weight;
      column = x.column;
      exclusive = x.exclusive;
      tuples = tuples;
      multiplicities = x.multiplicities;
      flags = x.flags;
    }

module _ (rule : ℕ) where
  abbrev pub lookup_under : Lookup → Lookup
  lookup_under x = with_tuples x (map (ordered rule) x.tuples)

  -- lookup i of the lists as the rule reads them
  pub at_under : (l : Lookups) (i : ℕ) → lookup_at (lookups_under rule l) i ≡ lookup_under (lookup_at l i)
  unfolding lookup_at
  at_under l i =
      ap (with_tuples (lookup_at l i))
      ((λ z. tab (λ k. nodes_under rule l i k z) 0 (tuple_count l.lookups i)) ∙ sym (map-tab (ordered rule) (tuple_nodes l i) (tuple_count l.lookups i)))

  -- its lists are as long as they were
  aligned_under : (x : Lookup) → Aligned x → Aligned (lookup_under x)
  aligned_under x s =
      let same = length-map x.tuples (ordered rule) in
      record { aligned = s.aligned ∙ sym same; flagged = λ e. s.flagged e ∙ sym same; unnamed = s.unnamed }

  pub aligned_at : (l : Lookups) (i : ℕ) → Aligned (lookup_at l i) → Aligned (lookup_at (lookups_under rule l) i)
  aligned_at l i s = subst Aligned (sym (at_under l i)) (aligned_under (lookup_at l i) s)

  -- a merge, so read, is the merge of its parts, so read
  pub adds_under : (S : Lookup → ℕ) → ((a b : Lookup) → on_one_bus a b ≡ true → Aligned a → S (merged a b) ≡ S a + S b) → (a b : Lookup)
      → on_one_bus a b ≡ true → Aligned a → S (lookup_under (merged a b)) ≡ S (lookup_under a) + S (lookup_under b)
  adds_under S adds a b o s =
      ap (λ (ts : List (List ℕ)). S (with_tuples (merged a b) ts)) (map-append (ordered rule) a.tuples b.tuples)
      ∙ adds (lookup_under a) (lookup_under b) o (aligned_under a s)
