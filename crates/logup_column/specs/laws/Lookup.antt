-- What lookup i's own parts are: they fit, and taken alone they are the lookup at its place.
use Rattle.std.specs.Prelude.{◌≡◌, refl, cond, ℕ, ◌+◌, ◌*◌, ◌<◌, length}
use Rattle.std.proofs.Common.{sym, ◌∙◌}
use Rattle.std.proofs.Math.Path.{subst}
use mathlib.Core.List.{List, []}
use Rattle.lists.specs.Count.{total}
use Rattle.lists.specs.Tab.{tab}
use Rattle.field.specs.Element.{Word4, element}
use Rattle.field.proofs.laws.Slice.{word-element}
use Rattle.expression.specs.Requires.{Below}
use Rattle.lookup.specs.Lookups.{Lookups, lent_lookups, lookup_words, lookup_count, exclusive, tuple_count, tuple_start, multiplicity_start, flag_start, element_start, tuple_width, multiplicity_node, flag_node, tuple_nodes}
use Rattle.logup.specs.Tuple.{tuple}
use Rattle.logup.specs.Column.{Place, branches, multiplicity, flag, denom}
use Rattle.logup.specs.Rows.{place}
use Rattle.logup_column.specs.inner.Powers.{beta_of, Powers}
use Rattle.logup_column.specs.inner.Own.{own_place, FieldValues, Fits, slice}
use Rattle.logup_column.specs.laws.Powers.{powers_of}
use Rattle.logup_column.specs.laws.Parts.{Same, parted-same, parted-fits, parted-flags}
use Rattle.logup_column.specs.inner.Requires.{LookupLists, Field, ColumnInputs, StartsOf}
use Rattle.logup_column.specs.declared.starts.Starts.{Starts}

pub stands-zero : (lookups tuples : List ℕ) → StartsOf lookups tuples 0 (record { tuple = 0; multiplicity = 0; flag = 0; element = 0 })
unfolding tuple_start multiplicity_start flag_start element_start total
stands-zero lookups tuples = record { tuple≡ = refl; multiplicity≡ = refl; flag≡ = refl; element≡ = refl }

-- the powers of lookup i's beta
pub powers_are : {p w i : ℕ} {l : Lookups} {cs table : List ℕ} (ps : List (List ℕ)) → ColumnInputs p w l cs table → i < lookup_count l.lookups
    → ps ≡ tab (λ e. element table (8 * i + e)) 0 8 → Powers p w ps × (beta_of ps ≡ element cs (2 * i + 1))
unfolding element
powers_are {p} {w} {i} {cs = cs} ps s h e = powers_of p w _ _ _ _ ps (word-element cs (2 * i + 1) s.below.each) (e ∙ s.powered.powers i h)

-- an element of words below p
pub element-word : {p : ℕ} {cs e : List ℕ} (k : ℕ) → Below p cs → e ≡ element cs k → Word4 p e
element-word {p} {cs} k s q = subst (Word4 p) (sym q) (word-element cs k s.each)

pub field-values : {p w : ℕ} {vals : List ℕ} → Field p w → Below p vals → FieldValues p w vals
field-values f b = record { modulus = f.modulus; low = f.low; certificate = f.certificate; below = b }

module _ {lookups tuples mults flags elements : List ℕ} {i : ℕ} {at end : Starts} (s : LookupLists lookups tuples mults flags elements) (h : i < lookup_count lookups)
    (a : StartsOf lookups tuples i at) (b : StartsOf lookups tuples (i + 1) end) where
  abbrev whole : Lookups
  whole = lent_lookups lookups s.names tuples mults flags elements

  pub one-fits : Fits (slice lookups (lookup_words * i) (lookup_words * i + lookup_words)) (slice tuples at.tuple end.tuple) (slice mults at.multiplicity end.multiplicity) (slice elements at.element end.element)
  one-fits =
      rw (a.tuple≡, b.tuple≡, a.multiplicity≡, b.multiplicity≡, a.element≡, b.element≡) (parted-fits whole s.nodes s.fitting s.agreeing i h s.narrow)

  pub one-flags : length (slice flags at.flag end.flag) ≡ cond (exclusive (slice lookups (lookup_words * i) (lookup_words * i + lookup_words)) 0) (tuple_count (slice lookups (lookup_words * i) (lookup_words * i + lookup_words)) 0) 0
  one-flags = rw (a.flag≡, b.flag≡) (parted-flags whole s.nodes s.fitting s.agreeing i h)

  -- no name is read
  pub one_same : {alpha beta : List ℕ} (p w : ℕ) (cs vals : List ℕ) → alpha ≡ element cs (2 * i) → beta ≡ element cs (2 * i + 1)
      → Same p w
      (own_place (slice lookups (lookup_words * i) (lookup_words * i + lookup_words)) (slice tuples at.tuple end.tuple) (slice mults at.multiplicity end.multiplicity) (slice flags at.flag end.flag) (slice elements at.element end.element) vals alpha beta)
      (place p w (lent_lookups lookups [] tuples mults flags elements) cs (λ _. vals) 0 i)
  unfolding place branches multiplicity flag denom tuple tuple_nodes tuple_width tuple_start multiplicity_node multiplicity_start flag_node flag_start element_start total
  one_same {alpha} {beta} p w cs vals ea eb =
      let k = parted-same whole s.nodes s.fitting s.agreeing i h p w vals (element cs (2 * i)) (element cs (2 * i + 1)) in
      subst (λ (c : Place). Same p w c (place p w (lent_lookups lookups [] tuples mults flags elements) cs (λ _. vals) 0 i)) (sym moved)
      (record { marks = k.marks; counts = k.counts; mults = k.mults; denoms = k.denoms; flags = k.flags })
    where
      moved : own_place (slice lookups (lookup_words * i) (lookup_words * i + lookup_words)) (slice tuples at.tuple end.tuple) (slice mults at.multiplicity end.multiplicity) (slice flags at.flag end.flag) (slice elements at.element end.element) vals alpha beta
          ≡ own_place (slice lookups (lookup_words * i) (lookup_words * i + lookup_words)) (slice tuples (tuple_start lookups i) (tuple_start lookups (i + 1))) (slice mults (multiplicity_start lookups i) (multiplicity_start lookups (i + 1)))
          (slice flags (flag_start lookups i) (flag_start lookups (i + 1))) (slice elements (element_start tuples (tuple_start lookups i)) (element_start tuples (tuple_start lookups (i + 1)))) vals (element cs (2 * i)) (element cs (2 * i + 1))
      moved =
          λ j.
          own_place (slice lookups (lookup_words * i) (lookup_words * i + lookup_words)) (slice tuples (a.tuple≡ j) (b.tuple≡ j)) (slice mults (a.multiplicity≡ j) (b.multiplicity≡ j)) (slice flags (a.flag≡ j) (b.flag≡ j))
          (slice elements (a.element≡ j) (b.element≡ j)) vals (ea j) (eb j)
