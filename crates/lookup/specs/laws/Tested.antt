-- What passed tests say of a table and of its lookups.
use Rattle.std.specs.Prelude.{◌≡◌, refl, true, cond, List, [], ◌∷◌, ℕ, zero, suc, ◌+◌, ◌%◌, ◌<◌, ◌≤◌, eqb, leb, ltb, length}
use Rattle.std.proofs.Common.{arith, eqb-true, leb-true, ltb-true}
use Rattle.lists.specs.Count.{every, total}
use Rattle.lists.specs.laws.Count.{total-le, total_in, total-one}
use Rattle.lists.specs.laws.Tests.{passed, every_true}
use Rattle.expression.specs.Words.{word, all_below, all_within}
use Rattle.expression.specs.laws.Below.{within-tested}
use Rattle.expression.specs.Limits.{Sane}
use Rattle.expression.specs.Node.{node_count}
use Rattle.expression.specs.Tests.{traces_within, nodes_within, traces_fit, nodes_fit}
use Rattle.expression.specs.laws.Tested.{few-tested}
use Rattle.expression.specs.declared.sizes.Limits.{Limits}
use Rattle.lookup.specs.Lookups.{Lookups, lookup_words, lookup_count, name_length, weight, column, exclusive, tuple_count, multiplicity_count, flag_count, name_start, tuple_start, multiplicity_start, flag_start, element_start, tuple_width}
use Rattle.lookup.specs.Table.{Table}
use Rattle.lookup.specs.Tests.{weight_limit, lookup_within, lookups_within, lookups_fit, sizes, lengths_agree, nodes_present, lists_agree, in_position}
use Rattle.lookup.specs.Requires.{Limited, Fitting, Agreeing, Placed}

below_at : (n : ℕ) (l : List ℕ) → all_below n l ≡ true → (i : ℕ) → i < length l → word l i < n
unfolding all_below
below_at n l e i h = ltb-true (word l i) n (every_true (λ i. ltb (word l i) n) (length l) i e h)

within : (m : Limits) (lookups : List ℕ) (i : ℕ) → lookup_within m lookups i ≡ true
    → (name_length lookups i ≤ m.name_bytes) × (weight lookups i ≤ weight_limit lookups i)
unfolding lookup_within
within m lookups i h =
    let k = passed (leb (name_length lookups i) m.name_bytes) (leb (weight lookups i) (weight_limit lookups i) ∷ []) h in
    (leb-true _ _ k.0, leb-true _ _ k.1.0)

pub limited : (m : Limits) (lookups tuples : List ℕ) → lookups_within m lookups tuples ≡ true → Limited m lookups tuples
unfolding lookups_within
limited m lookups tuples h =
    let k =
    passed (leb (lookup_count lookups) m.lookups)
    (leb (length tuples) m.tuples
    ∷ all_within m.tuple_words tuples
    ∷ every (lookup_within m lookups) (lookup_count lookups)
    ∷ [])
    h in
    record {
      few_lookups = leb-true _ _ k.0;
      few_tuples = leb-true _ _ k.1.0;
      width = within-tested m.tuple_words tuples k.1.1.0;
      name = λ i l. (within m lookups i (every_true (lookup_within m lookups) (lookup_count lookups) i k.1.1.1.0 l)).0;
      weight = λ i l. (within m lookups i (every_true (lookup_within m lookups) (lookup_count lookups) i k.1.1.1.0 l)).1;
    }

pub fitting : (l : Lookups) → lookups_fit l ≡ true → Fitting l
unfolding lookups_fit
fitting l h =
    let k =
    passed (eqb (length l.lookups % lookup_words) 0)
    (eqb (length l.names) (name_start l.lookups (lookup_count l.lookups))
    ∷ eqb (length l.tuples) (tuple_start l.lookups (lookup_count l.lookups))
    ∷ eqb (length l.multiplicities) (multiplicity_start l.lookups (lookup_count l.lookups))
    ∷ eqb (length l.flags) (flag_start l.lookups (lookup_count l.lookups))
    ∷ eqb (length l.elements) (element_start l.tuples (length l.tuples))
    ∷ [])
    h in
    record {
      lookups = omega (arith, eqb-true (length l.lookups % lookup_words) 0 k.0);
      names = eqb-true _ _ k.1.0;
      tuples = eqb-true _ _ k.1.1.0;
      multiplicities = eqb-true _ _ k.1.1.1.0;
      flags = eqb-true _ _ k.1.1.1.1.0;
      elements = eqb-true _ _ k.1.1.1.1.1.0;
    }

lengths : (lookups : List ℕ) (i : ℕ) → lengths_agree lookups i ≡ true
    → (multiplicity_count lookups i ≡ tuple_count lookups i) × (flag_count lookups i ≡ cond (exclusive lookups i) (tuple_count lookups i) 0)
unfolding lengths_agree
lengths lookups i h =
    let k =
    passed (eqb (multiplicity_count lookups i) (tuple_count lookups i)) (eqb (flag_count lookups i) (cond (exclusive lookups i) (tuple_count lookups i) 0) ∷ []) h in
    (eqb-true _ _ k.0, eqb-true _ _ k.1.0)

pub agreeing : (n : ℕ) (l : Lookups) → lists_agree n l ≡ true → Agreeing n l
unfolding lists_agree nodes_present
agreeing n l h =
    let a = passed (every (lengths_agree l.lookups) (lookup_count l.lookups)) (nodes_present n l ∷ []) h in
    let k = passed (all_below n l.multiplicities) (all_below n l.flags ∷ all_below n l.elements ∷ []) a.1.0 in
    record {
      multiplicities_agree = λ i t. (lengths l.lookups i (every_true (lengths_agree l.lookups) (lookup_count l.lookups) i a.0 t)).0;
      flags_agree = λ i t. (lengths l.lookups i (every_true (lengths_agree l.lookups) (lookup_count l.lookups) i a.0 t)).1;
      multiplicity = below_at n l.multiplicities k.0;
      flag = below_at n l.flags k.1.0;
      element = below_at n l.elements k.1.1.0;
    }

-- the column of each lookup is its position
pub positioned : (lookups : List ℕ) → in_position lookups ≡ true → (i : ℕ) → i < lookup_count lookups → column lookups i ≡ i
unfolding in_position
positioned lookups h i l = eqb-true _ _ (every_true (λ i. eqb (column lookups i) i) (lookup_count lookups) i h l)

-- each lookup's own parts lie within the lists
pub placed : (l : Lookups) → Fitting l → (i : ℕ) → i < lookup_count l.lookups → Placed l i
unfolding name_start tuple_start multiplicity_start flag_start
placed l f i t =
    record {
      words = omega (arith, f.lookups);
      names = rw f.names (total_in (name_length l.lookups) i (lookup_count l.lookups) t);
      tuples = rw f.tuples (total_in (tuple_count l.lookups) i (lookup_count l.lookups) t);
      multiplicities = rw f.multiplicities (total_in (multiplicity_count l.lookups) i (lookup_count l.lookups) t);
      flags = rw f.flags (total_in (flag_count l.lookups) i (lookup_count l.lookups) t);
    }

-- the elements of the table's tuple j lie within the list of elements
pub elements-placed : (l : Lookups) → Fitting l → (j : ℕ) → j < length l.tuples → element_start l.tuples j + word l.tuples j ≤ length l.elements
unfolding element_start
elements-placed l f j t = rw f.elements (total_in (word l.tuples) j (length l.tuples) t)

-- so do those of tuple k of lookup i
pub tuple-placed : (l : Lookups) → Fitting l → (i k : ℕ) → i < lookup_count l.lookups → k < tuple_count l.lookups i
    → element_start l.tuples (tuple_start l.lookups i + k) + tuple_width l.lookups l.tuples i k ≤ length l.elements
unfolding tuple_width
tuple-placed l f i k t u = elements-placed l f (tuple_start l.lookups i + k) (omega (arith, (placed l f i t).tuples))

-- a start is no further than the end
pub tuple_start-le : (l : Lookups) → Fitting l → (i : ℕ) → i ≤ lookup_count l.lookups → tuple_start l.lookups i ≤ length l.tuples
unfolding tuple_start
tuple_start-le l f i t = rw f.tuples (total-le (tuple_count l.lookups) i (lookup_count l.lookups) t)

pub element_start-le : (l : Lookups) → Fitting l → (j : ℕ) → j ≤ length l.tuples → element_start l.tuples j ≤ length l.elements
unfolding element_start
element_start-le l f j t = rw f.elements (total-le (word l.tuples) j (length l.tuples) t)

-- where the elements of the next tuple begin
pub element-next : (tuples : List ℕ) (j : ℕ) → element_start tuples (j + 1) ≡ element_start tuples j + word tuples j
unfolding element_start
element-next tuples j = total-one (word tuples) j

pub element_le : (tuples : List ℕ) (j k : ℕ) → j ≤ k → element_start tuples j ≤ element_start tuples k
unfolding element_start
element_le tuples j k h = total-le (word tuples) j k h

-- as many multiplicities as tuples come before lookup i
pub multiplicity_start_is : (n : ℕ) (l : Lookups) → Agreeing n l → (i : ℕ) → i ≤ lookup_count l.lookups → multiplicity_start l.lookups i ≡ tuple_start l.lookups i
unfolding multiplicity_start tuple_start total
multiplicity_start_is n l a zero t = refl
multiplicity_start_is n l a (suc i) t =
    let e : multiplicity_count l.lookups i ≡ tuple_count l.lookups i = a.multiplicities_agree i (omega arith) in
    omega (arith, e, multiplicity_start_is n l a i (omega arith))

-- refusal 1 of a table, test by test
pub sizes_passed : (m : Limits) (t : Table) → sizes m t ≡ true
    → (traces_within m t.traces.shape t.traces.public_values ≡ true) × (nodes_within m t.nodes ≡ true) × (lookups_within m t.lookups.lookups t.lookups.tuples ≡ true)
    × (traces_fit t.traces.shape t.traces.main t.traces.preprocessed ≡ true) × (lookups_fit t.lookups ≡ true)
unfolding sizes
sizes_passed m t e =
    let k =
    passed (traces_within m t.traces.shape t.traces.public_values)
    (nodes_within m t.nodes
    ∷ lookups_within m t.lookups.lookups t.lookups.tuples
    ∷ traces_fit t.traces.shape t.traces.main t.traces.preprocessed
    ∷ nodes_fit t.nodes
    ∷ lookups_fit t.lookups
    ∷ [])
    e in
    (k.0, k.1.0, k.1.1.0, k.1.1.1.0, k.1.1.1.1.1.0)

pub few_nodes : (m : Limits) (t : Table) → Sane m → sizes m t ≡ true → node_count t.nodes ≤ 1024
few_nodes m t g e = few-tested m t.nodes g (sizes_passed m t e).1

-- so few that no sum of their words leaves 64 bits
pub lookups-few : (m : Limits) (lookups tuples : List ℕ) → Sane m → lookups_within m lookups tuples ≡ true → (lookup_count lookups ≤ 64) × (length tuples ≤ 64)
lookups-few m lookups tuples g h =
    let k : Limited m lookups tuples = limited m lookups tuples h in (omega (arith, k.few_lookups, g.lookups), omega (arith, k.few_tuples, g.tuples))
