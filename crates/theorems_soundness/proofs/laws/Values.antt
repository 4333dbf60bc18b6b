-- Where a table's words are below p, so are the values of its nodes, its tuples' words and its counts; a tuple has as many words as its width says.
use Rattle.std.specs.Prelude.{◌≡◌, Bool, ◌&&◌, ℕ, ◌+◌, ◌%◌, ◌<◌, T, length}
use Rattle.std.proofs.Common.{◌∙◌, arith, length-take, length-drop}
use Rattle.std.proofs.Math.Path.{subst}
use Rattle.std.proofs.Math.Bool.{true, false, cond}
use mathlib.Core.List.Memᴰ
use mathlib.Core.List.{List, [], ◌∷◌, Memᴰ}
use Rattle.std.proofs.lemmas.List.{length-map}
use Rattle.lists.specs.laws.Count.{true_of}
use Rattle.lists.specs.laws.Tests.{both_right, passed, every_true}
use Rattle.field.specs.Word.{mul_m}
use Rattle.field.proofs.laws.Word.{mul_m-below}
use Rattle.field.specs.Modulus.{Modulus}
use Rattle.expression.specs.Words.{word, all_below}
use Rattle.expression.specs.Node.{node, node_count}
use Rattle.expression.specs.Window.{window}
use Rattle.expression.specs.Values.{row_values}
use Rattle.expression.specs.Requires.{Below}
use Rattle.expression.specs.Tests.{traces_within, nodes_within, traces_fit, nodes_fit, traces_below, constant_below, constants_below}
use Rattle.expression.specs.laws.Below.{below_row, below-tested}
use Rattle.expression.specs.laws.Values.{values-below}
use Rattle.expression.specs.declared.sizes.Limits.{Limits}
use Rattle.lookup.specs.Lookups.{Lookups, lookup_count, exclusive, tuple_count, tuple_width, tuple_nodes, multiplicity_node, flag_node}
use Rattle.lookup.specs.Table.{Table}
use Rattle.lookup.specs.Tests.{lookups_within, lookups_fit, sizes, words_below}
use Rattle.lookup.specs.Requires.{Fitting}
use Rattle.lookup.specs.laws.Tested.{fitting, tuple-placed}
use Rattle.logup.specs.Tuple.{tuple}
use Rattle.logup.specs.Ledger.{count}

module _ (p : ℕ) (M : Modulus p) (t : Table) (ok : T (words_below p t)) where
  -- the parts of the test
  record Parts : Type 0 where
    main : Below p t.traces.main
    preprocessed : Below p t.traces.preprocessed
    public_values : Below p t.traces.public_values
    constants : constants_below p t.nodes ≡ true

  parts : Parts
  unfolding words_below traces_below
  parts =
      let k =
      passed (all_below p t.traces.main && all_below p t.traces.preprocessed && all_below p t.traces.public_values) (constants_below p t.nodes ∷ [])
      (true_of (words_below p t) ok) in
      let j = passed (all_below p t.traces.main) (all_below p t.traces.preprocessed ∷ all_below p t.traces.public_values ∷ []) k.0 in
      let pos : 0 < p = omega (arith, M.big) in
      record {
        main = below-tested t.traces.main pos j.0;
        preprocessed = below-tested t.traces.preprocessed pos j.1.0;
        public_values = below-tested t.traces.public_values pos j.1.1.0;
        constants = k.1.0;
      }

  pub row_below : (r : ℕ) → Below p (row_values p t.nodes t.traces r)
  unfolding row_values window constants_below
  row_below r =
      values-below p (window t.traces r) t.nodes (node_count t.nodes) M.big
      (λ o. (below_row t.traces.shape.main_width ((r + o) % t.traces.shape.height) parts.main).each)
      (λ o. (below_row t.traces.shape.pre_width ((r + o) % t.traces.shape.height) parts.preprocessed).each)
      parts.public_values (λ i l. every_true (λ i. constant_below p (node t.nodes i)) (node_count t.nodes) i parts.constants l)

module _ (p : ℕ) (l : Lookups) (vals : List ℕ) (b : Below p vals) where
  pub count-below : 0 < p → (i k : ℕ) → count p l vals i k < p
  unfolding count
  count-below pos i k = go (exclusive l.lookups i)
    where
      go : (x : Bool) → cond x (mul_m p (word vals (multiplicity_node l i k)) (word vals (flag_node l i k))) (word vals (multiplicity_node l i k)) < p
      go true = mul_m-below p pos (word vals (multiplicity_node l i k)) (word vals (flag_node l i k))
      go false = b.each (multiplicity_node l i k)

  pub tuple-below : (i k a : ℕ) → Memᴰ a (tuple l vals i k) → a < p
  unfolding tuple
  tuple-below i k a m = let (j, _, e) = Memᴰ.of_map (word vals) (tuple_nodes l i k) m in subst (λ (n : ℕ). n < p) e (b.each j)

pub tuple-length : (l : Lookups) → Fitting l → (vals : List ℕ) (i k : ℕ) → i < lookup_count l.lookups → k < tuple_count l.lookups i
    → length (tuple l vals i k) ≡ tuple_width l.lookups l.tuples i k
unfolding tuple tuple_nodes
tuple-length l f vals i k li lk =
    length-map (tuple_nodes l i k) (word vals) ∙ rw (length-take, length-drop) (omega (arith, tuple-placed l f i k li lk))

pub fitting_of : (m : Limits) (t : Table) → T (sizes m t) → Fitting t.lookups
unfolding sizes
fitting_of m t ok =
    fitting t.lookups
    (both_right
    (traces_within m t.traces.shape t.traces.public_values && nodes_within m t.nodes && lookups_within m t.lookups.lookups t.lookups.tuples
    && traces_fit t.traces.shape t.traces.main t.traces.preprocessed && nodes_fit t.nodes)
    (lookups_fit t.lookups) (true_of (sizes m t) ok))
