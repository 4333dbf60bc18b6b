-- What passed refusals say of a table, and of one of its lookups.
use Rattle.std.specs.Prelude.{◌≡◌, Bool, true, false, cond, List, [], ◌∷◌, ℕ, zero, suc, ◌<◌, ◌≤◌}
use Rattle.std.proofs.Math.Option.{none}
use Rattle.std.proofs.Common.{zero-le, arith}
use Rattle.lists.specs.Count.{total}
use Rattle.lists.specs.laws.Tests.{passed}
use Rattle.expression.specs.Limits.{Sane}
use Rattle.expression.specs.Node.{node_count}
use Rattle.expression.specs.Tests.{nodes_within, nodes_fit, constants_below, nodes_known, degrees_low}
use Rattle.expression.specs.laws.Tested.{few-tested}
use Rattle.expression.specs.laws.Refusal.{unless_none}
use Rattle.expression.specs.declared.sizes.Limits.{Limits}
use Rattle.expression.specs.declared.refusal.Refusal.TheVariants.{SizeAtOdds, WordTooLarge, NodeInvalid, DegreeTooHigh, LookupInvalid}
use Rattle.lookup.specs.Lookups.{Lookups, lookup_count, exclusive, tuple_count, flag_count, tuple_start, flag_start}
use Rattle.lookup.specs.Tests.{lookups_within, lookups_fit, lists_agree}
use Rattle.lookup.specs.Refusals.{columns_within, form_sizes, nodes_refusal, lists_refusal, form_refusal, shape_of}
use Rattle.lookup.specs.Requires.{Agreeing}
use Rattle.lookup.specs.laws.Tested.{limited, fitting, agreeing, lookups-few, placed, multiplicity_start_is}
use Rattle.lookup.specs.declared.refusals.Columns.{Columns}
use Rattle.lookup_degree.specs.inner.At.{FewUpTo}
use Rattle.lookup_degree.specs.Formed.{Formed}

pub formed : (m : Limits) (p : ℕ) (c : Columns) (nodes : List ℕ) (l : Lookups) → Sane m → form_refusal m p c nodes l ≡ none → Formed m nodes l
unfolding form_refusal form_sizes nodes_refusal lists_refusal
formed m p c nodes l g e =
    let a = unless_none _ SizeAtOdds _ e in
    let b = unless_none (constants_below p nodes) WordTooLarge _ a.1 in
    let d = unless_none (nodes_known (shape_of c) c.public_values nodes) NodeInvalid _ b.1 in
    let h = unless_none (degrees_low m nodes) DegreeTooHigh _ d.1 in
    let q = unless_none (lists_agree (node_count nodes) l) LookupInvalid _ h.1 in
    let k = passed (columns_within m c) (nodes_within m nodes ∷ lookups_within m l.lookups l.tuples ∷ nodes_fit nodes ∷ lookups_fit l ∷ []) a.0 in
    let w = lookups-few m l.lookups l.tuples g k.1.1.0 in
    record {
      few_nodes = few-tested m nodes g k.1.0;
      few_lookups = w.0;
      few_tuples = w.1;
      fitting = fitting l k.1.1.1.1.0;
      agreeing = agreeing (node_count nodes) l q.0;
      weights = (limited m l.lookups l.tuples k.1.1.0).weight;
      degree = g.degree;
      low = h.0;
    }

-- no more flags than tuples come before lookup i
flags-le : (n : ℕ) (l : Lookups) → Agreeing n l → (i : ℕ) → i ≤ lookup_count l.lookups → flag_start l.lookups i ≤ tuple_start l.lookups i
unfolding flag_start tuple_start total
flags-le n l a zero t = zero-le
flags-le n l a (suc i) t =
    let e : flag_count l.lookups i ≤ tuple_count l.lookups i = rw (a.flags_agree i (omega arith)) (less (exclusive l.lookups i)) in
    omega (arith, e, flags-le n l a i (omega arith))
  where
    less : (b : Bool) → cond b (tuple_count l.lookups i) 0 ≤ tuple_count l.lookups i
    less true = omega arith
    less false = zero-le

-- what the code of one lookup asks
pub few : (m : Limits) (nodes : List ℕ) (l : Lookups) → Formed m nodes l → (i : ℕ) → i < lookup_count l.lookups → FewUpTo l.lookups i
few m nodes l f i h =
    let t = (placed l f.fitting i h).tuples in
    record {
      in_list = h;
      few = f.few_lookups;
      tuples = omega (arith, t, f.few_tuples);
      multiplicities = omega (arith, t, f.few_tuples, multiplicity_start_is (node_count nodes) l f.agreeing i (omega arith));
      flags = omega (arith, t, f.few_tuples, flags-le (node_count nodes) l f.agreeing i (omega arith));
    }
