-- The calls of the functions of one lookup, over plain lists and numbers.
use Rattle.std.specs.Prelude.{Err, Ok, Result}
use mathlib.Core.Path.{◌≡◌, refl, sym, ap, ◌∙◌}
use mathlib.Core.List.{List, [], ◌∷◌, ◌++◌}
use Prim.Native.Nat.{ℕ, ◌+◌, ◌-◌, ◌<◌, ◌≤◌, max}
use native.Mathlib.Omega.{arith}
use native.Mathlib.Nat.{zero-add}
use mathlib.Core.Bool.{Bool, true, false, ◌&&◌}
use lib.Dec.{leb, ltb}
use lib.ListN.{length, drop, replicate}
use borrow.Author.Tests.{leb-true, ltb-true}
use Rattle.lists.specs.Count.{total}
use Rattle.lists.specs.Tab.{tab}
use Rattle.lists.specs.laws.Tab.{tab_get}
use Rattle.lists.specs.laws.Parts.{get_or_pad}
use Rattle.lists.specs.laws.Tests.{passed}
use Rattle.field.specs.Known.{prime_of}
use Rattle.expression.specs.Words.{word, all_within}
use Rattle.expression.specs.Node.{node_count}
use Rattle.expression.specs.Degree.{degrees}
use Rattle.expression.specs.Choices.{known, limits_of}
use Rattle.expression.specs.Refusal.{refusal}
use Rattle.expression.specs.laws.Degree.{degrees_low_at}
use Rattle.expression.specs.laws.Below.{word-zeros}
use Rattle.expression.specs.declared.choices.Choices.{Choices}
use Rattle.expression.specs.declared.sizes.Limits.{Limits}
use Rattle.expression.specs.declared.refusal.Refusal.{Refusal}
use Rattle.expression.specs.declared.refusal.Refusal.TheVariants.{SizeAtOdds}
use Rattle.expression.specs.Refusal.{Verdict}
use Rattle.lookup.specs.Lookups.{Lookups, lookup_count, lookup_at, tuple_count, tuple_start, multiplicity_start, flag_start}
use Rattle.lookup.specs.Refusals.{form_refusal}
use Rattle.lookup.specs.declared.refusals.Columns.{Columns}
use Rattle.lookup_degree.specs.Sums.{greatest}
use Rattle.lookup_degree.specs.Degree.{node_degrees, lookup_degree}
use Rattle.lookup_degree.specs.inner.At.{FewUpTo, tuple_degree_at, denominator_at, numerator_at, exclusive_at, lookup_degree_at}
use Rattle.lookup_degree.specs.Formed.{Formed}
use Rattle.lookup_degree.specs.ConstraintDegree.{degree_refusal, degree_answer, degree_at}
use Rattle.lookup_degree.specs.laws.Degree.{degree_is}

pub numerator_asks : {a s n d : ℕ} (tuples lookups : List ℕ) (i : ℕ) → FewUpTo lookups i → a ≡ tuple_start lookups i → s ≡ multiplicity_start lookups i → n ≡ tuple_count lookups i
    → (d ≡ denominator_at tuples lookups i) × (d ≤ 274877906880) → (n ≤ 64) × (a ≤ 64) × (s ≤ 64) × (d ≤ 274877906880) × (total (λ k. word tuples (a + k)) n ≤ d)
unfolding denominator_at
numerator_asks {a} {s} {n} {d} tuples lookups i f ea es en ed = (
  omega (arith, f.tuples),
  omega (arith, f.tuples),
  omega (arith, f.multiplicities),
  ed.1,
  rw (ea, en) (omega (arith, ed.0)),
)

pub numerator_is : {a s n d r : ℕ} (nodes tuples lookups multiplicities : List ℕ) (i : ℕ) → a ≡ tuple_start lookups i → s ≡ multiplicity_start lookups i → n ≡ tuple_count lookups i
    → d ≡ denominator_at tuples lookups i → r ≡ greatest (λ k. word nodes (word multiplicities (s + k)) + (d - word tuples (a + k))) n → r ≡ numerator_at nodes tuples lookups multiplicities i
unfolding numerator_at
numerator_is nodes tuples lookups multiplicities i ea es en ed er = rw (← ea, ← es, ← en, ← ed) er

pub exclusive_is : {a s t n x y r : ℕ} (nodes tuples lookups multiplicities flags : List ℕ) (i : ℕ) → a ≡ tuple_start lookups i → s ≡ multiplicity_start lookups i → t ≡ flag_start lookups i → n ≡ tuple_count lookups i
    → x ≡ greatest (λ k. word nodes (word flags (t + k)) + word tuples (a + k)) n → y ≡ greatest (λ k. word nodes (word flags (t + k)) + word nodes (word multiplicities (s + k))) n
    → r ≡ max (1 + x) y → r ≡ exclusive_at nodes tuples lookups multiplicities flags i
unfolding exclusive_at
exclusive_is nodes tuples lookups multiplicities flags i ea es et en ex ey er = rw (← ea, ← es, ← et, ← en, ← ex, ← ey) er

-- the degrees of the nodes stand in the array: none is over the limit
pub degrees_are : {r : Bool} {b : List ℕ} (m : Limits) (nodes : List ℕ) (l : Lookups) (t : ℕ) → Formed m nodes l → t ≤ 1
    → (r ≡ all_within m.degree (degrees t nodes (node_count nodes))) × (r ≡ true → b ≡ degrees t nodes (node_count nodes) ++ replicate (1024 - node_count nodes) 0)
    → b ≡ degrees t nodes (node_count nodes) ++ replicate (1024 - node_count nodes) 0
degrees_are m nodes l t f h e = e.1 (e.0 ∙ degrees_low_at m t nodes h f.low)

-- the degrees of the tuples stand in the other
pub tuples_right : {b : List ℕ} (deg : ℕ → ℕ) (tuples elements : List ℕ) → b ≡ tab (tuple_degree_at deg tuples elements) 0 (length tuples) ++ drop (length tuples) (replicate 64 0)
    → (j : ℕ) → j < length tuples → word b j ≡ tuple_degree_at deg tuples elements j
tuples_right deg tuples elements e j h =
    ap (λ (x : List ℕ). word x j) e ∙ get_or_pad (tab (tuple_degree_at deg tuples elements) 0 (length tuples)) 64 (length tuples) j ∙ tab_get (tuple_degree_at deg tuples elements) 0 (length tuples) j h
    ∙ ap (tuple_degree_at deg tuples elements) (zero-add j)

-- the degree of lookup i
pub degree_of_is : {b d : List ℕ} {r : ℕ} (m : Limits) (nodes : List ℕ) (l : Lookups) (t i : ℕ) → Formed m nodes l → i < lookup_count l.lookups
    → b ≡ degrees t nodes (node_count nodes) ++ replicate (1024 - node_count nodes) 0
    → d ≡ tab (tuple_degree_at (word b) l.tuples l.elements) 0 (length l.tuples) ++ drop (length l.tuples) (replicate 64 0)
    → r ≡ lookup_degree_at b d l.lookups l.multiplicities l.flags i → r ≡ lookup_degree (node_degrees t nodes) (lookup_at l i)
degree_of_is {b} {d} {r} m nodes l t i f h eb ed er =
    er
    ∙ degree_is (node_count nodes) l b d f.fitting f.agreeing (tuples_right (word b) l.tuples l.elements ed) i h
    ∙ ap (λ (deg : ℕ → ℕ). lookup_degree deg (lookup_at l i)) (λ k a. (ap (λ (x : List ℕ). word x a) eb ∙ word-zeros (degrees t nodes (node_count nodes)) (1024 - node_count nodes) a) k)

-- the answers
module _ (m : Limits) (p : ℕ) (c : Columns) (nodes : List ℕ) (l : Lookups) (i t : ℕ) where
  pub degree-size : (leb t 1 && ltb i (lookup_count l.lookups)) ≡ false → Err SizeAtOdds ≡ degree_answer m p c nodes l i t
  unfolding degree_answer degree_refusal
  degree-size e = rw e

  pub degree_asked : (leb t 1 && ltb i (lookup_count l.lookups)) ≡ true → (i < lookup_count l.lookups) × (t ≤ 1)
  degree_asked e =
      let k = passed (leb t 1) (ltb i (lookup_count l.lookups) ∷ []) e in
      (ltb-true i (lookup_count l.lookups) k.1.0, leb-true t 1 k.0)

  pub degree-given : {v : Verdict} {d : ℕ} → (leb t 1 && ltb i (lookup_count l.lookups)) ≡ true → refusal v ≡ form_refusal m p c nodes l → v ≡ Ok tt
      → d ≡ lookup_degree (node_degrees t nodes) (lookup_at l i) → Ok d ≡ degree_answer m p c nodes l i t
  unfolding degree_answer degree_refusal
  degree-given {v} {d} e f g h = rw (e, sym f ∙ ap refusal g, h)

  pub degree_refused : {v : Verdict} {f : Refusal} → (leb t 1 && ltb i (lookup_count l.lookups)) ≡ true → refusal v ≡ form_refusal m p c nodes l → v ≡ Err f
      → Err f ≡ degree_answer m p c nodes l i t
  unfolding degree_answer degree_refusal
  degree_refused {v} {f} e k g = rw (e, sym k ∙ ap refusal g)

-- `constraint_degree`
module _ (c : Choices) (columns : Columns) (nodes : List ℕ) (l : Lookups) (i t : ℕ) {b : Bool} (e : b ≡ known c) where
  pub choice_unknown : b ≡ false → Err SizeAtOdds ≡ degree_at c columns nodes l i t
  unfolding degree_at
  choice_unknown z = rw (sym e ∙ z) refl

  pub choices_known : {m : Limits} {p : ℕ} {a : Result ℕ Refusal} → b ≡ true → m ≡ limits_of c.profile → p ≡ prime_of c.field
      → a ≡ degree_answer m p columns nodes l i t → a ≡ degree_at c columns nodes l i t
  unfolding degree_at
  choices_known z em ep h = rw (sym e ∙ z, ← em, ← ep) h
