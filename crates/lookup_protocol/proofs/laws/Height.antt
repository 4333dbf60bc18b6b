-- The weights of one table's lookups, the tables' parts of the lookups, and the turns of the loops over them.
use Rattle.std.specs.Prelude.{◌≡◌, refl, Bool, true, false, cond, ◌&&◌, ◌||◌, List, [], ◌∷◌, ℕ, ◌+◌, ◌*◌, ◌-◌, ◌<◌, ◌≤◌, eqb, leb, length, take, drop}
use Rattle.std.proofs.Common.{sym, ap, ap₂, ◌∙◌, subst, zero-le, mul-le-mul, arith, length-take, eqb-true, leb-true}
use Rattle.lists.specs.Count.{total, every}
use Rattle.lists.specs.laws.Count.{total-one, total-le, total_in, every_one}
use Rattle.lists.specs.laws.Tests.{passed, both_right, every_true}
use Rattle.expression.specs.Limits.{Sane}
use Rattle.expression.specs.Words.{word, all_within}
use Rattle.expression.specs.laws.Below.{within-tested}
use Rattle.expression.specs.declared.sizes.Limits.{Limits}
use Rattle.lookup.specs.Lookups.{lookup_words, lookup_count, on_bus, name_length, weight, tuple_count, tuple_start}
use Rattle.lookup.specs.Sizes.{size, size_start, table_part}
use Rattle.lookup.specs.Tests.{weight_limit, lookup_within}
use Rattle.lookup.specs.laws.Sizes.{part_is}
use Rattle.lookup_protocol.specs.Height.{count_sizes, lookup_count_size, table_lookups, weight_sum, table_weight, height_sum, lookups_small, tables_within, tables_fit}
use Rattle.lookup_protocol.specs.inner.Requires.{FewLookups, LookupsCounted, FewWeights}

-- a lookup's weight is at most 2³² - 1, and again for each of its tuples
limit-small : (lookups : List ℕ) (i : ℕ) → weight_limit lookups i ≤ (1 + tuple_count lookups i) * 4294967295
unfolding weight_limit
limit-small lookups i = go (on_bus lookups i || eqb (tuple_count lookups i) 0)
  where
    go : (b : Bool) → cond b 4294967295 (tuple_count lookups i * 4294967295) ≤ (1 + tuple_count lookups i) * 4294967295
    go true = omega arith
    go false = omega arith

-- the sum of the first i weights
pub record Weighed (lookups : List ℕ) (i sum : ℕ) : Type 0 where
  pub within : i ≤ lookup_count lookups
  pub is : sum ≡ total (weight lookups) i
  pub small : sum ≤ (i + tuple_start lookups i) * 4294967295

pub weighed_none : {lookups : List ℕ} → Weighed lookups 0 0
unfolding total
weighed_none = record { within = zero-le; is = refl; small = zero-le }

pub weighed-next : {lookups : List ℕ} {i sum x : ℕ} → FewWeights lookups → Weighed lookups i sum → i < lookup_count lookups → x ≡ weight lookups i → Weighed lookups (i + 1) (sum + x)
unfolding tuple_start
weighed-next {lookups} {i} {sum} {x} f w h e =
    record {
      within = omega arith;
      is = ap₂ ◌+◌ w.is e ∙ sym (total-one (weight lookups) i);
      small = omega (arith, w.small, e, f.weight i h, limit-small lookups i, total-one (tuple_count lookups) i);
    }

pub weighed-few : {lookups : List ℕ} {i sum : ℕ} → FewWeights lookups → Weighed lookups i sum → sum ≤ 549755813760
unfolding tuple_start
weighed-few {lookups} {i} {sum} f w =
    omega (arith, w.small, w.within, f.few_lookups, f.few_tuples, total-le (tuple_count lookups) i (lookup_count lookups) w.within)

pub weighed-all : {lookups : List ℕ} {i sum : ℕ} → FewWeights lookups → Weighed lookups i sum → lookup_count lookups ≤ i → (sum ≡ weight_sum lookups) × (sum ≤ 549755813760)
unfolding weight_sum
weighed-all {lookups} {i} {sum} f w h =
    let e : i ≡ lookup_count lookups = omega (arith, w.within) in (w.is ∙ ap (total (weight lookups)) e, weighed-few f w)

-- times a height
pub weight-fits : {a b : ℕ} → a ≤ 549755813760 → b ≤ 1048576 → a * b ≤ 576460752169205760
weight-fits h k = mul-le-mul {n₂ = 549755813760} {m₂ = 1048576} h k

-- how many lookups table t has, and where they begin
abbrev count : List ℕ → ℕ → ℕ
count counts t = size count_sizes counts lookup_count_size t

abbrev start : List ℕ → ℕ → ℕ
start counts t = lookup_words * size_start count_sizes counts lookup_count_size t

start-one : (counts : List ℕ) (t : ℕ) → start counts (t + 1) ≡ start counts t + lookup_words * count counts t
unfolding size_start
start-one counts t = omega (arith, total-one (count counts) t)

-- s is where table t begins
pub record StartOf (counts : List ℕ) (t s : ℕ) : Type 0 where
  pub within : t ≤ length counts
  pub is : s ≡ start counts t
  pub small : s ≤ t * 576

pub starts : {counts : List ℕ} → StartOf counts 0 0
unfolding size_start total
starts = record { within = zero-le; is = refl; small = zero-le }

pub next : {counts : List ℕ} {t s x : ℕ} → FewLookups counts → StartOf counts t s → t < length counts → x ≡ count counts t → StartOf counts (t + 1) (s + lookup_words * x)
next {counts} {t} {s} {x} p a h e =
    record {
      within = omega arith;
      is = rw e (ap (λ (n : ℕ). n + lookup_words * count counts t) a.is ∙ sym (start-one counts t));
      small = omega (arith, a.small, p.few_lookups t);
    }

pub ends : {counts : List ℕ} {t s : ℕ} → StartOf counts t s → length counts ≤ t → s ≡ start counts (length counts)
ends {counts} {t} a h = let e : t ≡ length counts = omega (arith, a.within) in a.is ∙ ap (start counts) e

-- table t's part of the lookups
pub part_in : {lookups counts : List ℕ} {t s x : ℕ} → LookupsCounted lookups counts → StartOf counts t s → t < length counts → x ≡ count counts t → s + lookup_words * x ≤ length lookups
unfolding size_start
part_in {lookups} {counts} {t} {s} {x} b a h e = omega (arith, e, a.is, b.whole, total_in (count counts) t (length counts) h)

pub lookups_are : {counts : List ℕ} {t s x : ℕ} (lookups : List ℕ) (e : ℕ) → StartOf counts t s → x ≡ count counts t → e ≡ s + lookup_words * x
    → take (e - s) (drop s lookups) ≡ table_lookups lookups counts t
unfolding table_lookups
lookups_are {counts} {t} {s} {x} lookups e a q r = part_is count_sizes counts lookups lookup_count_size lookup_words t a.is (omega (arith, q, a.is))

table-few : (lookups counts : List ℕ) (t : ℕ) → FewLookups counts → lookup_count (table_lookups lookups counts t) ≤ 64
unfolding table_lookups table_part
table-few lookups counts t f = omega (arith, length-take (lookup_words * count counts t) (drop (start counts t) lookups), f.few_lookups t)

pub part-few : {counts : List ℕ} {t s x : ℕ} (lookups : List ℕ) (e : ℕ) → FewLookups counts → StartOf counts t s → x ≡ count counts t → e ≡ s + lookup_words * x
    → lookup_count (take (e - s) (drop s lookups)) ≤ 64
part-few {counts} {t} {s} {x} lookups e f a q r = subst (λ (l : List ℕ). lookup_count l ≤ 64) (sym (lookups_are lookups e a q r)) (table-few lookups counts t f)

pub part-weights : {counts : List ℕ} {t s x : ℕ} (lookups : List ℕ) (e : ℕ) → ((t : ℕ) → t < length counts → FewWeights (table_lookups lookups counts t)) → StartOf counts t s → t < length counts
    → x ≡ count counts t → e ≡ s + lookup_words * x → FewWeights (take (e - s) (drop s lookups))
part-weights {counts} {t} {s} {x} lookups e f a h q r = subst FewWeights (sym (lookups_are lookups e a q r)) (f t h)

-- the first t tables passed the test of their sizes
pub record SmallSoFar (m : Limits) (lookups counts : List ℕ) (t s : ℕ) (ok : Bool) : Type 0 where
  pub start : StartOf counts t s
  pub is : ok ≡ every (λ t. lookups_small m (table_lookups lookups counts t)) t

pub small_none : {m : Limits} {lookups counts : List ℕ} → SmallSoFar m lookups counts 0 0 true
unfolding every
small_none = record { start = starts; is = refl }

pub small-next : {m : Limits} {lookups counts : List ℕ} {t s x : ℕ} {ok r : Bool} → FewLookups counts → SmallSoFar m lookups counts t s ok → t < length counts → x ≡ count counts t
    → r ≡ lookups_small m (take (s + lookup_words * x - s) (drop s lookups)) → SmallSoFar m lookups counts (t + 1) (s + lookup_words * x) (ok && r)
small-next {m} {lookups} {counts} {t} {s} {x} {ok} {r} p w h q k =
    record {
      start = next p w.start h q;
      is =
          ap₂ ◌&&◌ w.is (k ∙ ap (lookups_small m) (lookups_are lookups (s + lookup_words * x) w.start q refl))
          ∙ sym (every_one (λ t. lookups_small m (table_lookups lookups counts t)) t);
    }

pub small_all : {m : Limits} {lookups counts : List ℕ} {t s : ℕ} {ok : Bool} → SmallSoFar m lookups counts t s ok → length counts ≤ t
    → ok ≡ every (λ t. lookups_small m (table_lookups lookups counts t)) (length counts)
small_all {m} {lookups} {counts} {t} w h =
    let e : t ≡ length counts = omega (arith, w.start.within) in w.is ∙ ap (every (λ t. lookups_small m (table_lookups lookups counts t))) e

-- the sum of what the first t tables add
pub record WeightSoFar (lookups counts heights : List ℕ) (t s sum : ℕ) : Type 0 where
  pub start : StartOf counts t s
  pub is : sum ≡ total (table_weight lookups counts heights) t
  pub small : sum ≤ t * 576460752169205760

pub weight_none : {lookups counts heights : List ℕ} → WeightSoFar lookups counts heights 0 0 0
unfolding total
weight_none = record { start = starts; is = refl; small = zero-le }

pub weight-next : {lookups counts heights : List ℕ} {t s x sum r : ℕ} → FewLookups counts → WeightSoFar lookups counts heights t s sum → t < length counts → x ≡ count counts t
    → (r ≡ weight_sum (take (s + lookup_words * x - s) (drop s lookups)) * word heights t) × (r ≤ 576460752169205760) → WeightSoFar lookups counts heights (t + 1) (s + lookup_words * x) (sum + r)
unfolding table_weight
weight-next {lookups} {counts} {heights} {t} {s} {x} {sum} {r} p w h q (k, l) =
    record {
      start = next p w.start h q;
      is =
          ap₂ ◌+◌ w.is (k ∙ ap (λ (l : List ℕ). weight_sum l * word heights t) (lookups_are lookups (s + lookup_words * x) w.start q refl))
          ∙ sym (total-one (table_weight lookups counts heights) t);
      small = omega (arith, w.small);
    }

pub weight-all : {lookups counts heights : List ℕ} {t s sum : ℕ} → WeightSoFar lookups counts heights t s sum → length counts ≤ t → sum ≡ height_sum lookups counts heights
unfolding height_sum
weight-all {lookups} {counts} {heights} {t} w h =
    let e : t ≡ length counts = omega (arith, w.start.within) in w.is ∙ ap (total (table_weight lookups counts heights)) e

pub few-tested : {m : Limits} {a : Bool} (counts heights : List ℕ) → Sane m → a ≡ tables_within m counts heights → a ≡ true
    → FewLookups counts × (length heights ≡ length counts) × ((t : ℕ) → word heights t ≤ 1048576)
unfolding tables_within
few-tested {m} {a} counts heights g e h =
    let k =
    passed (leb (length counts) m.tables) (eqb (length heights) (length counts) ∷ all_within m.lookups counts ∷ all_within m.height heights ∷ []) (sym e ∙ h) in (
      record {
        few_tables = omega (arith, leb-true (length counts) m.tables k.0, g.tables);
        few_lookups = λ t. omega (arith, within-tested m.lookups counts k.1.1.0 (count_sizes * t + lookup_count_size), g.lookups);
      },
      eqb-true (length heights) (length counts) k.1.0,
      λ t. omega (arith, within-tested m.height heights k.1.1.1.0 t, g.height),
    )

weight-tested : (m : Limits) (lookups : List ℕ) (i : ℕ) → lookup_within m lookups i ≡ true → weight lookups i ≤ weight_limit lookups i
unfolding lookup_within
weight-tested m lookups i h =
    leb-true (weight lookups i) (weight_limit lookups i) (both_right (leb (name_length lookups i) m.name_bytes) (leb (weight lookups i) (weight_limit lookups i)) h)

-- a table of few lookups that passed the test of its sizes
weights-tested : (m : Limits) (lookups : List ℕ) → Sane m → lookup_count lookups ≤ 64 → lookups_small m lookups ≡ true → FewWeights lookups
unfolding lookups_small
weights-tested m lookups g f h =
    let k = passed (leb (tuple_start lookups (lookup_count lookups)) m.tuples) (every (lookup_within m lookups) (lookup_count lookups) ∷ []) h in
    record {
      few_lookups = f;
      few_tuples = omega (arith, leb-true (tuple_start lookups (lookup_count lookups)) m.tuples k.0, g.tuples);
      weight = λ i l. weight-tested m lookups i (every_true (lookup_within m lookups) (lookup_count lookups) i k.1.0 l);
    }

pub counted-tested : {m : Limits} {a : Bool} (lookups counts heights : List ℕ) → Sane m → a ≡ tables_fit m lookups counts heights → a ≡ true
    → (LookupsCounted lookups counts × ((t : ℕ) → t < length counts → FewWeights (table_lookups lookups counts t)))
    × ((length heights ≡ length counts) × ((t : ℕ) → word heights t ≤ 1048576))
unfolding tables_fit
counted-tested {m} {a} lookups counts heights g e h =
    let small : ℕ → Bool = λ t. lookups_small m (table_lookups lookups counts t) in
    let k = passed (tables_within m counts heights) (eqb (length lookups) (start counts (length counts)) ∷ every small (length counts) ∷ []) (sym e ∙ h) in
    let p = few-tested counts heights g refl k.0 in (
      (
        record { few = p.0; whole = eqb-true _ _ k.1.0 },
        λ t l. weights-tested m (table_lookups lookups counts t) g (table-few lookups counts t p.0) (every_true small (length counts) t k.1.1.0 l),
      ),
      (p.1, p.2),
    )
