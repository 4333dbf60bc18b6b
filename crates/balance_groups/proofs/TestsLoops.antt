-- The turns of the tests over all tables.
use Rattle.std.specs.Prelude.{Err, Ok}
use mathlib.Core.Path.{◌≡◌, refl, sym, ap, ap₂, ◌∙◌}
use mathlib.Core.Bool.{Bool, true, false, cond, ◌&&◌}
use mathlib.Core.Option.{Option}
use mathlib.Core.List.{List, [], ◌∷◌}
use Prim.Native.Nat.{ℕ, ◌+◌, ◌*◌, ◌-◌, ◌%◌, ◌<◌, ◌≤◌, zero-le}
use native.Mathlib.Numerals.{add-one}
use native.Mathlib.Omega.{arith}
use lib.Dec.{eqb, leb}
use lib.ListN.{length, take, drop}
use borrow.Author.Tests.{le-leb, lt-leb, leb-true}
use Rattle.lists.specs.Count.{or_else}
use Rattle.lists.specs.laws.Tests.{passed}
use Rattle.expression.specs.Limits.{Sane}
use Rattle.expression.specs.Refusal.{refusal}
use Rattle.expression.specs.declared.sizes.Limits.{Limits}
use Rattle.expression.specs.declared.sizes.Shape.{Shape}
use Rattle.expression.specs.declared.refusal.Refusal.{Refusal}
use Rattle.expression.specs.Refusal.{Verdict}
use Rattle.lookup.specs.Lookups.{lent_lookups, lookup_words}
use Rattle.lookup.specs.Table.{lent_table}
use Rattle.balance.specs.Tables.{TableLists, table_count, size, size_start, shape_at, table_at, lists_fit, table_sizes, main_count_size, preprocessed_count_size, public_value_count_size, node_count_size, lookup_count_size, name_byte_count_size, tuple_count_size, multiplicity_count_size, flag_count_size, element_count_size}
use Rattle.balance_groups.specs.inner.Lowest.{rank, lower, lowest, one_refusal}
use Rattle.balance_groups.specs.inner.Ranges.{table_ranges_at}
use Rattle.balance_groups.specs.laws.Ranges.{Lies}
use Rattle.balance_groups.specs.declared.ranges.TableRanges.{TableRanges}
use Rattle.expression.specs.Node.{node_words}

-- twenty numbers are the spans of table t
pub table_ranges_are : {x0 x1 x2 x3 x4 x5 x6 x7 x8 x9 x10 x11 x12 x13 x14 x15 x16 x17 x18 x19 : ℕ} (sizes : List ℕ) (t : ℕ)
    → x0 ≡ 1 * size_start sizes main_count_size t → x1 ≡ 1 * size_start sizes main_count_size t + 1 * size sizes main_count_size t
    → x2 ≡ 1 * size_start sizes preprocessed_count_size t → x3 ≡ 1 * size_start sizes preprocessed_count_size t + 1 * size sizes preprocessed_count_size t
    → x4 ≡ 1 * size_start sizes public_value_count_size t → x5 ≡ 1 * size_start sizes public_value_count_size t + 1 * size sizes public_value_count_size t
    → x6 ≡ node_words * size_start sizes node_count_size t → x7 ≡ node_words * size_start sizes node_count_size t + node_words * size sizes node_count_size t
    → x8 ≡ lookup_words * size_start sizes lookup_count_size t → x9 ≡ lookup_words * size_start sizes lookup_count_size t + lookup_words * size sizes lookup_count_size t
    → x10 ≡ 1 * size_start sizes name_byte_count_size t → x11 ≡ 1 * size_start sizes name_byte_count_size t + 1 * size sizes name_byte_count_size t
    → x12 ≡ 1 * size_start sizes tuple_count_size t → x13 ≡ 1 * size_start sizes tuple_count_size t + 1 * size sizes tuple_count_size t
    → x14 ≡ 1 * size_start sizes multiplicity_count_size t → x15 ≡ 1 * size_start sizes multiplicity_count_size t + 1 * size sizes multiplicity_count_size t
    → x16 ≡ 1 * size_start sizes flag_count_size t → x17 ≡ 1 * size_start sizes flag_count_size t + 1 * size sizes flag_count_size t
    → x18 ≡ 1 * size_start sizes element_count_size t → x19 ≡ 1 * size_start sizes element_count_size t + 1 * size sizes element_count_size t
    → record {
      main = x0;
      main_end = x1;
      preprocessed = x2;
      preprocessed_end = x3;
      public_values = x4;
      public_values_end = x5;
      nodes = x6;
      nodes_end = x7;
      lookups = x8;
      lookups_end = x9;
      names = x10;
      names_end = x11;
      tuples = x12;
      tuples_end = x13;
      multiplicities = x14;
      multiplicities_end = x15;
      flags = x16;
      flags_end = x17;
      elements = x18;
      elements_end = x19;
    } ≡ table_ranges_at sizes t
unfolding table_ranges_at
table_ranges_are sizes t e0 e1 e2 e3 e4 e5 e6 e7 e8 e9 e10 e11 e12 e13 e14 e15 e16 e17 e18 e19 =
    λ j. record {
      main = e0 j;
      main_end = e1 j;
      preprocessed = e2 j;
      preprocessed_end = e3 j;
      public_values = e4 j;
      public_values_end = e5 j;
      nodes = e6 j;
      nodes_end = e7 j;
      lookups = e8 j;
      lookups_end = e9 j;
      names = e10 j;
      names_end = e11 j;
      tuples = e12 j;
      tuples_end = e13
          j;
      multiplicities = e14 j;
      multiplicities_end = e15 j;
      flags = e16 j;
      flags_end = e17 j;
      elements = e18 j;
      elements_end = e19 j;
    }

-- of two refusals
pub lower-left : {x y : ℕ} (a b : Option Refusal) → x ≡ rank a → y ≡ rank b → x ≤ y → a ≡ lower a b
lower-left a b ea eb h = sym (ap (λ (c : Bool). cond c a b) (le-leb (rank a) (rank b) (rw (sym ea, sym eb) h)))

pub lower_right : {x y : ℕ} (a b : Option Refusal) → x ≡ rank a → y ≡ rank b → y < x → b ≡ lower a b
lower_right a b ea eb h = sym (ap (λ (c : Bool). cond c a b) (lt-leb (rank a) (rank b) (rw (sym ea, sym eb) h)))

-- a table's first refusal, and what comes after none
pub stopped : {v w : Verdict} {f : Refusal} {o : Option Refusal} (o' : Option Refusal) → v ≡ Err f → w ≡ Err f → refusal v ≡ o → refusal w ≡ or_else o o'
stopped {v} {w} {f} {o} o' e ew h = ap refusal ew ∙ ap (λ (x : Option Refusal). or_else x o') (sym (ap refusal e) ∙ h)

pub went_on : {v : Verdict} {u : Unit {0}} {o o' x : Option Refusal} → v ≡ Ok u → refusal v ≡ o → x ≡ o' → x ≡ or_else o o'
went_on {v} {u} {o} {o'} {x} e h g = g ∙ ap (λ (x : Option Refusal). or_else x o') (sym (ap refusal e) ∙ h)

-- the verdict on the lists that were cut
pub verdict_is : {l : TableLists} {t : ℕ} {s : TableRanges} {shape : Shape} {o : Option Refusal} (m : Limits) (p : ℕ) → Lies l t s → shape ≡ shape_at l.sizes t
    → o ≡ one_refusal m p (lent_table shape (take (s.main_end - s.main) (drop s.main l.main)) (take (s.preprocessed_end - s.preprocessed) (drop s.preprocessed l.preprocessed)) (take (s.public_values_end - s.public_values) (drop s.public_values l.public_values)) (take (s.nodes_end - s.nodes) (drop s.nodes l.nodes)) (lent_lookups (take (s.lookups_end - s.lookups) (drop s.lookups l.lookups.lookups)) (take (s.names_end - s.names) (drop s.names l.lookups.names)) (take (s.tuples_end - s.tuples)
    (drop s.tuples l.lookups.tuples)) (take (s.multiplicities_end - s.multiplicities) (drop s.multiplicities l.lookups.multiplicities)) (take (s.flags_end - s.flags) (drop s.flags l.lookups.flags)) (take (s.elements_end - s.elements) (drop s.elements l.lookups.elements))))
    → o ≡ one_refusal m p (table_at l t)
verdict_is {l} {t} {s} {shape} m p r e h =
    h ∙ ap (λ (shape : Shape). one_refusal m p (lent_table shape (take (s.main_end - s.main) (drop s.main l.main)) (take (s.preprocessed_end - s.preprocessed) (drop s.preprocessed l.preprocessed)) (take (s.public_values_end - s.public_values) (drop s.public_values l.public_values)) (take (s.nodes_end - s.nodes) (drop s.nodes l.nodes)) (lent_lookups (take (s.lookups_end - s.lookups) (drop s.lookups l.lookups.lookups)) (take (s.names_end - s.names) (drop s.names l.lookups.names)) (take (s.tuples_end - s.tuples) (drop s.tuples l.lookups.tuples)) (take (s.multiplicities_end - s.multiplicities) (drop s.multiplicities l.lookups.multiplicities)) (take (s.flags_end - s.flags) (drop s.flags l.lookups.flags)) (take (s.elements_end - s.elements) (drop s.elements l.lookups.elements))))) e ∙ ap (one_refusal m p) r.table

-- the lowest of the first t
pub record LowestLoop (f : ℕ → Option Refusal) (n t : ℕ) (v : Verdict) : Type 0 where
  pub is : refusal v ≡ lowest f t
  pub within : t ≤ n

pub lowest_loop_begins : {f : ℕ → Option Refusal} {n : ℕ} → LowestLoop f n 0 (Ok tt)
unfolding lowest
lowest_loop_begins = record { is = refl; within = zero-le }

pub lowest_loop_turn : {f : ℕ → Option Refusal} {n t : ℕ} {v w : Verdict} {x : Option Refusal} → LowestLoop f n t v → t < n → x ≡ f t → refusal w ≡ lower (refusal v) x → LowestLoop f n (t + 1) w
unfolding lowest
lowest_loop_turn {f} {n} {t} {v} {w} {x} r h e g = record { is = rw (add-one t) (g ∙ ap₂ lower r.is e); within = omega arith }

pub lowest_loop_ends : {f : ℕ → Option Refusal} {n t : ℕ} {v : Verdict} → LowestLoop f n t v → n ≤ t → refusal v ≡ lowest f n
lowest_loop_ends {f} {n} {t} r h = let e : t ≡ n = omega (arith, r.within) in r.is ∙ ap (lowest f) e

-- `lists_fit`
pub few_tables : (m : Limits) (sizes : List ℕ) → Sane m → (eqb (length sizes % table_sizes) 0 && leb (table_count sizes) m.tables) ≡ true → table_count sizes ≤ 16
few_tables m sizes g h =
    let k = passed (eqb (length sizes % table_sizes) 0) (leb (table_count sizes) m.tables ∷ []) h in omega (arith, leb-true (table_count sizes) m.tables k.1.0, g.tables)

module _ (m : Limits) (l : TableLists) where
  abbrev N : ℕ
  N = table_count l.sizes

  pub lists_yes : {b0 b1 b2 b3 b4 b5 b6 b7 b8 b9 : Bool} → (eqb (length l.sizes % table_sizes) 0 && leb N m.tables) ≡ true
      → b0 ≡ eqb (length l.main) (1 * size_start l.sizes main_count_size N)
      → b1 ≡ eqb (length l.preprocessed) (1 * size_start l.sizes preprocessed_count_size N)
      → b2 ≡ eqb (length l.public_values) (1 * size_start l.sizes public_value_count_size N)
      → b3 ≡ eqb (length l.nodes) (node_words * size_start l.sizes node_count_size N)
      → b4 ≡ eqb (length l.lookups.lookups) (lookup_words * size_start l.sizes lookup_count_size N)
      → b5 ≡ eqb (length l.lookups.names) (1 * size_start l.sizes name_byte_count_size N)
      → b6 ≡ eqb (length l.lookups.tuples) (1 * size_start l.sizes tuple_count_size N)
      → b7 ≡ eqb (length l.lookups.multiplicities) (1 * size_start l.sizes multiplicity_count_size N)
      → b8 ≡ eqb (length l.lookups.flags) (1 * size_start l.sizes flag_count_size N)
      → b9 ≡ eqb (length l.lookups.elements) (1 * size_start l.sizes element_count_size N)
      → (b0 && b1 && b2 && b3 && b4 && b5 && b6 && b7 && b8 && b9) ≡ lists_fit m l
  unfolding lists_fit
  lists_yes h e0 e1 e2 e3 e4 e5 e6 e7 e8 e9 = rw (h, e0, e1, e2, e3, e4, e5, e6, e7, e8, e9)

  pub lists_no : (eqb (length l.sizes % table_sizes) 0 && leb N m.tables) ≡ false → false ≡ lists_fit m l
  unfolding lists_fit
  lists_no h = rw h
