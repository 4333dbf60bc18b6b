-- The plan by number is the packing of the records.
use Rattle.std.specs.Prelude.{◌≡◌, Bool, false, cond, not, ◌&&◌, ◌||◌}
use Rattle.std.proofs.Math.Path.{refl, sym, ap, ap₂}
use Rattle.std.proofs.Common.{◌∙◌, arith, length-append, length-take, length-drop}
use Rattle.std.proofs.Math.Bool.{true}
use mathlib.Core.List.{List, [], ◌∷◌, ◌++◌, map, flat_map, Memᴰ}
use Prim.Native.Nat.{ℕ, zero, suc, ◌+◌, ◌*◌, ◌<◌, ◌≤◌, max, min}
use Rattle.std.proofs.Math.Dec.{leb, ltb}
use Rattle.std.proofs.Math.ListN.{length}
use Rattle.lists.specs.Same.{same_list}
use Rattle.lists.specs.laws.Count.{or_right_false}
use Rattle.lists.specs.laws.Tab.{tab-length}
use Rattle.expression.specs.Words.{word, low_half, high_half}
use Rattle.expression.specs.Values.{bit}
use Rattle.lookup.specs.Lookups.{Lookups, Lookup, lookup_count, on_bus, exclusive, name_length, tuple_count, multiplicity_count, lookup_at}
use Rattle.lookup.specs.Requires.{Fitting, Agreeing}
use Rattle.lookup.specs.laws.Tested.{placed}
use Rattle.lookup.specs.Buses.{name_at, alone_at, same_bus}
use Rattle.lookup_degree.specs.Sums.{sum_of}
use Rattle.lookup_degree.specs.Degree.{denominator_degree, lookup_degree}
use Rattle.lookup_degree.specs.inner.At.{tuple_degree_at}
use Rattle.lookup_degree.specs.laws.Degree.{denominator_is, numerator_is}
use Rattle.packing_columns.specs.inner.Columns.{PlanSource, plan_source, top_at, opened, opened_at, merge, column_degree, fits, joins_at, columns_from, columns_of, column_words, words_from, heads_of, over_of}
use Rattle.packing_columns.specs.declared.columns.OpenColumn.{OpenColumn}
use Rattle.packing.specs.Packing.{passes, on_one_bus, merged, joins, fill, filled, renumbered, overweight}
use Rattle.packing.specs.Written.{lookup_words}
use Rattle.packing.proofs.laws.Columns.{on_one}
use Rattle.packing.proofs.laws.Merging.{Aligned, top_degree, denominator-merged, top-merged, degree_by_top}

-- o is the column c: `deg` is the nodes' degree
pub record Shows (deg : ℕ → ℕ) (lookups names : List ℕ) (o : OpenColumn) (c : Lookup) : Type 0 where
  pub is_on : on_bus lookups o.head ≡ not c.local
  pub is_exclusive : exclusive lookups o.head ≡ c.exclusive
  pub is_alone : alone_at true lookups o.head ≡ passes c
  pub name_is : name_at lookups names o.head ≡ c.name
  pub long : name_length lookups o.head ≡ length c.name
  pub sum_is : o.sum ≡ denominator_degree deg c
  pub top_is : o.top ≡ top_degree deg c
  pub weight_is : o.weight ≡ c.weight
  pub tuples_are : o.tuples ≡ length c.tuples
  pub multiplicities_are : o.multiplicities ≡ length c.multiplicities
  pub flags_are : o.flags ≡ length c.flags
  pub aligned : Aligned c
  pub here : o.head < lookup_count lookups

not_not : (b : Bool) → b ≡ not (not b)
not_not true = refl
not_not false = refl

shows_merged : (deg : ℕ → ℕ) (lookups names : List ℕ) (a b : OpenColumn) (x y : Lookup) → Shows deg lookups names a x → Shows deg lookups names b y → Shows deg lookups names (merge a b) (merged x y)
unfolding merge
shows_merged deg lookups names a b x y s t =
    record {
      is_on = s.is_on;
      is_exclusive = s.is_exclusive;
      is_alone = s.is_alone;
      name_is = s.name_is;
      long = s.long;
      sum_is = ap₂ ◌+◌ s.sum_is t.sum_is ∙ sym (denominator-merged deg x y);
      top_is = ap₂ max (ap₂ ◌+◌ s.top_is t.sum_is) (ap₂ ◌+◌ s.sum_is t.top_is) ∙ sym (top-merged deg x y s.aligned);
      weight_is = ap₂ ◌+◌ s.weight_is t.weight_is;
      tuples_are = ap₂ ◌+◌ s.tuples_are t.tuples_are ∙ sym (length-append x.tuples y.tuples);
      multiplicities_are = ap₂ ◌+◌ s.multiplicities_are t.multiplicities_are ∙ sym (length-append x.multiplicities y.multiplicities);
      flags_are = ap₂ ◌+◌ s.flags_are t.flags_are ∙ sym (length-append x.flags y.flags);
      aligned = length-append x.multiplicities y.multiplicities ∙ ap₂ ◌+◌ s.aligned t.aligned ∙ sym (length-append x.tuples y.tuples);
      here = s.here;
    }

-- one column for each
abbrev pub Matched : (ℕ → ℕ) → List ℕ → List ℕ → List OpenColumn → List Lookup → Type 0
Matched deg lookups names [] [] = Unit
Matched deg lookups names [] (c ∷ cs) = ⊥
Matched deg lookups names (o ∷ os) [] = ⊥
Matched deg lookups names (o ∷ os) (c ∷ cs) = Shows deg lookups names o c × Matched deg lookups names os cs

-- `degrees` has the degrees of the table's tuples, `nodes` those of its nodes
module _ (n : ℕ) (l : Lookups) (nodes degrees : List ℕ) (fit : Fitting l) (agree : Agreeing n l)
    (right : (j : ℕ) → j < length l.tuples → word degrees j ≡ tuple_degree_at (word nodes) l.tuples l.elements j) (limit : ℕ) where
  abbrev S : PlanSource
  S = plan_source nodes degrees l.lookups l.names l.multiplicities limit

  shows_opened : (i : ℕ) → i < lookup_count l.lookups → Shows (word nodes) l.lookups l.names (opened nodes degrees l.lookups l.multiplicities i) (lookup_at l i)
  unfolding opened top_at lookup_at alone_at name_at
  shows_opened i h =
      let p = placed l fit i h in
      let m : multiplicity_count l.lookups i ≡ tuple_count l.lookups i = agree.multiplicities_agree i h in
      let t : length (lookup_at l i).tuples ≡ tuple_count l.lookups i = tab-length _ 0 (tuple_count l.lookups i) in
      let q : length (lookup_at l i).multiplicities ≡ multiplicity_count l.lookups i = simp (length-take, length-drop) (omega (arith, p.multiplicities)) in
      record {
        is_on = not_not (on_bus l.lookups i);
        is_exclusive = refl;
        is_alone = refl;
        name_is = refl;
        long = sym (simp (length-take, length-drop) (omega (arith, p.names)));
        sum_is = denominator_is n l nodes degrees fit agree right i h;
        top_is = ap₂ max (denominator_is n l nodes degrees fit agree right i h) (numerator_is n l nodes degrees fit agree right i h);
        weight_is = refl;
        tuples_are = sym t;
        multiplicities_are = sym q;
        flags_are = sym (simp (length-take, length-drop) (omega (arith, p.flags)));
        aligned = q ∙ m ∙ sym t;
        here = h;
      }

  joins_is : (o : OpenColumn) (c : Lookup) (i : ℕ) → i < lookup_count l.lookups → Shows (word nodes) l.lookups l.names o c → joins_at S o i ≡ joins (word nodes) limit c (lookup_at l i)
  unfolding fits same_bus column_degree
  joins_is o c i h s =
      let t = shows_opened i h in
      let u = shows_merged (word nodes) l.lookups l.names o (opened nodes degrees l.lookups l.multiplicities i) c (lookup_at l i) s t in
      let D : ℕ = max (1 + (merge o (opened nodes degrees l.lookups l.multiplicities i)).sum) (merge o (opened nodes degrees l.lookups l.multiplicities i)).top in
      ap₂ (λ (x : Bool) (y : List ℕ). (not x && (not (alone_at true l.lookups i) && same_list y (name_at l.lookups l.names i))) && leb D limit) s.is_alone s.name_is
      ∙ ap₂ (λ (x : Bool) (y : List ℕ). (not (passes c) && (not x && same_list c.name y)) && leb D limit) (alone i) (named i)
      ∙ go (on_one_bus c (lookup_at l i)) refl (λ e. ap₂ (λ (x y : ℕ). max (1 + x) y) u.sum_is u.top_is ∙ sym (degree_by_top (word nodes) (merged c (lookup_at l i)) e))
    where
      alone : (i : ℕ) → alone_at true l.lookups i ≡ passes (lookup_at l i)
      alone i = unfold alone_at in unfold lookup_at in refl

      named : (i : ℕ) → name_at l.lookups l.names i ≡ (lookup_at l i).name
      named i = unfold name_at in unfold lookup_at in refl

      go : {D : ℕ} (b : Bool) → on_one_bus c (lookup_at l i) ≡ b → (c.exclusive ≡ false → D ≡ lookup_degree (word nodes) (merged c (lookup_at l i)))
          → (b && leb D limit) ≡ (b && leb (lookup_degree (word nodes) (merged c (lookup_at l i))) limit)
      go true e f = ap (λ (d : ℕ). leb d limit) (f (or_right_false c.local c.exclusive (on_one c (lookup_at l i) e).0))
      go false e f = refl

  columns_match : (is : List ℕ) → ((i : ℕ) → Memᴰ i is → i < lookup_count l.lookups) → (o : OpenColumn) (c : Lookup) → Shows (word nodes) l.lookups l.names o c
      → Matched (word nodes) l.lookups l.names (columns_from S o is) (fill (word nodes) limit c (map (lookup_at l) is))
  unfolding columns_from fill
  columns_match [] h o c s = (s, tt)
  columns_match (i ∷ is) h o c s =
      let g = h i (Memᴰ.head refl) in
      let t = shows_opened i g in
      go (joins_at S o i) (joins_is o c i g s)
      (columns_match is (λ (j : ℕ) m. h j (Memᴰ.tail m)) (merge o (opened_at S i)) (merged c (lookup_at l i)) (shows_merged (word nodes) l.lookups l.names o (opened_at S i) c (lookup_at l i) s t))
      (columns_match is (λ (j : ℕ) m. h j (Memᴰ.tail m)) (opened_at S i) (lookup_at l i) t)
    where
      M : List OpenColumn → List Lookup → Type 0
      M = Matched (word nodes) l.lookups l.names

      go : (b : Bool) → b ≡ joins (word nodes) limit c (lookup_at l i)
          → M (columns_from S (merge o (opened_at S i)) is) (fill (word nodes) limit (merged c (lookup_at l i)) (map (lookup_at l) is))
          → M (columns_from S (opened_at S i) is) (fill (word nodes) limit (lookup_at l i) (map (lookup_at l) is))
          → M (cond b (columns_from S (merge o (opened_at S i)) is) (o ∷ columns_from S (opened_at S i) is))
          (cond (joins (word nodes) limit c (lookup_at l i)) (fill (word nodes) limit (merged c (lookup_at l i)) (map (lookup_at l) is)) (c ∷ fill (word nodes) limit (lookup_at l i) (map (lookup_at l) is)))
      go true e y z = rw (← e) y
      go false e y z = rw (← e) (s, z)

  pub plan_matches : (is : List ℕ) → ((i : ℕ) → Memᴰ i is → i < lookup_count l.lookups)
      → Matched (word nodes) l.lookups l.names (columns_of S is) (filled (word nodes) limit (map (lookup_at l) is))
  unfolding columns_of filled
  plan_matches [] h = tt
  plan_matches (i ∷ is) h = columns_match is (λ (j : ℕ) m. h j (Memᴰ.tail m)) (opened_at S i) (lookup_at l i) (shows_opened i (h i (Memᴰ.head refl)))

-- what columns that match say
module _ (deg : ℕ → ℕ) (lookups names : List ℕ) where
  pub over_matches : (os : List OpenColumn) (cs : List Lookup) → Matched deg lookups names os cs → over_of lookups os ≡ overweight cs
  unfolding over_of overweight
  over_matches [] [] m = refl
  over_matches [] (c ∷ cs) m = absurd m
  over_matches (o ∷ os) [] m = absurd m
  over_matches (o ∷ os) (c ∷ cs) m = λ j. (m.0.is_on j && ltb 4294967295 (m.0.weight_is j)) || over_matches os cs m.1 j

  pub names_match : (f : ℕ → List ℕ) → ((i : ℕ) → i < lookup_count lookups → f i ≡ name_at lookups names i) → (os : List OpenColumn) (cs : List Lookup) → Matched deg lookups names os cs
      → flat_map (λ (c : Lookup). c.name) cs ≡ flat_map f (heads_of os)
  unfolding heads_of flat_map
  names_match f h [] [] m = refl
  names_match f h [] (c ∷ cs) m = absurd m
  names_match f h (o ∷ os) [] m = absurd m
  names_match f h (o ∷ os) (c ∷ cs) m = ap₂ (λ (x y : List ℕ). x ++ y) (sym m.0.name_is ∙ sym (h o.head m.0.here)) (names_match f h os cs m.1)

  pub count_matches : (k : ℕ) (os : List OpenColumn) (cs : List Lookup) → Matched deg lookups names os cs → length (flat_map lookup_words (renumbered k cs)) ≡ 9 * length os
  unfolding flat_map renumbered lookup_words
  count_matches k [] [] m = refl
  count_matches k [] (c ∷ cs) m = absurd m
  count_matches k (o ∷ os) [] m = absurd m
  count_matches k (o ∷ os) (c ∷ cs) m = omega (arith, count_matches (suc k) os cs m.1)

  held_is : (a b : ℕ) → a ≡ b → b ≤ 4294967295 → b ≡ min a 4294967295
  held_is a b e h = omega arith

  -- no list is longer than a word says
  pub words_match : (k : ℕ) (os : List OpenColumn) (cs : List Lookup) → Matched deg lookups names os cs → sum_of (λ (c : Lookup). length c.tuples) cs ≤ 4294967295
      → sum_of (λ (c : Lookup). length c.multiplicities) cs ≤ 4294967295 → sum_of (λ (c : Lookup). length c.flags) cs ≤ 4294967295
      → flat_map lookup_words (renumbered k cs) ≡ words_from lookups k os
  unfolding flat_map renumbered words_from sum_of lookup_words column_words
  words_match k [] [] m t u f = refl
  words_match k [] (c ∷ cs) m t u f = absurd m
  words_match k (o ∷ os) [] m t u f = absurd m
  words_match k (o ∷ os) (c ∷ cs) m t u f =
      let s = m.0 in
      let a = ap bit s.is_on in
      let x = ap bit s.is_exclusive in
      let w = sym s.weight_is in
      let te = held_is o.tuples (length c.tuples) s.tuples_are (omega arith) in
      let me = held_is o.multiplicities (length c.multiplicities) s.multiplicities_are (omega arith) in
      let fe = held_is o.flags (length c.flags) s.flags_are (omega arith) in
      let ne = sym s.long in
      let rest = words_match (suc k) os cs m.1 (omega arith) (omega arith) (omega arith) in
      λ j. sym a j ∷ ne j ∷ low_half (w j) ∷ k ∷ sym x j ∷ te j ∷ me j ∷ fe j ∷ high_half (w j) ∷ rest j

  pub heads_match : (os : List OpenColumn) (cs : List Lookup) → Matched deg lookups names os cs → (t : ℕ) → t < length (heads_of os) → word (heads_of os) t < lookup_count lookups
  unfolding heads_of
  heads_match [] [] m t h = absurd (omega arith)
  heads_match [] (c ∷ cs) m t h = absurd m
  heads_match (o ∷ os) [] m t h = absurd m
  heads_match (o ∷ os) (c ∷ cs) m zero h = m.0.here
  heads_match (o ∷ os) (c ∷ cs) m (suc t) h = heads_match os cs m.1 t (omega arith)

pub heads-long : (os : List OpenColumn) → length (heads_of os) ≡ length os
unfolding heads_of
heads-long [] = refl
heads-long (o ∷ os) = ap suc (heads-long os)
