-- The packed table passes the tests: what they ask of each lookup, a merge keeps.
use Rattle.std.specs.Prelude.{◌≡◌, Bool, ◌||◌, leb, ltb, take, drop}
use Rattle.std.proofs.Math.Path.{refl, sym, ap, ap₂, subst}
use Rattle.std.proofs.Common.{◌∙◌, arith, length-append, length-drop, get_or-take, get_or-drop}
use Rattle.std.proofs.Math.Bool.{true, false, cond, not, ◌&&◌}
use mathlib.Core.List.{List, [], ◌∷◌, ◌++◌, map, flat_map}
use Prim.Native.Nat.{ℕ, zero, suc, ◌+◌, ◌*◌, ◌%◌, ◌<◌, ◌≤◌}
use Rattle.std.proofs.Math.Nat.{zero-add}
use Rattle.std.proofs.Math.Dec.{T, eqb}
use Rattle.std.proofs.Math.ListN.{length, get_or, length-take}
use Rattle.std.proofs.lemmas.List.{length-map}
use borrow.Author.Tests.{eq-eqb, le-leb, lt-ltb, ltb-true, ltb-false, le-ltb}
use Rattle.lists.specs.laws.Count.{or_left_false, or_right_false, not_of_false}
use Rattle.lists.specs.Tab.{tab}
use Rattle.lists.specs.laws.Tab.{tab-length}
use Rattle.lists.specs.laws.Sums.{total_cong}
use Rattle.lists.specs.laws.Tests.{Passed, passed, every_true, every_of}
use Rattle.expression.specs.Words.{word, low_half, high_half, all_below, all_within}
use Rattle.expression.specs.Values.{bit}
use Rattle.expression.specs.Node.{node_count}
use Rattle.expression.specs.Tests.{traces_within, nodes_within, traces_fit, nodes_fit}
use Rattle.expression.specs.declared.sizes.Shape.{Shape}
use Rattle.expression.specs.declared.sizes.Limits.{Limits}
use Rattle.lookup.specs.Lookups.{Lookups, Lookup, lookup_count, lookup_word, on_bus, name_length, weight, column, exclusive, tuple_count, multiplicity_count, flag_count, name_start, tuple_start, multiplicity_start, flag_start, element_start, tuple_width, tuple_nodes, lookup_at, lookups_of}
use Rattle.lookup.specs.Table.{Table}
use Rattle.lookup.specs.Tests.{weight_limit, lookup_within, lookups_within, lookups_fit, sizes, words_below, known, lengths_agree, nodes_present, lists_agree, in_position, has_lookups, preprocessed_enough, rows_enough}
use Rattle.lookup.specs.Requires.{Limited, Fitting, Agreeing}
use Rattle.lookup.specs.laws.Tested.{limited, fitting, agreeing}
use Rattle.lookup_degree.specs.Sums.{sum_of}
use Rattle.lookup_degree.specs.Degree.{node_degrees}
use Rattle.lookup_degree.specs.laws.Degree.{sum-tab}
use Rattle.lookup_buses.specs.Order.{arranged}
use Rattle.lookup_buses.specs.laws.Order.{arranged-length}
use Rattle.packing.specs.Packing.{passes, on_one_bus, in_order, merged, joins, fill, filled, numbered, renumbered, packed, overweight}
use Rattle.packing.specs.Written.{lookup_words, words_of}
use Rattle.packing.specs.PackSameBus.{columns}
use Rattle.packing.proofs.laws.Keeps.{packing_keeps}
use Rattle.theorems_packing.specs.Packed.{packed_table}
use Rattle.theorems_packing.specs.Passes.{PackedPasses}
use Rattle.theorems_packing.specs.inner.Entries.{Aligned}
use Rattle.theorems_packing.proofs.laws.Each.{Each, each_append, each_of, each_at, each-tab, each_and, each_map, each-flat, packed-each}
use Rattle.theorems_packing.proofs.laws.Back.{Unnamed, nothing, count-back, word_back, words-fit}
use Rattle.theorems_packing.proofs.laws.Entries.{additive-both, local-both, merged_sound, numbered_sound, at_sound}

-- the most that the weight of a local of so many tuples may be
abbrev local_limit : ℕ → ℕ
local_limit tuples = cond (eqb tuples 0) 4294967295 (tuples * 4294967295)

-- what the tests ask of a lookup, beside a bus lookup's weight: n nodes
record Valid (m : Limits) (n : ℕ) (x : Lookup) : Type 0 where
  aligned : Aligned x
  unflagged : x.exclusive ≡ false → x.flags ≡ []
  name : length x.name ≤ m.name_bytes
  widths : Each (λ (t : List ℕ). length t ≤ m.tuple_words) x.tuples
  multiplicities : Each (λ (a : ℕ). a < n) x.multiplicities
  flags : Each (λ (a : ℕ). a < n) x.flags
  elements : Each (λ (t : List ℕ). Each (λ (a : ℕ). a < n) t) x.tuples
  weight : x.local ≡ true → x.weight ≤ local_limit (length x.tuples)

part-each : (n : ℕ) (l : List ℕ) (c s : ℕ) → ((k : ℕ) → k < length l → word l k < n) → Each (λ (a : ℕ). a < n) (take c (drop s l))
part-each n l c s h = each_of (λ (a : ℕ). a < n) 0 (take c (drop s l)) (λ i k.
    let q : (i < c) × (s + i < length l) = (omega (arith, length-take c (drop s l)), omega (arith, length-take c (drop s l), length-drop s l)) in
    subst (λ (a : ℕ). a < n) (sym (get_or-take c (drop s l) i 0 q.0 ∙ get_or-drop s l i 0)) (h (s + i) q.1))

module _ (m : Limits) (nodes : List ℕ) (l : Lookups) (w : Limited m l.lookups l.tuples) (f : Fitting l) (a : Agreeing (node_count nodes) l) where
  at_valid : (i : ℕ) → i < lookup_count l.lookups → Valid m (node_count nodes) (lookup_at l i)
  unfolding lookup_at
  at_valid i h =
      let s = at_sound nodes l f a i h in
      record {
        aligned = s;
        unflagged = λ e. empty (drop (flag_start l.lookups i) l.flags) (a.flags_agree i h ∙ ap (λ (b : Bool). cond b (tuple_count l.lookups i) 0) e);
        name = omega (arith, length-take (name_length l.lookups i) (drop (name_start l.lookups i) l.names), w.name i h);
        widths = each-tab (λ (t : List ℕ). length t ≤ m.tuple_words) (tuple_nodes l i) (tuple_count l.lookups i) (λ k q. narrow k);
        multiplicities =
            part-each (node_count nodes) l.multiplicities (multiplicity_count l.lookups i) (multiplicity_start l.lookups i) a.multiplicity;
        flags = part-each (node_count nodes) l.flags (flag_count l.lookups i) (flag_start l.lookups i) a.flag;
        elements =
            each-tab (λ (t : List ℕ). Each (λ (a : ℕ). a < node_count nodes) t) (tuple_nodes l i) (tuple_count l.lookups i) (λ k q. inside k);
        weight = λ e. subst (λ (n : ℕ). weight l.lookups i ≤ n) (weighed e) (w.weight i h);
      }
    where
      weighed : not (on_bus l.lookups i) ≡ true → weight_limit l.lookups i ≡ local_limit (length (tab (tuple_nodes l i) 0 (tuple_count l.lookups i)))
      weighed e =
          unfold weight_limit in go (on_bus l.lookups i) e ∙ ap local_limit (sym (tab-length (tuple_nodes l i) 0 (tuple_count l.lookups i)))
        where
          go : (b : Bool) → not b ≡ true
              → cond (b || eqb (tuple_count l.lookups i) 0) 4294967295 (tuple_count l.lookups i * 4294967295) ≡ local_limit (tuple_count l.lookups i)
          go true e = absurd (not_of_false refl (subst T (sym e) tt))
          go false e = refl

      empty : {n : ℕ} (xs : List ℕ) → n ≡ 0 → take n xs ≡ []
      empty xs e = ap (λ (n : ℕ). take n xs) e

      narrow : (k : ℕ) → length (tuple_nodes l i k) ≤ m.tuple_words
      narrow k =
          unfold tuple_nodes in unfold tuple_width in
          omega (arith, length-take (word l.tuples (tuple_start l.lookups i + k)) (drop (element_start l.tuples (tuple_start l.lookups i + k)) l.elements), w.width (tuple_start l.lookups i + k))

      inside : (k : ℕ) → Each (λ (a : ℕ). a < node_count nodes) (tuple_nodes l i k)
      inside k =
          unfold tuple_nodes in part-each (node_count nodes) l.elements (tuple_width l.lookups l.tuples i k) (element_start l.tuples (tuple_start l.lookups i + k)) a.element

merged_valid : (m : Limits) (n : ℕ) (a b : Lookup) → on_one_bus a b ≡ true → Valid m n a → Valid m n b → Valid m n (merged a b)
merged_valid m n a b o s t =
    let e = additive-both a b o in
    record {
      aligned = merged_sound a b o s.aligned t.aligned;
      unflagged = λ q. ap₂ (λ (x y : List ℕ). x ++ y) (s.unflagged e.0) (t.unflagged e.1);
      name = s.name;
      widths = each_append (λ (t : List ℕ). length t ≤ m.tuple_words) a.tuples b.tuples s.widths t.widths;
      multiplicities = each_append (λ (a : ℕ). a < n) a.multiplicities b.multiplicities s.multiplicities t.multiplicities;
      flags = each_append (λ (a : ℕ). a < n) a.flags b.flags s.flags t.flags;
      elements = each_append (λ (t : List ℕ). Each (λ (a : ℕ). a < n) t) a.tuples b.tuples s.elements t.elements;
      weight = λ q. absurd (not_of_false (local-both a b o).0 (subst T (sym q) tt));
    }

numbered_valid : (m : Limits) (n k : ℕ) (x : Lookup) → Valid m n x → Valid m n (numbered k x)
numbered_valid m n k x s =
    record {
      aligned = numbered_sound k x s.aligned;
      unflagged = s.unflagged;
      name = s.name;
      widths = s.widths;
      multiplicities = s.multiplicities;
      flags = s.flags;
      elements = s.elements;
      weight = s.weight;
    }

-- no bus column's weight is over 2³² - 1 where packing has no refusal 7
light : (cs : List Lookup) → overweight cs ≡ false → Each (λ (x : Lookup). x.local ≡ false → x.weight ≤ 4294967295) cs
unfolding overweight
light [] e = tt
light (c ∷ cs) e =
    let here : Bool = not c.local && ltb 4294967295 c.weight in
    (λ q. go c.local q (or_left_false here (overweight cs) e), light cs (or_right_false here (overweight cs) e))
  where
    go : (b : Bool) → b ≡ false → (not b && ltb 4294967295 c.weight) ≡ false → c.weight ≤ 4294967295
    go true q h = absurd (not_of_false q tt)
    go false q h = ltb-false 4294967295 c.weight h

-- there are no more columns than lookups, and the same number of tuples
fill-short : (deg : ℕ → ℕ) (limit : ℕ) (c : Lookup) (ls : List Lookup) → length (fill deg limit c ls) ≤ suc (length ls)
unfolding fill
fill-short deg limit c [] = omega arith
fill-short deg limit c (l ∷ ls) = go (joins deg limit c l) (fill-short deg limit (merged c l) ls) (fill-short deg limit l ls)
  where
    go : (b : Bool) → length (fill deg limit (merged c l) ls) ≤ suc (length ls) → length (fill deg limit l ls) ≤ suc (length ls)
        → length (cond b (fill deg limit (merged c l) ls) (c ∷ fill deg limit l ls)) ≤ suc (suc (length ls))
    go true x y = omega arith
    go false x y = omega arith

filled-short : (deg : ℕ → ℕ) (limit : ℕ) (ls : List Lookup) → length (filled deg limit ls) ≤ length ls
unfolding filled
filled-short deg limit [] = omega arith
filled-short deg limit (l ∷ ls) = fill-short deg limit l ls

renumbered-length : (k : ℕ) (ls : List Lookup) → length (renumbered k ls) ≡ length ls
unfolding renumbered
renumbered-length k [] = refl
renumbered-length k (l ∷ ls) = ap suc (renumbered-length (suc k) ls)

order-length : (l : Lookups) → length (in_order l) ≡ lookup_count l.lookups
unfolding in_order
order-length l =
    length-map (arranged (λ i. passes (lookup_at l i)) (λ i. (lookup_at l i).name) (lookup_count l.lookups)) (lookup_at l)
    ∙ arranged-length (λ i. passes (lookup_at l i)) (λ i. (lookup_at l i).name) (lookup_count l.lookups)

packed-short : (deg : ℕ → ℕ) (limit : ℕ) (l : Lookups) → length (packed deg limit l) ≤ lookup_count l.lookups
unfolding packed
packed-short deg limit l =
    omega (arith, renumbered-length 0 (filled deg limit (in_order l)), filled-short deg limit (in_order l), order-length l)

pub fewer_columns : (limit : ℕ) (t : Table) → lookup_count (packed_table limit t).lookups.lookups ≤ lookup_count t.lookups.lookups
fewer_columns limit t =
    let short : length (columns limit t.nodes t.lookups) ≤ lookup_count t.lookups.lookups = unfold columns in packed-short (node_degrees 0 t.nodes) limit t.lookups in
    omega (arith, count-back (columns limit t.nodes t.lookups))

-- no column where there is no lookup, and one where there is
fill-some : (deg : ℕ → ℕ) (limit : ℕ) (c : Lookup) (ls : List Lookup) → 0 < length (fill deg limit c ls)
unfolding fill
fill-some deg limit c [] = omega arith
fill-some deg limit c (l ∷ ls) = go (joins deg limit c l) (fill-some deg limit (merged c l) ls)
  where
    go : (b : Bool) → 0 < length (fill deg limit (merged c l) ls)
        → 0 < length (cond b (fill deg limit (merged c l) ls) (c ∷ fill deg limit l ls))
    go true h = h
    go false h = omega arith

filled-some : (deg : ℕ → ℕ) (limit : ℕ) (ls : List Lookup) → 0 < length ls → 0 < length (filled deg limit ls)
unfolding filled
filled-some deg limit [] h = h
filled-some deg limit (l ∷ ls) h = fill-some deg limit l ls

pub same-has : (limit : ℕ) (t : Table) → has_lookups (packed_table limit t).lookups.lookups ≡ has_lookups t.lookups.lookups
unfolding has_lookups
same-has limit t = go (ltb 0 (lookup_count t.lookups.lookups)) refl
  where
    cs : List Lookup
    cs = columns limit t.nodes t.lookups

    some : 0 < lookup_count t.lookups.lookups → 0 < length cs
    some h =
        unfold columns in unfold packed in
        (let a = filled-some (node_degrees 0 t.nodes) limit (in_order t.lookups) (omega (arith, order-length t.lookups)) in
        omega (arith, a, renumbered-length 0 (filled (node_degrees 0 t.nodes) limit (in_order t.lookups))))

    go : (b : Bool) → ltb 0 (lookup_count t.lookups.lookups) ≡ b → ltb 0 (lookup_count (words_of cs).lookups) ≡ b
    go true e =
        lt-ltb 0 (lookup_count (words_of cs).lookups) (let h = some (ltb-true 0 (lookup_count t.lookups.lookups) e) in omega (arith, count-back cs))
    go false e =
        le-ltb 0 (lookup_count (words_of cs).lookups) (let h = ltb-false 0 (lookup_count t.lookups.lookups) e in omega (arith, fewer_columns limit t))

words-tuples : (cs : List Lookup) → length (words_of cs).tuples ≡ sum_of (λ (x : Lookup). length x.tuples) cs
unfolding words_of flat_map sum_of
words-tuples [] = refl
words-tuples (c ∷ cs) =
    length-append (map (λ (t : List ℕ). length t) c.tuples) (words_of cs).tuples
    ∙ ap₂ ◌+◌ (length-map c.tuples (λ (t : List ℕ). length t)) (words-tuples cs)

own-tuples : (l : Lookups) → Fitting l → sum_of (λ (x : Lookup). length x.tuples) (lookups_of l) ≡ length l.tuples
unfolding lookups_of
own-tuples l f =
    sum-tab (λ (x : Lookup). length x.tuples) (lookup_at l) (lookup_count l.lookups)
    ∙ total_cong (λ i. length (lookup_at l i).tuples) (tuple_count l.lookups) (lookup_count l.lookups) (λ i h. unfold lookup_at in tab-length (tuple_nodes l i) 0 (tuple_count l.lookups i))
    ∙ sym (f.tuples ∙ (unfold tuple_start in refl))

-- tests from what they ask
pub below_of : (n : ℕ) (l : List ℕ) → Each (λ (a : ℕ). a < n) l → all_below n l ≡ true
unfolding all_below
below_of n l e = every_of (λ i. ltb (word l i) n) (length l) (λ i h. lt-ltb (word l i) n (each_at (λ (a : ℕ). a < n) 0 l e i h))

pub of_below : (n : ℕ) (l : List ℕ) → all_below n l ≡ true → Each (λ (a : ℕ). a < n) l
unfolding all_below
of_below n l e = each_of (λ (a : ℕ). a < n) 0 l (λ i h. ltb-true (word l i) n (every_true (λ i. ltb (word l i) n) (length l) i e h))

within_of : (n : ℕ) (l : List ℕ) → Each (λ (a : ℕ). a ≤ n) l → all_within n l ≡ true
unfolding all_within
within_of n l e = every_of (λ i. leb (word l i) n) (length l) (λ i h. le-leb (word l i) n (each_at (λ (a : ℕ). a ≤ n) 0 l e i h))

fits_of : (l : Lookups) → Fitting l → lookups_fit l ≡ true
unfolding lookups_fit
fits_of l f =
    let a = eq-eqb (length l.lookups % 9) 0 (omega (arith, f.lookups)) in
    let b = ap₂ ◌&&◌ a (eq-eqb _ _ f.names) in
    let c = ap₂ ◌&&◌ b (eq-eqb _ _ f.tuples) in
    let d = ap₂ ◌&&◌ c (eq-eqb _ _ f.multiplicities) in
    let e = ap₂ ◌&&◌ d (eq-eqb _ _ f.flags) in
    ap₂ ◌&&◌ e (eq-eqb _ _ f.elements)

-- columns that are all as the tests ask
module _ (m : Limits) (n : ℕ) (cs : List Lookup) (v : Each (Valid m n) cs) where
  unnamed : Each Unnamed cs
  unnamed = each_and (Valid m n) Unnamed (λ (x : Lookup) s. s.aligned.unnamed) cs v

  abbrev W : Lookups
  W = words_of cs

  at_word : (i f : ℕ) → i < lookup_count W.lookups → f < 9 → lookup_word W.lookups i f ≡ word (lookup_words (get_or cs i nothing)) f
  at_word i f h k = word_back cs unnamed i f (omega (arith, count-back cs)) k

  at : (i : ℕ) → i < lookup_count W.lookups → Valid m n (get_or cs i nothing)
  at i h = each_at (Valid m n) nothing cs v i (omega (arith, count-back cs))

  within : overweight cs ≡ false → length cs ≤ m.lookups → length W.tuples ≤ m.tuples → lookups_within m W.lookups W.tuples ≡ true
  unfolding lookups_within
  within o a b =
      let c = ap₂ ◌&&◌ (le-leb (lookup_count W.lookups) m.lookups (omega (arith, count-back cs))) (le-leb _ _ b) in
      let d = ap₂ ◌&&◌ c (within_of m.tuple_words W.tuples narrow) in
      ap₂ ◌&&◌ d
      (every_of (lookup_within m W.lookups) (lookup_count W.lookups) (λ i h.
      unfold lookup_within in
      ap₂ ◌&&◌ (le-leb (name_length W.lookups i) m.name_bytes (named i h)) (le-leb (weight W.lookups i) (weight_limit W.lookups i) (weighed i h))))
    where
      narrow : Each (λ (a : ℕ). a ≤ m.tuple_words) W.tuples
      narrow =
          unfold words_of in
          each-flat (λ (a : ℕ). a ≤ m.tuple_words) (λ (x : Lookup). map (λ (t : List ℕ). length t) x.tuples) cs
          (each_and (Valid m n) (λ (x : Lookup). Each (λ (a : ℕ). a ≤ m.tuple_words) (map (λ (t : List ℕ). length t) x.tuples))
          (λ (x : Lookup) s. each_map (λ (a : ℕ). a ≤ m.tuple_words) (λ (t : List ℕ). length t) x.tuples s.widths) cs v)

      less : (b : Bool) (k c : ℕ) → k ≤ c → cond b k 0 ≤ c
      less true k c h = h
      less false k c h = omega arith

      named : (i : ℕ) → i < lookup_count W.lookups → name_length W.lookups i ≤ m.name_bytes
      named i h =
          less (on_bus W.lookups i) (lookup_word W.lookups i 1) m.name_bytes (rw (at_word i 1 h (omega arith)) (unfold lookup_words in (at i h).name))

      bound : (x : Lookup) → Valid m n x → (x.local ≡ false → x.weight ≤ 4294967295)
          → x.weight ≤ cond (not (eqb (bit (not x.local)) 0) || eqb (length x.tuples) 0) 4294967295 (length x.tuples * 4294967295)
      bound x s q = go x.local refl
        where
          go : (b : Bool) → x.local ≡ b → x.weight ≤ cond (not (eqb (bit (not b)) 0) || eqb (length x.tuples) 0) 4294967295 (length x.tuples * 4294967295)
          go true e = s.weight e
          go false e = q e

      weighed : (i : ℕ) → i < lookup_count W.lookups → weight W.lookups i ≤ weight_limit W.lookups i
      weighed i h =
          unfold weight_limit in
          let x = get_or cs i nothing in
          let low : lookup_word W.lookups i 2 ≡ low_half x.weight = at_word i 2 h (omega arith) ∙ (unfold lookup_words in refl) in
          let high : lookup_word W.lookups i 8 ≡ high_half x.weight = at_word i 8 h (omega arith) ∙ (unfold lookup_words in refl) in
          let scope : lookup_word W.lookups i 0 ≡ bit (not x.local) = at_word i 0 h (omega arith) ∙ (unfold lookup_words in refl) in
          let count : tuple_count W.lookups i ≡ length x.tuples = at_word i 5 h (omega arith) ∙ (unfold lookup_words in refl) in
          let whole : weight W.lookups i ≡ x.weight = omega (arith, low, high) in
          let q = each_at (λ (x : Lookup). x.local ≡ false → x.weight ≤ 4294967295) nothing cs (light cs o) i (omega (arith, count-back cs)) in
          rw (whole, scope, count) (bound x (at i h) q)

  agree : lists_agree n W ≡ true
  unfolding lists_agree nodes_present
  agree =
      ap₂ ◌&&◌ (every_of (lengths_agree W.lookups) (lookup_count W.lookups) lengths)
      (ap₂ ◌&&◌ (ap₂ ◌&&◌ (below_of n W.multiplicities ms) (below_of n W.flags fs)) (below_of n W.elements es))
    where
      B : ℕ → Type 0
      B a = a < n

      ms : Each B W.multiplicities
      ms =
          unfold words_of in each-flat B (λ (x : Lookup). x.multiplicities) cs (each_and (Valid m n) (λ (x : Lookup). Each B x.multiplicities) (λ (x : Lookup) s. s.multiplicities) cs v)

      fs : Each B W.flags
      fs =
          unfold words_of in each-flat B (λ (x : Lookup). x.flags) cs (each_and (Valid m n) (λ (x : Lookup). Each B x.flags) (λ (x : Lookup) s. s.flags) cs v)

      es : Each B W.elements
      es =
          unfold words_of in
          each-flat B (λ (x : Lookup). flat_map (λ (t : List ℕ). t) x.tuples) cs
          (each_and (Valid m n) (λ (x : Lookup). Each B (flat_map (λ (t : List ℕ). t) x.tuples)) (λ (x : Lookup) s. each-flat B (λ (t : List ℕ). t) x.tuples s.elements) cs v)

      flagged : (x : Lookup) → Valid m n x → length x.flags ≡ cond (not (eqb (word (lookup_words x) 4) 0)) (length x.tuples) 0
      flagged x s = unfold lookup_words in go x.exclusive refl
        where
          go : (b : Bool) → x.exclusive ≡ b
              → length x.flags ≡ cond (not (eqb (Rattle.expression.specs.Values.bit b) 0)) (length x.tuples) 0
          go true e = s.aligned.flagged e
          go false e = ap length (s.unflagged e)

      lengths : (i : ℕ) → i < lookup_count W.lookups → lengths_agree W.lookups i ≡ true
      lengths i h =
          unfold lengths_agree in
          let x = get_or cs i nothing in
          let t : tuple_count W.lookups i ≡ length x.tuples = at_word i 5 h (omega arith) ∙ (unfold lookup_words in refl) in
          let k : multiplicity_count W.lookups i ≡ length x.multiplicities = at_word i 6 h (omega arith) ∙ (unfold lookup_words in refl) in
          let g : flag_count W.lookups i ≡ length x.flags = at_word i 7 h (omega arith) ∙ (unfold lookup_words in refl) in
          ap₂ ◌&&◌ (eq-eqb (multiplicity_count W.lookups i) (tuple_count W.lookups i) (k ∙ (at i h).aligned.aligned ∙ sym t))
          (eq-eqb (flag_count W.lookups i) (cond (exclusive W.lookups i) (tuple_count W.lookups i) 0)
          (g ∙ flagged x (at i h) ∙ ap₂ (λ (e t : ℕ). cond (not (eqb e 0)) t 0) (sym (at_word i 4 h (omega arith))) (sym t)))

-- columns that are numbered by position
column_at : (k : ℕ) (ls : List Lookup) (i : ℕ) → i < length ls → (get_or (renumbered k ls) i nothing).column ≡ k + i
unfolding renumbered
column_at k [] i h = absurd (omega arith)
column_at k (l ∷ ls) zero h = omega arith
column_at k (l ∷ ls) (suc i) h = column_at (suc k) ls i (omega arith) ∙ omega arith

pub positions_of : (ls : List Lookup) → Each Unnamed (renumbered 0 ls) → in_position (words_of (renumbered 0 ls)).lookups ≡ true
unfolding in_position
positions_of ls u =
    every_of (λ i. eqb (column (words_of (renumbered 0 ls)).lookups i) i) (lookup_count (words_of (renumbered 0 ls)).lookups) (λ i h.
    let q : i < length (renumbered 0 ls) = omega (arith, count-back (renumbered 0 ls)) in
    let own : word (lookup_words (get_or (renumbered 0 ls) i nothing)) 3 ≡ (get_or (renumbered 0 ls) i nothing).column = unfold lookup_words in refl in
    eq-eqb (column (words_of (renumbered 0 ls)).lookups i) i (word_back (renumbered 0 ls) u i 3 q (omega arith) ∙ own ∙ column_at 0 ls i (omega (arith, renumbered-length 0 ls)) ∙ zero-add i))

-- where there is no lookup there is no column
rows_of : (s : Shape) (lookups lookups' : List ℕ) → lookup_count lookups' ≤ lookup_count lookups → rows_enough s lookups ≡ true
    → rows_enough s lookups' ≡ true
unfolding rows_enough has_lookups
rows_of s lookups lookups' h e = go (ltb 0 (lookup_count lookups')) refl
  where
    E : Bool
    E = ltb 0 s.height && preprocessed_enough s

    go : (b : Bool) → ltb 0 (lookup_count lookups') ≡ b → (not b || E) ≡ true
    go true q =
        let k : 0 < lookup_count lookups' = ltb-true 0 (lookup_count lookups') q in
        sym (ap (λ (b : Bool). not b || E) (lt-ltb 0 (lookup_count lookups) (omega arith))) ∙ e
    go false q = refl

pub packed-passes : PackedPasses
unfolding words_below known
packed-passes m p limit t r o =
    record {
      tested =
          record {
            sizes_pass = sized;
            words_pass = r.words_pass;
            nodes_pass = r.nodes_pass;
            degrees_pass = r.degrees_pass;
            lists_pass = agree m N cs valid;
          };
      positions = numbered_by;
      rows = rows_of t.traces.shape t.lookups.lookups (words_of cs).lookups (fewer_columns limit t);
    }
  where
    N : ℕ
    N = node_count t.nodes

    cs : List Lookup
    cs = columns limit t.nodes t.lookups

    -- refusal 1, test by test
    tests : List Bool
    tests =
        nodes_within m t.nodes
        ∷ lookups_within m t.lookups.lookups t.lookups.tuples
        ∷ traces_fit t.traces.shape t.traces.main t.traces.preprocessed
        ∷ nodes_fit t.nodes
        ∷ lookups_fit t.lookups
        ∷ []

    k : Passed (traces_within m t.traces.shape t.traces.public_values ∷ tests)
    k = unfold sizes in passed (traces_within m t.traces.shape t.traces.public_values) tests r.sizes_pass

    w : Limited m t.lookups.lookups t.lookups.tuples
    w = limited m t.lookups.lookups t.lookups.tuples k.1.1.0

    f : Fitting t.lookups
    f = fitting t.lookups k.1.1.1.1.1.0

    a : Agreeing N t.lookups
    a = agreeing N t.lookups r.lists_pass

    valid : Each (Valid m N) cs
    valid =
        unfold columns in packed-each (Valid m N) t.lookups (at_valid m t.nodes t.lookups w f a) (merged_valid m N) (numbered_valid m N) (node_degrees 0 t.nodes) limit

    short : length cs ≤ lookup_count t.lookups.lookups
    short = unfold columns in packed-short (node_degrees 0 t.nodes) limit t.lookups

    few : length (words_of cs).tuples ≡ length t.lookups.tuples
    few =
        let same : sum_of (λ (x : Lookup). length x.tuples) cs ≡ sum_of (λ (x : Lookup). length x.tuples) (lookups_of t.lookups) = unfold columns in (packing_keeps (node_degrees 0 t.nodes) limit t.lookups).count in
        words-tuples cs ∙ same ∙ own-tuples t.lookups f

    sized : sizes m (packed_table limit t) ≡ true
    sized =
        unfold sizes in
        let a = ap₂ ◌&&◌ k.0 k.1.0 in
        let b = ap₂ ◌&&◌ a (within m N cs valid o (omega (arith, w.few_lookups, short)) (omega (arith, w.few_tuples, few))) in
        let c = ap₂ ◌&&◌ b k.1.1.1.0 in
        let d = ap₂ ◌&&◌ c k.1.1.1.1.0 in
        ap₂ ◌&&◌ d (fits_of (words_of cs) (words-fit cs (unnamed m N cs valid)))

    numbered_by : in_position (words_of cs).lookups ≡ true
    numbered_by = go (unnamed m N cs valid)
      where
        go : Each Unnamed cs → in_position (words_of cs).lookups ≡ true
        go u = unfold columns in unfold packed in positions_of (filled (node_degrees 0 t.nodes) limit (in_order t.lookups)) u
