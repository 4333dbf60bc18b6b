-- Packing writes no more than it reads: lookups and names are at most as many, the other lists as long.
use Rattle.std.specs.Prelude.{◌≡◌, refl, Bool, cond, ℕ, zero, suc, ◌+◌, ◌*◌, ◌<◌, ◌≤◌}
use Rattle.std.proofs.Math.Path.{sym, ap}
use Rattle.std.proofs.Common.{◌∙◌, zero-le, length-append, length-drop}
use Rattle.std.proofs.Math.Bool.{true, false}
use mathlib.Core.List.{List, [], ◌∷◌, map, flat_map}
use native.Mathlib.Omega.{arith}
use Rattle.std.proofs.Math.ListN.{length, length-take}
use Rattle.std.proofs.lemmas.List.{length-map}
use Rattle.lists.specs.Count.{total}
use Rattle.lists.specs.Tab.{tab}
use Rattle.lists.specs.laws.Sums.{total_cong}
use Rattle.lists.specs.laws.Tab.{tab-length, flat_append}
use Rattle.expression.specs.Words.{word}
use Rattle.lookup.specs.Lookups.{Lookups, Lookup, lookup_count, name_length, tuple_count, multiplicity_count, flag_count, name_start, tuple_start, multiplicity_start, flag_start, element_start, tuple_width, tuple_nodes, lookup_at, lookups_of}
use Rattle.lookup.specs.Requires.{Fitting}
use Rattle.lookup.specs.laws.Tested.{placed, tuple-placed}
use Rattle.lookup_degree.specs.Sums.{sum_of}
use Rattle.lookup_degree.specs.laws.Degree.{sum-tab}
use Rattle.packing.specs.Packing.{merged, joins, fill, filled, numbered, packed, in_order}
use Rattle.packing.specs.Written.{lookup_words, words_of}
use Rattle.packing.proofs.laws.Columns.{order-sum, renumbered-sum, packed-sum}

-- lists w that find room where those of l do
pub record NoLonger (w l : Lookups) : Type 0 where
  pub lookups : length w.lookups ≤ length l.lookups
  pub names : length w.names ≤ length l.names
  pub tuples : length w.tuples ≡ length l.tuples
  pub multiplicities : length w.multiplicities ≡ length l.multiplicities
  pub flags : length w.flags ≡ length l.flags
  pub elements : length w.elements ≡ length l.elements

flat-length : {A B : Type 0} (f : A → List B) (xs : List A) → length (flat_map f xs) ≡ sum_of (λ (x : A). length (f x)) xs
unfolding flat_map sum_of
flat-length f [] = refl
flat-length f (x ∷ xs) = length-append (f x) (flat_map f xs) ∙ ap (λ (n : ℕ). length (f x) + n) (flat-length f xs)

nine : (x : Lookup) → length (lookup_words x) ≡ 9
unfolding lookup_words
nine x = refl

-- a sum over all columns that a merge does not raise
module _ (g : Lookup → ℕ) (adds : (a b : Lookup) → g (merged a b) ≤ g a + g b) (deg : ℕ → ℕ) (limit : ℕ) where
  fill_most : (c : Lookup) (ls : List Lookup) → sum_of g (fill deg limit c ls) ≤ g c + sum_of g ls
  unfolding fill sum_of
  fill_most c [] = omega arith
  fill_most c (l ∷ ls) = go (joins deg limit c l) (fill_most (merged c l) ls) (fill_most l ls)
    where
      go : (b : Bool) → sum_of g (fill deg limit (merged c l) ls) ≤ g (merged c l) + sum_of g ls → sum_of g (fill deg limit l ls) ≤ g l + sum_of g ls
          → sum_of g (cond b (fill deg limit (merged c l) ls) (c ∷ fill deg limit l ls)) ≤ g c + (g l + sum_of g ls)
      go true ih ih' = omega (arith, ih, adds c l)
      go false ih ih' = omega (arith, ih')

  filled_most : (ls : List Lookup) → sum_of g (filled deg limit ls) ≤ sum_of g ls
  unfolding filled sum_of
  filled_most [] = omega arith
  filled_most (l ∷ ls) = fill_most l ls

packed_most : (g : Lookup → ℕ) → ((a b : Lookup) → g (merged a b) ≤ g a + g b) → ((k : ℕ) (l : Lookup) → g (numbered k l) ≡ g l)
    → (deg : ℕ → ℕ) (limit : ℕ) (l : Lookups) → sum_of g (packed deg limit l) ≤ sum_of g (lookups_of l)
unfolding packed
packed_most g adds free deg limit l =
    omega (arith, renumbered-sum g free 0 (filled deg limit (in_order l)), filled_most g adds deg limit (in_order l), order-sum l g)

total_most : (f g : ℕ → ℕ) (n : ℕ) → ((i : ℕ) → i < n → f i ≤ g i) → total f n ≤ total g n
unfolding total
total_most f g zero e = zero-le
total_most f g (suc n) e = omega (arith, total_most f g n (λ i h. e i (omega arith)), e n (omega arith))

-- a sum in two parts, and in parts of c 0, c 1, .. numbers
total_split : (f : ℕ → ℕ) (a b : ℕ) → total f (a + b) ≡ total f a + total (λ k. f (a + k)) b
unfolding total
total_split f a zero = let e : a + 0 ≡ a = omega arith in ap (total f) e ∙ omega arith
total_split f a (suc b) = let e : a + suc b ≡ suc (a + b) = omega arith in ap (total f) e ∙ omega (arith, total_split f a b)

total-parts : (f c : ℕ → ℕ) (n : ℕ) → total (λ i. total (λ k. f (total c i + k)) (c i)) n ≡ total f (total c n)
unfolding total
total-parts f c zero = refl
total-parts f c (suc n) = omega (arith, total-parts f c n, total_split f (total c n) (c n))

nines : (n : ℕ) → total (λ i. 9) n ≡ 9 * n
unfolding total
nines zero = refl
nines (suc n) = omega (arith, nines n)

-- sums over a table's lookups
module _ (l : Lookups) (fit : Fitting l) where
  abbrev N : ℕ
  N = lookup_count l.lookups

  by_number : (g : Lookup → ℕ) → sum_of g (lookups_of l) ≡ total (λ i. g (lookup_at l i)) N
  unfolding lookups_of
  by_number g = sum-tab g (lookup_at l) N

  words-sum : sum_of (λ (x : Lookup). length (lookup_words x)) (lookups_of l) ≡ 9 * N
  words-sum =
      by_number (λ (x : Lookup). length (lookup_words x))
      ∙ total_cong (λ i. length (lookup_words (lookup_at l i))) (λ i. 9) N (λ i h. nine (lookup_at l i)) ∙ nines N

  names-sum : sum_of (λ (x : Lookup). length x.name) (lookups_of l) ≤ length l.names
  unfolding lookup_at name_start
  names-sum =
      let most : (i : ℕ) → i < N → length (lookup_at l i).name ≤ name_length l.lookups i = λ i h. simp length-take (omega arith) in
      omega (arith, by_number (λ (x : Lookup). length x.name), total_most (λ i. length (lookup_at l i).name) (name_length l.lookups) N most, fit.names)

  tuples-sum : sum_of (λ (x : Lookup). length x.tuples) (lookups_of l) ≡ length l.tuples
  unfolding lookup_at tuple_start
  tuples-sum =
      by_number (λ (x : Lookup). length x.tuples)
      ∙ total_cong (λ i. length (lookup_at l i).tuples) (tuple_count l.lookups) N (λ i h. tab-length (tuple_nodes l i) 0 (tuple_count l.lookups i))
      ∙ sym fit.tuples

  multiplicities-sum : sum_of (λ (x : Lookup). length x.multiplicities) (lookups_of l) ≡ length l.multiplicities
  unfolding lookup_at multiplicity_start
  multiplicities-sum =
      let each : (i : ℕ) → i < N → length (lookup_at l i).multiplicities ≡ multiplicity_count l.lookups i =
      λ i h. simp (length-take, length-drop) (omega (arith, (placed l fit i h).multiplicities)) in
      by_number (λ (x : Lookup). length x.multiplicities)
      ∙ total_cong (λ i. length (lookup_at l i).multiplicities) (multiplicity_count l.lookups) N each ∙ sym fit.multiplicities

  flags-sum : sum_of (λ (x : Lookup). length x.flags) (lookups_of l) ≡ length l.flags
  unfolding lookup_at flag_start
  flags-sum =
      let each : (i : ℕ) → i < N → length (lookup_at l i).flags ≡ flag_count l.lookups i =
      λ i h. simp (length-take, length-drop) (omega (arith, (placed l fit i h).flags)) in
      by_number (λ (x : Lookup). length x.flags)
      ∙ total_cong (λ i. length (lookup_at l i).flags) (flag_count l.lookups) N each ∙ sym fit.flags

  -- the elements of lookup i
  elements_of : (i : ℕ) → i < N
      → length (flat_map (λ (t : List ℕ). t) (lookup_at l i).tuples) ≡ total (λ k. word l.tuples (tuple_start l.lookups i + k)) (tuple_count l.lookups i)
  unfolding lookup_at tuple_nodes tuple_width
  elements_of i h =
      flat-length (λ (t : List ℕ). t) (tab (tuple_nodes l i) 0 (tuple_count l.lookups i))
      ∙ sum-tab (λ (t : List ℕ). length t) (tuple_nodes l i) (tuple_count l.lookups i)
      ∙ total_cong (λ k. length (tuple_nodes l i k)) (λ k. word l.tuples (tuple_start l.lookups i + k)) (tuple_count l.lookups i)
      (λ k g. simp (length-take, length-drop) (omega (arith, tuple-placed l fit i k h g)))

  elements-sum : sum_of (λ (x : Lookup). length (flat_map (λ (t : List ℕ). t) x.tuples)) (lookups_of l) ≡ length l.elements
  unfolding tuple_start element_start
  elements-sum =
      by_number (λ (x : Lookup). length (flat_map (λ (t : List ℕ). t) x.tuples))
      ∙ total_cong (λ i. length (flat_map (λ (t : List ℕ). t) (lookup_at l i).tuples))
      (λ i. total (λ k. word l.tuples (total (tuple_count l.lookups) i + k)) (tuple_count l.lookups i)) N elements_of
      ∙ total-parts (word l.tuples) (tuple_count l.lookups) N ∙ ap (total (word l.tuples)) (sym fit.tuples) ∙ sym fit.elements

-- whatever the nodes' degrees and the limit
pub packed_no_longer : (deg : ℕ → ℕ) (limit : ℕ) (l : Lookups) → Fitting l → NoLonger (words_of (packed deg limit l)) l
unfolding words_of
packed_no_longer deg limit l fit =
    record {
      lookups = omega (
        arith,
        flat-length lookup_words cs,
        packed_most (λ (x : Lookup). length (lookup_words x)) words_most (λ (k : ℕ) (x : Lookup). nine (numbered k x) ∙ sym (nine x)) deg limit l,
        words-sum l fit,
        fit.lookups,
      );
      names = omega (
        arith,
        flat-length (λ (x : Lookup). x.name) cs,
        packed_most (λ (x : Lookup). length x.name) (λ (a b : Lookup). omega arith) (λ (k : ℕ) (x : Lookup). refl) deg limit l,
        names-sum l fit,
      );
      tuples = flat-length (λ (x : Lookup). map (λ (t : List ℕ). length t) x.tuples) cs ∙ as_many cs
          ∙ packed-sum (λ (x : Lookup). length x.tuples) (λ (a b : Lookup). length-append a.tuples b.tuples) (λ (k : ℕ) (x : Lookup). refl) deg limit l
          ∙ tuples-sum l fit;
      multiplicities = flat-length (λ (x : Lookup). x.multiplicities) cs
          ∙ packed-sum (λ (x : Lookup). length x.multiplicities) (λ (a b : Lookup). length-append a.multiplicities b.multiplicities)
          (λ (k : ℕ) (x : Lookup). refl) deg limit l
          ∙ multiplicities-sum l fit;
      flags = flat-length (λ (x : Lookup). x.flags) cs
          ∙ packed-sum (λ (x : Lookup). length x.flags) (λ (a b : Lookup). length-append a.flags b.flags) (λ (k : ℕ) (x : Lookup). refl) deg limit l
          ∙ flags-sum l fit;
      elements = flat-length (λ (x : Lookup). flat_map (λ (t : List ℕ). t) x.tuples) cs
          ∙ packed-sum (λ (x : Lookup). length (flat_map (λ (t : List ℕ). t) x.tuples)) joined-elements (λ (k : ℕ) (x : Lookup). refl) deg limit l
          ∙ elements-sum l fit;
    }
  where
    cs : List Lookup
    cs = packed deg limit l

    words_most : (a b : Lookup) → length (lookup_words (merged a b)) ≤ length (lookup_words a) + length (lookup_words b)
    words_most a b = rw (nine (merged a b), nine a, nine b) (omega arith)

    as_many : (ls : List Lookup)
        → sum_of (λ (x : Lookup). length (map (λ (t : List ℕ). length t) x.tuples)) ls ≡ sum_of (λ (x : Lookup). length x.tuples) ls
    as_many ls = ap (λ (f : Lookup → ℕ). sum_of f ls) (λ i x. length-map x.tuples (λ (t : List ℕ). length t) i)

    joined-elements : (a b : Lookup)
        → length (flat_map (λ (t : List ℕ). t) (merged a b).tuples)
        ≡ length (flat_map (λ (t : List ℕ). t) a.tuples) + length (flat_map (λ (t : List ℕ). t) b.tuples)
    joined-elements a b =
        ap length (flat_append (λ (t : List ℕ). t) a.tuples b.tuples)
        ∙ length-append (flat_map (λ (t : List ℕ). t) a.tuples) (flat_map (λ (t : List ℕ). t) b.tuples)
