-- Degrees by number are those of the lookup's record.
use Rattle.std.specs.Prelude.{◌≡◌, Bool, length, drop}
use Rattle.std.proofs.Math.Path.{refl, sym, ap, ap₂}
use Rattle.std.proofs.Common.{◌∙◌, zero-add, length-drop, take-suc, get_or-drop}
use Rattle.std.proofs.Math.Bool.{true, false, cond}
use mathlib.Core.List.{List, [], ◌∷◌, ◌++◌, zip_with}
use Prim.Native.Nat.{ℕ, zero, suc, ◌+◌, ◌-◌, ◌<◌, ◌≤◌, max}
use native.Mathlib.Omega.{arith}
use Rattle.std.proofs.Math.ListN.{take}
use Rattle.lists.specs.Count.{total}
use Rattle.lists.specs.Tab.{tab}
use Rattle.lists.specs.laws.Sums.{total_cong}
use Rattle.lists.specs.laws.Tab.{tab-length}
use Rattle.expression.specs.Words.{word}
use Rattle.lookup.specs.Lookups.{Lookups, lookup_count, exclusive, tuple_count, multiplicity_count, flag_count, tuple_start, multiplicity_start, flag_start, tuple_width, tuple_nodes, lookup_at}
use Rattle.lookup.specs.Requires.{Fitting, Agreeing}
use Rattle.lookup.specs.laws.Tested.{placed}
use Rattle.lookup_degree.specs.Sums.{sum_of, largest_of, greatest}
use Rattle.lookup_degree.specs.Degree.{tuple_degree, denominator_degree, term_degree, numerator_degree, additive_degree, exclusive_degree, lookup_degree}
use Rattle.lookup_degree.specs.inner.At.{tuple_degree_at, denominator_at, numerator_at, additive_at, exclusive_at, lookup_degree_at}

pub greatest_cong : (f g : ℕ → ℕ) (n : ℕ) → ((k : ℕ) → k < n → f k ≡ g k) → greatest f n ≡ greatest g n
unfolding greatest
greatest_cong f g zero h = refl
greatest_cong f g (suc n) h = ap₂ max (greatest_cong f g n (λ k l. h k (omega arith))) (h n (omega arith))

-- lists that are made by a function
module _ {A : Type 0} where
  sum_snoc : (f : A → ℕ) (xs : List A) (x : A) → sum_of f (xs ++ (x ∷ [])) ≡ sum_of f xs + f x
  unfolding sum_of
  sum_snoc f [] x = omega arith
  sum_snoc f (y ∷ xs) x = omega (arith, sum_snoc f xs x)

  pub sum-tab : (f : A → ℕ) (g : ℕ → A) (n : ℕ) → sum_of f (tab g 0 n) ≡ total (λ k. f (g k)) n
  unfolding tab total sum_of
  sum-tab f g zero = refl
  sum-tab f g (suc n) = sum_snoc f (tab g 0 n) (g (0 + n)) ∙ ap₂ ◌+◌ (sum-tab f g n) (ap (λ (i : ℕ). f (g i)) (zero-add n))

largest_snoc : (xs : List ℕ) (x : ℕ) → largest_of (λ (n : ℕ). n) (xs ++ (x ∷ [])) ≡ max (largest_of (λ (n : ℕ). n) xs) x
unfolding largest_of
largest_snoc [] x = omega arith
largest_snoc (y ∷ xs) x = omega (arith, largest_snoc xs x)

pub largest_tab : (g : ℕ → ℕ) (n : ℕ) → largest_of (λ (n : ℕ). n) (tab g 0 n) ≡ greatest g n
unfolding tab greatest largest_of
largest_tab g zero = refl
largest_tab g (suc n) = largest_snoc (tab g 0 n) (g (0 + n)) ∙ ap₂ max (largest_tab g n) (ap g (zero-add n))

zip_snoc : {A B C : Type 0} (f : A → B → C) (xs : List A) (ys : List B) (x : A) (y : B) → length xs ≡ length ys → zip_with f (xs ++ (x ∷ [])) (ys ++ (y ∷ [])) ≡ zip_with f xs ys ++ (f x y ∷ [])
unfolding zip_with
zip_snoc f [] [] x y e = refl
zip_snoc f [] (b ∷ ys) x y e = absurd (omega arith)
zip_snoc f (a ∷ xs) [] x y e = absurd (omega arith)
zip_snoc {C = C} f (a ∷ xs) (b ∷ ys) x y e = ap (λ (l : List C). f a b ∷ l) (zip_snoc f xs ys x y (omega arith))

pub zip_tab : {A B C : Type 0} (f : A → B → C) (g : ℕ → A) (h : ℕ → B) (n : ℕ) → zip_with f (tab g 0 n) (tab h 0 n) ≡ tab (λ k. f (g k) (h k)) 0 n
unfolding tab zip_with
zip_tab f g h zero = refl
zip_tab {C = C} f g h (suc n) =
    zip_snoc f (tab g 0 n) (tab h 0 n) (g (0 + n)) (h (0 + n)) (tab-length g 0 n ∙ sym (tab-length h 0 n)) ∙ ap (λ (l : List C). l ++ (f (g (0 + n)) (h (0 + n)) ∷ [])) (zip_tab f g h n)

-- a part of a list
pub part-tab : (m : List ℕ) (s n : ℕ) → s + n ≤ length m → take n (drop s m) ≡ tab (λ k. word m (s + k)) 0 n
unfolding tab
part-tab m s zero h = refl
part-tab m s (suc n) h =
    take-suc (drop s m) n 0 (simp length-drop (omega arith))
    ∙ ap₂ (λ (l : List ℕ) (x : ℕ). l ++ (x ∷ [])) (part-tab m s n (omega arith)) (get_or-drop s m n 0 ∙ ap (λ (k : ℕ). word m (s + k)) (sym (zero-add n)))

-- `degrees` has the degrees of the table's tuples, `nodes` those of its nodes
module _ (n : ℕ) (l : Lookups) (nodes degrees : List ℕ) (fit : Fitting l) (agree : Agreeing n l)
    (right : (j : ℕ) → j < length l.tuples → word degrees j ≡ tuple_degree_at (word nodes) l.tuples l.elements j)
    (i : ℕ) (here : i < lookup_count l.lookups) where
  abbrev T : ℕ
  T = tuple_start l.lookups i

  abbrev M : ℕ
  M = multiplicity_start l.lookups i

  abbrev F : ℕ
  F = flag_start l.lookups i

  abbrev N : ℕ
  N = tuple_count l.lookups i

  tuple_at : (k : ℕ) → k < N → word degrees (T + k) ≡ tuple_degree (word nodes) (tuple_nodes l i k)
  unfolding tuple_degree_at tuple_nodes tuple_width
  tuple_at k h = right (T + k) (omega (arith, (placed l fit i here).tuples))

  multiplicities_are : (lookup_at l i).multiplicities ≡ tab (λ k. word l.multiplicities (M + k)) 0 N
  unfolding lookup_at
  multiplicities_are =
      let e : multiplicity_count l.lookups i ≡ N = agree.multiplicities_agree i here in
      ap (λ (c : ℕ). take c (drop M l.multiplicities)) e ∙ part-tab l.multiplicities M N (omega (arith, (placed l fit i here).multiplicities, e))

  flags_are : exclusive l.lookups i ≡ true → (lookup_at l i).flags ≡ tab (λ k. word l.flags (F + k)) 0 N
  unfolding lookup_at
  flags_are x =
      let e : flag_count l.lookups i ≡ N = agree.flags_agree i here ∙ ap (λ (b : Bool). cond b N 0) x in
      ap (λ (c : ℕ). take c (drop F l.flags)) e ∙ part-tab l.flags F N (omega (arith, (placed l fit i here).flags, e))

  tuples_are : (lookup_at l i).tuples ≡ tab (tuple_nodes l i) 0 N
  unfolding lookup_at
  tuples_are = refl

  pub denominator_is : denominator_at degrees l.lookups i ≡ denominator_degree (word nodes) (lookup_at l i)
  unfolding denominator_at denominator_degree lookup_at
  denominator_is =
      total_cong (λ k. word degrees (T + k)) (λ k. tuple_degree (word nodes) (tuple_nodes l i k)) N tuple_at
      ∙ sym (sum-tab (tuple_degree (word nodes)) (tuple_nodes l i) N)

  pub numerator_is : numerator_at nodes degrees l.lookups l.multiplicities i ≡ numerator_degree (word nodes) (lookup_at l i)
  unfolding numerator_at numerator_degree
  numerator_is =
      ap (λ (d : ℕ). greatest (λ k. word nodes (word l.multiplicities (M + k)) + (d - word degrees (T + k))) N) denominator_is
      ∙ greatest_cong (λ k. word nodes (word l.multiplicities (M + k)) + (D - word degrees (T + k))) (λ k. term_degree (word nodes) D (word l.multiplicities (M + k)) (tuple_nodes l i k)) N
      (λ k h. ap (λ (d : ℕ). word nodes (word l.multiplicities (M + k)) + (D - d)) (tuple_at k h))
      ∙ sym (largest_tab (λ k. term_degree (word nodes) D (word l.multiplicities (M + k)) (tuple_nodes l i k)) N)
      ∙ ap (largest_of (λ (n : ℕ). n)) (sym (zip_tab (term_degree (word nodes) D) (λ k. word l.multiplicities (M + k)) (tuple_nodes l i) N))
      ∙ ap₂ (λ (a : List ℕ) (b : List (List ℕ)). largest_of (λ (n : ℕ). n) (zip_with (term_degree (word nodes) D) a b)) (sym multiplicities_are) (sym tuples_are)
    where
      D : ℕ
      D = denominator_degree (word nodes) (lookup_at l i)

  additive_is : additive_at nodes degrees l.lookups l.multiplicities i ≡ additive_degree (word nodes) (lookup_at l i)
  unfolding additive_at additive_degree
  additive_is = ap₂ (λ (a b : ℕ). max (1 + a) b) denominator_is numerator_is

  exclusive_is : exclusive l.lookups i ≡ true → exclusive_at nodes degrees l.lookups l.multiplicities l.flags i ≡ exclusive_degree (word nodes) (lookup_at l i)
  unfolding exclusive_at exclusive_degree
  exclusive_is x =
      ap₂ (λ (a b : ℕ). max (1 + a) b)
      (greatest_cong (λ k. word nodes (word l.flags (F + k)) + word degrees (T + k)) (λ k. word nodes (word l.flags (F + k)) + tuple_degree (word nodes) (tuple_nodes l i k)) N
      (λ k h. ap (λ (d : ℕ). word nodes (word l.flags (F + k)) + d) (tuple_at k h))
      ∙ sym (largest_tab (λ k. word nodes (word l.flags (F + k)) + tuple_degree (word nodes) (tuple_nodes l i k)) N)
      ∙ ap (largest_of (λ (n : ℕ). n)) (sym (zip_tab (λ f t. word nodes f + tuple_degree (word nodes) t) (λ k. word l.flags (F + k)) (tuple_nodes l i) N))
      ∙ ap₂ (λ (a : List ℕ) (b : List (List ℕ)). largest_of (λ (n : ℕ). n) (zip_with (λ f t. word nodes f + tuple_degree (word nodes) t) a b)) (sym (flags_are x)) (sym tuples_are))
      (sym (largest_tab (λ k. word nodes (word l.flags (F + k)) + word nodes (word l.multiplicities (M + k))) N)
      ∙ ap (largest_of (λ (n : ℕ). n)) (sym (zip_tab (λ f m. word nodes f + word nodes m) (λ k. word l.flags (F + k)) (λ k. word l.multiplicities (M + k)) N))
      ∙ ap₂ (λ (a b : List ℕ). largest_of (λ (n : ℕ). n) (zip_with (λ f m. word nodes f + word nodes m) a b)) (sym (flags_are x)) (sym multiplicities_are))

  exclusive_mark : (lookup_at l i).exclusive ≡ exclusive l.lookups i
  unfolding lookup_at
  exclusive_mark = refl

  pub degree_is : lookup_degree_at nodes degrees l.lookups l.multiplicities l.flags i ≡ lookup_degree (word nodes) (lookup_at l i)
  unfolding lookup_degree_at lookup_degree
  degree_is = go (exclusive l.lookups i) refl ∙ ap (λ (b : Bool). cond b (exclusive_degree (word nodes) (lookup_at l i)) (additive_degree (word nodes) (lookup_at l i))) (sym exclusive_mark)
    where
      go : (b : Bool) → exclusive l.lookups i ≡ b
          → cond b (exclusive_at nodes degrees l.lookups l.multiplicities l.flags i) (additive_at nodes degrees l.lookups l.multiplicities i)
          ≡ cond b (exclusive_degree (word nodes) (lookup_at l i)) (additive_degree (word nodes) (lookup_at l i))
      go true x = exclusive_is x
      go false x = additive_is
