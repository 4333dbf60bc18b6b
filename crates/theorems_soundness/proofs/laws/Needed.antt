-- Neither part of the soundness error can be left out, in either field: two tables of one entry each, with tuples of one word, pass at one alpha
-- with every beta, as many pairs as the bound has; two with tuples of three words pass at nearly every alpha with each of two betas.
use Rattle.std.specs.Prelude.{ℕ, ◌+◌, ◌*◌, ◌-◌, ◌/◌, ◌^◌, ◌<◌, ◌≤◌, ◌≡◌, refl, ◌≢◌, T, length}
use Rattle.std.proofs.Common.{sym, ap, ap₂, ◌∙◌, subst, ⊎_elim, arith, lt_of_lt_of_le, mul-one, lit<, lit≤, length-append}
use mathlib.Core.List.Memᴰ
use mathlib.Core.List.{List, [], ◌∷◌, ◌++◌, map, List-discrete, Memᴰ}
use Rattle.std.proofs.Math.Decide.{ℕ_discrete}
use Rattle.std.proofs.lemmas.List.{length-map}
use Rattle.lists.specs.laws.Same.{same_list-eq}
use Rattle.lists.specs.Count.{total, joined}
use Rattle.lists.specs.laws.Count.{of_true, eq_of_eqb}
use Rattle.field.specs.Element.{at, lift}
use Rattle.field.specs.Modulus.{Modulus, Certificate}
use Rattle.field.specs.Known.{babybear, known_field, prime_of, w_of}
use Rattle.field.specs.Extension.{el}
use Rattle.field.specs.laws.Extension.{h}
use Rattle.field.proofs.laws.Known.{modulus_of, certificate_of}
use Rattle.theorems_logup.specs.Distinct.{Distinct}
use Rattle.theorems_logup.specs.Sets.{Pair}
use Rattle.theorems_logup.proofs.laws.Pigeonhole.{Left, left}
use Rattle.theorems_logup.proofs.laws.Exists.{one_only}
use Rattle.theorems_logup.proofs.laws.Counting.{distinct-map, distinct_append}
use Rattle.expression.specs.Choices.{choices_of}
use Rattle.expression.specs.Node.{decode, node}
use Rattle.expression.specs.Window.{row_of, window}
use Rattle.expression.specs.Values.{node_value, values, row_values}
use Rattle.lookup.specs.Lookups.{tuple_start, multiplicity_start, element_start, tuple_width, multiplicity_node, tuple_nodes}
use Rattle.logup.specs.Tuple.{tuple, combine}
use Rattle.logup.specs.Generation.{Generation, generation}
use Rattle.logup.specs.Ledger.{Element, count, lookup_entries, row_entries, entries, ledger, tuples_met}
use Rattle.theorems_soundness.specs.Soundness.{Comparable, SameLedger, AgreeAt}
use Rattle.theorems_soundness.specs.Error.{Passes, passing_pairs, AtMostPass}
use Rattle.theorems_soundness.proofs.laws.Choices.{prime_least, known_of, rule_1, generation_by_rule_1}
use Rattle.theorems_soundness.proofs.laws.Elements.{element-lift}
use Rattle.theorems_soundness.proofs.laws.Error.{logup_soundness_error}
use Rattle.theorems_soundness.proofs.laws.OneIn2To67.{logup_error}
use Rattle.theorems_soundness.proofs.laws.Points.{fourth_power, elements, elements-many, elements-distinct, elements_are}
use Rattle.theorems_soundness.proofs.laws.FullSets.{fourth_least}
use Rattle.theorems_soundness.proofs.laws.Cases.{generate_in, limits, m_bus, buffers, low, high, left_table, right_table, word_holds, triple_holds}
use Rattle.theorems_soundness.proofs.laws.OneEntry.{comparable, one_value, term, one_word, same-value, terminal_is, passes}

low_is : (p : ℕ) → entries p low ≡ record { tuple = 3 ∷ []; count = 1 } ∷ []
unfolding entries row_entries lookup_entries joined row_values values node_value node decode window row_of count tuple tuple_nodes tuple_width
    tuple_start element_start multiplicity_node multiplicity_start total
low_is p = refl

high_is : (p : ℕ) → entries p high ≡ record { tuple = 4 ∷ []; count = 2 } ∷ []
unfolding entries row_entries lookup_entries joined row_values values node_value node decode window row_of count tuple tuple_nodes tuple_width
    tuple_start element_start multiplicity_node multiplicity_start total
high_is p = refl

left_is : (p : ℕ) → entries p left_table ≡ record { tuple = 1 ∷ 0 ∷ 0 ∷ []; count = 1 } ∷ []
unfolding entries row_entries lookup_entries joined row_values values node_value node decode window row_of count tuple tuple_nodes tuple_width
    tuple_start element_start multiplicity_node multiplicity_start total
left_is p = refl

right_is : (p : ℕ) → entries p right_table ≡ record { tuple = 0 ∷ 0 ∷ 1 ∷ []; count = 1 } ∷ []
unfolding entries row_entries lookup_entries joined row_values values node_value node decode window row_of count tuple tuple_nodes tuple_width
    tuple_start element_start multiplicity_node multiplicity_start total
right_is p = refl

none_pass : (q l : ℕ) → 2 < q → l ≡ q * 1 → l ≤ q * 0 → ⊥
none_pass q l big is few = omega arith

too_many : (q l : ℕ) → 2 < q → q ≤ l + 1 * 1 → l + l ≤ q * 1 → ⊥
too_many q l big m f = omega arith

-- the pairs of a list of alphas with a beta
abbrev with_beta : List ℕ → List ℕ → Pair (List ℕ)
with_beta b a = record { alpha = a; beta = b }

module _ (field : ℕ) (ok : T (known_field field)) where
  abbrev p : ℕ
  p = prime_of field

  abbrev w : ℕ
  w = w_of field

  abbrev M : Modulus p
  M = modulus_of field

  abbrev C : Certificate p w
  C = certificate_of field

  abbrev pos : 0 < p
  pos = h p w C

  below : (a : ℕ) → a < babybear → a < p
  below a l = lt_of_lt_of_le l (prime_least field)

  many-elements : 2 < p ^ 4
  many-elements = subst (λ (n : ℕ). 2 < n) (fourth_power p) (lt_of_lt_of_le (lit< tt) (fourth_least p (prime_least field)))

  is_generation : generate_in field 1 ≡ generation limits p w
  is_generation = generation_by_rule_1 (choices_of field 1) (known_of field ok)

  three-alone : (b : List ℕ) → lift 2 ≢ combine p w b (3 ∷ [])
  three-alone b e =
      let z : ◌≡◌ {A = ℕ} 2 3 = ap (λ (l : List ℕ). at l 0) (e ∙ one_value p w C 3 (below 3 (lit< tt)) b) in omega arith

  four-alone : (b : List ℕ) → lift 2 ≢ combine p w b (4 ∷ [])
  four-alone b e =
      let z : ◌≡◌ {A = ℕ} 2 4 = ap (λ (l : List ℕ). at l 0) (e ∙ one_value p w C 4 (below 4 (lit< tt)) b) in omega arith

  two : Element p (lift 2)
  two = element-lift p w C 2 (below 2 (lit< tt))

  seven : Element p (lift 7)
  seven = element-lift p w C 7 (below 7 (lit< tt))

  fractions_equal : (b : List ℕ)
      → term limits p w M C (lift 2) b (record { tuple = 3 ∷ []; count = 1 }) ≡ term limits p w M C (lift 2) b (record { tuple = 4 ∷ []; count = 2 })
  fractions_equal b =
      let k = word_holds field ok in
      one_word limits p w M C 3 1 (lift 2) b (lift 7)
      ∙ sym (terminal_is limits p w M C (3 ∷ []) 1 (of_true k.0) (low_is p) (lift 2) (lift 7) two seven (three-alone (lift 7)))
      ∙ ap (el p w C)
      (subst (λ (g : Generation). AgreeAt g low high buffers buffers (lift 2) (lift 7)) is_generation (same_list-eq _ _ k.1.1.1.1.1.0))
      ∙ terminal_is limits p w M C (4 ∷ []) 2 (of_true k.1.0) (high_is p) (lift 2) (lift 7) two seven (four-alone (lift 7))
      ∙ one_word limits p w M C 4 2 (lift 2) (lift 7) b

  passes-every-beta : (b : List ℕ) → Element p b → Passes p (generate_in field 1) low high buffers buffers (record { alpha = lift 2; beta = b })
  passes-every-beta b eb =
      let k = word_holds field ok in
      subst (λ (g : Generation). Passes p g low high buffers buffers (record { alpha = lift 2; beta = b })) (sym is_generation)
      (passes limits p w M C (3 ∷ []) (4 ∷ []) 1 2 (of_true k.0) (of_true k.1.0) (low_is p) (high_is p) (lift 2) b two eb (three-alone b) (four-alone b)
      (fractions_equal b))

  ledgers_differ : ¬ SameLedger p 1 low high
  ledgers_differ same =
      let k = word_holds field ok in
      let z : ◌≡◌ {A = ℕ} 1 0 = sym (eq_of_eqb (ledger p low (3 ∷ [])) 1 k.1.1.1.0)
      ∙ same (3 ∷ []) (record { width = refl; below = λ a m. subst (λ (n : ℕ). n < p) (sym (Memᴰ.eq_of_singleton m)) (below 3 (lit< tt)) })
      ∙ eq_of_eqb (ledger p high (3 ∷ [])) 0 k.1.1.1.1.0 in
      omega arith

  both-tables : Comparable limits p low high m_bus 1
  both-tables = comparable limits p (3 ∷ []) (4 ∷ []) 1 2 refl (lit≤ tt) (of_true (word_holds field ok).0) (of_true (word_holds field ok).1.0)

  two-met : tuples_met p low high ≡ 2
  two-met = eq_of_eqb (tuples_met p low high) 2 (word_holds field ok).1.1.0

  -- As many pairs as the bound has: no smaller one holds.
  pub attained : (pairs : List (Pair (List ℕ))) × Distinct pairs
      × ((c : Pair (List ℕ)) → Memᴰ c pairs → Passes p (generate_in field 1) low high buffers buffers c)
      × (length pairs ≡ passing_pairs p 1 (tuples_met p low high))
  attained = (
    map (λ (b : List ℕ). record { alpha = lift 2; beta = b }) (elements p pos),
    distinct-map (λ (b : List ℕ). record { alpha = lift 2; beta = b }) (elements p pos) (λ x y _ _ e. ap (λ (c : Pair (List ℕ)). c.beta) e)
        (elements-distinct p pos),
    λ c k.
        let (b, m, at) = Memᴰ.of_map (λ (b : List ℕ). record { alpha = lift 2; beta = b }) (elements p pos) k in
        subst (Passes p (generate_in field 1) low high buffers buffers) at (passes-every-beta b (elements_are p pos b m)),
    length-map (elements p pos) (λ (b : List ℕ). record { alpha = lift 2; beta = b }) ∙ elements-many p pos ∙ fourth_power p ∙ sym (mul-one (p ^ 4))
        ∙ ap (passing_pairs p 1) (sym two-met),
  )

  -- and no list of pairs that pass is longer
  pub no_more_pass : (pairs : List (Pair (List ℕ))) → Distinct pairs
      → ((c : Pair (List ℕ)) → Memᴰ c pairs → Passes p (generate_in field 1) low high buffers buffers c) → length pairs ≤ length attained.0
  no_more_pass pairs dist pass =
      subst (λ (n : ℕ). length pairs ≤ n) (sym attained.3)
      (logup_soundness_error (choices_of field 1) 1 (known_of field ok) rule_1 low high m_bus 1 pairs buffers buffers both-tables ledgers_differ dist pass)

  -- nor than one in 2⁶⁷ of all
  pub one_in_many : length attained.0 ≤ p ^ 8 / 2 ^ 67
  one_in_many =
      logup_error (choices_of field 1) 1 (known_of field ok) rule_1 low high m_bus 1 attained.0 buffers buffers both-tables ledgers_differ
      attained.1 attained.2

  -- so n - 2 for n - 1 is too few
  pub not_one_alpha-less : ¬ AtMostPass limits p (generate_in field 1) (λ width n. p ^ 4 * ((width - 1) * n * (n - 1) / 2 + (n - 2)))
  not_one_alpha-less claim =
      let (pairs, dist, pass, many) = attained in
      none_pass (p ^ 4) (length pairs) many-elements (many ∙ ap (passing_pairs p 1) two-met)
      (subst (λ (n : ℕ). length pairs ≤ p ^ 4 * (0 * n * (n - 1) / 2 + (n - 2))) two-met
      (claim low high m_bus 1 pairs buffers buffers both-tables ledgers_differ dist pass))

  passes_nearly_every_alpha : (b : ℕ) → b < p → combine p w (lift b) (1 ∷ 0 ∷ 0 ∷ []) ≡ lift 1 → combine p w (lift b) (0 ∷ 0 ∷ 1 ∷ []) ≡ lift 1
      → (a : List ℕ) → Element p a → a ≢ lift 1
      → Passes p (generate_in field 1) left_table right_table buffers buffers (record { alpha = a; beta = lift b })
  passes_nearly_every_alpha b lb e₁ e₂ a ea n =
      let k = triple_holds field ok in
      subst (λ (g : Generation). Passes p g left_table right_table buffers buffers (record { alpha = a; beta = lift b })) (sym is_generation)
      (passes limits p w M C (1 ∷ 0 ∷ 0 ∷ []) (0 ∷ 0 ∷ 1 ∷ []) 1 1 (of_true k.0) (of_true k.1.0) (left_is p) (right_is p) a (lift b) ea
      (element-lift p w C b lb) (λ e. n (e ∙ e₁)) (λ e. n (e ∙ e₂))
      (same-value limits p w M C (1 ∷ 0 ∷ 0 ∷ []) (0 ∷ 0 ∷ 1 ∷ []) 1 a (lift b) (e₁ ∙ sym e₂)))

  wide_ledgers_differ : ¬ SameLedger p 3 left_table right_table
  wide_ledgers_differ same =
      let k = triple_holds field ok in
      let z : ◌≡◌ {A = ℕ} 1 0 = sym (eq_of_eqb (ledger p left_table (1 ∷ 0 ∷ 0 ∷ [])) 1 k.1.1.1.0)
      ∙ same (1 ∷ 0 ∷ 0 ∷ [])
      (record {
        width = refl;
        below =
            λ a m.
            ⊎_elim (λ e. subst (λ (n : ℕ). n < p) (sym e) (below 1 (lit< tt)))
            (λ k.
            ⊎_elim (λ e. subst (λ (n : ℕ). n < p) (sym e) pos)
            (λ k. subst (λ (n : ℕ). n < p) (sym (Memᴰ.eq_of_singleton k)) pos) (Memᴰ.cases_cons k)) (Memᴰ.cases_cons m);
      })
      ∙ eq_of_eqb (ledger p right_table (1 ∷ 0 ∷ 0 ∷ [])) 0 k.1.1.1.1.0 in
      omega arith

  both-wide : Comparable limits p left_table right_table m_bus 3
  both-wide =
      comparable limits p (1 ∷ 0 ∷ 0 ∷ []) (0 ∷ 0 ∷ 1 ∷ []) 1 1 refl (lit≤ tt) (of_true (triple_holds field ok).0) (of_true (triple_holds field ok).1.0)

  -- the alphas but 1, each with both betas
  module _ (l : List (List ℕ)) (f : Left (λ (b a : List ℕ). a ≡ b) 1 (lift 1 ∷ []) (elements p pos) l) where
    abbrev both_betas : List (Pair (List ℕ))
    both_betas = map (with_beta (lift 1)) l ++ map (with_beta (lift (p - 1))) l

    both-distinct : Distinct both_betas
    both-distinct =
        distinct_append (map (with_beta (lift 1)) l) (map (with_beta (lift (p - 1))) l) (one-beta (lift 1)) (one-beta (lift (p - 1)))
        (λ c d mc md e.
        let (_, _, ec) = Memᴰ.of_map (with_beta (lift 1)) l mc in
        let (_, _, ed) = Memᴰ.of_map (with_beta (lift (p - 1))) l md in
        let z : ◌≡◌ {A = ℕ} 1 (p - 1) = ap (λ (c : Pair (List ℕ)). at c.beta 0) (ec ∙ e ∙ sym ed) in
        omega (arith, z, prime_least field))
      where
        one-beta : (b : List ℕ) → Distinct (map (with_beta b) l)
        one-beta b = distinct-map (with_beta b) l (λ x y _ _ e. ap (λ (c : Pair (List ℕ)). c.alpha) e) f.distinct

    both_pass : (c : Pair (List ℕ)) → Memᴰ c both_betas → Passes p (generate_in field 1) left_table right_table buffers buffers c
    both_pass c m =
        let k = triple_holds field ok in
        ⊎_elim (one-beta 1 (below 1 (lit< tt)) (same_list-eq _ _ k.1.1.1.1.1.0) (same_list-eq _ _ k.1.1.1.1.1.1.0))
        (one-beta (p - 1) (omega (arith, pos)) (same_list-eq _ _ k.1.1.1.1.1.1.1.0) (same_list-eq _ _ k.1.1.1.1.1.1.1.1.0))
        (Memᴰ.append_cases (map (with_beta (lift 1)) l) m)
      where
        one-beta : (b : ℕ) → b < p → combine p w (lift b) (1 ∷ 0 ∷ 0 ∷ []) ≡ lift 1
            → combine p w (lift b) (0 ∷ 0 ∷ 1 ∷ []) ≡ lift 1 → Memᴰ c (map (with_beta (lift b)) l)
            → Passes p (generate_in field 1) left_table right_table buffers buffers c
        one-beta b lb e₁ e₂ k =
            let (a, ma, is) = Memᴰ.of_map (with_beta (lift b)) l k in
            subst (Passes p (generate_in field 1) left_table right_table buffers buffers) is
            (passes_nearly_every_alpha b lb e₁ e₂ a (elements_are p pos a (f.within a ma)) (f.good a ma (lift 1) (Memᴰ.head refl)))

    refuted : ¬ AtMostPass limits p (generate_in field 1) (λ width n. p ^ 4 * (n - 1))
    refuted claim =
        too_many (p ^ 4) (length l) many-elements (subst (λ (n : ℕ). n ≤ length l + 1 * 1) (elements-many p pos ∙ fourth_power p) f.many)
        (subst (λ (n : ℕ). n ≤ p ^ 4 * 1)
        (length-append (map (with_beta (lift 1)) l) (map (with_beta (lift (p - 1))) l)
        ∙ ap₂ ◌+◌ (length-map l (with_beta (lift 1))) (length-map l (with_beta (lift (p - 1)))))
        (subst (λ (n : ℕ). length both_betas ≤ p ^ 4 * (n - 1)) (eq_of_eqb (tuples_met p left_table right_table) 2 (triple_holds field ok).1.1.0)
        (claim left_table right_table m_bus 3 both_betas buffers buffers both-wide wide_ledgers_differ both-distinct both_pass)))

  -- so the betas that combine two tuples to one value are not to be left out
  pub not_without_betas : ¬ AtMostPass limits p (generate_in field 1) (λ width n. p ^ 4 * (n - 1))
  not_without_betas =
      let (l, f) = left (λ (b a : List ℕ). a ≡ b) (λ b a. List-discrete ℕ_discrete a b) 1 (lift 1 ∷ []) (elements p pos) (λ b _ xs d all. one_only b xs d all)
      (elements-distinct p pos) in
      refuted l f
