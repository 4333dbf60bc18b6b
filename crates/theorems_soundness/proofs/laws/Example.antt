-- The theorem of SPECIFICATION, section 9.3, at work in each field and under each rule: small tables meet its hypotheses, and those under which
-- full sets exist.
use Rattle.std.specs.Prelude.{ℕ, zero, suc, ◌/◌, ◌<◌, ◌≤◌, ◌≡◌, refl, ◌≢◌, ◌↔◌, Bool, true, ◌&&◌, not, T, eqb, leb, length}
use Rattle.std.proofs.Common.{sym, ap, ◌∙◌, subst, ⊎_elim, arith, lt_of_lt_of_le, leb→le, lit<, lit≤}
use mathlib.Core.List.Memᴰ
use mathlib.Core.List.{List, [], ◌∷◌, Memᴰ}
use Rattle.lists.specs.Same.{same_list}
use Rattle.lists.specs.laws.Same.{same_list-eq}
use Rattle.lists.specs.Count.{total, every, joined}
use Rattle.lists.specs.laws.Count.{and_left, and_right, every_at, of_true, true_of, eq_of_eqb, eqb_true}
use Rattle.field.specs.Element.{at, lift}
use Rattle.field.specs.Known.{babybear, known_field, prime_of}
use Rattle.theorems_logup.specs.Distinct.{Distinct}
use Rattle.theorems_logup.specs.Sets.{Pairing}
use Rattle.expression.specs.Choices.{choices_of, known_rule}
use Rattle.lookup.specs.Lookups.{exclusive, tuple_count, lookup_at, name_start, tuple_start, tuple_width}
use Rattle.lookup.specs.Table.{Table}
use Rattle.logup.specs.Rows.{used}
use Rattle.logup.specs.Generation.{accepts, terminal_words}
use Rattle.logup.specs.Ledger.{Element, tuples_met}
use Rattle.logup.proofs.laws.Cases.{no_lookup}
use Rattle.theorems_soundness.specs.Soundness.{FullSet, AllWide, OnBus, AcceptedAt, AgreeAt, AtEachPair, SameLedger, LogUpSoundness}
use Rattle.theorems_soundness.specs.Lawful.{flag_at, LawfulFlags}
use Rattle.theorems_soundness.specs.FullSets.{LongEnough}
use Rattle.theorems_soundness.proofs.laws.Choices.{prime_least, known_of, rule_1}
use Rattle.theorems_soundness.proofs.laws.Soundness.{logup_soundness}
use Rattle.theorems_soundness.proofs.laws.FullSets.{logup_full_sets}
use Rattle.theorems_soundness.proofs.laws.Cases.{two_columns, two_branches, m_bus, buffers, forwards, backwards, single, choosing, choosing_back, generate_in, limits, lawful_on, half, answer_to, agree?, order-holds, order-agree-holds, single-holds, branch-holds}

columns-on_bus : (main : List ℕ) → OnBus m_bus (two_columns main)
unfolding lookup_at name_start total
columns-on_bus main zero l = (refl, refl)
columns-on_bus main (suc i) l = absurd (omega arith)

columns-wide : (main : List ℕ) → AllWide 2 (two_columns main)
unfolding tuple_width tuple_start total
columns-wide main zero zero l k = refl
columns-wide main zero (suc k) l q = absurd (omega arith)
columns-wide main (suc i) k l q = absurd (omega arith)

branches-on_bus : (main : List ℕ) → OnBus m_bus (two_branches main)
unfolding lookup_at name_start total
branches-on_bus main zero l = (refl, refl)
branches-on_bus main (suc i) l = absurd (omega arith)

branches-wide : (main : List ℕ) → AllWide 2 (two_branches main)
unfolding tuple_width tuple_start total
branches-wide main zero zero l k = refl
branches-wide main zero (suc zero) l k = refl
branches-wide main zero (suc (suc k)) l q = absurd (omega arith)
branches-wide main (suc i) k l q = absurd (omega arith)

-- a word as an element, where the prime is no less than babybear
pub lifted : (p : ℕ) → babybear ≤ p → (a : ℕ) → a < babybear → Element p (lift a)
lifted p lp a l = record { four = refl; below = record { w0 = lt_of_lt_of_le l lp; w1 = omega arith; w2 = omega arith; w3 = omega arith } }

-- lists of two
module _ {A : Type 0} where
  pub of_two : (P : A → Type 0) {a b : A} → P a → P b → (x : A) → Memᴰ x (a ∷ b ∷ []) → P x
  of_two P pa pb x m =
      ⊎_elim (λ e. subst P (sym e) pa) (λ k. subst P (sym (Memᴰ.eq_of_singleton k)) pb) (Memᴰ.cases_cons m)

  two-distinct : (a b : A) → a ≢ b → Distinct (a ∷ b ∷ [])
  two-distinct a b n = (λ y k e. n (e ∙ Memᴰ.eq_of_singleton k), (λ y k. absurd (Memᴰ.not-nil k), tt))

lift_apart : (a b : ℕ) → a ≢ b → lift a ≢ lift b
lift_apart a b n e = n (ap (λ (l : List ℕ). at l 0) e)

-- alphas 5 and 6 with each of the betas 7 and 8: a full set for two tuples of two words
abbrev with_beta : ℕ → Pairing (List ℕ)
with_beta b = record { beta = lift b; alphas = lift 5 ∷ lift 6 ∷ [] }

abbrev four_pairs : List (Pairing (List ℕ))
four_pairs = with_beta 7 ∷ with_beta 8 ∷ []

four-full : (p : ℕ) → babybear ≤ p → FullSet p 2 2 four_pairs
four-full p lp =
    record {
      betas = two-distinct (lift 7) (lift 8) (lift_apart 7 8 (λ e. omega arith));
      betas_many = refl;
      beta_element = of_two (λ (r : Pairing (List ℕ)). Element p r.beta) (lifted p lp 7 (lit< tt)) (lifted p lp 8 (lit< tt));
      alphas = of_two (λ (r : Pairing (List ℕ)). Distinct r.alphas) alphas alphas;
      alphas_many = of_two (λ (r : Pairing (List ℕ)). length r.alphas ≡ 2) refl refl;
      alpha_element = of_two (λ (r : Pairing (List ℕ)). (a : List ℕ) → Memᴰ a r.alphas → Element p a) elements elements;
    }
  where
    alphas : Distinct (lift 5 ∷ lift 6 ∷ [])
    alphas = two-distinct (lift 5) (lift 6) (lift_apart 5 6 (λ e. omega arith))

    elements : (a : List ℕ) → Memᴰ a (lift 5 ∷ lift 6 ∷ []) → Element p a
    elements = of_two (Element p) (lifted p lp 5 (lit< tt)) (lifted p lp 6 (lit< tt))

at_four : (P : List ℕ → List ℕ → Type 0) → P (lift 5) (lift 7) → P (lift 6) (lift 7) → P (lift 5) (lift 8) → P (lift 6) (lift 8) → AtEachPair four_pairs P
at_four P a b c d =
    of_two (λ (r : Pairing (List ℕ)). (alpha : List ℕ) → Memᴰ alpha r.alphas → P alpha r.beta) (of_two (λ (x : List ℕ). P x (lift 7)) a b)
    (of_two (λ (x : List ℕ). P x (lift 8)) c d)

-- what the test of two tables at a pair says
pub record AgreeSo (field rule : ℕ) (t₁ t₂ : Table) (a b : ℕ) : Type 0 where
  pub accepted₁ : AcceptedAt (generate_in field rule) t₁ buffers (lift a) (lift b)
  pub accepted₂ : AcceptedAt (generate_in field rule) t₂ buffers (lift a) (lift b)
  pub agree : AgreeAt (generate_in field rule) t₁ t₂ buffers buffers (lift a) (lift b)

pub agree_so : (field rule : ℕ) (t₁ t₂ : Table) (a b : ℕ) → agree? field rule t₁ t₂ a b ≡ true → AgreeSo field rule t₁ t₂ a b
agree_so field rule t₁ t₂ a b e =
    let x₁ = accepts (answer_to field rule t₁ a b) in
    let x₂ = accepts (answer_to field rule t₂ a b) in
    let x₃ = same_list (terminal_words (answer_to field rule t₁ a b)) (terminal_words (answer_to field rule t₂ a b)) in
    record {
      accepted₁ = and_left x₁ x₂ (and_left (x₁ && x₂) x₃ (of_true e));
      accepted₂ = and_right x₁ x₂ (and_left (x₁ && x₂) x₃ (of_true e));
      agree = same_list-eq _ _ (true_of x₃ (and_right (x₁ && x₂) x₃ (of_true e)));
    }

-- the theorem in a known field and by a known rule, within the cabinet's limits
pub soundness_in : (field : ℕ) → T (known_field field) → (rule : ℕ) → T (known_rule rule) → LogUpSoundness limits (prime_of field) (generate_in field rule)
soundness_in field ok rule by = logup_soundness (choices_of field 1) rule (known_of field ok) by

-- The terminals agree at every pair of a full set, so the ledgers are equal: two tuples of two words, at four pairs.
pub order_is_no_matter : (field : ℕ) → T (known_field field) → (rule : ℕ) → T (known_rule rule) → SameLedger (prime_of field) 2 forwards backwards
order_is_no_matter field ok rule by =
    let k = order-holds field ok in
    let q = order-agree-holds field ok rule by in
    let a57 = agree_so field rule forwards backwards 5 7 q.0 in
    let a67 = agree_so field rule forwards backwards 6 7 q.1.0 in
    let a58 = agree_so field rule forwards backwards 5 8 q.1.1.0 in
    let a68 = agree_so field rule forwards backwards 6 8 q.1.1.1.0 in
    (soundness_in field ok rule by forwards backwards m_bus 2 four_pairs buffers buffers
    (record {
      some_words = lit≤ tt;
      on_bus₁ = columns-on_bus (1 ∷ 2 ∷ 3 ∷ 4 ∷ []);
      on_bus₂ = columns-on_bus (3 ∷ 4 ∷ 1 ∷ 2 ∷ []);
      wide₁ = columns-wide (1 ∷ 2 ∷ 3 ∷ 4 ∷ []);
      wide₂ = columns-wide (3 ∷ 4 ∷ 1 ∷ 2 ∷ []);
      ledger₁ = of_true k.0;
      ledger₂ = of_true k.1.0;
    })
    (subst (λ (n : ℕ). FullSet (prime_of field) 2 n four_pairs) (sym (eq_of_eqb (tuples_met (prime_of field) forwards backwards) 2 k.1.1.0))
    (four-full (prime_of field) (prime_least field)))
    (at_four (AcceptedAt (generate_in field rule) forwards buffers) a57.accepted₁ a67.accepted₁ a58.accepted₁ a68.accepted₁)
    (at_four (AcceptedAt (generate_in field rule) backwards buffers) a57.accepted₂ a67.accepted₂ a58.accepted₂ a68.accepted₂)
    ).1
    (at_four (AgreeAt (generate_in field rule) forwards backwards buffers buffers) a57.agree a67.agree a58.agree a68.agree)

single-on_bus : OnBus m_bus single
unfolding lookup_at name_start total joined
single-on_bus zero l = (refl, refl)
single-on_bus (suc i) l = absurd (omega arith)

single-wide : AllWide 1 single
unfolding tuple_width tuple_start total joined
single-wide zero zero l k = refl
single-wide zero (suc k) l q = absurd (omega arith)
single-wide (suc i) k l q = absurd (omega arith)

none_on_bus : OnBus m_bus no_lookup
unfolding joined
none_on_bus i l = absurd (omega arith)

none_wide : AllWide 1 no_lookup
unfolding joined
none_wide i k l = absurd (omega arith)

-- alpha 5 with beta 7: a full set for one tuple
abbrev pub one_pair : List (Pairing (List ℕ))
one_pair = record { beta = lift 7; alphas = lift 5 ∷ [] } ∷ []

pub of_one : {A : Type 0} (P : A → Type 0) {a : A} → P a → (x : A) → Memᴰ x (a ∷ []) → P x
of_one P pa x m = subst P (sym (Memᴰ.eq_of_singleton m)) pa

pub one-full : (p : ℕ) → babybear ≤ p → FullSet p 1 1 one_pair
one-full p lp =
    record {
      betas = (λ y k. absurd (Memᴰ.not-nil k), tt);
      betas_many = refl;
      beta_element = of_one (λ (r : Pairing (List ℕ)). Element p r.beta) (lifted p lp 7 (lit< tt));
      alphas = of_one (λ (r : Pairing (List ℕ)). Distinct r.alphas) (λ y k. absurd (Memᴰ.not-nil k), tt);
      alphas_many = of_one (λ (r : Pairing (List ℕ)). length r.alphas ≡ 1) refl;
      alpha_element =
          of_one (λ (r : Pairing (List ℕ)). (a : List ℕ) → Memᴰ a r.alphas → Element p a)
          (of_one (Element p) (lifted p lp 5 (lit< tt)));
    }

pub at_one : (P : List ℕ → List ℕ → Type 0) → P (lift 5) (lift 7) → AtEachPair one_pair P
at_one P x =
    of_one (λ (r : Pairing (List ℕ)). (a : List ℕ) → Memᴰ a r.alphas → P a r.beta) (of_one (λ (a : List ℕ). P a (lift 7)) x)

-- "a table with one entry is told from a table with none at the one pair that n = 1 asks for"
pub told_apart : (field : ℕ) → T (known_field field) → SameLedger (prime_of field) 1 single no_lookup → ⊥
told_apart field ok same =
    let k = single-holds field ok in
    let agree =
    (soundness_in field ok 1 rule_1 single no_lookup m_bus 1 one_pair buffers buffers
    (record {
      some_words = lit≤ tt;
      on_bus₁ = single-on_bus;
      on_bus₂ = none_on_bus;
      wide₁ = single-wide;
      wide₂ = none_wide;
      ledger₁ = of_true k.0;
      ledger₂ = of_true k.1.0;
    })
    (subst (λ (n : ℕ). FullSet (prime_of field) 1 n one_pair) (sym (eq_of_eqb (tuples_met (prime_of field) single no_lookup) 1 k.1.1.0))
    (one-full (prime_of field) (prime_least field)))
    (at_one (AcceptedAt (generate_in field 1) single buffers) (of_true k.1.1.1.0))
    (at_one (AcceptedAt (generate_in field 1) no_lookup buffers) (of_true k.1.1.1.1.0))
    ).0 same _ (Memᴰ.head refl) (lift 5) (Memᴰ.head refl) in
    let z : half field ≡ 0 = ap (λ (l : List ℕ). at l 0)
    (sym (same_list-eq _ _ k.1.1.1.1.1.0) ∙ agree ∙ same_list-eq _ _ k.1.1.1.1.1.1.0) in
    omega (arith, prime_least field)

-- Both tables must be of one field: at that pair one and the same table has another terminal in the other field.
pub not_across_fields : terminal_words (answer_to 1 1 single 5 7) ≢ terminal_words (answer_to 2 1 single 5 7)
unfolding known_field prime_of
not_across_fields e =
    let one = same_list-eq _ _ (single-holds 1 tt).1.1.1.1.1.0 in
    let two = same_list-eq _ _ (single-holds 2 tt).1.1.1.1.1.0 in
    let z : ◌≡◌ {A = ℕ} 1006632961 1065353217 = ap (λ (l : List ℕ). at l 0) (sym one ∙ e ∙ two) in
    omega arith

-- the two flags of each row of such a table
module _ (field : ℕ) (main : List ℕ) (tests : T (every (lawful_on field (two_branches main)) (length main / 3))) where
  abbrev here : Table
  here = two_branches main

  abbrev flag₀ : ℕ → ℕ
  flag₀ r = flag_at (prime_of field) here r 0 0

  abbrev flag₁ : ℕ → ℕ
  flag₁ r = flag_at (prime_of field) here r 0 1

  row_test : (r : ℕ) → r < length main / 3 → T (lawful_on field here r)
  row_test r l = every_at (lawful_on field here) (length main / 3) r tests l

  not_both : (r : ℕ) → r < length main / 3 → flag₀ r ≡ 1 → flag₁ r ≡ 1 → ⊥
  not_both r l e f =
      subst (λ (b : Bool). T (not b)) (ap (λ (b : Bool). b && eqb (flag₁ r) 1) (eqb_true e) ∙ eqb_true f)
      (and_right (leb (flag₀ r) 1 && leb (flag₁ r) 1) (not (eqb (flag₀ r) 1 && eqb (flag₁ r) 1)) (row_test r l))

  low₀ : (r : ℕ) → r < length main / 3 → flag₀ r ≤ 1
  low₀ r l =
      leb→le (flag₀ r) 1
      (and_left (leb (flag₀ r) 1) (leb (flag₁ r) 1)
      (and_left (leb (flag₀ r) 1 && leb (flag₁ r) 1) (not (eqb (flag₀ r) 1 && eqb (flag₁ r) 1)) (row_test r l)))

  low₁ : (r : ℕ) → r < length main / 3 → flag₁ r ≤ 1
  low₁ r l =
      leb→le (flag₁ r) 1
      (and_right (leb (flag₀ r) 1) (leb (flag₁ r) 1)
      (and_left (leb (flag₀ r) 1 && leb (flag₁ r) 1) (not (eqb (flag₀ r) 1 && eqb (flag₁ r) 1)) (row_test r l)))

  lawful : LawfulFlags (prime_of field) here
  lawful = record { binary = binary; one = one }
    where
      binary : (r i k : ℕ) → r < length main / 3 → i < 1 → exclusive here.lookups.lookups i ≡ true → k < tuple_count here.lookups.lookups i
          → flag_at (prime_of field) here r i k ≤ 1
      binary r zero zero lr li ex lk = low₀ r lr
      binary r zero (suc zero) lr li ex lk = low₁ r lr
      binary r zero (suc (suc k)) lr li ex lk = absurd (omega arith)
      binary r (suc i) k lr li ex lk = absurd (omega arith)

      one : (r i j k : ℕ) → r < length main / 3 → i < 1 → exclusive here.lookups.lookups i ≡ true → j < tuple_count here.lookups.lookups i
          → k < tuple_count here.lookups.lookups i → flag_at (prime_of field) here r i j ≡ 1 → flag_at (prime_of field) here r i k ≡ 1 → j ≡ k
      one r zero zero zero lr li ex lj lk e f = refl
      one r zero zero (suc zero) lr li ex lj lk e f = absurd (not_both r lr e f)
      one r zero zero (suc (suc k)) lr li ex lj lk e f = absurd (omega arith)
      one r zero (suc zero) zero lr li ex lj lk e f = absurd (not_both r lr f e)
      one r zero (suc zero) (suc zero) lr li ex lj lk e f = refl
      one r zero (suc zero) (suc (suc k)) lr li ex lj lk e f = absurd (omega arith)
      one r zero (suc (suc j)) k lr li ex lj lk e f = absurd (omega arith)
      one r (suc i) j k lr li ex lj lk e f = absurd (omega arith)

room : LongEnough choosing buffers
unfolding used
room a b = lit≤ tt

room_back : LongEnough choosing_back buffers
unfolding used
room_back a b = lit≤ tt

-- A full set exists for two tables with lawful flags, and at its pairs the theorem says whether their ledgers are equal.
pub branches_compared : (field : ℕ) → T (known_field field) → (rule : ℕ) → T (known_rule rule)
    → (set : List (Pairing (List ℕ)))
    × (SameLedger (prime_of field) 2 choosing choosing_back ↔ AtEachPair set (AgreeAt (generate_in field rule) choosing choosing_back buffers buffers))
branches_compared field ok rule by =
    let k = branch-holds field ok in
    let (set, full, accepted₁, accepted₂) =
    logup_full_sets (choices_of field 1) rule (known_of field ok) by choosing choosing_back 2 buffers buffers (lit≤ tt) (of_true k.0) (of_true k.1.0)
    (lawful field (3 ∷ 1 ∷ 0 ∷ 4 ∷ 0 ∷ 1 ∷ 5 ∷ 0 ∷ 0 ∷ []) (of_true k.1.1.0)) (lawful field (5 ∷ 0 ∷ 1 ∷ 3 ∷ 1 ∷ 0 ∷ []) (of_true k.1.1.1.0))
    room room_back in (
      set,
      soundness_in field ok rule by choosing choosing_back m_bus 2 set buffers buffers
          (record {
            some_words = lit≤ tt;
            on_bus₁ = branches-on_bus (3 ∷ 1 ∷ 0 ∷ 4 ∷ 0 ∷ 1 ∷ 5 ∷ 0 ∷ 0 ∷ []);
            on_bus₂ = branches-on_bus (5 ∷ 0 ∷ 1 ∷ 3 ∷ 1 ∷ 0 ∷ []);
            wide₁ = branches-wide (3 ∷ 1 ∷ 0 ∷ 4 ∷ 0 ∷ 1 ∷ 5 ∷ 0 ∷ 0 ∷ []);
            wide₂ = branches-wide (5 ∷ 0 ∷ 1 ∷ 3 ∷ 1 ∷ 0 ∷ []);
            ledger₁ = of_true k.0;
            ledger₂ = of_true k.1.0;
          })
          full accepted₁ accepted₂,
    )
