-- A tuple rule: what it combines a tuple to, and the entries and the ledger of the table as it reads it.
use Rattle.std.specs.Prelude.{◌≡◌, ◌↔◌, Bool, eqb}
use Rattle.std.proofs.Math.Path.{refl, sym, ap, ap₂, subst}
use Rattle.std.proofs.Common.{◌∙◌, ⊎_elim}
use Rattle.std.proofs.Math.Bool.{true, false, cond, ◌||◌}
use mathlib.Core.List.Memᴰ
use mathlib.Core.List.{List, [], ◌∷◌, ◌++◌, map, map-append, reverse, reverse-cons, reverse-reverse, List-discrete, Memᴰ}
use Prim.Native.Nat.{ℕ, zero, suc, ◌-◌}
use Rattle.std.proofs.Math.Decide.{ℕ_discrete}
use Rattle.std.proofs.Math.Dec.{T}
use Rattle.std.proofs.Math.ListN.{length, length-map, length-reverse}
use Rattle.algebra.specs.laws.Solve.{O, I, X, ◌⊕◌, ◌⊗◌}
use Rattle.algebra.proofs.laws.Solve.{solve}
use Rattle.lists.specs.Same.{same_list}
use Rattle.lists.specs.Count.{joined}
use Rattle.lists.specs.Fold.{fold}
use Rattle.field.specs.Word.{add_m}
use Rattle.field.specs.Element.{zero4, scale4, sum4, power4}
use Rattle.field.specs.Modulus.{Certificate}
use Rattle.field.specs.Extension.{K, KEl, el}
use Rattle.field.proofs.laws.Known.{certificate_of}
use Rattle.field.proofs.laws.Powers.{power4-zero, power4-suc}
use Rattle.field.proofs.laws.Homomorphism.{el_add, el_mul}
use Rattle.theorems_logup.specs.Polynomial.{horner}
use Rattle.theorems_logup.proofs.laws.Polynomial.{horner_snoc}
use Rattle.expression.specs.Words.{word}
use Rattle.expression.specs.Values.{row_values}
use Rattle.expression.specs.declared.sizes.Limits.{Limits}
use Rattle.lookup.specs.Lookups.{Lookups, lookup_count, tuple_count, multiplicity_node, flag_node, lookup_at}
use Rattle.lookup.specs.Table.{Table}
use Rattle.logup.specs.Tuple.{combine, combine_under}
use Rattle.logup.specs.Rule.{lookups_under, table_under}
use Rattle.logup.specs.Ledger.{Entry, count, lookup_entries, row_entries, entries, post, ledger, listed, met, tuples_met, Listed}
use Rattle.logup.proofs.laws.Rule.{ordered, tuple_under, ledger_under}
use Rattle.theorems_soundness.specs.Entries.{into}
use Rattle.theorems_soundness.specs.Soundness.{Comparable, SameLedger}
use Rattle.theorems_soundness.specs.Rule.{CombinedByRule, KnownCombined}
use Rattle.theorems_soundness.proofs.laws.Setting.{same_of_el}
use Rattle.theorems_soundness.proofs.laws.Elements.{element-sum, scale_is}
use Rattle.theorems_soundness.proofs.laws.Tuples.{combine_is}
use Rattle.theorems_soundness.proofs.laws.Ledgers.{same_true, same_false}

module _ (p w : ℕ) (C : Certificate p w) (beta : List ℕ) where
  open (K p w C).ring use {z, u, add, mul}

  abbrev ⟦◌⟧ : List ℕ → KEl p w C
  ⟦ a ⟧ = el p w C a

  -- element j with beta to the power j
  abbrev term : List ℕ → ℕ → List ℕ
  term es j = scale4 p (word es j) (power4 p w beta j)

  term-first : (es : List ℕ) → ⟦ term es 0 ⟧ ≡ mul (into p w C (word es 0)) u
  term-first es = scale_is p w C (word es 0) (power4 p w beta 0) ∙ ap (λ (l : List ℕ). mul (into p w C (word es 0)) ⟦ l ⟧) (power4-zero p w beta)

  term-next : (es : List ℕ) (n : ℕ) → ⟦ term es (suc n) ⟧ ≡ mul (into p w C (word es (suc n))) (mul ⟦ power4 p w beta n ⟧ ⟦ beta ⟧)
  term-next es n =
      scale_is p w C (word es (suc n)) (power4 p w beta (suc n))
      ∙ ap (mul (into p w C (word es (suc n)))) (ap (el p w C) (power4-suc p w beta n) ∙ el_mul p w C (power4 p w beta n) beta)

  begin : (x B : KEl p w C) → add z (mul x u) ≡ add x (mul B z)
  begin x B = solve (K p w C).ring (x ∷ B ∷ []) (O ⊕ X 0 ⊗ I) (X 0 ⊕ X 1 ⊗ O) tt

  step : (x B T y P : KEl p w C) → add (add x (mul B T)) (mul y (mul P B)) ≡ add x (mul B (add T (mul y P)))
  step x B T y P = solve (K p w C).ring (x ∷ B ∷ T ∷ y ∷ P ∷ []) (X 0 ⊕ X 1 ⊗ X 2 ⊕ X 3 ⊗ (X 4 ⊗ X 1)) (X 0 ⊕ X 1 ⊗ (X 2 ⊕ X 3 ⊗ X 4)) tt

  turn : (H B x : KEl p w C) → add (mul H B) x ≡ add x (mul B H)
  turn H B x = solve (K p w C).ring (H ∷ B ∷ x ∷ []) (X 0 ⊗ X 1 ⊕ X 2) (X 2 ⊕ X 1 ⊗ X 0) tt

  -- the first element is apart from the others, which have one power more
  front : (x : ℕ) (xs : List ℕ) (n : ℕ) → ⟦ sum4 p (term (x ∷ xs)) (suc n) ⟧ ≡ add (into p w C x) (mul ⟦ beta ⟧ ⟦ sum4 p (term xs) n ⟧)
  unfolding sum4
  front x xs zero = el_add p w C zero4 (term (x ∷ xs) 0) ∙ ap (add z) (term-first (x ∷ xs)) ∙ begin (into p w C x) ⟦ beta ⟧
  front x xs (suc n) =
      el_add p w C (sum4 p (term (x ∷ xs)) (suc n)) (term (x ∷ xs) (suc n))
      ∙ ap₂ add (front x xs n) (term-next (x ∷ xs) n)
      ∙ step (into p w C x) ⟦ beta ⟧ ⟦ sum4 p (term xs) n ⟧ (into p w C (word xs n)) ⟦ power4 p w beta n ⟧
      ∙ ap (λ (y : KEl p w C). add (into p w C x) (mul ⟦ beta ⟧ y))
      (sym (el_add p w C (sum4 p (term xs) n) (term xs n) ∙ ap (add ⟦ sum4 p (term xs) n ⟧) (scale_is p w C (word xs n) (power4 p w beta n))))

  backwards : (es : List ℕ) → horner (K p w C) ⟦ beta ⟧ z (map (into p w C) (reverse es)) ≡ ⟦ sum4 p (term es) (length es) ⟧
  unfolding sum4
  backwards [] = refl
  backwards (x ∷ xs) =
      ap (λ (l : List ℕ). horner (K p w C) ⟦ beta ⟧ z (map (into p w C) l)) (reverse-cons x xs)
      ∙ ap (horner (K p w C) ⟦ beta ⟧ z) (map-append (into p w C) (reverse xs) (x ∷ []))
      ∙ horner_snoc (K p w C) ⟦ beta ⟧ z (into p w C x) (map (into p w C) (reverse xs))
      ∙ turn (horner (K p w C) ⟦ beta ⟧ z (map (into p w C) (reverse xs))) ⟦ beta ⟧ (into p w C x)
      ∙ ap (λ (y : KEl p w C). add (into p w C x) (mul ⟦ beta ⟧ y)) (backwards xs)
      ∙ sym (front x xs (length xs))

  -- "Σ tⱼ·β^j" is what the reversed tuple combines to under rule 1
  pub ascending : (es : List ℕ) → combine p w beta (reverse es) ≡ sum4 p (λ j. scale4 p (word es j) (power4 p w beta j)) (length es)
  unfolding combine
  ascending es =
      same_of_el p w C (combine p w beta (reverse es)) (sum4 p (term es) (length es)) (element-sum p w C _ (length (reverse es)))
      (element-sum p w C (term es) (length es)) (combine_is p w C beta (reverse es) ∙ backwards es)

  -- so under each rule a tuple combines to what rule 1 makes of the tuple as the rule takes it
  pub combine-ordered : (rule : ℕ) (es : List ℕ) → combine p w beta (ordered rule es) ≡ combine_under rule p w beta es
  unfolding ordered combine
  combine-ordered rule es = go (eqb rule 2)
    where
      go : (b : Bool) → combine p w beta (cond b (reverse es) es)
          ≡ sum4 p (λ j. scale4 p (word es j) (power4 p w beta (cond b j (length es - 1 - j)))) (length es)
      go true = ascending es
      go false = refl

pub combined_by_rule : (p w : ℕ) → Certificate p w → CombinedByRule p w
combined_by_rule p w C rule l vals beta i k = ap (combine p w beta) (tuple_under rule l vals i k) ∙ combine-ordered p w C beta rule _

-- and so in each field
pub known_combined : KnownCombined
known_combined c k = combined_by_rule _ _ (certificate_of c.field)

in_reverse : (l : List ℕ) (a : ℕ) → Memᴰ a (reverse l) → Memᴰ a l
in_reverse [] a m = m
in_reverse (x ∷ xs) a m =
    ⊎_elim (λ k. Memᴰ.append_right (x ∷ []) (in_reverse xs a k)) (λ k. Memᴰ.append_left xs k)
    (Memᴰ.append_cases (reverse xs) (subst (Memᴰ a) (reverse-cons x xs) m))

module _ (rule : ℕ) where
  -- a tuple that is taken twice as the rule takes it is the tuple again
  ordered-twice : (es : List ℕ) → ordered rule (ordered rule es) ≡ es
  unfolding ordered
  ordered-twice es = go (eqb rule 2)
    where
      go : (b : Bool) → cond b (reverse (cond b (reverse es) es)) (cond b (reverse es) es) ≡ es
      go true = reverse-reverse es
      go false = refl

  -- taken once it has as many words, and the same
  listed-ordered : {p width : ℕ} {l : List ℕ} → Listed p width l → Listed p width (ordered rule l)
  unfolding ordered
  listed-ordered {p} {width} {l} k = go (eqb rule 2)
    where
      go : (b : Bool) → Listed p width (cond b (reverse l) l)
      go true = record { width = length-reverse l ∙ k.width; below = λ a m. k.below a (in_reverse l a m) }
      go false = k

  same-ordered : (a b : List ℕ) → same_list (ordered rule a) (ordered rule b) ≡ same_list a b
  same-ordered a b = go (List-discrete ℕ_discrete a b)
    where
      go : Dec (a ≡ b) → same_list (ordered rule a) (ordered rule b) ≡ same_list a b
      go (yes e) = same_true (ap (ordered rule) e) ∙ sym (same_true e)
      go (no n) = same_false (λ e. n (sym (ordered-twice a) ∙ ap (ordered rule) e ∙ ordered-twice b)) ∙ sym (same_false n)

  -- an entry as the rule reads it
  abbrev pub as_read : Entry → Entry
  as_read e = record { tuple = ordered rule e.tuple; count = e.count }

  joined-read : (f g : ℕ → List Entry) (n : ℕ) → ((i : ℕ) → f i ≡ map as_read (g i)) → joined f 0 n ≡ map as_read (joined g 0 n)
  unfolding joined
  joined-read f g zero e = refl
  joined-read f g (suc n) e = ap₂ ◌++◌ (joined-read f g n e) (e _) ∙ sym (map-append as_read (joined g 0 n) _)

  pub lookup_entries_under : (p : ℕ) (l : Lookups) (vals : List ℕ) (i : ℕ)
      → lookup_entries p (lookups_under rule l) vals i ≡ map as_read (lookup_entries p l vals i)
  unfolding lookup_entries count multiplicity_node flag_node
  lookup_entries_under p l vals i =
      joined-read _ _ (tuple_count l.lookups i)
      (λ k. ap (λ (x : List ℕ). record { tuple = x; count = count p l vals i k } ∷ []) (tuple_under rule l vals i k))

  pub entries_under : (p : ℕ) (t : Table) → entries p (table_under rule t) ≡ map as_read (entries p t)
  unfolding entries row_entries
  entries_under p t =
      joined-read _ _ t.traces.shape.height
      (λ r. joined-read _ _ (lookup_count t.lookups.lookups) (lookup_entries_under p t.lookups (row_values p t.nodes t.traces r)))

  -- the ledger has the same words, at the lists as the rule reads them
  posted_read : (p : ℕ) (es : List Entry) (f g : List ℕ → ℕ) → ((l : List ℕ) → g (ordered rule l) ≡ f l)
      → (l : List ℕ) → fold (post p) g (map as_read es) (ordered rule l) ≡ fold (post p) f es l
  unfolding fold post
  posted_read p [] f g h l = h l
  posted_read p (e ∷ es) f g h l =
      posted_read p es (post p f e) (post p g (as_read e))
      (λ l. ap₂ (λ (b : Bool) (n : ℕ). cond b (add_m p n e.count) n) (same-ordered e.tuple l) (h l)) l

  ledger-ordered : (p : ℕ) (t : Table) (l : List ℕ) → ledger p (table_under rule t) (ordered rule l) ≡ ledger p t l
  unfolding ledger
  ledger-ordered p t l =
      ap (λ (es : List Entry). fold (post p) (λ l. 0) es (ordered rule l)) (entries_under p t) ∙ posted_read p (entries p t) (λ l. 0) (λ l. 0) (λ l. refl) l

  -- and as many tuples are met
  listed-read : (a : List ℕ) (seen : List (List ℕ)) → listed (ordered rule a) (map (ordered rule) seen) ≡ listed a seen
  unfolding listed
  listed-read a [] = refl
  listed-read a (b ∷ seen) = ap₂ ◌||◌ (same-ordered a b) (listed-read a seen)

  met-read : (es : List Entry) → met (map as_read es) ≡ map (ordered rule) (met es)
  unfolding met
  met-read [] = refl
  met-read (e ∷ es) =
      ap (λ (s : List (List ℕ)). cond (eqb e.count 0 || listed (ordered rule e.tuple) s) s (ordered rule e.tuple ∷ s)) (met-read es)
      ∙ ap (λ (b : Bool). cond (eqb e.count 0 || b) (map (ordered rule) (met es)) (ordered rule e.tuple ∷ map (ordered rule) (met es)))
      (listed-read e.tuple (met es))
      ∙ go (eqb e.count 0 || listed e.tuple (met es))
    where
      go : (b : Bool) → cond b (map (ordered rule) (met es)) (ordered rule e.tuple ∷ map (ordered rule) (met es))
          ≡ map (ordered rule) (cond b (met es) (e.tuple ∷ met es))
      go true = refl
      go false = refl

  pub met_under : (p : ℕ) (t₁ t₂ : Table) → tuples_met p (table_under rule t₁) (table_under rule t₂) ≡ tuples_met p t₁ t₂
  unfolding tuples_met
  met_under p t₁ t₂ =
      ap length
      (ap met (ap₂ ◌++◌ (entries_under p t₁) (entries_under p t₂) ∙ sym (map-append as_read (entries p t₁) (entries p t₂)))
      ∙ met-read (entries p t₁ ++ entries p t₂))
      ∙ length-map (met (entries p t₁ ++ entries p t₂)) (ordered rule)

  -- two tables have equal ledgers exactly where they have them as the rule reads them
  pub same_ledger_under : (p width : ℕ) (t₁ t₂ : Table) → SameLedger p width (table_under rule t₁) (table_under rule t₂) ↔ SameLedger p width t₁ t₂
  same_ledger_under p width t₁ t₂ = (
    λ same l k. sym (ledger-ordered p t₁ l) ∙ same (ordered rule l) (listed-ordered k) ∙ ledger-ordered p t₂ l,
    λ same l k. sym (back t₁ l) ∙ same (ordered rule l) (listed-ordered k) ∙ back t₂ l,
  )
    where
      back : (t : Table) (l : List ℕ) → ledger p t (ordered rule l) ≡ ledger p (table_under rule t) l
      back t l = sym (ledger-ordered p t (ordered rule l)) ∙ ap (ledger p (table_under rule t)) (ordered-twice l)

  -- and comparable tables are comparable as the rule reads them
  pub comparable_under : {m : Limits} {p : ℕ} {t₁ t₂ : Table} {bus : List ℕ} {width : ℕ} → Comparable m p t₁ t₂ bus width
      → Comparable m p (table_under rule t₁) (table_under rule t₂) bus width
  unfolding lookup_at
  comparable_under {m} {p} {t₁} {t₂} c =
      record {
        some_words = c.some_words;
        on_bus₁ = c.on_bus₁;
        on_bus₂ = c.on_bus₂;
        wide₁ = c.wide₁;
        wide₂ = c.wide₂;
        ledger₁ = subst T (sym (ledger_under rule m p t₁)) c.ledger₁;
        ledger₂ = subst T (sym (ledger_under rule m p t₂)) c.ledger₂;
      }
