-- Tables of one entry: what their terminals are, and where two of them pass.
use Rattle.std.specs.Prelude.{ℕ, zero, suc, ◌<◌, ◌≤◌, ◌≡◌, refl, ◌≢◌, true, T, length}
use Rattle.std.proofs.Common.{sym, ap, ◌∙◌, subst, arith, lit≤}
use mathlib.Core.List.Memᴰ
use mathlib.Core.List.{List, [], ◌∷◌, Memᴰ}
use Rattle.algebra.proofs.laws.Solve.{z_add, z_mul}
use Rattle.lists.specs.Count.{total}
use Rattle.field.specs.Element.{lift}
use Rattle.field.specs.Modulus.{Modulus, Certificate}
use Rattle.field.specs.Extension.{K, KEl, el}
use Rattle.theorems_logup.specs.Inverse.{inverse, minus}
use Rattle.theorems_logup.specs.Tables as Tables
use Rattle.expression.specs.declared.sizes.Limits.{Limits}
use Rattle.lookup.specs.Lookups.{tuple_count, exclusive, lookup_at, name_start, tuple_start, tuple_width}
use Rattle.logup.specs.Tuple.{combine}
use Rattle.logup.specs.Rows.{used}
use Rattle.logup.specs.Generation.{generation, terminal_words}
use Rattle.logup.specs.Ledger.{has_ledger, Entry, Element, entries}
use Rattle.theorems_soundness.specs.Soundness.{AllWide, OnBus, Comparable, AcceptedAt, answer_at}
use Rattle.theorems_soundness.specs.Error.{Passes}
use Rattle.theorems_soundness.specs.Lawful.{flag_at, LawfulFlags}
use Rattle.theorems_soundness.specs.Entries.{N, into}
use Rattle.theorems_soundness.proofs.laws.Setting.{same_of_el}
use Rattle.theorems_soundness.proofs.laws.Elements.{element-lift, element-sum}
use Rattle.theorems_soundness.proofs.laws.Tuples.{combine_is}
use Rattle.theorems_soundness.proofs.laws.Accepts.{accepts_at}
use Rattle.theorems_soundness.proofs.laws.Soundness.{sums}
use Rattle.theorems_soundness.proofs.laws.Cases.{m_bus, buffers, one}

on_bus : (es : List ℕ) (c : ℕ) → OnBus m_bus (one es c)
unfolding name_start total lookup_at
on_bus es c zero l = (refl, refl)
on_bus es c (suc i) l = absurd (omega arith)

all-wide : (es : List ℕ) (c : ℕ) → AllWide (length es) (one es c)
unfolding tuple_width tuple_start total
all-wide es c zero zero l k = refl
all-wide es c zero (suc k) l q = absurd (omega arith)
all-wide es c (suc i) k l q = absurd (omega arith)

-- two of them, with tuples of one width
pub comparable : (m : Limits) (p : ℕ) (es₁ es₂ : List ℕ) (c₁ c₂ : ℕ) → length es₁ ≡ length es₂ → 1 ≤ length es₁
    → T (has_ledger m p (one es₁ c₁)) → T (has_ledger m p (one es₂ c₂)) → Comparable m p (one es₁ c₁) (one es₂ c₂) m_bus (length es₁)
comparable m p es₁ es₂ c₁ c₂ same some ok₁ ok₂ =
    record {
      some_words = some;
      on_bus₁ = on_bus es₁ c₁;
      on_bus₂ = on_bus es₂ c₂;
      wide₁ = all-wide es₁ c₁;
      wide₂ = subst (λ (n : ℕ). AllWide n (one es₂ c₂)) (sym same) (all-wide es₂ c₂);
      ledger₁ = ok₁;
      ledger₂ = ok₂;
    }

pub no_flags : (p : ℕ) (es : List ℕ) (c : ℕ) → LawfulFlags p (one es c)
no_flags p es c = record { binary = binary; one = only }
  where
    not_exclusive : (i : ℕ) → i < 1 → exclusive (one es c).lookups.lookups i ≡ true → ⊥
    not_exclusive zero l e = let z : ◌≡◌ {A = ℕ} 0 1 = cc in omega arith
    not_exclusive (suc i) l e = omega arith

    binary : (r i k : ℕ) → r < 1 → i < 1 → exclusive (one es c).lookups.lookups i ≡ true
        → k < tuple_count (one es c).lookups.lookups i → flag_at p (one es c) r i k ≤ 1
    binary r i k lr li ex lk = absurd (not_exclusive i li ex)

    only : (r i j k : ℕ) → r < 1 → i < 1 → exclusive (one es c).lookups.lookups i ≡ true
        → j < tuple_count (one es c).lookups.lookups i → k < tuple_count (one es c).lookups.lookups i
        → flag_at p (one es c) r i j ≡ 1 → flag_at p (one es c) r i k ≡ 1 → j ≡ k
    only r i j k lr li ex = absurd (not_exclusive i li ex)

pub room : (es : List ℕ) (c : ℕ) → used (one es c).lookups.lookups 1 ≤ 24
unfolding used
room es c = lit≤ tt

-- a tuple of one word combines to that word, with every beta
pub one_value : (p w : ℕ) → Certificate p w → (x : ℕ) → x < p → (b : List ℕ) → combine p w b (x ∷ []) ≡ lift x
unfolding combine
one_value p w C x l b =
    same_of_el p w C (combine p w b (x ∷ [])) (lift x) (element-sum p w C _ 1) (element-lift p w C x l)
    (combine_is p w C b (x ∷ [])
    ∙ ap (λ (s : KEl p w C). (K p w C).ring.add s (into p w C x)) (z_mul (K p w C).ring (el p w C b)) ∙ z_add (K p w C).ring (into p w C x))

module _ (m : Limits) (p w : ℕ) (M : Modulus p) (C : Certificate p w) where
  open (K p w C).ring use {z, add, mul}

  -- the fraction of an entry
  abbrev pub term : List ℕ → List ℕ → Entry → KEl p w C
  term a b e = Tables.terminal (K p w C) (N p w C) (el p w C a) (el p w C b) (e ∷ [])

  -- with a tuple of one word it is the same at every beta
  pub one_word : (x c : ℕ) (a b b' : List ℕ) → term a b (record { tuple = x ∷ []; count = c }) ≡ term a b' (record { tuple = x ∷ []; count = c })
  one_word x c a b b' =
      ap (λ (s : KEl p w C). add (mul (into p w C c) (inverse (K p w C) (minus (K p w C) (el p w C a) (add s (into p w C x))))) z)
      (z_mul (K p w C).ring (el p w C b) ∙ sym (z_mul (K p w C).ring (el p w C b')))

  -- tuples that combine to one value have the same fraction
  pub same-value : (es₁ es₂ : List ℕ) (c : ℕ) (a b : List ℕ) → combine p w b es₁ ≡ combine p w b es₂
      → term a b (record { tuple = es₁; count = c }) ≡ term a b (record { tuple = es₂; count = c })
  same-value es₁ es₂ c a b e =
      ap (λ (s : KEl p w C). add (mul (into p w C c) (inverse (K p w C) (minus (K p w C) (el p w C a) s))) z)
      (sym (combine_is p w C b es₁) ∙ ap (el p w C) e ∙ combine_is p w C b es₂)

  -- a table of one entry at a pair at which its denominator is not zero
  module _ (es : List ℕ) (c : ℕ) (ok : T (has_ledger m p (one es c))) (is : entries p (one es c) ≡ record { tuple = es; count = c } ∷ [])
      (a b : List ℕ) (ea : Element p a) (eb : Element p b) (off : a ≢ combine p w b es) where
    accepted : AcceptedAt (generation m p w) (one es c) buffers a b
    accepted =
        accepts_at m p w C (one es c) a b (buffers a b) ea eb ok (no_flags p es c) (room es c)
        (λ e k at. off (at ∙ ap (λ (e : Entry). combine p w b e.tuple) (Memᴰ.eq_of_singleton (subst (Memᴰ e) is k))))

    words : Element p (terminal_words (answer_at (generation m p w) (one es c) buffers a b))
    words = (sums m p w M C (one es c) ok buffers a b ea eb accepted).words

    pub terminal_is : el p w C (terminal_words (answer_at (generation m p w) (one es c) buffers a b)) ≡ term a b (record { tuple = es; count = c })
    terminal_is =
        (sums m p w M C (one es c) ok buffers a b ea eb accepted).is
        ∙ ap (Tables.terminal (K p w C) (N p w C) (el p w C a) (el p w C b)) is

  -- two such tables pass where the fractions are equal
  pub passes : (es₁ es₂ : List ℕ) (c₁ c₂ : ℕ) → T (has_ledger m p (one es₁ c₁)) → T (has_ledger m p (one es₂ c₂))
      → entries p (one es₁ c₁) ≡ record { tuple = es₁; count = c₁ } ∷ [] → entries p (one es₂ c₂) ≡ record { tuple = es₂; count = c₂ } ∷ []
      → (a b : List ℕ) → Element p a → Element p b → a ≢ combine p w b es₁ → a ≢ combine p w b es₂
      → term a b (record { tuple = es₁; count = c₁ }) ≡ term a b (record { tuple = es₂; count = c₂ })
      → Passes p (generation m p w) (one es₁ c₁) (one es₂ c₂) buffers buffers (record { alpha = a; beta = b })
  passes es₁ es₂ c₁ c₂ ok₁ ok₂ is₁ is₂ a b ea eb off₁ off₂ same =
      record {
        challenges = record { alpha_element = ea; beta_element = eb };
        accepted₁ = accepted es₁ c₁ ok₁ is₁ a b ea eb off₁;
        accepted₂ = accepted es₂ c₂ ok₂ is₂ a b ea eb off₂;
        agree =
            same_of_el p w C _ _ (words es₁ c₁ ok₁ is₁ a b ea eb off₁) (words es₂ c₂ ok₂ is₂ a b ea eb off₂)
            (terminal_is es₁ c₁ ok₁ is₁ a b ea eb off₁ ∙ same ∙ sym (terminal_is es₂ c₂ ok₂ is₂ a b ea eb off₂));
      }
