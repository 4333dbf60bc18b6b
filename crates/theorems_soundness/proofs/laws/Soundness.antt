-- Terminals determine ledgers (SPECIFICATION, section 9.3), over generation's own answers, for every field with a certificate and so for each
-- known one.
use Rattle.std.specs.Prelude.{◌≡◌, refl, ◌≢◌, ◌↔◌, ℕ, T, length}
use Rattle.std.proofs.Common.{sym, ap, ◌∙◌, subst}
use Rattle.std.proofs.Math.Logic.{if_neg}
use mathlib.Core.List.Memᴰ
use mathlib.Core.List.{List, [], ◌∷◌, ◌++◌, map, List-discrete, Memᴰ}
use Rattle.std.proofs.Math.Decide.{ℕ_discrete}
use Rattle.field.specs.Word.{add_m}
use Rattle.field.specs.Modulus.{Modulus, Certificate}
use Rattle.field.specs.Extension.{K, KEl, el}
use Rattle.theorems_logup.specs.Tables as Tables
use Rattle.theorems_logup.specs.Sets as Sets
use Rattle.theorems_logup.specs.Sets.{Pairing}
use Rattle.theorems_logup.proofs.laws.Support.{member?, support, support_is}
use Rattle.theorems_logup.proofs.laws.Balance.{balance}
use Rattle.expression.specs.declared.sizes.Limits.{Limits}
use Rattle.lookup.specs.Table.{Table}
use Rattle.lookup.specs.Tests.{words_below}
use Rattle.lookup.specs.Requires.{Fitting}
use Rattle.logup.specs.Rule.{table_under}
use Rattle.logup.specs.Generation.{generation}
use Rattle.logup.specs.Ledger.{has_ledger, Entry, entries, tuples_met, Element, Listed, at_pair}
use Rattle.theorems_soundness.specs.Soundness.{FullSet, AllWide, Buffers, answer_at, AcceptedAt, AgreeAt, AtEachPair, TerminalsDetermineLedgers, LogUpSoundness, KnownSoundness}
use Rattle.theorems_soundness.specs.Entries.{N}
use Rattle.theorems_soundness.proofs.laws.Choices.{UnderEachRule, of_every_field}
use Rattle.theorems_soundness.proofs.laws.Setting.{same_of_el}
use Rattle.theorems_soundness.proofs.laws.Pairs.{in_field, each-pair, full}
use Rattle.theorems_soundness.proofs.laws.Values.{fitting_of}
use Rattle.theorems_soundness.proofs.laws.Ledgers.{ledger_is, met_is, table_of}
use Rattle.theorems_soundness.proofs.laws.Rule.{met_under, same_ledger_under, comparable_under}
use Rattle.theorems_soundness.proofs.laws.Entered.{ledgered}
use Rattle.theorems_soundness.proofs.laws.Answers.{accepted_of}
use Rattle.theorems_soundness.proofs.laws.Terminals.{Sums, sums_of}

module _ (p w : ℕ) (C : Certificate p w) where
  -- a list that no entry has stands at zero
  none_has : (es : List Entry) (l : List ℕ) → ((e : Entry) → Memᴰ e es → e.tuple ≢ l) → Tables.ledger (K p w C) (N p w C) es l ≡ 0
  none_has [] l n = refl
  none_has (e ∷ es) l n =
      if_neg (List-discrete ℕ_discrete e.tuple l) (n e (Memᴰ.head refl))
      (add_m p e.count (Tables.ledger (K p w C) (N p w C) es l)) (Tables.ledger (K p w C) (N p w C) es l)
      ∙ none_has es l (λ d m. n d (Memᴰ.tail m))

  -- ledgers that are equal at each list of w words below p are equal at every list
  everywhere : (width : ℕ) (E₁ E₂ : List Entry) → Tables.Table (K p w C) (N p w C) width E₁ → Tables.Table (K p w C) (N p w C) width E₂
      → ((l : List ℕ) → Listed p width l → Tables.ledger (K p w C) (N p w C) E₁ l ≡ Tables.ledger (K p w C) (N p w C) E₂ l)
      → (l : List ℕ) → Tables.ledger (K p w C) (N p w C) E₁ l ≡ Tables.ledger (K p w C) (N p w C) E₂ l
  everywhere width E₁ E₂ T₁ T₂ same l = pick (member? (List-discrete ℕ_discrete) l (tuples E₁)) (member? (List-discrete ℕ_discrete) l (tuples E₂))
    where
      tuples : List Entry → List (List ℕ)
      tuples = map (λ (e : Entry). e.tuple)

      listed : (E : List Entry) → Tables.Table (K p w C) (N p w C) width E → Memᴰ l (tuples E) → Listed p width l
      listed E T m =
          let (e, k, at) = Memᴰ.of_map (λ (e : Entry). e.tuple) E m in
          subst (Listed p width) at (record { width = T.width e k; below = T.words e k })

      absent : (E : List Entry) → ¬ Memᴰ l (tuples E) → Tables.ledger (K p w C) (N p w C) E l ≡ 0
      absent E n = none_has E l (λ e m at. n (Memᴰ.cast (sym at) (Memᴰ.map (λ (e : Entry). e.tuple) m)))

      pick : Dec (Memᴰ l (tuples E₁)) → Dec (Memᴰ l (tuples E₂)) → Tables.ledger (K p w C) (N p w C) E₁ l ≡ Tables.ledger (K p w C) (N p w C) E₂ l
      pick (yes m) d = same l (listed E₁ T₁ m)
      pick (no n) (yes m) = same l (listed E₂ T₂ m)
      pick (no n) (no k) = absent E₁ n ∙ sym (absent E₂ k)

pub met-count : (p w : ℕ) (C : Certificate p w) (t₁ t₂ : Table) → tuples_met p t₁ t₂ ≡ length (support (K p w C) (N p w C) (entries p t₁ ++ entries p t₂))
unfolding tuples_met
met-count p w C t₁ t₂ = ap length (met_is p w C (entries p t₁ ++ entries p t₂))

pub words_of : (m : Limits) (p : ℕ) (t : Table) → T (has_ledger m p t) → T (words_below p t)
words_of m p t ok = (ledgered m p t ok).two

pub fits_of : (m : Limits) (p : ℕ) (t : Table) → T (has_ledger m p t) → Fitting t.lookups
fits_of m p t ok = fitting_of m t (ledgered m p t ok).one

-- the sums of one table at a pair
pub sums : (m : Limits) (p w : ℕ) (M : Modulus p) (C : Certificate p w) (t : Table) (ok : T (has_ledger m p t)) (buffers : Buffers)
    (a b : List ℕ) (ea : Element p a) (eb : Element p b) → AcceptedAt (generation m p w) t buffers a b
    → Sums m p w M C t a b (words_of m p t ok) ea eb (answer_at (generation m p w) t buffers a b)
sums m p w M C t ok buffers a b ea eb acc =
    sums_of m p w M C t a b (words_of m p t ok) ea eb (buffers a b) (answer_at (generation m p w) t buffers a b)
    (accepted_of m p w t (at_pair t a b) (buffers a b) acc)

-- and at each pair of a set
sums_at : (m : Limits) (p w : ℕ) (M : Modulus p) (C : Certificate p w) (t : Table) (buffers : Buffers) (ok : T (has_ledger m p t))
    (width n : ℕ) (set : List (Pairing (List ℕ))) (f : FullSet p width n set) → AtEachPair set (AcceptedAt (generation m p w) t buffers)
    → (r : Pairing (List ℕ)) (k : Memᴰ r set) (a : List ℕ) (ma : Memᴰ a r.alphas)
    → Sums m p w M C t a r.beta (words_of m p t ok) (f.alpha_element r k a ma) (f.beta_element r k) (answer_at (generation m p w) t buffers a r.beta)
sums_at m p w M C t buffers ok width n set f acc r k a ma =
    sums m p w M C t ok buffers a r.beta (f.alpha_element r k a ma) (f.beta_element r k) (acc r k a ma)

-- tables on any buses and tuples of any width
module _ (m : Limits) (p w : ℕ) (M : Modulus p) (C : Certificate p w) (t₁ t₂ : Table) (width : ℕ) (set : List (Pairing (List ℕ)))
    (buffers₁ buffers₂ : Buffers) where
  balanced : AllWide width t₁ → AllWide width t₂ → T (has_ledger m p t₁) → T (has_ledger m p t₂) → TerminalsDetermineLedgers p (generation m p w) t₁ t₂ width set buffers₁ buffers₂
  balanced wide₁ wide₂ ok₁ ok₂ f acc₁ acc₂ = (
    λ same r k a ma.
        forth r k a ma
        ((each-pair p w C set (λ α β. term α β E₁ ≡ term α β E₂)).1
        (claim.0 (everywhere p w C width E₁ E₂ T₁ T₂ (λ l q. sym (ledger_is p w C t₁ l) ∙ same l q ∙ ledger_is p w C t₂ l))) r k a ma),
    λ agree l q. ledger_is p w C t₁ l ∙ claim.1 ((each-pair p w C set (λ α β. term α β E₁ ≡ term α β E₂)).0 (back agree)) l ∙ sym (ledger_is p w C t₂ l),
  )
    where
      E₁ : List Entry
      E₁ = entries p t₁

      E₂ : List Entry
      E₂ = entries p t₂

      term : KEl p w C → KEl p w C → List Entry → KEl p w C
      term α β E = Tables.terminal (K p w C) (N p w C) α β E

      T₁ : Tables.Table (K p w C) (N p w C) width E₁
      T₁ = table_of p w M C t₁ (words_of m p t₁ ok₁) (fits_of m p t₁ ok₁) width wide₁

      T₂ : Tables.Table (K p w C) (N p w C) width E₂
      T₂ = table_of p w M C t₂ (words_of m p t₂ ok₂) (fits_of m p t₂ ok₂) width wide₂

      at₁ : (r : Pairing (List ℕ)) (k : Memᴰ r set) (a : List ℕ) (ma : Memᴰ a r.alphas)
          → Sums m p w M C t₁ a r.beta (words_of m p t₁ ok₁) (f.alpha_element r k a ma) (f.beta_element r k) (answer_at (generation m p w) t₁ buffers₁ a r.beta)
      at₁ = sums_at m p w M C t₁ buffers₁ ok₁ width (tuples_met p t₁ t₂) set f acc₁

      at₂ : (r : Pairing (List ℕ)) (k : Memᴰ r set) (a : List ℕ) (ma : Memᴰ a r.alphas)
          → Sums m p w M C t₂ a r.beta (words_of m p t₂ ok₂) (f.alpha_element r k a ma) (f.beta_element r k) (answer_at (generation m p w) t₂ buffers₂ a r.beta)
      at₂ = sums_at m p w M C t₂ buffers₂ ok₂ width (tuples_met p t₁ t₂) set f acc₂

      n_is : tuples_met p t₁ t₂ ≡ length (support (K p w C) (N p w C) (E₁ ++ E₂))
      n_is = met-count p w C t₁ t₂

      claim : ((l : List ℕ) → Tables.ledger (K p w C) (N p w C) E₁ l ≡ Tables.ledger (K p w C) (N p w C) E₂ l)
          ↔ ((r : Pairing (KEl p w C)) → Memᴰ r (map (in_field p w C) set) → (α : KEl p w C) → Memᴰ α r.alphas → term α r.beta E₁ ≡ term α r.beta E₂)
      claim =
          balance (K p w C) (N p w C) width E₁ E₂ (support (K p w C) (N p w C) (E₁ ++ E₂)) (map (in_field p w C) set) T₁ T₂
          (support_is (K p w C) (N p w C) (E₁ ++ E₂))
          (subst (λ (n : ℕ). Sets.FullSet (K p w C) (N p w C) width n E₁ E₂ (map (in_field p w C) set)) n_is
          (full p w C width (tuples_met p t₁ t₂) E₁ E₂ set f (λ r k a ma. ((at₁ r k a ma).accepted, (at₂ r k a ma).accepted))))

      forth : (r : Pairing (List ℕ)) (k : Memᴰ r set) (a : List ℕ) (ma : Memᴰ a r.alphas)
          → term (el p w C a) (el p w C r.beta) E₁ ≡ term (el p w C a) (el p w C r.beta) E₂
          → AgreeAt (generation m p w) t₁ t₂ buffers₁ buffers₂ a r.beta
      forth r k a ma e = same_of_el p w C _ _ (at₁ r k a ma).words (at₂ r k a ma).words ((at₁ r k a ma).is ∙ e ∙ sym (at₂ r k a ma).is)

      back : AtEachPair set (AgreeAt (generation m p w) t₁ t₂ buffers₁ buffers₂)
          → (r : Pairing (List ℕ)) → Memᴰ r set → (a : List ℕ) → Memᴰ a r.alphas
          → term (el p w C a) (el p w C r.beta) E₁ ≡ term (el p w C a) (el p w C r.beta) E₂
      back agree r k a ma = sym (at₁ r k a ma).is ∙ ap (el p w C) (agree r k a ma) ∙ (at₂ r k a ma).is

-- for every prime and value of X⁴ that make a field
pub terminals_determine_ledgers : (m : Limits) (p w : ℕ) → Modulus p → Certificate p w → LogUpSoundness m p (generation m p w)
terminals_determine_ledgers m p w M C t₁ t₂ bus width set buffers₁ buffers₂ c =
    balanced m p w M C t₁ t₂ width set buffers₁ buffers₂ c.wide₁ c.wide₂ c.ledger₁ c.ledger₂

-- under a rule it is this of the tables as the rule reads them: their ledgers are equal exactly where the lent tables' are
soundness_under : UnderEachRule LogUpSoundness
unfolding at_pair
soundness_under m p g rule sound t₁ t₂ bus width set buffers₁ buffers₂ c f acc₁ acc₂ =
    let same = same_ledger_under rule p width t₁ t₂ in
    let both =
    sound (table_under rule t₁) (table_under rule t₂) bus width set buffers₁ buffers₂ (comparable_under rule c)
    (subst (λ (n : ℕ). FullSet p width n set) (sym (met_under rule p t₁ t₂)) f) acc₁ acc₂ in
    (λ equal. both.0 (same.1 equal), λ agree. same.0 (both.1 agree))

-- and so in each field, at the entry point
pub logup_soundness : KnownSoundness
logup_soundness = of_every_field LogUpSoundness soundness_under terminals_determine_ledgers
