-- The theorem of SPECIFICATION, section 9.3, is not empty: any two tables with ledgers and lawful flags have a full set at each pair of
-- which generation accepts both, if the field is large enough; the known ones are, for all tables within the limits of a profile.
use Rattle.std.specs.Prelude.{◌≡◌, refl, Bool, true, false, cond, ◌||◌, ℕ, suc, ◌+◌, ◌*◌, ◌-◌, ◌/◌, ◌<◌, ◌≤◌, T, eqb, length, take}
use Rattle.std.proofs.Common.{sym, ap, ◌∙◌, subst, arith, le_refl, le_trans, mul-le-mul, eqb→eq, leb→le, length-append, length-take-le}
use mathlib.Core.List.Memᴰ
use mathlib.Core.List.{List, [], ◌∷◌, ◌++◌, map, List-discrete, Memᴰ}
use Rattle.std.proofs.Math.Decide.{ℕ_discrete}
use Rattle.std.proofs.lemmas.List.{length-map}
use Rattle.lists.specs.Count.{total}
use Rattle.lists.specs.laws.Count.{and_left, and_right}
use Rattle.lists.specs.laws.Joined.{joined_length, joined-total}
use Rattle.field.specs.Modulus.{Certificate}
use Rattle.field.specs.Known.{babybear, prime_of, w_of}
use Rattle.field.specs.laws.Extension.{h}
use Rattle.field.proofs.laws.Known.{certificate_of}
use Rattle.theorems_logup.specs.Distinct.{Distinct}
use Rattle.theorems_logup.specs.Sets.{Pairing}
use Rattle.theorems_logup.proofs.laws.Exists.{pairings, take-member, take-distinct}
use Rattle.expression.specs.Choices.{limits_of}
use Rattle.expression.specs.Limits.{Sane}
use Rattle.expression.specs.laws.Tested.{limits_sane}
use Rattle.expression.specs.Tests.{traces_within}
use Rattle.expression.specs.Values.{row_values}
use Rattle.expression.specs.declared.sizes.Limits.{Limits}
use Rattle.lookup.specs.Lookups.{lookup_count, tuple_count, tuple_start, flag_node}
use Rattle.lookup.specs.Table.{Table}
use Rattle.lookup.specs.Tests.{lookups_within, lookups_fit, sizes}
use Rattle.logup.specs.Tuple.{combine}
use Rattle.logup.specs.Rule.{table_under}
use Rattle.logup.specs.Generation.{generation}
use Rattle.logup.specs.Ledger.{has_ledger, Entry, Element, entry, lookup_entries, row_entries, entries, met, listed, tuples_met, at_pair}
use Rattle.logup.proofs.laws.Rule.{ledger_under}
use Rattle.theorems_soundness.specs.Soundness.{FullSet, Buffers, AcceptedAt, AtEachPair}
use Rattle.theorems_soundness.specs.FullSets.{LongEnough, FullSetsExist, KnownFullSets}
use Rattle.theorems_soundness.specs.Lawful.{LawfulFlags}
use Rattle.theorems_soundness.proofs.laws.Choices.{prime_least, UnderEachRule, at_known}
use Rattle.theorems_soundness.proofs.laws.Points.{elements, elements-many, elements-distinct, elements_are}
use Rattle.theorems_soundness.proofs.laws.Rule.{met_under}
use Rattle.theorems_soundness.proofs.laws.Entered.{ledgered}
use Rattle.theorems_soundness.proofs.laws.Accepts.{accepts_at}

module _ (m : Limits) (p w : ℕ) (C : Certificate p w) (t₁ t₂ : Table) (width : ℕ) (buffers₁ buffers₂ : Buffers)
    (ok₁ : T (has_ledger m p t₁)) (ok₂ : T (has_ledger m p t₂)) (flags₁ : LawfulFlags p t₁) (flags₂ : LawfulFlags p t₂)
    (room₁ : LongEnough t₁ buffers₁) (room₂ : LongEnough t₂ buffers₂) where
  abbrev all : List Entry
  all = entries p t₁ ++ entries p t₂

  abbrev n : ℕ
  n = tuples_met p t₁ t₂

  abbrev betas : ℕ
  betas = 1 + (width - 1) * n * (n - 1) / 2

  -- what the alphas must not be
  abbrev avoid : List ℕ → List (List ℕ)
  avoid beta = map (λ (e : Entry). combine p w beta e.tuple) all

  avoid-length : (beta : List ℕ) → length (avoid beta) ≡ length (entries p t₁) + length (entries p t₂)
  avoid-length beta = length-map all (λ (e : Entry). combine p w beta e.tuple) ∙ length-append (entries p t₁) (entries p t₂)

  pub full_set_exists : n + (length (entries p t₁) + length (entries p t₂)) ≤ p * p * p * p → betas ≤ p * p * p * p
      → (set : List (Pairing (List ℕ))) × FullSet p width n set
      × AtEachPair set (AcceptedAt (generation m p w) t₁ buffers₁) × AtEachPair set (AcceptedAt (generation m p w) t₂ buffers₂)
  full_set_exists enough many =
      let pos : 0 < p = h p w C in
      let ps : List (List ℕ) = elements p pos in
      let long : length ps ≡ p * p * p * p = elements-many p pos in
      let (set, at, fines) =
      pairings (List-discrete ℕ_discrete) ps (elements-distinct p pos) avoid n (λ beta. rw (avoid-length beta, long) enough) (take betas ps) in
      let alpha_ok : (r : Pairing (List ℕ)) → Memᴰ r set → (a : List ℕ) → Memᴰ a r.alphas → Element p a =
      λ r k a ma. elements_are p pos a ((fines r k).within a ma) in
      let beta_ok : (r : Pairing (List ℕ)) → Memᴰ r set → Element p r.beta =
      λ r k.
      elements_are p pos r.beta
      (take-member betas ps r.beta (subst (Memᴰ r.beta) at (Memᴰ.map (λ (r : Pairing (List ℕ)). r.beta) k))) in (
        set,
        record {
          betas = subst Distinct (sym at) (take-distinct betas ps (elements-distinct p pos));
          betas_many = sym (length-map set (λ (r : Pairing (List ℕ)). r.beta)) ∙ ap length at ∙ length-take-le betas ps (rw long many);
          beta_element = beta_ok;
          alphas = λ r k. (fines r k).distinct;
          alphas_many = λ r k. (fines r k).many;
          alpha_element = alpha_ok;
        },
        λ r k a ma.
            accepts_at m p w C t₁ a r.beta (buffers₁ a r.beta) (alpha_ok r k a ma) (beta_ok r k) ok₁ flags₁ (room₁ a r.beta)
            (λ e me. (fines r k).off a ma (combine p w r.beta e.tuple) (Memᴰ.map (λ (e : Entry). combine p w r.beta e.tuple) (Memᴰ.append_left (entries p t₂) me))),
        λ r k a ma.
            accepts_at m p w C t₂ a r.beta (buffers₂ a r.beta) (alpha_ok r k a ma) (beta_ok r k) ok₂ flags₂ (room₂ a r.beta)
            (λ e me. (fines r k).off a ma (combine p w r.beta e.tuple) (Memᴰ.map (λ (e : Entry). combine p w r.beta e.tuple) (Memᴰ.append_right (entries p t₁) me))),
      )

-- how many entries a table has
entries-length : (p : ℕ) (t : Table) → length (entries p t) ≡ tuple_start t.lookups.lookups (lookup_count t.lookups.lookups) * t.traces.shape.height
unfolding entries row_entries lookup_entries tuple_start
entries-length p t =
    joined_length (λ r. row_entries p t.lookups (row_values p t.nodes t.traces r))
    (total (tuple_count t.lookups.lookups) (lookup_count t.lookups.lookups)) t.traces.shape.height
    (λ r.
    joined-total (lookup_entries p t.lookups (row_values p t.nodes t.traces r)) (tuple_count t.lookups.lookups) (lookup_count t.lookups.lookups)
    (λ i. joined_length (λ k. entry p t.lookups (row_values p t.nodes t.traces r) i k ∷ []) 1 (tuple_count t.lookups.lookups i) (λ k. refl) ∙ omega arith))

pub met-length : (es : List Entry) → length (met es) ≤ length es
unfolding met
met-length [] = le_refl 0
met-length (e ∷ es) = go (eqb e.count 0 || listed e.tuple (met es)) (met-length es)
  where
    go : (b : Bool) → length (met es) ≤ length es → length (cond b (met es) (e.tuple ∷ met es)) ≤ suc (length es)
    go true l = omega arith
    go false l = omega arith

-- how many elements the field has at least
pub fourth_least : (p : ℕ) → babybear ≤ p → babybear * babybear * babybear * babybear ≤ p * p * p * p
fourth_least p l = mul-le-mul (mul-le-mul (mul-le-mul l l) l) l

-- 64 tuples, height 2^20 at most
entries-few : (m : Limits) (p : ℕ) (t : Table) → Sane m → T (sizes m t) → length (entries p t) ≤ 67108864
unfolding sizes traces_within lookups_within lookups_fit
entries-few m p t g ok =
    let high : t.traces.shape.height ≤ 1048576 = le_trans (leb→le t.traces.shape.height m.height (search (and_left, and_right) depth 14)) g.height in
    let few : length t.lookups.tuples ≤ 64 = le_trans (leb→le (length t.lookups.tuples) m.tuples (search (and_left, and_right) depth 14)) g.tuples in
    let same : length t.lookups.tuples ≡ tuple_start t.lookups.lookups (lookup_count t.lookups.lookups) =
    eqb→eq (length t.lookups.tuples) (tuple_start t.lookups.lookups (lookup_count t.lookups.lookups)) (search (and_left, and_right) depth 14) in
    rw (entries-length p t, sym same) (mul-le-mul few high)

-- and so few tuples are met
pub met-few : (m : Limits) (p : ℕ) (t₁ t₂ : Table) → Sane m → T (has_ledger m p t₁) → T (has_ledger m p t₂) → tuples_met p t₁ t₂ ≤ 134217728
unfolding tuples_met
met-few m p t₁ t₂ g ok₁ ok₂ =
    omega
    (arith, met-length (entries p t₁ ++ entries p t₂), length-append (entries p t₁) (entries p t₂), entries-few m p t₁ g (ledgered m p t₁ ok₁).one, entries-few m p t₂ g (ledgered m p t₂ ok₂).one)

betas-few : (p width n : ℕ) → babybear ≤ p → width ≤ 8 → n ≤ 134217728 → 1 + (width - 1) * n * (n - 1) / 2 ≤ p * p * p * p
betas-few p width n lp lw ln =
    let a : width - 1 ≤ 7 = omega arith in
    let b : n - 1 ≤ 134217728 = omega arith in
    let c : (width - 1) * n * (n - 1) ≤ 7 * 134217728 * 134217728 = mul-le-mul (mul-le-mul a ln) b in
    le_trans {m = babybear * babybear * babybear * babybear} (omega arith) (fourth_least p lp)

-- A full set exists for all tables within the limits of a profile, of tuples of at most 8 words, where the prime is no less than babybear
full_sets_exist : (m : Limits) (p w : ℕ) → Sane m → Certificate p w → babybear ≤ p → FullSetsExist m p (generation m p w)
full_sets_exist m p w g C lp t₁ t₂ width buffers₁ buffers₂ lw ok₁ ok₂ flags₁ flags₂ room₁ room₂ =
    let few₁ : length (entries p t₁) ≤ 67108864 = entries-few m p t₁ g (ledgered m p t₁ ok₁).one in
    let few₂ : length (entries p t₂) ≤ 67108864 = entries-few m p t₂ g (ledgered m p t₂ ok₂).one in
    let few : tuples_met p t₁ t₂ ≤ 134217728 = met-few m p t₁ t₂ g ok₁ ok₂ in
    let many : babybear * babybear * babybear * babybear ≤ p * p * p * p = fourth_least p lp in
    full_set_exists m p w C t₁ t₂ width buffers₁ buffers₂ ok₁ ok₂ flags₁ flags₂ room₁ room₂
    (omega arith) (betas-few p width (tuples_met p t₁ t₂) lp lw few)

-- a full set for two tables as a rule reads them is one for the lent tables
lawful_under : (rule p : ℕ) (t : Table) → LawfulFlags p t → LawfulFlags p (table_under rule t)
unfolding flag_node
lawful_under rule p t f = record { binary = f.binary; one = f.one }

full_sets_under : UnderEachRule FullSetsExist
unfolding at_pair
full_sets_under m p g rule exist t₁ t₂ width buffers₁ buffers₂ lw ok₁ ok₂ flags₁ flags₂ room₁ room₂ =
    let (set, full, acc₁, acc₂) =
    exist (table_under rule t₁) (table_under rule t₂) width buffers₁ buffers₂ lw (subst T (sym (ledger_under rule m p t₁)) ok₁)
    (subst T (sym (ledger_under rule m p t₂)) ok₂) (lawful_under rule p t₁ flags₁) (lawful_under rule p t₂ flags₂) room₁ room₂ in
    (set, subst (λ (n : ℕ). FullSet p width n set) (met_under rule p t₁ t₂) full, acc₁, acc₂)

-- and so in each field, at the entry point
pub logup_full_sets : KnownFullSets
logup_full_sets =
    at_known FullSetsExist full_sets_under
    (λ c k. full_sets_exist (limits_of c.profile) (prime_of c.field) (w_of c.field) (limits_sane c.profile) (certificate_of c.field) (prime_least c.field))
