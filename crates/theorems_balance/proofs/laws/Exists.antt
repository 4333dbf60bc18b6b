-- Full sets without poles exist: in each field for every group of tables within the limits whose tuples are of one width.
use Rattle.std.specs.Prelude.{◌≡◌, refl, ℕ, ◌+◌, ◌*◌, ◌-◌, ◌/◌, ◌<◌, ◌≤◌, length, take}
use Rattle.std.proofs.Common.{sym, ap, ◌∙◌, subst, arith, le_trans, mul-le-mul, length-take-le}
use Rattle.std.proofs.Math.Option.{none}
use mathlib.Core.List.Memᴰ
use mathlib.Core.List.{List, [], ◌∷◌, map, List-discrete, Memᴰ}
use Rattle.std.proofs.Math.Decide.{ℕ_discrete}
use Rattle.std.proofs.lemmas.List.{length-map}
use Rattle.field.specs.Modulus.{Certificate}
use Rattle.field.specs.Known.{babybear, prime_of, w_of}
use Rattle.field.specs.Extension.{K}
use Rattle.field.specs.laws.Extension.{h}
use Rattle.theorems_logup.specs.Distinct.{Distinct}
use Rattle.theorems_logup.specs.Sets.{Pairing}
use Rattle.theorems_logup.proofs.laws.Arithmetic.{sub_ne}
use Rattle.theorems_logup.proofs.laws.Exists.{pairings, take-member, take-distinct}
use Rattle.expression.specs.Choices.{limits_of}
use Rattle.expression.specs.Limits.{Sane}
use Rattle.expression.specs.declared.sizes.Limits.{Limits}
use Rattle.expression.specs.laws.Tested.{limits_sane}
use Rattle.logup.specs.Tuple.{combine}
use Rattle.logup.specs.Ledger.{Entry, Element, met}
use Rattle.balance.specs.Tables.{TableLists}
use Rattle.balance.specs.Groups.{Member}
use Rattle.balance.specs.Entries.{entries}
use Rattle.balance.specs.Refusals.{tables_refusal}
use Rattle.balance.specs.Passes.{AllGroups, groups_of}
use Rattle.theorems_soundness.proofs.laws.Setting.{same_of_el}
use Rattle.theorems_soundness.proofs.laws.Elements.{element-sum}
use Rattle.theorems_soundness.proofs.laws.Tuples.{combine_is}
use Rattle.theorems_soundness.proofs.laws.Points.{elements, elements-many, elements-distinct, elements_are}
use Rattle.theorems_soundness.proofs.laws.FullSets.{met-length, fourth_least}
use Rattle.theorems_soundness.proofs.laws.Choices.{prime_least}
use Rattle.theorems_balance.specs.Sums.{Wide, Sampled}
use Rattle.theorems_balance.specs.Balance.{OneWidth, SamplesExist, KnownSamples}
use Rattle.theorems_balance.proofs.laws.Groups.{source}
use Rattle.theorems_balance.proofs.laws.Sizes.{few_of_group, narrow}

-- one group, where the field has enough elements
module _ (p w : ℕ) (C : Certificate p w) (ms : List Member) (width : ℕ) (wide : Wide width ms) where
  abbrev E : List Entry
  E = entries p ms

  abbrev n : ℕ
  n = length (met E)

  abbrev betas : ℕ
  betas = 1 + (width - 1) * n * (n - 1) / 2

  -- what the alphas must not be
  abbrev avoid : List ℕ → List (List ℕ)
  avoid beta = map (λ (e : Entry). combine p w beta e.tuple) E

  combine-element : (beta t : List ℕ) → Element p (combine p w beta t)
  unfolding combine
  combine-element beta t = element-sum p w C _ (length t)

  pub sample : n + length E ≤ p * p * p * p → betas ≤ p * p * p * p → Sampled p w C ms
  sample enough many =
      let pos : 0 < p = h p w C in
      let ps : List (List ℕ) = elements p pos in
      let long : length ps ≡ p * p * p * p = elements-many p pos in
      let (set, at, fines) =
      pairings (List-discrete ℕ_discrete) ps (elements-distinct p pos) avoid n
      (λ beta. rw (length-map E (λ (e : Entry). combine p w beta e.tuple), long) enough) (take betas ps) in
      let alpha_ok : (r : Pairing (List ℕ)) → Memᴰ r set → (a : List ℕ) → Memᴰ a r.alphas → Element p a =
      λ r k a ma. elements_are p pos a ((fines r k).within a ma) in
      let beta_ok : (r : Pairing (List ℕ)) → Memᴰ r set → Element p r.beta =
      λ r k.
      elements_are p pos r.beta
      (take-member betas ps r.beta (subst (Memᴰ r.beta) at (Memᴰ.map (λ (r : Pairing (List ℕ)). r.beta) k))) in
      record {
        width = width;
        wide = wide;
        set = set;
        full =
            record {
              betas = subst Distinct (sym at) (take-distinct betas ps (elements-distinct p pos));
              betas_many = sym (length-map set (λ (r : Pairing (List ℕ)). r.beta)) ∙ ap length at ∙ length-take-le betas ps (rw long many);
              beta_element = beta_ok;
              alphas = λ r k. (fines r k).distinct;
              alphas_many = λ r k. (fines r k).many;
              alpha_element = alpha_ok;
            };
        no_pole =
            λ r k a ma e me _.
            sub_ne (K p w C)
            (λ q.
            (fines r k).off a ma (combine p w r.beta e.tuple) (Memᴰ.map (λ (e : Entry). combine p w r.beta e.tuple) me)
            (same_of_el p w C a (combine p w r.beta e.tuple) (alpha_ok r k a ma) (combine-element r.beta e.tuple)
            (q ∙ sym (combine_is p w C r.beta e.tuple))));
      }

-- 16 tables of 64 tuples and 2^20 rows, tuples of 8 words: the betas are fewer than babybear⁴
betas-few : (p width n : ℕ) → babybear ≤ p → width ≤ 8 → n ≤ 1073741824 → 1 + (width - 1) * n * (n - 1) / 2 ≤ p * p * p * p
betas-few p width n lp lw ln =
    let a : width - 1 ≤ 7 = omega arith in
    let b : n - 1 ≤ 1073741824 = omega arith in
    let c : (width - 1) * n * (n - 1) ≤ 7 * 1073741824 * 1073741824 = mul-le-mul (mul-le-mul a ln) b in
    le_trans {m = babybear * babybear * babybear * babybear} (omega arith) (fourth_least p lp)

-- a group that meets no tuple asks for one beta, whatever its width
betas_none : (p width n : ℕ) → babybear ≤ p → n ≡ 0 → 1 + (width - 1) * n * (n - 1) / 2 ≤ p * p * p * p
betas_none p width n lp z =
    let a : (width - 1) * n * (n - 1) ≡ 0 = ap (λ (k : ℕ). (width - 1) * k * (k - 1)) z ∙ omega arith in
    le_trans {m = babybear * babybear * babybear * babybear} (omega arith) (fourth_least p lp)

none_met : length (met []) ≡ 0
unfolding met
none_met = refl

module _ (m : Limits) (p w : ℕ) (C : Certificate p w) (S : Sane m) (lp : babybear ≤ p) where
  module _ (l : TableLists) (e : tables_refusal m p l ≡ none) where
    -- one of its groups
    group_sample : (ms : List Member) → Memᴰ ms (groups_of l) → (width : ℕ) → Wide width ms → Sampled p w C ms
    group_sample ms k width wide =
        let few : length (entries p ms) ≤ 1073741824 =
        le_trans (few_of_group m p l e k) (mul-le-mul S.tables (mul-le-mul S.tuples S.height)) in
        let fewer : length (met (entries p ms)) ≤ length (entries p ms) = met-length (entries p ms) in
        sample p w C ms width wide (le_trans {m = babybear * babybear * babybear * babybear} (omega arith) (fourth_least p lp))
        (go (entries p ms) refl (omega arith))
      where
        go : (es : List Entry) → entries p ms ≡ es → length (met (entries p ms)) ≤ 1073741824
            → 1 + (width - 1) * length (met (entries p ms)) * (length (met (entries p ms)) - 1) / 2 ≤ p * p * p * p
        go [] q few = betas_none p width (length (met (entries p ms))) lp (ap (λ (es : List Entry). length (met es)) q ∙ none_met)
        go (x ∷ es) q few =
            let o = source p ms (subst (Memᴰ x) (sym q) (Memᴰ.head refl)) in
            betas-few p width (length (met (entries p ms))) lp
            (le_trans (subst (λ (n : ℕ). n ≤ m.tuple_words) (wide o.member o.member_there o.nodes o.nodes_there)
            (narrow m p l e k o.member_there o.nodes_there)) S.tuple_words) few

    group_samples : (gs : List (List Member)) → ((ms : List Member) → Memᴰ ms gs → Memᴰ ms (groups_of l))
        → AllGroups OneWidth gs → AllGroups (Sampled p w C) gs
    group_samples [] within wide = tt
    group_samples (ms ∷ gs) within (one, rest) = (
      group_sample ms (within ms (Memᴰ.head refl)) one.0 one.1,
      group_samples gs (λ g k. within g (Memᴰ.tail k)) rest,
    )

  -- every group of tables within such limits has a full set without poles, where the prime is no less than babybear
  pub samples_exist : SamplesExist m p w C
  samples_exist l e wide = group_samples l e (groups_of l) (λ g k. k) wide

-- in each field
pub known_samples : KnownSamples
known_samples c k C =
    samples_exist (limits_of c.profile) (prime_of c.field) (w_of c.field) C (limits_sane c.profile)
    (prime_least c.field)
