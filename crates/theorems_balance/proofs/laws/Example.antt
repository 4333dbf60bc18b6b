-- The theorems at work on two tables with one bus, at the entry point in each field: the first table enters (3) once, the second `count` times. The
-- hypotheses are met. Where the count is p - 1 the sum vanishes, and so balance refuses nothing; else it does not, and balance refuses. So the tables
-- that balance in field 1 are refused in field 2.
use Rattle.std.specs.Prelude.{ℕ, ◌≡◌, refl, ◌≢◌, ◌↔◌, true, false, T, eqb, length, replicate}
use Rattle.std.proofs.Common.{sym, ◌∙◌, ⊎_elim, true≢false, arith, le_of_eq}
use Rattle.std.proofs.Math.Path.{ap, subst}
use Rattle.std.proofs.Math.Option.{none}
use mathlib.Core.List.Memᴰ
use mathlib.Core.List.{List, [], ◌∷◌, ◌++◌, flat_map, Memᴰ}
use Rattle.algebra.specs.Power.{pow_m}
use Rattle.lists.specs.Same.{same_list}
use Rattle.lists.specs.Count.{total, every, joined}
use Rattle.lists.specs.Fold.{fold}
use Rattle.lists.specs.Tab.{tab}
use Rattle.field.specs.Word.{add_m, neg_m, sub_m, mul_m, inverse1}
use Rattle.field.specs.Element.{lift, add4, sub4, mul4, scale4, power4, sum4, conjugate, conjugate2, norm2, norm, inverse4, is_zero}
use Rattle.field.specs.Known.{known_field, prime_of, w_of}
use Rattle.field.specs.Modulus.{Certificate}
use Rattle.field.specs.Extension.{K, KEl, el}
use Rattle.field.proofs.laws.Known.{modulus_of, certificate_of}
use Rattle.theorems_logup.specs.Tables as Tables
use Rattle.theorems_logup.specs.Sets.{Pairing}
use Rattle.expression.specs.Words.{all_below, all_within}
use Rattle.expression.specs.Choices as Choices
use Rattle.expression.specs.Choices.{choices_of, limits_of}
use Rattle.expression.specs.Limits.{cabinet}
use Rattle.expression.specs.Node.{decode, node}
use Rattle.expression.specs.Window.{row_of, window}
use Rattle.expression.specs.Values.{node_value, values, row_values}
use Rattle.expression.specs.Degree.{node_degree, degrees}
use Rattle.expression.specs.Tests.{traces_within, nodes_within, traces_fit, nodes_fit, traces_below, constants_below, nodes_known, degrees_low}
use Rattle.lookup.specs.Lookups.{name_start, tuple_start, multiplicity_start, flag_start, element_start, tuple_width, tuple_nodes, lookup_at, lookups_of}
use Rattle.lookup.specs.Sizes.{size_start, table_part}
use Rattle.lookup.specs.Tests.{weight_limit, lookup_within, lookups_within, lookups_fit, sizes, words_below, known, lengths_agree, nodes_present, lists_agree, has_lookups, preprocessed_enough}
use Rattle.lookup_buses.specs.Order.{keep}
use Rattle.logup.specs.Tuple.{combine, denominator, quotient4}
use Rattle.logup.specs.Ledger.{Entry, post, listed as Listed-in, met}
use Rattle.balance_slots.specs.Slots.{add_nonzero, add, slots}
use Rattle.balance_slots.specs.Nets.{net_of}
use Rattle.balance.specs.Tables.{TableLists, shape_at, lookups_at, table_at, tables_of, lists_fit}
use Rattle.balance.specs.Groups.{Member, members, same_bus, appears, local_group, bus_group, bus_groups, groups}
use Rattle.balance.specs.Entries.{count_of, entry_of, row_entries, member_entries, entries}
use Rattle.balance.specs.Refusals.{all, listed, covered, tables_refusal}
use Rattle.balance.specs.Balance.{check_at}
use Rattle.balance.proofs.laws.Cases.{columns, bus_words}
use Rattle.balance.specs.Passes.{Fits, AllGroups, groups_of}
use Rattle.theorems_soundness.specs.Soundness.{FullSet}
use Rattle.theorems_soundness.specs.Entries.{N}
use Rattle.theorems_soundness.proofs.laws.Example.{one_pair, one-full, at_one}
use Rattle.theorems_soundness.proofs.laws.Choices.{prime_least}
use Rattle.theorems_balance.specs.Sums.{Wide, group_sum, IdenticallyZero, Vanishes, Sampled}
use Rattle.theorems_balance.specs.Balance.{AllVanish, OneWidth}
use Rattle.theorems_balance.proofs.laws.Words.{sum_words, sum_zero_iff, accepts_of}
use Rattle.theorems_balance.proofs.laws.Groups.{words_of-groups}
use Rattle.theorems_balance.proofs.laws.Balance.{nets_are_seen, known-sums}
use Rattle.theorems_balance.proofs.laws.Identity.{known_identity}

-- two tables of one row each, with a lookup on the bus "b" each: the tuple (column 0), counted column 1 times
abbrev exchange : ℕ → TableLists
exchange count =
    record {
      sizes = 2 ∷ 1 ∷ 0 ∷ 0 ∷ 2 ∷ 0 ∷ 0 ∷ 2 ∷ 1 ∷ 1 ∷ 1 ∷ 1 ∷ 0 ∷ 1 ∷ 2 ∷ 1 ∷ 0 ∷ 0 ∷ 2 ∷ 0 ∷ 0 ∷ 2 ∷ 1 ∷ 1 ∷ 1 ∷ 1 ∷ 0 ∷ 1 ∷ [];
      main = 3 ∷ 1 ∷ 3 ∷ count ∷ [];
      preprocessed = [];
      public_values = [];
      nodes = columns ++ columns;
      lookups =
          record {
            lookups = bus_words ++ bus_words;
            names = 98 ∷ 98 ∷ [];
            tuples = 1 ∷ 1 ∷ [];
            multiplicities = 1 ∷ 1 ∷ [];
            flags = [];
            elements = 0 ∷ 0 ∷ [];
          };
    }

-- its lookups
abbrev both : ℕ → List Member
both count = members (tables_of (exchange count))

-- (3) once, and (3) so many times
abbrev entered : ℕ → List Entry
entered count = record { tuple = 3 ∷ []; count = 1 } ∷ record { tuple = 3 ∷ []; count = count } ∷ []

-- what is computed of a count in a field: the tests find nothing, the lookups of both tables are one group, and its entries; the net of (3) there;
-- the denominator of (3), which is 2, and where the sum of 1 ÷ 2 and count ÷ 2 is zero
record Computed (field count net : ℕ) : Type 0 where
  is_known : T (Choices.known (choices_of field 1))
  tests : tables_refusal (limits_of 1) (prime_of field) (exchange count) ≡ none
  grouped : groups_of (exchange count) ≡ both count ∷ []
  entries_are : entries (prime_of field) (both count) ≡ entered count
  tuple_met : length (met (entered count)) ≡ 1
  slots_few : length (slots (prime_of field) (entered count)) ≡ 1
  net_is : net_of (prime_of field) (entered count) (3 ∷ []) ≡ net
  nonzero : is_zero (denominator (prime_of field) (w_of field) (lift 5) (lift 7) (3 ∷ [])) ≡ false
  zero_sum : is_zero (sum_words (prime_of field) (w_of field) (lift 5) (lift 7) (entered count)) ≡ eqb net 0

computed : Computed 1 2013265920 0 × Computed 1 2 3 × Computed 2 2130706432 0 × Computed 2 2013265920 2013265921
unfolding pow_m known_field prime_of w_of add_m neg_m sub_m mul_m inverse1 add4 sub4 mul4 scale4 power4 sum4 conjugate conjugate2 norm2 norm inverse4
    is_zero total every joined fold tab flat_map all_below all_within Choices.known limits_of cabinet decode node row_of window node_value values
    row_values node_degree degrees traces_within nodes_within traces_fit nodes_fit traces_below constants_below nodes_known degrees_low name_start
    tuple_start multiplicity_start flag_start element_start tuple_width tuple_nodes lookup_at lookups_of weight_limit lookup_within lookups_within lookups_fit sizes words_below
    known lengths_agree nodes_present lists_agree has_lookups preprocessed_enough combine denominator quotient4 same_list post Listed-in met
    add_nonzero add slots net_of keep size_start table_part shape_at lookups_at table_at tables_of lists_fit members same_bus appears local_group
    bus_group bus_groups groups count_of entry_of row_entries member_entries entries all listed covered tables_refusal sum_words
computed = (
  record { is_known = tt; tests = refl; grouped = refl; entries_are = refl; tuple_met = refl; slots_few = refl; net_is = refl; nonzero = refl; zero_sum = refl },
  record { is_known = tt; tests = refl; grouped = refl; entries_are = refl; tuple_met = refl; slots_few = refl; net_is = refl; nonzero = refl; zero_sum = refl },
  record { is_known = tt; tests = refl; grouped = refl; entries_are = refl; tuple_met = refl; slots_few = refl; net_is = refl; nonzero = refl; zero_sum = refl },
  record { is_known = tt; tests = refl; grouped = refl; entries_are = refl; tuple_met = refl; slots_few = refl; net_is = refl; nonzero = refl; zero_sum = refl },
)

-- the nodes of a lookup's only tuple
pub only-tuple : (t : List ℕ) {m x : Member} → m ≡ x → x.lookup.tuples ≡ t ∷ [] → {nodes : List ℕ} → Memᴰ nodes m.lookup.tuples
    → length nodes ≡ length t
only-tuple t e one {nodes} i =
    ap length (Memᴰ.eq_of_singleton (subst (Memᴰ nodes) (ap (λ (m : Member). m.lookup.tuples) e ∙ one) i))

-- each lookup has one tuple, of one word
wide : (count : ℕ) → Wide 1 (both count)
unfolding tab flat_map total tuple_start tuple_width element_start tuple_nodes lookup_at lookups_of size_start table_part lookups_at table_at
    tables_of members
wide count m k nodes i =
    ⊎_elim (λ e. only-tuple (0 ∷ []) e refl i) (λ j. only-tuple (0 ∷ []) (Memᴰ.eq_of_singleton j) refl i) (Memᴰ.cases_cons k)

-- a workspace of one slot
abbrev workspace : List ℕ
workspace = replicate 10 7

-- some pair of the set sees that the group's sum is not zero
abbrev Seen : ℕ → ℕ → Type 0
Seen field count =
    (r : Pairing (List ℕ)) × Memᴰ r one_pair × (alpha : List ℕ) × Memᴰ alpha r.alphas
    × (group_sum (prime_of field) (w_of field) (certificate_of field) (both count) alpha r.beta
    ≢ (K (prime_of field) (w_of field) (certificate_of field)).ring.z)

-- the sum of each group is zero at every pair that is no pole
abbrev Zero : ℕ → ℕ → Type 0
Zero field count = AllGroups (IdenticallyZero (prime_of field) (w_of field) (certificate_of field)) (groups_of (exchange count))

module _ (field count net : ℕ) (c : Computed field count net) where
  abbrev p : ℕ
  p = prime_of field

  abbrev w : ℕ
  w = w_of field

  abbrev C : Certificate p w
  C = certificate_of field

  abbrev ⟦◌⟧ : List ℕ → KEl p w C
  ⟦ a ⟧ = el p w C a

  -- the group with its set: its entries have the denominator 2
  sampled : Sampled p w C (both count)
  sampled =
      record {
        width = 1;
        wide = wide count;
        set = one_pair;
        full =
            subst (λ (n : ℕ). FullSet p 1 n one_pair)
            (sym (ap (λ (es : List Entry). length (met es)) c.entries_are ∙ c.tuple_met)) (one-full p (prime_least field));
        no_pole =
            at_one (λ a b. Tables.Accepts (K p w C) (N p w C) ⟦ a ⟧ ⟦ b ⟧ (entries p (both count)))
            (subst (Tables.Accepts (K p w C) (N p w C) ⟦ lift 5 ⟧ ⟦ lift 7 ⟧) (sym c.entries_are)
            (accepts_of p w (modulus_of field) C (lift 5) (lift 7) (entered count)
            (λ e k. ⊎_elim (λ q. three e q) (λ j. three e (Memᴰ.eq_of_singleton j)) (Memᴰ.cases_cons k))));
      }
    where
      three : (e : Entry) {n : ℕ} → e ≡ record { tuple = 3 ∷ []; count = n } → is_zero (denominator p w (lift 5) (lift 7) e.tuple) ≡ false
      three e q = ap (λ (e : Entry). is_zero (denominator p w (lift 5) (lift 7) e.tuple)) q ∙ c.nonzero

  -- its sum vanishes at the pair where the net is zero
  vanishes_iff : Vanishes p w C (both count) one_pair ↔ (eqb net 0 ≡ true)
  vanishes_iff =
      let (there, back) = sum_zero_iff p w (modulus_of field) C (lift 5) (lift 7) (entered count) in (
        λ v.
            sym c.zero_sum
            ∙ back
            (subst (λ (es : List Entry). Tables.terminal (K p w C) (N p w C) ⟦ lift 5 ⟧ ⟦ lift 7 ⟧ es ≡ (K p w C).ring.z) c.entries_are
            (v _ (Memᴰ.head refl) (lift 5) (Memᴰ.head refl))),
        λ e.
            at_one (λ a b. group_sum p w C (both count) a b ≡ (K p w C).ring.z)
            (subst (λ (es : List Entry). Tables.terminal (K p w C) (N p w C) ⟦ lift 5 ⟧ ⟦ lift 7 ⟧ es ≡ (K p w C).ring.z) (sym c.entries_are) (there (c.zero_sum ∙ e))),
      )

  -- it is the only group
  samples : (ss : AllGroups (Sampled p w C) (groups_of (exchange count)))
      × (AllVanish p w C (groups_of (exchange count)) ss ↔ Vanishes p w C (both count) one_pair)
  unfolding sampled
  samples =
      subst (λ (gs : List (List Member)).
      (ss : AllGroups (Sampled p w C) gs) × (AllVanish p w C gs ss ↔ Vanishes p w C (both count) one_pair))
      (sym c.grouped) ((sampled, tt), (λ v. v.0, λ v. (v, tt)))

  fits : AllGroups (Fits p (length workspace)) (groups_of (exchange count))
  fits =
      subst (AllGroups (Fits p (length workspace))) (sym c.grouped)
      (le_of_eq (ap (λ (es : List Entry). length (slots p es)) c.entries_are ∙ c.slots_few), tt)

  one_width : AllGroups OneWidth (groups_of (exchange count))
  one_width = subst (AllGroups OneWidth) (sym c.grouped) ((1, wide count), tt)

  -- the theorem at these two tables
  told : ((check_at (choices_of field 1) (exchange count) workspace).refusal ≡ none) ↔ (eqb net 0 ≡ true)
  told =
      let (ss, one) = samples in
      let claim = known-sums (choices_of field 1) c.is_known C (exchange count) workspace c.tests fits ss in
      (λ e. vanishes_iff.0 (one.0 (claim.0 e)), λ e. claim.1 (one.1 (vanishes_iff.1 e)))

  -- without sets: the sum is zero at every pair that is no pole
  identity : ((check_at (choices_of field 1) (exchange count) workspace).refusal ≡ none) ↔ Zero field count
  identity = known_identity (choices_of field 1) c.is_known C (exchange count) workspace c.tests fits one_width

  -- a net that is not zero is seen at the pair
  seen_at : net ≢ 0 → Seen field count
  unfolding sampled
  seen_at n =
      nets_are_seen p w (modulus_of field) C (both count)
      (words_of-groups (limits_of 1) p (exchange count) c.tests (both count)
      (subst (Memᴰ (both count)) (sym c.grouped) (Memᴰ.head refl)))
      sampled (3 ∷ [])
      (λ e. n (sym c.net_is ∙ ap (λ (es : List Entry). net_of p es (3 ∷ [])) (sym c.entries_are) ∙ e))

-- the sum vanishes: balance refuses nothing
pub cancelled : ((check_at (choices_of 1 1) (exchange 2013265920) workspace).refusal ≡ none)
    × ((check_at (choices_of 2 1) (exchange 2130706432) workspace).refusal ≡ none)
cancelled = ((told 1 2013265920 0 computed.0).1 refl, (told 2 2130706432 0 computed.2).1 refl)

-- it does not: balance refuses
pub told_apart : ((check_at (choices_of 1 1) (exchange 2) workspace).refusal ≢ none)
    × ((check_at (choices_of 2 1) (exchange 2013265920) workspace).refusal ≢ none)
told_apart = (
  λ e. true≢false (sym ((told 1 2 3 computed.1).0 e)),
  λ e. true≢false (sym ((told 2 2013265920 2013265921 computed.3).0 e)),
)

-- the net of (3) is 3 then, or the first prime, and the pair sees it
pub seen : Seen 1 2 × Seen 2 2013265920
seen = (seen_at 1 2 3 computed.1 (λ e. omega arith), seen_at 2 2013265920 2013265921 computed.3 (λ e. omega arith))

-- Without sets: with count p - 1 the sum is zero at every pair that is no pole, with the others it is not.
pub identically_zero : Zero 1 2013265920 × Zero 2 2130706432
identically_zero = (
  (identity 1 2013265920 0 computed.0).0 cancelled.0,
  (identity 2 2130706432 0 computed.2).0 cancelled.1,
)

pub not_identically_zero : ¬ Zero 1 2 × ¬ Zero 2 2013265920
not_identically_zero = (
  λ x. told_apart.0 ((identity 1 2 3 computed.1).1 x),
  λ x. told_apart.1 ((identity 2 2013265920 2013265921 computed.3).1 x),
)
