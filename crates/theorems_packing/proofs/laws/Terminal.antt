-- The sum of all fractions of a row is, word by word, a sum over the lookups that merges keep, and so is the number of its faults: the packed
-- table has the same terminal, and generation accepts it where it accepts the table. Each lookup is taken as the tuple rule reads it.
use Rattle.std.specs.Prelude.{◌≡◌, Bool, cond, not, ◌||◌, ◌↔◌, T}
use Rattle.std.proofs.Math.Path.{refl, sym, ap}
use Rattle.std.proofs.Common.{ap₂, ◌∙◌, subst, true≢false, arith}
use Rattle.std.proofs.Math.Bool.{true, false, ◌&&◌}
use Rattle.std.proofs.Math.Option.{Option, none, some, some-ne-none}
use mathlib.Core.List.{List, [], ◌∷◌, flat_map}
use Prim.Native.Nat.{ℕ, ◌+◌, ◌*◌, ◌/◌, ◌%◌, ◌<◌, ◌≤◌}
use Rattle.std.proofs.Math.Nat.{mul-le-mul_left}
use Rattle.std.proofs.Math.Dec.{eqb, leb}
use Rattle.std.proofs.Math.ListN.{length, get_or}
use borrow.Author.Tests.{eq-eqb, leb-true, le-leb}
use Rattle.lists.specs.Same.{same_list}
use Rattle.lists.specs.Count.{total}
use Rattle.lists.specs.laws.Sums.{total_cong, total-zero}
use Rattle.lists.specs.laws.Count.{first_none, total_in, first-all}
use Rattle.lists.specs.laws.Tests.{both_left, both_right}
use Rattle.field.specs.Element.{at, zero4, sum4}
use Rattle.field.specs.Known.{prime_of, w_of}
use Rattle.field.proofs.laws.Element.{sum4-words}
use Rattle.theorems_logup.specs.Sets.{Pair}
use Rattle.expression.specs.Words.{all_below}
use Rattle.expression.specs.Choices.{limits_of}
use Rattle.expression.specs.Node.{node_count}
use Rattle.expression.specs.Values.{row_values}
use Rattle.expression.specs.Tests.{degrees_low}
use Rattle.expression.specs.Refusal.{unless}
use Rattle.expression.specs.laws.Refusal.{unless_none}
use Rattle.expression.specs.laws.Refusal.{number-nonzero}
use Rattle.expression.specs.declared.sizes.Limits.{Limits}
use Rattle.expression.specs.declared.refusal.Refusal.{Refusal}
use Rattle.expression.specs.declared.refusal.Refusal.TheVariants.{SizeAtOdds, WordTooLarge, NodeInvalid, DegreeTooHigh, LookupInvalid, ChallengesMissing, RowsMissing, TraceTooSmall, FlagNotBinary, TwoFlags, DenominatorZero}
use Rattle.lookup.specs.Lookups.{Lookups, Lookup, lookup_count, lookup_at, lookups_of}
use Rattle.lookup.specs.Table.{Table}
use Rattle.lookup.specs.Tests.{sizes, words_below, known, lists_agree, in_position, has_lookups, rows_enough}
use Rattle.lookup.specs.Requires.{Fitting, Agreeing}
use Rattle.lookup.specs.laws.Tested.{sizes_passed, fitting, agreeing}
use Rattle.lookup_degree.specs.Degree.{node_degrees}
use Rattle.logup.specs.Rule.{lookups_under, table_under}
use Rattle.logup.specs.Column.{Place, fraction, fault}
use Rattle.logup.specs.Rows.{fault_refusal, place, fraction_at, row_sum, accumulator, fault_at, row_fault, first_fault, used}
use Rattle.logup.specs.Generation.{refused, absent, terminal, entry_refusal, rows_outcome, entry_outcome, generation, accepts}
use Rattle.logup.proofs.laws.Rule.{refusal_under}
use Rattle.logup.proofs.laws.Choices.{generation-known}
use Rattle.packing.specs.Packing.{on_one_bus, merged, numbered, packed}
use Rattle.packing.specs.PackSameBus.{columns}
use Rattle.packing.proofs.laws.Columns.{on_one}
use Rattle.theorems_packing.specs.Packed.{packed_table, NotOverweight}
use Rattle.theorems_packing.specs.Passes.{Tested}
use Rattle.theorems_packing.specs.Same.{on_the_bus}
use Rattle.theorems_packing.specs.Terminal.{SharedPairs, pairs_from, challenges_of, SameTerminal, KnownSameTerminal, bus_sum, SameBusSum}
use Rattle.theorems_packing.specs.inner.Entries.{Aligned}
use Rattle.theorems_packing.proofs.laws.Each.{Each, each_at, each-flat, flat-each}
use Rattle.theorems_packing.proofs.laws.Back.{nothing, columns-back}
use Rattle.theorems_packing.proofs.laws.Passes.{below_of, of_below, fewer_columns, same-has, packed-passes}
use Rattle.theorems_packing.proofs.laws.Fractions.{total-mod, fraction_word, fraction_word-numbered, fraction_word-merged, fraction_words, named, fault_count, fault_count-numbered, fault_count-merged, fault-words}
use Rattle.theorems_packing.proofs.laws.Pairs.{four, pair_words, zeros, pairs-length, pairs-four, flat-length, own_at, own-count, place_is, pair_sum, pair_sum-lookups, pair_sum-packed, packed-pairs}
use Rattle.theorems_packing.proofs.laws.Rule.{lookup_under, at_under, aligned_at, adds_under}
use Rattle.theorems_packing.proofs.laws.Entries.{local-both, at_sound, columns_sound}

-- the sum of the fractions of a row's lookups that pass a test
module _ (rule p w : ℕ) (B : Lookup → Bool) where
  abbrev tested_word : List ℕ → ℕ → Pair (List ℕ) → Lookup → ℕ
  tested_word vals j q x = cond (B x) (fraction_word p w vals j q (lookup_under rule x)) 0

  row_words_are : (l : Lookups) (c : SharedPairs) (values : ℕ → List ℕ) (r : ℕ)
      → ((i : ℕ) → i < lookup_count l.lookups → Aligned (lookup_at l i))
      → sum4 p (λ i. cond (B (lookup_at l i)) (fraction_at p w (lookups_under rule l) (flat_map pair_words (pairs_from c 0 (lookups_of l))) values r i) zero4) (lookup_count l.lookups)
      ≡ four (λ j. pair_sum c (tested_word (values r) j) 0 (lookups_of l) % p)
  unfolding fraction_at
  row_words_are l c values r s =
      sum4-words p F N
      ∙ (λ k. each 0 refl (omega arith) k ∷ each 1 refl (omega arith) k ∷ each 2 refl (omega arith) k ∷ each 3 refl (omega arith) k ∷ [])
    where
      N : ℕ
      N = lookup_count l.lookups

      qs : List (Pair (List ℕ))
      qs = pairs_from c 0 (lookups_of l)

      cs : List ℕ
      cs = flat_map pair_words (pairs_from c 0 (lookups_of l))

      here : ℕ → Place
      here i = place p w (lookups_under rule l) cs values r i

      F : ℕ → List ℕ
      F i = cond (B (lookup_at l i)) (fraction p w (here i)) zero4

      one : (j : ℕ) → at zero4 j ≡ 0 → j < 4 → (i : ℕ) → i < N
          → at (F i) j % p ≡ tested_word (values r) j (get_or qs i zeros) (lookup_at l i) % p
      one j z h i g =
          either (B (lookup_at l i))
          (ap (λ (x : Place). at (fraction p w x) j % p) (place_is p w l (lookups_under rule l) c values r i g)
          ∙ fraction_words p w (values r) (lookups_under rule l) i (get_or qs i zeros) (aligned_at rule l i (s i g)) j h
          ∙ ap (λ (x : Lookup). fraction_word p w (values r) j (get_or qs i zeros) x % p) (at_under rule l i))
        where
          own : ℕ
          own = fraction_word p w (values r) j (get_or qs i zeros) (lookup_under rule (lookup_at l i))

          either : (b : Bool) → at (fraction p w (here i)) j % p ≡ own % p → at (cond b (fraction p w (here i)) zero4) j % p ≡ cond b own 0 % p
          either true e = e
          either false e = ap (λ (n : ℕ). n % p) z

      each : (j : ℕ) → at zero4 j ≡ 0 → j < 4 → total (λ i. at (F i) j) N % p ≡ pair_sum c (tested_word (values r) j) 0 (lookups_of l) % p
      each j z h =
          total-mod p (λ i. at (F i) j) (λ i. tested_word (values r) j (get_or qs i zeros) (lookup_at l i)) N (one j z h)
          ∙ ap (λ (n : ℕ). n % p) (pair_sum-lookups c (tested_word (values r) j) l)

-- no fault on a row exactly where none is counted
refusal-named : (n r i : ℕ) → (fault_refusal n r i ≡ none) ↔ (named n ≡ false)
unfolding fault_refusal
refusal-named n r i = go (eqb n 13) (eqb n 14) (eqb n 15)
  where
    go : (a b c : Bool)
        → (cond a (some (FlagNotBinary r i)) (cond b (some (TwoFlags r i)) (cond c (some (DenominatorZero r i)) none)) ≡ none) ↔ ((a || (b || c)) ≡ false)
    go true b c = (λ e. absurd (some-ne-none _ e), λ e. absurd (true≢false e))
    go false true c = (λ e. absurd (some-ne-none _ e), λ e. absurd (true≢false e))
    go false false true = (λ e. absurd (some-ne-none _ e), λ e. absurd (true≢false e))
    go false false false = (λ e. refl, λ e. refl)

module _ (rule p w : ℕ) (l : Lookups) (c : SharedPairs) (values : ℕ → List ℕ) (height : ℕ) (s : (i : ℕ) → i < lookup_count l.lookups → Aligned (lookup_at l i)) where
  abbrev cs : List ℕ
  cs = flat_map pair_words (pairs_from c 0 (lookups_of l))

  abbrev N : ℕ
  N = lookup_count l.lookups

  abbrev read : Lookups
  read = lookups_under rule l

  abbrev faults : ℕ → Pair (List ℕ) → Lookup → ℕ
  faults r q x = fault_count p w (values r) q (lookup_under rule x)

  abbrev counted : ℕ → ℕ → ℕ
  counted r i = faults r (get_or (pairs_from c 0 (lookups_of l)) i zeros) (lookup_at l i)

  fault-counted : (r i : ℕ) → i < N → (fault_at p w read cs values r i ≡ none) ↔ (counted r i ≡ 0)
  unfolding fault_at
  fault-counted r i h =
      let q = get_or (pairs_from c 0 (lookups_of l)) i zeros in
      let a = refusal-named (fault p w (place p w read cs values r i)) r i in
      let b = fault-words p w (values r) read i q (aligned_at rule l i (s i h)) in
      let e : named (fault p w (place p w read cs values r i)) ≡ _ = ap (λ (x : Place). named (fault p w x)) (place_is p w l read c values r i h) in
      let f : fault_count p w (values r) q (lookup_at read i) ≡ counted r i = ap (fault_count p w (values r) q) (at_under rule l i) in
      (λ k. sym f ∙ b.0 (sym e ∙ a.0 k), λ k. a.1 (e ∙ b.1 (f ∙ k)))

  faults_none : first_fault p w read cs values height ≡ none → (r : ℕ) → r < height → pair_sum c (faults r) 0 (lookups_of l) ≡ 0
  unfolding first_fault row_fault
  faults_none e r h =
      let q : row_fault p w read cs values r ≡ none = first_none (row_fault p w read cs values) height r e h in
      sym (pair_sum-lookups c (faults r) l)
      ∙ total_cong (counted r) (λ i. 0) N (λ i g. (fault-counted r i g).0 (first_none (fault_at p w read cs values r) N i q g)) ∙ total-zero N

  none_faults : ((r : ℕ) → r < height → pair_sum c (faults r) 0 (lookups_of l) ≡ 0) → first_fault p w read cs values height ≡ none
  unfolding first_fault row_fault
  none_faults e =
      first-all (row_fault p w read cs values) height (λ r h. first-all (fault_at p w read cs values r) N
      (λ i g. (fault-counted r i g).1 (let x = total_in (counted r) i N g in let y : total (counted r) N ≡ 0 = pair_sum-lookups c (faults r) l ∙ e r h in omega arith)))

refused_not : (f : Refusal) → T (accepts (refused f)) → ⊥
refused_not f a = subst T (number-nonzero f) a

-- an accepting answer: none of refusals 1 to 12, and no fault where there are lookups
module _ (m : Limits) (p w : ℕ) (t : Table) (challenges buffer : List ℕ) where
  abbrev has : Bool
  has = has_lookups t.lookups.lookups

  abbrev fault_found : Option Refusal
  fault_found = first_fault p w t.lookups challenges (row_values p t.nodes t.traces) t.traces.shape.height

  abbrev last_sum : List ℕ
  last_sum = accumulator p w t.lookups challenges (row_values p t.nodes t.traces) t.traces.shape.height

  rows-accepted : (b : Bool) (f : Option Refusal) → T (accepts (cond b (rows_outcome m p w t challenges buffer f) (record { answer = absent; buffer = buffer })).answer) → b ≡ true → f ≡ none
  unfolding rows_outcome
  rows-accepted true none a e = refl
  rows-accepted true (some f) a e = absurd (refused_not f a)
  rows-accepted false f a e = absurd (true≢false (sym e))

  entry-accepted : (o : Option Refusal) → T (accepts (entry_outcome m p w t challenges buffer o).answer)
      → (o ≡ none) × (has ≡ true → fault_found ≡ none)
  unfolding entry_outcome
  entry-accepted (some f) a = absurd (refused_not f a)
  entry-accepted none a = (refl, rows-accepted has fault_found a)

  accepted_of : T (accepts (generation m p w t challenges buffer).answer)
      → (entry_refusal m p w t challenges buffer ≡ none) × (has ≡ true → fault_found ≡ none)
  unfolding generation
  accepted_of a = entry-accepted (entry_refusal m p w t challenges buffer) a

  rows_answer : (b : Bool) (f : Option Refusal) → (b ≡ true → f ≡ none) → (cond b (rows_outcome m p w t challenges buffer f) (record { answer = absent; buffer = buffer })).answer ≡ cond b (terminal last_sum) absent
  unfolding rows_outcome
  rows_answer true none e = refl
  rows_answer true (some f) e = absurd (some-ne-none f (e refl))
  rows_answer false f e = refl

  -- then it is the sum of all fractions, or absent where there are no lookups
  answer_is : entry_refusal m p w t challenges buffer ≡ none → (has ≡ true → fault_found ≡ none)
      → (generation m p w t challenges buffer).answer ≡ cond has (terminal last_sum) absent
  unfolding generation entry_outcome
  answer_is e f = ap (λ (o : Option Refusal). (entry_outcome m p w t challenges buffer o).answer) e ∙ rows_answer has fault_found f

-- refusals 1 to 5 and 8 to 10 of generation, test by test
record Entered (m : Limits) (p : ℕ) (t : Table) (challenges buffer : List ℕ) : Type 0 where
  tested : Tested m p t
  whole : eqb (length challenges % 4) 0 ≡ true
  below : all_below p challenges ≡ true
  positions : in_position t.lookups.lookups ≡ true
  challenged : (not (has_lookups t.lookups.lookups) || eqb (length challenges / 4) (2 * lookup_count t.lookups.lookups)) ≡ true
  rows : rows_enough t.traces.shape t.lookups.lookups ≡ true
  room : (not (has_lookups t.lookups.lookups) || leb (used t.lookups.lookups t.traces.shape.height) (length buffer)) ≡ true

module _ (m : Limits) (p w : ℕ) (t : Table) (challenges buffer : List ℕ) where
  none_entered : entry_refusal m p w t challenges buffer ≡ none → Entered m p t challenges buffer
  unfolding entry_refusal
  none_entered e =
      let a = unless_none (sizes m t && eqb (length challenges % 4) 0) SizeAtOdds _ e in
      let b = unless_none (words_below p t && all_below p challenges) WordTooLarge _ a.1 in
      let c = unless_none (known t) NodeInvalid _ b.1 in
      let d = unless_none (degrees_low m t.nodes) DegreeTooHigh _ c.1 in
      let f = unless_none (lists_agree (node_count t.nodes) t.lookups && in_position t.lookups.lookups) LookupInvalid _ d.1 in
      let g = unless_none (not (has_lookups t.lookups.lookups) || eqb (length challenges / 4) (2 * lookup_count t.lookups.lookups)) ChallengesMissing _ f.1 in
      let h = unless_none (rows_enough t.traces.shape t.lookups.lookups) RowsMissing _ g.1 in
      let k = unless_none (not (has_lookups t.lookups.lookups) || leb (used t.lookups.lookups t.traces.shape.height) (length buffer)) TraceTooSmall _ h.1 in
      record {
        tested =
            record {
              sizes_pass = both_left (sizes m t) (eqb (length challenges % 4) 0) a.0;
              words_pass = both_left (words_below p t) (all_below p challenges) b.0;
              nodes_pass = c.0;
              degrees_pass = d.0;
              lists_pass = both_left (lists_agree (node_count t.nodes) t.lookups) (in_position t.lookups.lookups) f.0;
            };
        whole = both_right (sizes m t) (eqb (length challenges % 4) 0) a.0;
        below = both_right (words_below p t) (all_below p challenges) b.0;
        positions = both_right (lists_agree (node_count t.nodes) t.lookups) (in_position t.lookups.lookups) f.0;
        challenged = g.0;
        rows = h.0;
        room = k.0;
      }

  entered_none : Entered m p t challenges buffer → entry_refusal m p w t challenges buffer ≡ none
  unfolding entry_refusal
  entered_none e =
      eight _ _ _ _ _ _ _ _ (ap₂ ◌&&◌ e.tested.sizes_pass e.whole) (ap₂ ◌&&◌ e.tested.words_pass e.below) e.tested.nodes_pass e.tested.degrees_pass
      (ap₂ ◌&&◌ e.tested.lists_pass e.positions) e.challenged e.rows e.room
    where
      eight : (a b c d f g h k : Bool) → a ≡ true → b ≡ true → c ≡ true → d ≡ true → f ≡ true → g ≡ true → h ≡ true → k ≡ true
          → unless a SizeAtOdds (unless b WordTooLarge (unless c NodeInvalid (unless d DegreeTooHigh (unless f LookupInvalid (unless g ChallengesMissing (unless h RowsMissing (unless k TraceTooSmall none))))))) ≡ none
      eight a b c d f g h k qa qb qc qd qf qg qh qk = rw (qa, qb, qc, qd, qf, qg, qh, qk)

-- a table and the packed table, at the same pairs
module _ (m : Limits) (p limit : ℕ) (t : Table) (c : SharedPairs) (tested : Tested m p t) where
  abbrev u : Table
  u = packed_table limit t

  abbrev values : ℕ → List ℕ
  values = row_values p t.nodes t.traces

  f : Fitting t.lookups
  f = fitting t.lookups (sizes_passed m t tested.sizes_pass).4

  g : Agreeing (node_count t.nodes) t.lookups
  g = agreeing (node_count t.nodes) t.lookups tested.lists_pass

  back : lookups_of u.lookups ≡ packed (node_degrees 0 t.nodes) limit t.lookups
  back = columns-back limit t.nodes t.lookups ∙ (unfold columns in refl)

  own : (i : ℕ) → i < lookup_count t.lookups.lookups → Aligned (lookup_at t.lookups i)
  own = at_sound t.nodes t.lookups f g

  columns-own : (i : ℕ) → i < lookup_count u.lookups.lookups → Aligned (lookup_at u.lookups i)
  columns-own i h =
      subst Aligned (own_at u.lookups i h)
      (each_at Aligned nothing (lookups_of u.lookups) (subst (Each Aligned) (sym (columns-back limit t.nodes t.lookups)) (columns_sound t.nodes t.lookups f g limit)) i (omega (arith, own-count u.lookups)))

  -- a sum that merges keep is the same
  pair_sum-same : (S : Pair (List ℕ) → Lookup → ℕ) → ((q : Pair (List ℕ)) (k : ℕ) (x : Lookup) → S q (numbered k x) ≡ S q x)
      → ((q : Pair (List ℕ)) (a b : Lookup) → on_one_bus a b ≡ true → Aligned a → S q (merged a b) ≡ S q a + S q b) → pair_sum c S 0 (lookups_of u.lookups) ≡ pair_sum c S 0 (lookups_of t.lookups)
  pair_sum-same S free adds = ap (pair_sum c S 0) back ∙ pair_sum-packed c S free adds (node_degrees 0 t.nodes) limit t.lookups own

  -- the same sum over the lookups that pass a test, where a merge passes with its parts
  module _ (B : Lookup → Bool) (free : (k : ℕ) (x : Lookup) → B (numbered k x) ≡ B x)
      (both : (a b : Lookup) → on_one_bus a b ≡ true → (B (merged a b) ≡ B a) × (B b ≡ B a)) where
    tested-same : (rule w r : ℕ)
        → sum4 p (λ i. cond (B (lookup_at u.lookups i)) (fraction_at p w (lookups_under rule u.lookups) (challenges_of c u) values r i) zero4) (lookup_count u.lookups.lookups)
        ≡ sum4 p (λ i. cond (B (lookup_at t.lookups i)) (fraction_at p w (lookups_under rule t.lookups) (challenges_of c t) values r i) zero4) (lookup_count t.lookups.lookups)
    unfolding challenges_of
    tested-same rule w r =
        row_words_are rule p w B u.lookups c values r columns-own ∙ (λ k. word_same 0 k ∷ word_same 1 k ∷ word_same 2 k ∷ word_same 3 k ∷ [])
        ∙ sym (row_words_are rule p w B t.lookups c values r own)
      where
        S : ℕ → Pair (List ℕ) → Lookup → ℕ
        S = tested_word rule p w B (values r)

        numbered-same : (j : ℕ) (q : Pair (List ℕ)) (k : ℕ) (x : Lookup) → S j q (numbered k x) ≡ S j q x
        numbered-same j q k x = ap₂ (λ (b : Bool) (n : ℕ). cond b n 0) (free k x) (fraction_word-numbered p w (values r) j q k (lookup_under rule x))

        merged-same : (j : ℕ) (q : Pair (List ℕ)) (a b : Lookup) → on_one_bus a b ≡ true → Aligned a → S j q (merged a b) ≡ S j q a + S j q b
        merged-same j q a b o s =
            parts (B a) (B b) (B (merged a b)) (word a) (word b) (word (merged a b)) (both a b o).0 (both a b o).1
            (adds_under rule (fraction_word p w (values r) j q) (fraction_word-merged p w (values r) j q) a b o s)
          where
            word : Lookup → ℕ
            word x = fraction_word p w (values r) j q (lookup_under rule x)

            parts : (d e m : Bool) (x y z : ℕ) → m ≡ d → e ≡ d → z ≡ x + y → cond m z 0 ≡ cond d x 0 + cond e y 0
            parts true e m x y z qm qe k = rw (qm, qe) k
            parts false e m x y z qm qe k = rw (qm, qe)

        word_same : (j : ℕ) → pair_sum c (S j) 0 (lookups_of u.lookups) % p ≡ pair_sum c (S j) 0 (lookups_of t.lookups) % p
        word_same j = ap (λ (n : ℕ). n % p) (pair_sum-same (S j) (numbered-same j) (merged-same j))

  sums_same : (rule w : ℕ)
      → accumulator p w (lookups_under rule u.lookups) (challenges_of c u) values t.traces.shape.height
      ≡ accumulator p w (lookups_under rule t.lookups) (challenges_of c t) values t.traces.shape.height
  unfolding accumulator row_sum
  sums_same rule w =
      ap (λ (s : ℕ → List ℕ). sum4 p s t.traces.shape.height) (λ k r. tested-same (λ x. true) (λ k x. refl) (λ a b o. (refl, refl)) rule w r k)

  faults-same : (rule w : ℕ) → first_fault p w (lookups_under rule t.lookups) (challenges_of c t) values t.traces.shape.height ≡ none
      → first_fault p w (lookups_under rule u.lookups) (challenges_of c u) values t.traces.shape.height ≡ none
  unfolding challenges_of
  faults-same rule w e =
      none_faults rule p w u.lookups c values t.traces.shape.height columns-own
      (λ r h. pair_sum-same (λ q x. fault_count p w (values r) q (lookup_under rule x)) (λ q k x. fault_count-numbered p w (values r) q k (lookup_under rule x))
      (λ q. adds_under rule (fault_count p w (values r) q) (fault_count-merged p w (values r) q))
      ∙ faults_none rule p w t.lookups c values t.traces.shape.height own e r h)

  -- the packed table enters where the table does
  challenges-long : (x : Table) → length (challenges_of c x) ≡ 8 * lookup_count x.lookups.lookups
  unfolding challenges_of
  challenges-long x =
      flat-length (pairs_from c 0 (lookups_of x.lookups)) (pairs-four c 0 (lookups_of x.lookups))
      ∙ ap (λ (n : ℕ). 8 * n) (pairs-length c 0 (lookups_of x.lookups) ∙ own-count x.lookups)

  below-same : all_below p (challenges_of c t) ≡ true → all_below p (challenges_of c u) ≡ true
  unfolding challenges_of
  below-same e =
      below_of p (flat_map pair_words (pairs_from c 0 (lookups_of u.lookups)))
      (each-flat (λ (a : ℕ). a < p) pair_words (pairs_from c 0 (lookups_of u.lookups))
      (subst (λ (xs : List Lookup). Each (λ (q : Pair (List ℕ)). Each (λ (a : ℕ). a < p) (pair_words q)) (pairs_from c 0 xs)) (sym back)
      (packed-pairs c (λ (q : Pair (List ℕ)). Each (λ (a : ℕ). a < p) (pair_words q)) (node_degrees 0 t.nodes) limit t.lookups
      (flat-each (λ (a : ℕ). a < p) pair_words (pairs_from c 0 (lookups_of t.lookups)) (of_below p (flat_map pair_words (pairs_from c 0 (lookups_of t.lookups))) e)))))

  entered-same : (buffer : List ℕ) → NotOverweight limit t → Entered m p t (challenges_of c t) buffer → Entered m p u (challenges_of c u) buffer
  entered-same buffer o e =
      let s = packed-passes m p limit t tested o in
      record {
        tested = s.tested;
        whole = eq-eqb (length (challenges_of c u) % 4) 0 (omega (arith, challenges-long u));
        below = below-same e.below;
        positions = s.positions;
        challenged = either (has_lookups u.lookups.lookups) (eqb (length (challenges_of c u) / 4) (2 * lookup_count u.lookups.lookups)) (λ h. eq-eqb (length (challenges_of c u) / 4) (2 * lookup_count u.lookups.lookups) (omega (arith, challenges-long u)));
        rows = s.rows e.rows;
        room =
            either (has_lookups u.lookups.lookups) (leb (used u.lookups.lookups t.traces.shape.height) (length buffer)) fits;
      }
    where
      either : (a b : Bool) → (a ≡ true → b ≡ true) → (not a || b) ≡ true
      either true b h = h refl
      either false b h = refl

      taken : (a b : Bool) → a ≡ true → (not a || b) ≡ true → b ≡ true
      taken true b q k = k
      taken false b q k = absurd (true≢false (sym q))

      fits : has_lookups u.lookups.lookups ≡ true → leb (used u.lookups.lookups t.traces.shape.height) (length buffer) ≡ true
      fits h =
          unfold used in
          let H : ℕ = t.traces.shape.height in
          let k : used t.lookups.lookups H ≤ length buffer = leb-true _ _ (taken (has_lookups t.lookups.lookups) _ (sym (same-has limit t) ∙ h) e.room) in
          let n : H * (lookup_count u.lookups.lookups + 1) ≤ H * (lookup_count t.lookups.lookups + 1) = mul-le-mul_left H (omega (arith, fewer_columns limit t)) in
          le-leb (H * (lookup_count u.lookups.lookups + 1) * 4) (length buffer) (omega arith)

pub same-terminal : (rule : ℕ) (m : Limits) (p w : ℕ) → SameTerminal (λ t. generation m p w (table_under rule t))
same-terminal rule m p w limit t c buffer o a =
    answer_is m p w (table_under rule u') (challenges_of c u') buffer
    (refusal_under rule m p w u' (challenges_of c u') buffer ∙ entered_none m p w u' (challenges_of c u') buffer (entered-same m p limit t c e.tested buffer o e))
    (λ h. faults-same m p limit t c e.tested rule w (k.1 (sym (same-has limit t) ∙ h)))
    ∙ ap₂ (λ (h : Bool) (x : List ℕ). cond h (terminal x) absent) (same-has limit t) (sums_same m p limit t c e.tested rule w)
    ∙ sym (answer_is m p w (table_under rule t) (challenges_of c t) buffer k.0 k.1)
  where
    u' : Table
    u' = packed_table limit t

    k : (entry_refusal m p w (table_under rule t) (challenges_of c t) buffer ≡ none)
        × (has_lookups t.lookups.lookups ≡ true → first_fault p w (lookups_under rule t.lookups) (challenges_of c t) (row_values p t.nodes t.traces) t.traces.shape.height ≡ none)
    k = accepted_of m p w (table_under rule t) (challenges_of c t) buffer a

    e : Entered m p t (challenges_of c t) buffer
    e = none_entered m p w t (challenges_of c t) buffer (sym (refusal_under rule m p w t (challenges_of c t) buffer) ∙ k.0)

-- at the entry point, in each field
pub known-same-terminal : KnownSameTerminal
known-same-terminal c rule k r =
    subst SameTerminal (sym (generation-known c rule k r)) (same-terminal rule (limits_of c.profile) (prime_of c.field) (w_of c.field))

-- the lookups on one bus, exclusives too
pub same_bus-sum : SameBusSum
unfolding bus_sum
same_bus-sum rule m p w limit t c bus tested =
    ap (λ (s : ℕ → List ℕ). sum4 p s t.traces.shape.height)
    (λ k r. tested-same m p limit t c tested (on_the_bus bus) (λ k x. refl) together rule w r k)
  where
    together : (a b : Lookup) → on_one_bus a b ≡ true
        → (on_the_bus bus (merged a b) ≡ on_the_bus bus a) × (on_the_bus bus b ≡ on_the_bus bus a)
    together a b o =
        let (la, lb) = local-both a b o in
        (refl, ap₂ (λ (x : Bool) (n : List ℕ). not x && same_list bus n) (lb ∙ sym la) (sym (on_one a b o).2))
