-- The packed tables pass the tests of balance, and balance accepts them exactly where it accepts the tables.
use Rattle.std.specs.Prelude.{◌≡◌, true, false, not, ◌||◌, ℕ, suc, ◌<◌, ◌≤◌, ltb, length}
use Rattle.std.proofs.Math.Path.{refl}
use Rattle.std.proofs.Common.{sym, ap, ap₂, ◌∙◌, subst, arith, ltb-true, lt-ltb}
use Rattle.std.proofs.Math.Bool.{Bool, ◌&&◌}
use Rattle.std.proofs.Math.Option.{none}
use mathlib.Core.List.{List, [], ◌∷◌}
use Rattle.lists.specs.laws.Tests.{both_left, both_right}
use Rattle.field.specs.Known.{prime_of}
use Rattle.field.proofs.laws.Known.{modulus_of}
use Rattle.expression.specs.Choices.{limits_of}
use Rattle.expression.specs.Node.{node_count}
use Rattle.expression.specs.Refusal.{unless}
use Rattle.expression.specs.Tests.{degrees_low}
use Rattle.expression.specs.laws.Refusal.{unless_none}
use Rattle.expression.specs.declared.sizes.Limits.{Limits}
use Rattle.expression.specs.declared.refusal.Refusal.TheVariants.{SizeAtOdds, WordTooLarge, NodeInvalid, DegreeTooHigh, LookupInvalid, RowsMissing}
use Rattle.lookup.specs.Lookups.{lookup_count}
use Rattle.lookup.specs.Table.{Table}
use Rattle.lookup.specs.Tests.{sizes, words_below, known, lists_agree, has_lookups, preprocessed_enough}
use Rattle.lookup.specs.laws.Tested.{sizes_passed, fitting, agreeing}
use Rattle.balance.specs.Tables.{TableLists, tables_of, lists_fit}
use Rattle.balance.specs.Refusals.{all, listed, covered, tables_refusal}
use Rattle.balance.specs.Balance.{Check, check}
use Rattle.balance.proofs.laws.Passes.{check-passes}
use Rattle.balance.proofs.laws.Balance.{check-known}
use Rattle.theorems_packing.specs.Packed.{packed_table}
use Rattle.theorems_packing.specs.Passes.{Tested}
use Rattle.theorems_packing.specs.Lists.{lists_of}
use Rattle.theorems_packing.specs.Same.{IsPacked, AllPacked}
use Rattle.theorems_packing.specs.Accepted.{PackingAccepted, PackedListsAccepted, AtKnownChoices, KnownAccepted, KnownListsAccepted}
use Rattle.theorems_packing.proofs.laws.Each.{Each, each_and}
use Rattle.theorems_packing.proofs.laws.Lists.{Whole, tables-back, lists_of-fit, few_tables, whole_of}
use Rattle.theorems_packing.proofs.laws.Passes.{packed-passes, fewer_columns}
use Rattle.theorems_packing.proofs.laws.Packed.{Listed, all_same}
use Rattle.theorems_packing.proofs.laws.Same.{same-passes}

-- a test of all tables
all-each : (f : Table → Bool) (ts : List Table) → all f ts ≡ true → Each (λ (t : Table). f t ≡ true) ts
unfolding all
all-each f [] e = tt
all-each f (t ∷ ts) e = (both_left (f t) (all f ts) e, all-each f ts (both_right (f t) (all f ts) e))

each_all : (f : Table → Bool) (ts : List Table) → Each (λ (t : Table). f t ≡ true) ts → all f ts ≡ true
unfolding all
each_all f [] e = refl
each_all f (t ∷ ts) e = ap₂ ◌&&◌ e.0 (each_all f ts e.1)

-- what a table has that has none of refusals 1 to 5 and 9 of balance
record Entered (m : Limits) (p : ℕ) (t : Table) : Type 0 where
  tested : Tested m p t
  rows : covered t ≡ true

module _ (m : Limits) (p : ℕ) where
  abbrev degrees : Table → Bool
  degrees t = degrees_low m t.nodes

  entered-each : (ts : List Table) → all (sizes m) ts ≡ true → all (words_below p) ts ≡ true → all known ts ≡ true → all degrees ts ≡ true
      → all listed ts ≡ true → all covered ts ≡ true → Each (Entered m p) ts
  unfolding all listed
  entered-each [] a b c d e f = tt
  entered-each (t ∷ ts) a b c d e f = (
    record {
      tested =
          record {
            sizes_pass = both_left _ _ a;
            words_pass = both_left _ _ b;
            nodes_pass = both_left _ _ c;
            degrees_pass = both_left _ _ d;
            lists_pass = both_left _ _ e;
          };
      rows = both_left _ _ f;
    },
    entered-each ts (both_right (sizes m t) _ a) (both_right (words_below p t) _ b) (both_right (known t) _ c) (both_right (degrees t) _ d) (both_right (lists_agree (node_count t.nodes) t.lookups) _ e) (both_right (covered t) _ f),
  )

  refusal_none : (l : TableLists) → lists_fit m l ≡ true → Each (Entered m p) (tables_of l) → tables_refusal m p l ≡ none
  unfolding tables_refusal
  refusal_none l fit e =
      six (lists_fit m l && all (sizes m) ts) (all (words_below p) ts) (all known ts) (all degrees ts) (all listed ts) (all covered ts)
      (ap₂ ◌&&◌ fit (each (sizes m) (λ t k. k.tested.sizes_pass)))
      (each (words_below p) (λ t k. k.tested.words_pass)) (each known (λ t k. k.tested.nodes_pass)) (each degrees (λ t k. k.tested.degrees_pass))
      (each listed (λ t k. unfold listed in k.tested.lists_pass)) (each covered (λ t k. k.rows))
    where
      ts : List Table
      ts = tables_of l

      each : (f : Table → Bool) → ((t : Table) → Entered m p t → f t ≡ true) → all f (tables_of l) ≡ true
      each f h = each_all f (tables_of l) (each_and (Entered m p) (λ (t : Table). f t ≡ true) h (tables_of l) e)

      six : (a b c d e f : Bool) → a ≡ true → b ≡ true → c ≡ true → d ≡ true → e ≡ true → f ≡ true
          → unless a SizeAtOdds (unless b WordTooLarge (unless c NodeInvalid (unless d DegreeTooHigh (unless e LookupInvalid (unless f RowsMissing none))))) ≡ none
      six a b c d e f qa qb qc qd qe qf = rw (qa, qb, qc, qd, qe, qf)

  none_refusal : (l : TableLists) → tables_refusal m p l ≡ none → Each (Entered m p) (tables_of l)
  unfolding tables_refusal
  none_refusal l q =
      let ts : List Table = tables_of l in
      let a = unless_none (lists_fit m l && all (sizes m) ts) SizeAtOdds _ q in
      let b = unless_none (all (words_below p) ts) WordTooLarge _ a.1 in
      let c = unless_none (all known ts) NodeInvalid _ b.1 in
      let d = unless_none (all degrees ts) DegreeTooHigh _ c.1 in
      let e = unless_none (all listed ts) LookupInvalid _ d.1 in
      let f = unless_none (all covered ts) RowsMissing _ e.1 in
      entered-each ts (both_right (lists_fit m l) (all (sizes m) ts) a.0) b.0 c.0 d.0 e.0 f.0

  fits_of : (l : TableLists) → tables_refusal m p l ≡ none → lists_fit m l ≡ true
  unfolding tables_refusal
  fits_of l q =
      both_left (lists_fit m l) (all (sizes m) (tables_of l)) (unless_none (lists_fit m l && all (sizes m) (tables_of l)) SizeAtOdds _ q).0

  -- a packed table has what the table has
  packed-entered : {t u : Table} → IsPacked t u → Entered m p t → Entered m p u
  packed-entered {t} {u} k e =
      subst (Entered m p) (sym k.packed) (record { tested = (packed-passes m p k.limit t e.tested k.not_over).tested; rows = rowed })
    where
      rowed : covered (packed_table k.limit t) ≡ true
      rowed = unfold covered in unfold has_lookups in go (ltb 0 (lookup_count (packed_table k.limit t).lookups.lookups)) refl
        where
          P : Bool
          P = preprocessed_enough t.traces.shape

          own : (not (ltb 0 (lookup_count t.lookups.lookups)) || P) ≡ true
          own = unfold covered in unfold has_lookups in e.rows

          go : (b : Bool) → ltb 0 (lookup_count (packed_table k.limit t).lookups.lookups) ≡ b → (not b || P) ≡ true
          go true q =
              let h : 0 < lookup_count (packed_table k.limit t).lookups.lookups = ltb-true 0 _ q in
              let n : 0 < lookup_count t.lookups.lookups = omega (arith, fewer_columns k.limit t) in
              sym (ap (λ (b : Bool). not b || P) (lt-ltb 0 (lookup_count t.lookups.lookups) n)) ∙ own
          go false q = refl

  packed-each-entered : (ts us : List Table) → AllPacked ts us → Each (Entered m p) ts → Each (Entered m p) us
  packed-each-entered [] [] k e = tt
  packed-each-entered [] (u ∷ us) k e = absurd k
  packed-each-entered (t ∷ ts) [] k e = absurd k
  packed-each-entered (t ∷ ts) (u ∷ us) k e = (packed-entered k.0 e.0, packed-each-entered ts us k.1 e.1)

  entered-listed : (t : Table) → Entered m p t → Listed t
  entered-listed t e = record { fitting = fitting t.lookups (sizes_passed m t e.tested.sizes_pass).4; agreeing = agreeing (node_count t.nodes) t.lookups e.tested.lists_pass }

same-many : (ts us : List Table) → AllPacked ts us → length us ≡ length ts
same-many [] [] k = refl
same-many [] (u ∷ us) k = absurd k
same-many (t ∷ ts) [] k = absurd k
same-many (t ∷ ts) (u ∷ us) k = ap suc (same-many ts us k.1)

pub packing-accepted : (m : Limits) (p : ℕ) → 0 < p → PackingAccepted m p (check m p)
packing-accepted m p z l l' k fit q =
    record {
      tests = passes';
      accepted = λ workspace.
          let together = same-passes p (length workspace) z (tables_of l) (tables_of l') (all_same p (tables_of l) (tables_of l') (each_and (Entered m p) Listed (entered-listed m p) (tables_of l) e) k) in
          let a = check-passes m p z l workspace in
          let b = check-passes m p z l' workspace in
          (λ h. b.1 (passes', together.0 (a.0 h).1), λ h. a.1 (q, together.1 (b.0 h).1));
    }
  where
    e : Each (Entered m p) (tables_of l)
    e = none_refusal m p l q

    passes' : tables_refusal m p l' ≡ none
    passes' = refusal_none m p l' fit (packed-each-entered m p (tables_of l) (tables_of l') k e)

-- the packed tables as a caller lends them
pub packed-lists-accepted : (m : Limits) (p : ℕ) → 0 < p → PackedListsAccepted m p (check m p)
packed-lists-accepted m p z l us k q =
    packing-accepted m p z l (lists_of us) (subst (AllPacked (tables_of l)) (sym (tables-back us whole)) k) (lists_of-fit m us few whole) q
  where
    e : Each (Entered m p) us
    e = packed-each-entered m p (tables_of l) us k (none_refusal m p l q)

    whole : Each Whole us
    whole = each_and (Entered m p) Whole (λ u x. whole_of m u x.tested.sizes_pass) us e

    few : length us ≤ m.tables
    few =
        let n : length (tables_of l) ≤ m.tables = few_tables m l (fits_of m p l q) in
        omega (arith, same-many (tables_of l) us k)

-- what holds for every modulus, at the entry point
at_known : (S : Limits → ℕ → Check → Type 0) → ((m : Limits) (p : ℕ) → 0 < p → S m p (check m p)) → AtKnownChoices S
at_known S holds c k =
    subst (S (limits_of c.profile) (prime_of c.field)) (sym (check-known c k))
    (holds (limits_of c.profile) (prime_of c.field) (omega (arith, (modulus_of c.field).big)))

pub known-accepted : KnownAccepted
known-accepted = at_known PackingAccepted packing-accepted

pub known-lists-accepted : KnownListsAccepted
known-lists-accepted = at_known PackedListsAccepted packed-lists-accepted
