-- The lowest number of any table is the first number of all tables.
use Rattle.std.specs.Prelude.{◌≡◌, Bool, true, false, cond, ◌&&◌, length}
use Rattle.std.proofs.Math.Path.{refl, ap₂}
use Rattle.std.proofs.Common.{sym, ap, ◌∙◌, arith, le-leb}
use Rattle.std.proofs.Math.Option.{Option, none, some}
use Prim.Native.Nat.{ℕ, zero, suc, ◌<◌}
use Rattle.std.proofs.lemmas.Bool.{lt-leb}
use Rattle.lists.specs.Count.{every, or_else}
use Rattle.expression.specs.Node.{node_count}
use Rattle.expression.specs.Refusal.{number, unless}
use Rattle.expression.specs.Tests.{nodes_known, degrees_low}
use Rattle.expression.specs.declared.sizes.Limits.{Limits}
use Rattle.expression.specs.declared.refusal.Refusal.{Refusal}
use Rattle.expression.specs.declared.refusal.Refusal.TheVariants.{SizeAtOdds, WordTooLarge, NodeInvalid, DegreeTooHigh, LookupInvalid, RowsMissing}
use Rattle.lookup.specs.Table.{Table}
use Rattle.lookup.specs.Tests.{sizes, words_below, known, lists_agree}
use Rattle.lookup.specs.Refusals.{nodes_refusal, lists_refusal, table_refusal}
use Rattle.balance.specs.Tables.{TableLists, table_count, table_at, lists_fit}
use Rattle.balance.specs.Refusals.{listed, covered, tables_refusal}
use Rattle.balance.proofs.laws.Whole.{all-tables}
use Rattle.balance_groups.specs.inner.Lowest.{rank, lower, lowest, one_refusal}

rank-unless : (n : ℕ) (b : Bool) (f : Refusal) (x : Option Refusal) → n < number f → n < rank x → n < rank (unless b f x)
rank-unless n true f x h g = g
rank-unless n false f x h g = h

-- one test of two
both : (a b : Bool) (f : Refusal) (x y : Option Refusal) → number f < rank x → number f < rank y → unless (a && b) f (lower x y) ≡ lower (unless a f x) (unless b f y)
both true true f x y h g = refl
both true false f x y h g = sym (ap (λ (b : Bool). cond b x (some f)) (lt-leb (rank x) (number f) h))
both false true f x y h g = sym (ap (λ (b : Bool). cond b (some f) y) (le-leb (number f) (rank y) (omega arith)))
both false false f x y h g = sym (ap (λ (b : Bool). cond b (some f) (some f)) (le-leb (number f) (number f) (omega arith)))

-- a run of six tests
abbrev run : Bool → Bool → Bool → Bool → Bool → Bool → Option Refusal
run s w k d a c =
    unless s SizeAtOdds (unless w WordTooLarge (unless k NodeInvalid (unless d DegreeTooHigh (unless a LookupInvalid (unless c RowsMissing none)))))

run-both : (s w k d a c s' w' k' d' a' c' : Bool) → run (s && s') (w && w') (k && k') (d && d') (a && a') (c && c') ≡ lower (run s w k d a c) (run s' w' k' d' a' c')
run-both s w k d a c s' w' k' d' a' c' =
    ap (λ (o : Option Refusal). unless (s && s') SizeAtOdds o)
    (ap (λ (o : Option Refusal). unless (w && w') WordTooLarge o)
    (ap (λ (o : Option Refusal). unless (k && k') NodeInvalid o)
    (ap (λ (o : Option Refusal). unless (d && d') DegreeTooHigh o)
    (ap (λ (o : Option Refusal). unless (a && a') LookupInvalid o) (both c c' RowsMissing none none (omega arith) (omega arith))
    ∙ both a a' LookupInvalid (R c) (R c') (r5 c) (r5 c'))
    ∙ both d d' DegreeTooHigh (A a c) (A a' c') (r4 a c) (r4 a' c'))
    ∙ both k k' NodeInvalid (D d a c) (D d' a' c') (r3 d a c) (r3 d' a' c'))
    ∙ both w w' WordTooLarge (K k d a c) (K k' d' a' c') (r2 k d a c) (r2 k' d' a' c'))
    ∙ both s s' SizeAtOdds (W w k d a c) (W w' k' d' a' c') (r1 w k d a c) (r1 w' k' d' a' c')
  where
    R : Bool → Option Refusal
    R c = unless c RowsMissing none

    A : Bool → Bool → Option Refusal
    A a c = unless a LookupInvalid (R c)

    D : Bool → Bool → Bool → Option Refusal
    D d a c = unless d DegreeTooHigh (A a c)

    K : Bool → Bool → Bool → Bool → Option Refusal
    K k d a c = unless k NodeInvalid (D d a c)

    W : Bool → Bool → Bool → Bool → Bool → Option Refusal
    W w k d a c = unless w WordTooLarge (K k d a c)

    over : (n : ℕ) (c : Bool) → n < 9 → n < rank (R c)
    over n c h = rank-unless n c RowsMissing none h (omega arith)

    r5 : (c : Bool) → 5 < rank (R c)
    r5 c = over 5 c (omega arith)

    r4 : (a c : Bool) → 4 < rank (A a c)
    r4 a c = rank-unless 4 a LookupInvalid (R c) (omega arith) (over 4 c (omega arith))

    r3 : (d a c : Bool) → 3 < rank (D d a c)
    r3 d a c = rank-unless 3 d DegreeTooHigh (A a c) (omega arith) (rank-unless 3 a LookupInvalid (R c) (omega arith) (over 3 c (omega arith)))

    r2 : (k d a c : Bool) → 2 < rank (K k d a c)
    r2 k d a c =
        rank-unless 2 k NodeInvalid (D d a c) (omega arith)
        (rank-unless 2 d DegreeTooHigh (A a c) (omega arith) (rank-unless 2 a LookupInvalid (R c) (omega arith) (over 2 c (omega arith))))

    r1 : (w k d a c : Bool) → 1 < rank (W w k d a c)
    r1 w k d a c =
        rank-unless 1 w WordTooLarge (K k d a c) (omega arith)
        (rank-unless 1 k NodeInvalid (D d a c) (omega arith)
        (rank-unless 1 d DegreeTooHigh (A a c) (omega arith) (rank-unless 1 a LookupInvalid (R c) (omega arith) (over 1 c (omega arith)))))

-- what comes after the tests of one table
or_unless : (b : Bool) (f : Refusal) (x y : Option Refusal) → or_else (unless b f x) y ≡ unless b f (or_else x y)
or_unless true f x y = refl
or_unless false f x y = refl

one-run : (m : Limits) (p : ℕ) (t : Table) → one_refusal m p t ≡ run (sizes m t) (words_below p t) (known t) (degrees_low m t.nodes) (listed t) (covered t)
unfolding one_refusal table_refusal nodes_refusal lists_refusal known listed
one-run m p t =
    or_unless (sizes m t) SizeAtOdds _ C
    ∙ ap (λ (o : Option Refusal). unless (sizes m t) SizeAtOdds o)
    (or_unless (words_below p t) WordTooLarge _ C
    ∙ ap (λ (o : Option Refusal). unless (words_below p t) WordTooLarge o)
    (or_unless (nodes_known t.traces.shape (length t.traces.public_values) t.nodes) NodeInvalid _ C
    ∙ ap (λ (o : Option Refusal). unless (nodes_known t.traces.shape (length t.traces.public_values) t.nodes) NodeInvalid o)
    (or_unless (degrees_low m t.nodes) DegreeTooHigh _ C
    ∙ ap (λ (o : Option Refusal). unless (degrees_low m t.nodes) DegreeTooHigh o)
    (or_unless (lists_agree (node_count t.nodes) t.lookups) LookupInvalid none C))))
  where
    C : Option Refusal
    C = unless (covered t) RowsMissing none

module _ (m : Limits) (p : ℕ) (f : ℕ → Table) where
  runs_lowest : (n : ℕ)
      → run (every (λ t. sizes m (f t)) n) (every (λ t. words_below p (f t)) n) (every (λ t. known (f t)) n) (every (λ t. degrees_low m (f t).nodes) n) (every (λ t. listed (f t)) n) (every (λ t. covered (f t)) n)
      ≡ lowest (λ t. one_refusal m p (f t)) n
  unfolding every lowest
  runs_lowest zero = refl
  runs_lowest (suc n) =
      run-both (every (λ t. sizes m (f t)) n) (every (λ t. words_below p (f t)) n) (every (λ t. known (f t)) n) (every (λ t. degrees_low m (f t).nodes) n) (every (λ t. listed (f t)) n) (every (λ t. covered (f t)) n)
      (sizes m (f n)) (words_below p (f n)) (known (f n)) (degrees_low m (f n).nodes) (listed (f n)) (covered (f n))
      ∙ ap₂ lower (runs_lowest n) (sym (one-run m p (f n)))

-- The code's way, where the lists fit.
pub tables-lowest : (m : Limits) (p : ℕ) (l : TableLists) → lists_fit m l ≡ true → tables_refusal m p l ≡ lowest (λ t. one_refusal m p (table_at l t)) (table_count l.sizes)
unfolding tables_refusal
tables-lowest m p l h =
    (λ j. run (h j && all-tables (sizes m) l j) (all-tables (words_below p) l j) (all-tables known l j) (all-tables (λ (t : Table). degrees_low m t.nodes) l j) (all-tables listed l j) (all-tables covered l j))
    ∙ runs_lowest m p (table_at l) (table_count l.sizes)

pub tables_unfit : (m : Limits) (p : ℕ) (l : TableLists) → lists_fit m l ≡ false → tables_refusal m p l ≡ some SizeAtOdds
unfolding tables_refusal
tables_unfit m p l h = rw h
