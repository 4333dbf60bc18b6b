-- The ways out of the entry point.
use Rattle.std.specs.Prelude.{Result, Err, Ok}
use mathlib.Core.Path.{◌≡◌, sym, ap, ap₂, ◌∙◌}
use mathlib.Core.Bool.{Bool, true, false, not, cond}
use mathlib.Core.Option.{Option, none, some}
use mathlib.Core.List.{List, ◌++◌}
use Prim.Native.Nat.{ℕ}
use lib.ListN.{length}
use borrow.Author.Tests.{not-true, not-false}
use Rattle.lists.specs.Fold.{fold}
use Rattle.field.specs.inner.Requires.{KnownPrime}
use Rattle.field.specs.Known.{prime_of}
use Rattle.expression.specs.Limits.{Sane}
use Rattle.expression.specs.Choices.{known, limits_of}
use Rattle.expression.specs.Refusal.{refusal}
use Rattle.expression.specs.declared.choices.Choices.{Choices}
use Rattle.expression.specs.declared.sizes.Limits.{Limits}
use Rattle.expression.specs.declared.refusal.Refusal.{Refusal}
use Rattle.expression.specs.declared.refusal.Refusal.TheVariants.{SizeAtOdds}
use Rattle.expression.specs.Refusal.{Verdict}
use Rattle.lookup.specs.Lookups.{lookup_count}
use Rattle.balance.specs.Tables.{TableLists, table_count, table_at, tables_of, lists_fit}
use Rattle.balance.specs.Refusals.{tables_refusal}
use Rattle.balance.specs.Groups.{members, groups}
use Rattle.balance.specs.Balance.{Visited, visit, unvisited, balance, Outcome, outcome, check, check_at, in_numbers}
use Rattle.balance.proofs.laws.Whole.{fitted}
use Rattle.balance_groups.specs.declared.check.GroupRefused.{GroupRefused}
use Rattle.balance_groups.specs.inner.Visits.{visited_of}
use Rattle.balance_groups.specs.inner.ByNumber.{groups_to}
use Rattle.balance_groups.specs.laws.Groups.{groups_are}
use Rattle.balance_groups.specs.inner.Lowest.{lowest, one_refusal}
use Rattle.balance_groups.specs.laws.Lowest.{tables-lowest, tables_unfit}

-- a visit's answer, once it is known
pub visited : {r r' : Result ℕ GroupRefused} {x : Visited} (workspace : List ℕ) → r ≡ r' → visited_of workspace r ≡ x → visited_of workspace r' ≡ x
visited workspace e h = sym (ap (visited_of workspace) e) ∙ h

-- the entry point's ways out
module _ (m : Limits) (p : ℕ) (l : TableLists) (workspace : List ℕ) where
  pub unfit : {b : Bool} → b ≡ lists_fit m l → not b ≡ true → record { refusal = some SizeAtOdds; workspace = workspace } ≡ check m p l workspace
  unfolding check
  unfit {b} e t = sym (ap (λ (o : Option Refusal). outcome o (balance p (length workspace) (tables_of l)) workspace) (tables_unfit m p l (sym e ∙ not-true b t)))

  found : {b : Bool} {o : Option Refusal} → b ≡ lists_fit m l → not b ≡ false → o ≡ lowest (λ t. one_refusal m p (table_at l t)) (table_count l.sizes) → o ≡ tables_refusal m p l
  found {b} e t h = h ∙ sym (tables-lowest m p l (sym e ∙ not-false b t))

  -- the tables are refused, or they are not
  pub refused : {b : Bool} {v w : Verdict} {f : Refusal} → b ≡ lists_fit m l → not b ≡ false → refusal v ≡ lowest (λ t. one_refusal m p (table_at l t)) (table_count l.sizes) → v ≡ Err f → w ≡ Err f
      → record { refusal = refusal w; workspace = workspace } ≡ check m p l workspace
  unfolding check
  refused {b} {v} {w} {f} e t h ev ew =
      let q : refusal w ≡ tables_refusal m p l = ap refusal (ew ∙ sym ev) ∙ found e t h in
      ap said (ap refusal ew) ∙ ap (λ (o : Option Refusal). outcome o (balance p (length workspace) (tables_of l)) workspace) (sym (ap refusal ew) ∙ q)
    where
      said : Option Refusal → Outcome
      said o = record { refusal = o; workspace = workspace }

  pub nothing : {b : Bool} {v : Verdict} {u : Unit {0}} → b ≡ lists_fit m l → not b ≡ false → refusal v ≡ lowest (λ t. one_refusal m p (table_at l t)) (table_count l.sizes) → v ≡ Ok u → tables_refusal m p l ≡ none
  nothing {b} e t h ev = sym (found e t h) ∙ ap refusal ev

  pub answered : {x : Visited} → Sane m → KnownPrime p → tables_refusal m p l ≡ none
      → x ≡ fold (visit p (length workspace)) (unvisited (length workspace)) (groups_to l false (lookup_count l.lookups.lookups) ++ groups_to l true (lookup_count l.lookups.lookups))
      → record { refusal = x.refusal; workspace = x.workspace } ≡ check m p l workspace
  unfolding check balance
  answered {x} g o e h =
      ap (λ (v : Visited). outcome none v workspace) (h ∙ ap (fold (visit p (length workspace)) (unvisited (length workspace))) (sym (groups_are l (fitted m p l g o e))))
      ∙ sym (ap (λ (r : Option Refusal). outcome r (fold (visit p (length workspace)) (unvisited (length workspace)) (groups (members (tables_of l)))) workspace) e)

-- the entry point at its choices, and the answer in numbers
module _ (c : Choices) (l : TableLists) (workspace : List ℕ) where
  abbrev at_known : Bool → Outcome
  at_known b = cond b (check (limits_of c.profile) (prime_of c.field) l workspace) (record { refusal = some SizeAtOdds; workspace = workspace })

  pub unknown : {b : Bool} → b ≡ known c → not b ≡ true → in_numbers (record { refusal = some SizeAtOdds; workspace = workspace }) ≡ in_numbers (check_at c l workspace)
  unfolding check_at
  unknown {b} e t = ap (λ (x : Bool). in_numbers (at_known x)) (sym (not-true b t) ∙ e)

  pub at_choices : {b : Bool} {m : Limits} {p : ℕ} {x : Outcome} → b ≡ known c → not b ≡ false → m ≡ limits_of c.profile → p ≡ prime_of c.field
      → x ≡ check m p l workspace → in_numbers x ≡ in_numbers (check_at c l workspace)
  unfolding check_at
  at_choices {b} e t f g h =
      ap in_numbers (h ∙ ap₂ (λ (m : Limits) (p : ℕ). check m p l workspace) f g) ∙ ap (λ (x : Bool). in_numbers (at_known x)) (sym (not-false b t) ∙ e)
