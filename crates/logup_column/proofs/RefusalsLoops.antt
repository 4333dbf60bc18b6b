-- The tests of refusals 1 to 5, return by return.
use mathlib.Core.Path.{◌≡◌, sym, ap, ◌∙◌}
use mathlib.Core.Bool.{Bool, true, false, ◌&&◌}
use mathlib.Core.Option.{Option, none, some}
use Prim.Native.Nat.{ℕ, ◌≤◌}
use lib.ListN.{length}
use Rattle.lists.specs.Count.{or_else}
use Rattle.lists.specs.laws.Tests.{both_left}
use Rattle.std.specs.Prelude.{Ok, Err}
use Rattle.expression.specs.Refusal.{Verdict, refusal}
use Rattle.expression.specs.Limits.{Sane}
use Rattle.expression.specs.Node.{node_count}
use Rattle.expression.specs.declared.sizes.Limits.{Limits}
use Rattle.expression.specs.declared.refusal.Refusal.{Refusal}
use Rattle.expression.specs.declared.refusal.Refusal.TheVariants.{SizeAtOdds, WordTooLarge}
use Rattle.lookup.specs.Refusals.{nodes_refusal}
use Rattle.lookup.specs.Table.{Table}
use Rattle.lookup.specs.Tests.{sizes, words_below, known}
use Rattle.logup_column.specs.inner.Refusals.{position_refusal, table_tests}
use Rattle.lookup.specs.laws.Tested.{few_nodes}
use Rattle.logup_column.specs.laws.Refusals.{stops, passes}

-- a `?` that returns, and one that goes on
pub stopped : {x : Verdict} {f : Refusal} (y : Option Refusal) → x ≡ Err f → some f ≡ or_else (refusal x) y
stopped y e = rw e

pub went_on : {x : Verdict} (y : Option Refusal) → x ≡ Ok tt → y ≡ or_else (refusal x) y
went_on y e = rw e

module _ (m : Limits) (t : Table) (fit : Bool) {a : Bool} (ea : a ≡ sizes m t) (y : (a && fit) ≡ true) where
  sized : (sizes m t && fit) ≡ true
  sized = ap (λ (b : Bool). b && fit) (sym ea) ∙ y

  pub table-nodes : Sane m → node_count t.nodes ≤ 1024
  table-nodes g = few_nodes m t g (both_left (sizes m t) fit sized)

module _ (m : Limits) (p : ℕ) (t : Table) (fit low : Bool) where
  pub table_1 : {a : Bool} → a ≡ sizes m t → (a && fit) ≡ false → some SizeAtOdds ≡ table_tests m p t fit low none
  unfolding table_tests
  table_1 {a} ea x = stops (sizes m t && fit) SizeAtOdds _ (ap (λ (b : Bool). b && fit) (sym ea) ∙ x)

  module _ {a b : Bool} (ea : a ≡ sizes m t) (ya : (a && fit) ≡ true) (eb : b ≡ words_below p t) where
    pub table_2 : (b && low) ≡ false → some WordTooLarge ≡ table_tests m p t fit low none
    unfolding table_tests
    table_2 x =
        passes (sizes m t && fit) SizeAtOdds _ (sized m t fit ea ya)
        (stops (words_below p t && low) WordTooLarge _ (ap (λ (x : Bool). x && low) (sym eb) ∙ x))

    pub table-rest : {o : Option Refusal} (x y : Option Refusal) → (b && low) ≡ true
        → ((later : Option Refusal) → or_else x later ≡ nodes_refusal m t.traces.shape (length t.traces.public_values) t.nodes later)
        → y ≡ position_refusal (node_count t.nodes) t.lookups none → o ≡ or_else x y → o ≡ table_tests m p t fit low none
    unfolding table_tests position_refusal nodes_refusal known
    table-rest x y yb en ep eo =
        passes (sizes m t && fit) SizeAtOdds _ (sized m t fit ea ya)
        (passes (words_below p t && low) WordTooLarge _ (ap (λ (x : Bool). x && low) (sym eb) ∙ yb)
        (eo ∙ ap (or_else x) ep ∙ en (position_refusal (node_count t.nodes) t.lookups none)))
