-- The runs of tests, return by return.
use Rattle.std.specs.Prelude.{◌≡◌, refl, Bool, true, false, ◌&&◌, ℕ, Err, Ok}
use Rattle.std.proofs.Common.{sym, ap, ◌∙◌}
use Rattle.std.proofs.Math.Option.{Option, none, some, some-ne-none}
use Rattle.std.specs.Result.{result_and}
use Rattle.lists.specs.Count.{or_else}
use Rattle.expression.specs.Refusal.{unless, refusal}
use Rattle.expression.specs.Node.{node_count}
use Rattle.expression.specs.Tests.{degrees_low}
use Rattle.expression.specs.declared.sizes.Limits.{Limits}
use Rattle.expression.specs.declared.refusal.Refusal.{Refusal}
use Rattle.expression.specs.declared.refusal.Refusal.TheVariants.{SizeAtOdds, WordTooLarge, NodeInvalid, DegreeTooHigh, LookupInvalid}
use Rattle.expression.specs.Refusal.{Verdict}
use Rattle.lookup.specs.Table.{Table}
use Rattle.lookup.specs.Tests.{sizes, words_below, known, lists_agree, in_position}
use Rattle.logup_column.specs.inner.Refusals.{position_refusal, table_tests}
use Rattle.logup_column.specs.inner.Tested.{Tested}
use Rattle.logup_column.specs.laws.Tested.{tested}

pub stops : (b : Bool) (f : Refusal) (later : Option Refusal) → b ≡ false → some f ≡ unless b f later
stops b f later e = rw e

pub passes : {o : Option Refusal} (b : Bool) (f : Refusal) (later : Option Refusal) → b ≡ true → o ≡ later → o ≡ unless b f later
passes b f later e k = rw e k

unless_later : (b : Bool) (f : Refusal) (x later : Option Refusal) → unless b f (or_else x later) ≡ or_else (unless b f x) later
unless_later true f x later = refl
unless_later false f x later = refl

-- 1 to 5 come before the rest
pub tests_later : (m : Limits) (p : ℕ) (t : Table) (fit low : Bool) (later : Option Refusal) → table_tests m p t fit low later ≡ or_else (table_tests m p t fit low none) later
unfolding table_tests position_refusal
tests_later m p t fit low later =
    let a : Bool = sizes m t && fit in
    let b : Bool = words_below p t && low in
    let c : Bool = known t in
    let d : Bool = degrees_low m t.nodes in
    let e : Bool = lists_agree (node_count t.nodes) t.lookups && in_position t.lookups.lookups in
    let e5 = unless_later e LookupInvalid none later in
    let e4 = ap (unless d DegreeTooHigh) e5 ∙ unless_later d DegreeTooHigh (unless e LookupInvalid none) later in
    let e3 = ap (unless c NodeInvalid) e4 ∙ unless_later c NodeInvalid (unless d DegreeTooHigh (unless e LookupInvalid none)) later in
    let e2 = ap (unless b WordTooLarge) e3 ∙ unless_later b WordTooLarge (unless c NodeInvalid (unless d DegreeTooHigh (unless e LookupInvalid none))) later in
    ap (unless a SizeAtOdds) e2 ∙ unless_later a SizeAtOdds (unless b WordTooLarge (unless c NodeInvalid (unless d DegreeTooHigh (unless e LookupInvalid none)))) later

-- both runs in one, after a refusal of the first and without one; the two tests beside the table are what their functions answer
module _ {fit' low' : Bool} (m : Limits) (p : ℕ) (t : Table) (fit low : Bool) (later : Option Refusal) (ef : fit' ≡ fit) (el : low' ≡ low) where
  both : {o : Option Refusal} → o ≡ table_tests m p t fit' low' none → or_else o later ≡ table_tests m p t fit low later
  both e = ap (λ (o : Option Refusal). or_else o later) (e ∙ (λ j. table_tests m p t (ef j) (el j) none)) ∙ sym (tests_later m p t fit low later)

  pub entry-some : (f : Refusal) → some f ≡ table_tests m p t fit' low' none
      → (some f ≡ table_tests m p t fit low later) × (◌≡◌ {A = Option Refusal} (some f) none → Tested m p t fit low × (later ≡ none))
  entry-some f e = (both e, λ n. absurd (some-ne-none f n))

  pub entry_none : {o : Option Refusal} → none ≡ table_tests m p t fit' low' none → o ≡ later
      → (o ≡ table_tests m p t fit low later) × (o ≡ none → Tested m p t fit low × (later ≡ none))
  entry_none e k = (k ∙ both e, λ n. (tested m p t fit low (sym (e ∙ (λ j. table_tests m p t (ef j) (el j) none))), sym k ∙ n))

-- the first of two verdicts
pub and_refusal : {x : Verdict} (a b : Verdict) → x ≡ result_and a b → refusal x ≡ or_else (refusal a) (refusal b)
and_refusal (Ok u) b e = ap refusal e
and_refusal (Err f) b e = ap refusal e

-- what a verdict answers, from its variant
pub accepted-answer : {v : Verdict} {o : Option Refusal} → v ≡ Ok tt → refusal v ≡ o → none ≡ o
accepted-answer e k = sym (ap refusal e) ∙ k

pub refused-answer : {v : Verdict} {o : Option Refusal} (f : Refusal) → v ≡ Err f → refusal v ≡ o → some f ≡ o
refused-answer f e k = sym (ap refusal e) ∙ k
