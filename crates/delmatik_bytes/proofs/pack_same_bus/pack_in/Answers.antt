use Rattle.delmatik_bytes.specs.inner.Words.{lookups_in}
use Rattle.delmatik_bytes.specs.laws.Pack.{counts_in}
use Rattle.delmatik_bytes.proofs.Outcomes.{outcome_is}
use Rattle.wire.specs.inner.Place.{parts, five_ends, Split}
use Rattle.wire.specs.declared.room.Ends.{Ends}
use Rattle.expression.specs.laws.Tested.{limits_sane}
use Rattle.expression.specs.Choices.{limits_of}
use Rattle.expression.specs.declared.choices.Choices.{Choices}
use Rattle.field.specs.Known.{prime_of}
use Rattle.packing_entry.proofs.Answers.{whole, held, answer-small, answer-refused, answer_formed}
use Rattle.packing_columns.specs.inner.Layout.{counts_hold}
use Rattle.packing.specs.declared.answer.Counts.{Counts}
use Rattle.packing.specs.PackSameBus.{Outcome, counts, packing}
use Rattle.lookup_degree.specs.laws.Formed.{formed}
use Rattle.lookup.specs.Lookups.{Lookups}
use Rattle.lookup.specs.Refusals.{form_refusal}
use Rattle.lookup.specs.declared.refusals.Columns.{Columns}
use Rattle.expression.specs.declared.sizes.Limits.{Limits}
use Rattle.expression.specs.declared.refusal.Refusal.{Refusal}
use Rattle.expression.specs.Refusal.{refusal}
use Prim.Native.Nat.{ℕ, ◌-◌}
use mathlib.Core.Bool.{Bool}
use mathlib.Core.Option.{Option}
use mathlib.Core.List.{List}
use lib.ListN.{length, take, drop}
use mathlib.Core.Path.{◌≡◌, sym, ap, ap₂, ◌∙◌}
use Rattle.std.specs.Prelude.{Err}
use borrow.Author.Rules.{rules}
use Rattle.delmatik_bytes.proofs.pack_same_bus.pack_in.Goals as goal

-- the test by the ends of the parts is that of the lists in them
hold_so : {b : Bool} (own : Counts) (room names : List ℕ) (x : Ends) → Split x (length room)
    → b ≡ counts_hold own (record { lookups = x.first; names = length names; tuples = x.second - x.first; multiplicities = x.third - x.second; flags = x.fourth - x.third; elements = x.fifth - x.fourth })
    → b ≡ counts_hold own (counts (lookups_in names (parts room 0 (five_ends x))))
hold_so own room names x s e = e ∙ ap (counts_hold own) (counts_in room x s names)

-- the verdict at the limits and the prime of the choices
form_so : {m m' : Limits} {p p' : ℕ} {v : Option Refusal} (k : Columns) (nodes : List ℕ) (l : Lookups) → m ≡ m' → p ≡ p' → v ≡ form_refusal m p k nodes l
    → v ≡ form_refusal m' p' k nodes l
form_so k nodes l e f g = g ∙ ap₂ (λ (m : Limits) (p : ℕ). form_refusal m p k nodes l) e f

-- the outcome on the lookups that were cut from the room
in_room : (c : Choices) (limit : ℕ) (k : Columns) (nodes : List ℕ) (lent : Lookups) {l l' : Lookups} {o : Outcome}
    → o ≡ packing (limits_of c.profile) (prime_of c.field) limit k nodes l lent → l ≡ l' → o ≡ packing (limits_of c.profile) (prime_of c.field) limit k nodes l' lent
in_room c limit k nodes lent e f = e ∙ ap (λ (x : Lookups). packing (limits_of c.profile) (prime_of c.field) limit k nodes x lent) f

pub lookups_in-lookups-requires : goal.lookups_in-lookups-requires
lookups_in-lookups-requires c = c.requires.0

pub returns-then-not-counts_hold : goal.returns-then-not-counts_hold
returns-then-not-counts_hold c =
    let a = c.args in
    in_room a.choices a.limit a.columns (take (a.nodes_end - 0) (drop 0 a.room.now)) (lookups_in a.names_out.now (parts a.out_room.now 0 (five_ends a.out_ends)))
    (outcome_is (answer-small _ _ _ _ _ _ _ (hold_so _ a.out_room.now a.names_out.now a.out_ends c.requires.1 c.counts_hold.ensures) c.if-not-counts_hold.true))
    c.lookups_in-lookups.ensures

pub form_refusal-requires : goal.form_refusal-requires
form_refusal-requires c = rw c.limits_of-limits.ensures (limits_sane _)

pub pack_formed-requires : goal.pack_formed-requires
pack_formed-requires c =
    let a = c.args in
    let sane = limits_sane a.choices.profile in
    let none_refused = sym (form_so a.columns _ _ c.limits_of-limits.ensures c.prime_of.ensures c.form_refusal.ensures) ∙ ap refusal c.in_ok-form_refusal.was in
    let form = formed _ _ _ _ _ sane none_refused in (
      rw c.limits_of-limits.ensures form,
      whole _ _ _ _ _ sane form none_refused,
      c.requires.1,
      held _ _ (hold_so _ a.out_room.now a.names_out.now a.out_ends c.requires.1 c.counts_hold.ensures) c.if-not-counts_hold.false,
    )

pub returns-in_err-form_refusal : goal.returns-in_err-form_refusal
returns-in_err-form_refusal c =
    let a = c.args in
    let e : c.from_residual.result ≡ Err c.in_err-form_refusal.field-0.0 = search rules in
    rw e (in_room a.choices a.limit a.columns (take (a.nodes_end - 0) (drop 0 a.room.now)) (lookups_in a.names_out.now (parts a.out_room.now 0 (five_ends a.out_ends)))
    (outcome_is (answer-refused _ _ _ _ _ _ _ (hold_so _ a.out_room.now a.names_out.now a.out_ends c.requires.1 c.counts_hold.ensures) c.if-not-counts_hold.false
    (form_so a.columns _ _ c.limits_of-limits.ensures c.prime_of.ensures c.form_refusal.ensures) c.in_err-form_refusal.was)) c.lookups_in-lookups.ensures)

pub returns : goal.returns
returns c =
    let a = c.args in
    let o = c.pack_formed.ensures in
    in_room a.choices a.limit a.columns (take (a.nodes_end - 0) (drop 0 a.room.now)) (lookups_in a.names_out.now (parts a.out_room.now 0 (five_ends a.out_ends)))
    (outcome_is (answer_formed _ _ _ _ _ _ _ (hold_so _ a.out_room.now a.names_out.now a.out_ends c.requires.1 c.counts_hold.ensures) c.if-not-counts_hold.false
    (form_so a.columns _ _ c.limits_of-limits.ensures c.prime_of.ensures c.form_refusal.ensures) c.in_ok-form_refusal.was
    (ap (λ (z : Outcome). z.answer) o, ap (λ (z : Outcome). z.lists) o)))
    c.lookups_in-lookups.ensures
