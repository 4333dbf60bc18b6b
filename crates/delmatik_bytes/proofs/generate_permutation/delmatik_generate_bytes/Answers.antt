use Rattle.delmatik_bytes.specs.laws.Generate.{fitting, unknown, odd}
use Rattle.delmatik_bytes.proofs.Rooms.{both_told}
use Rattle.wire.specs.laws.Room.{front_fits, back_fits, ten, ordered, one-alone, one-fits, one_still_fits, given_back}
use Rattle.wire.specs.inner.Place.{parts, both_ends}
use Rattle.lists.specs.laws.Tests.{both_left, both_right}
use native.Mathlib.Nat.{le_of_eq}
use mathlib.Core.Bool.{◌&&◌}
use mathlib.Core.List.{List, [], ◌∷◌}
use Prim.Native.Nat.{ℕ}
use mathlib.Core.Path.{refl, sym, ap₂, ◌∙◌}
use Rattle.delmatik_bytes.proofs.generate_permutation.delmatik_generate_bytes.Goals as goal

pub returns-then-not-known-known_rule : goal.returns-then-not-known-known_rule
returns-then-not-known-known_rule c =
    unknown _ _ _ _ _ _ _ _ (sym (ap₂ ◌&&◌ c.known.ensures c.known_rule.ensures) ∙ c.if-not-known-known_rule.true) refl c.tell_generated.ensures

pub returns-then-not-filled : goal.returns-then-not-filled
returns-then-not-filled c =
    let a = c.args in
    let front : List (List ℕ) = a.main.now ∷ a.preprocessed.now ∷ a.public_values.now ∷ a.nodes.now ∷ a.challenges.now ∷ [] in
    let back : List (List ℕ) = a.lookups.now ∷ a.tuples.now ∷ a.multiplicities.now ∷ a.flags.now ∷ a.elements.now ∷ [] in
    let told = both_told front back (a.trace.now ∷ []) a.room.now a.trace_room.now c.less_five-left.ensures c.less_five-left-2.ensures c.filled.ensures
    c.less-trace_left.ensures c.filled-2.ensures in
    odd _ _ _ _ _ _ _ _ (sym (ap₂ ◌&&◌ c.known.ensures c.known_rule.ensures) ∙ c.if-not-known-known_rule.false) (sym told ∙ c.if-not-filled.true) refl
    c.tell_generated-then-not-filled.ensures

pub fill_five-front-requires : goal.fill_five-front-requires
fill_five-front-requires c =
    let a = c.args in
    let front : List (List ℕ) = a.main.now ∷ a.preprocessed.now ∷ a.public_values.now ∷ a.nodes.now ∷ a.challenges.now ∷ [] in
    let back : List (List ℕ) = a.lookups.now ∷ a.tuples.now ∷ a.multiplicities.now ∷ a.flags.now ∷ a.elements.now ∷ [] in
    let told = both_told front back (a.trace.now ∷ []) a.room.now a.trace_room.now c.less_five-left.ensures c.less_five-left-2.ensures c.filled.ensures
    c.less-trace_left.ensures c.filled-2.ensures in
    let both = sym told ∙ c.if-not-filled.false in
    front_fits front back a.room.now (both_left _ _ both)

pub fill_five-back-requires : goal.fill_five-back-requires
fill_five-back-requires c =
    let a = c.args in
    let front : List (List ℕ) = a.main.now ∷ a.preprocessed.now ∷ a.public_values.now ∷ a.nodes.now ∷ a.challenges.now ∷ [] in
    let back : List (List ℕ) = a.lookups.now ∷ a.tuples.now ∷ a.multiplicities.now ∷ a.flags.now ∷ a.elements.now ∷ [] in
    let told = both_told front back (a.trace.now ∷ []) a.room.now a.trace_room.now c.less_five-left.ensures c.less_five-left-2.ensures c.filled.ensures
    c.less-trace_left.ensures c.filled-2.ensures in
    let both = sym told ∙ c.if-not-filled.false in
    back_fits back (both_left _ _ both) c.fill_five-front.ensures

pub fill-requires : goal.fill-requires
fill-requires c =
    let a = c.args in
    let front : List (List ℕ) = a.main.now ∷ a.preprocessed.now ∷ a.public_values.now ∷ a.nodes.now ∷ a.challenges.now ∷ [] in
    let back : List (List ℕ) = a.lookups.now ∷ a.tuples.now ∷ a.multiplicities.now ∷ a.flags.now ∷ a.elements.now ∷ [] in
    let told = both_told front back (a.trace.now ∷ []) a.room.now a.trace_room.now c.less_five-left.ensures c.less_five-left-2.ensures c.filled.ensures
    c.less-trace_left.ensures c.filled-2.ensures in
    let both = sym told ∙ c.if-not-filled.false in
    one-fits a.trace.now a.trace_room.now (both_right _ _ both)

pub generate_in-answer-requires : goal.generate_in-answer-requires
generate_in-answer-requires c =
    ordered refl c.fill_five-front.ensures c.fill_five-back.ensures

pub encode-requires : goal.encode-requires
encode-requires c =
    let a = c.args in
    let front : List (List ℕ) = a.main.now ∷ a.preprocessed.now ∷ a.public_values.now ∷ a.nodes.now ∷ a.challenges.now ∷ [] in
    let back : List (List ℕ) = a.lookups.now ∷ a.tuples.now ∷ a.multiplicities.now ∷ a.flags.now ∷ a.elements.now ∷ [] in
    let told = both_told front back (a.trace.now ∷ []) a.room.now a.trace_room.now c.less_five-left.ensures c.less_five-left-2.ensures c.filled.ensures
    c.less-trace_left.ensures c.filled-2.ensures in
    let both = sym told ∙ c.if-not-filled.false in
    le_of_eq (sym (one_still_fits a.trace.now a.trace_room.now c.generate_in-answer.new.trace (both_right _ _ both) (c.generate_in-answer.auto.trace ∙ c.fill.auto.room)))

pub returns : goal.returns
returns c =
    let a = c.args in
    let front : List (List ℕ) = a.main.now ∷ a.preprocessed.now ∷ a.public_values.now ∷ a.nodes.now ∷ a.challenges.now ∷ [] in
    let back : List (List ℕ) = a.lookups.now ∷ a.tuples.now ∷ a.multiplicities.now ∷ a.flags.now ∷ a.elements.now ∷ [] in
    let told = both_told front back (a.trace.now ∷ []) a.room.now a.trace_room.now c.less_five-left.ensures c.less_five-left-2.ensures c.filled.ensures
    c.less-trace_left.ensures c.filled-2.ensures in
    let both = sym told ∙ c.if-not-filled.false in
    fitting _ _ _ _ _ _ _ _ (parts _ 0 (both_ends c.fill_five-front.result c.fill_five-back.result)) (sym (ap₂ ◌&&◌ c.known.ensures c.known_rule.ensures) ∙ c.if-not-known-known_rule.false) (both_left _ _ both) (both_right _ _ both)
    (ten (both_left _ _ both) c.fill_five-front.ensures c.fill_five-back.ensures) (one-alone a.trace.now a.trace_room.now (both_right _ _ both) c.fill.ensures.1)
    c.generate_in-answer.ensures (given_back _ a.trace.now (one_still_fits a.trace.now a.trace_room.now c.generate_in-answer.new.trace (both_right _ _ both) (c.generate_in-answer.auto.trace ∙ c.fill.auto.room)) c.encode.ensures) c.tell_generated-2.ensures
