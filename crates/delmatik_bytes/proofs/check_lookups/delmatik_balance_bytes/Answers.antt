use Rattle.delmatik_bytes.specs.laws.Balance.{fitting, unknown, odd}
use Rattle.delmatik_bytes.proofs.Rooms.{both_told}
use Rattle.wire.specs.laws.Room.{front_fits, back_fits, ten, ordered, one-alone, one-fits, one_still_fits, given_back}
use Rattle.wire.specs.inner.Place.{parts, both_ends}
use Rattle.lists.specs.laws.Tests.{both_left, both_right}
use native.Mathlib.Nat.{le_of_eq}
use mathlib.Core.List.{List, [], ◌∷◌}
use Prim.Native.Nat.{ℕ}
use mathlib.Core.Path.{refl, sym, ◌∙◌}
use Rattle.delmatik_bytes.proofs.check_lookups.delmatik_balance_bytes.Goals as goal

pub returns-then-not-known : goal.returns-then-not-known
returns-then-not-known c =
    unknown _ _ _ _ _ (sym c.known.ensures ∙ c.if-not-known.true) refl c.write_answer.ensures

pub returns-then-not-filled : goal.returns-then-not-filled
returns-then-not-filled c =
    let a = c.args in
    let front : List (List ℕ) = a.main.now ∷ a.preprocessed.now ∷ a.public_values.now ∷ a.nodes.now ∷ a.sizes.now ∷ [] in
    let back : List (List ℕ) = a.lookups.now ∷ a.tuples.now ∷ a.multiplicities.now ∷ a.flags.now ∷ a.elements.now ∷ [] in
    let told = both_told front back (a.workspace.now ∷ []) a.room.now a.workspace_room.now c.less_five-left.ensures c.less_five-left-2.ensures c.filled.ensures
    c.less-workspace_left.ensures c.filled-2.ensures in
    odd _ _ _ _ _ (sym c.known.ensures ∙ c.if-not-known.false) (sym told ∙ c.if-not-filled.true) refl c.write_answer-then-not-filled.ensures

pub fill_five-front-requires : goal.fill_five-front-requires
fill_five-front-requires c =
    let a = c.args in
    let front : List (List ℕ) = a.main.now ∷ a.preprocessed.now ∷ a.public_values.now ∷ a.nodes.now ∷ a.sizes.now ∷ [] in
    let back : List (List ℕ) = a.lookups.now ∷ a.tuples.now ∷ a.multiplicities.now ∷ a.flags.now ∷ a.elements.now ∷ [] in
    let told = both_told front back (a.workspace.now ∷ []) a.room.now a.workspace_room.now c.less_five-left.ensures c.less_five-left-2.ensures c.filled.ensures
    c.less-workspace_left.ensures c.filled-2.ensures in
    let both = sym told ∙ c.if-not-filled.false in
    front_fits front back a.room.now (both_left _ _ both)

pub fill_five-back-requires : goal.fill_five-back-requires
fill_five-back-requires c =
    let a = c.args in
    let front : List (List ℕ) = a.main.now ∷ a.preprocessed.now ∷ a.public_values.now ∷ a.nodes.now ∷ a.sizes.now ∷ [] in
    let back : List (List ℕ) = a.lookups.now ∷ a.tuples.now ∷ a.multiplicities.now ∷ a.flags.now ∷ a.elements.now ∷ [] in
    let told = both_told front back (a.workspace.now ∷ []) a.room.now a.workspace_room.now c.less_five-left.ensures c.less_five-left-2.ensures c.filled.ensures
    c.less-workspace_left.ensures c.filled-2.ensures in
    let both = sym told ∙ c.if-not-filled.false in
    back_fits back (both_left _ _ both) c.fill_five-front.ensures

pub fill-requires : goal.fill-requires
fill-requires c =
    let a = c.args in
    let front : List (List ℕ) = a.main.now ∷ a.preprocessed.now ∷ a.public_values.now ∷ a.nodes.now ∷ a.sizes.now ∷ [] in
    let back : List (List ℕ) = a.lookups.now ∷ a.tuples.now ∷ a.multiplicities.now ∷ a.flags.now ∷ a.elements.now ∷ [] in
    let told = both_told front back (a.workspace.now ∷ []) a.room.now a.workspace_room.now c.less_five-left.ensures c.less_five-left-2.ensures c.filled.ensures
    c.less-workspace_left.ensures c.filled-2.ensures in
    let both = sym told ∙ c.if-not-filled.false in
    one-fits a.workspace.now a.workspace_room.now (both_right _ _ both)

pub check_in-verdict-requires : goal.check_in-verdict-requires
check_in-verdict-requires c =
    ordered refl c.fill_five-front.ensures c.fill_five-back.ensures

pub encode-requires : goal.encode-requires
encode-requires c =
    let a = c.args in
    let front : List (List ℕ) = a.main.now ∷ a.preprocessed.now ∷ a.public_values.now ∷ a.nodes.now ∷ a.sizes.now ∷ [] in
    let back : List (List ℕ) = a.lookups.now ∷ a.tuples.now ∷ a.multiplicities.now ∷ a.flags.now ∷ a.elements.now ∷ [] in
    let told = both_told front back (a.workspace.now ∷ []) a.room.now a.workspace_room.now c.less_five-left.ensures c.less_five-left-2.ensures c.filled.ensures
    c.less-workspace_left.ensures c.filled-2.ensures in
    let both = sym told ∙ c.if-not-filled.false in
    le_of_eq (sym (one_still_fits a.workspace.now a.workspace_room.now c.check_in-verdict.new.workspace (both_right _ _ both) (c.check_in-verdict.auto.workspace ∙ c.fill.auto.room)))

pub returns : goal.returns
returns c =
    let a = c.args in
    let front : List (List ℕ) = a.main.now ∷ a.preprocessed.now ∷ a.public_values.now ∷ a.nodes.now ∷ a.sizes.now ∷ [] in
    let back : List (List ℕ) = a.lookups.now ∷ a.tuples.now ∷ a.multiplicities.now ∷ a.flags.now ∷ a.elements.now ∷ [] in
    let told = both_told front back (a.workspace.now ∷ []) a.room.now a.workspace_room.now c.less_five-left.ensures c.less_five-left-2.ensures c.filled.ensures
    c.less-workspace_left.ensures c.filled-2.ensures in
    let both = sym told ∙ c.if-not-filled.false in
    fitting _ _ _ _ _ (parts _ 0 (both_ends c.fill_five-front.result c.fill_five-back.result)) (sym c.known.ensures ∙ c.if-not-known.false) (both_left _ _ both) (both_right _ _ both)
    (ten (both_left _ _ both) c.fill_five-front.ensures c.fill_five-back.ensures) (one-alone a.workspace.now a.workspace_room.now (both_right _ _ both) c.fill.ensures.1)
    c.check_in-verdict.ensures (given_back _ a.workspace.now (one_still_fits a.workspace.now a.workspace_room.now c.check_in-verdict.new.workspace (both_right _ _ both) (c.check_in-verdict.auto.workspace ∙ c.fill.auto.room)) c.encode.ensures) c.write_answer-2.ensures
