use Rattle.delmatik_bytes.specs.laws.Pack.{sized, room-ends, fitting, unknown, odd}
use Rattle.delmatik_bytes.specs.inner.Words.{lookups_in}
use Rattle.delmatik_bytes.proofs.Rooms.{both_told}
use Rattle.wire.specs.laws.Room.{front_fits, first_fits, rest-fits, six, five-alone, split, after, flat-parts}
use Rattle.wire.specs.inner.Place.{parts, five_ends}
use Rattle.lists.specs.laws.Tests.{both_left, both_right}
use mathlib.Core.List.{List, [], ◌∷◌}
use Prim.Native.Nat.{ℕ}
use mathlib.Core.Path.{refl, sym, ap, ◌∙◌}
use Rattle.delmatik_bytes.proofs.pack_same_bus.delmatik_pack_bytes.Goals as goal

pub returns-then-not-known : goal.returns-then-not-known
returns-then-not-known c =
    unknown _ _ _ _ _ _ _ _ _ (sym c.known.ensures ∙ c.if-not-known.true) refl c.tell_packed.ensures

pub returns-then-not-filled : goal.returns-then-not-filled
returns-then-not-filled c =
    let a = c.args in
    let given : List (List ℕ) = a.lookups.now ∷ a.tuples.now ∷ a.multiplicities.now ∷ a.flags.now ∷ a.elements.now ∷ [] in
    let lent : List (List ℕ) = a.lookups_out.now ∷ a.tuples_out.now ∷ a.multiplicities_out.now ∷ a.flags_out.now ∷ a.elements_out.now ∷ [] in
    let told = both_told (a.nodes.now ∷ []) given lent a.room.now a.out_room.now c.less-left.ensures c.less_five-left.ensures c.filled.ensures
    c.less_five-out_left.ensures c.filled-2.ensures in
    odd _ _ _ _ _ _ _ _ _ (sym c.known.ensures ∙ c.if-not-known.false) (sym told ∙ c.if-not-filled.true) refl c.tell_packed-then-not-filled.ensures

pub fill-nodes_end-requires : goal.fill-nodes_end-requires
fill-nodes_end-requires c =
    let a = c.args in
    let given : List (List ℕ) = a.lookups.now ∷ a.tuples.now ∷ a.multiplicities.now ∷ a.flags.now ∷ a.elements.now ∷ [] in
    let lent : List (List ℕ) = a.lookups_out.now ∷ a.tuples_out.now ∷ a.multiplicities_out.now ∷ a.flags_out.now ∷ a.elements_out.now ∷ [] in
    let told = both_told (a.nodes.now ∷ []) given lent a.room.now a.out_room.now c.less-left.ensures c.less_five-left.ensures c.filled.ensures
    c.less_five-out_left.ensures c.filled-2.ensures in
    let both = sym told ∙ c.if-not-filled.false in
    first_fits a.nodes.now given a.room.now (both_left _ _ both)

pub fill_five-ends-requires : goal.fill_five-ends-requires
fill_five-ends-requires c =
    let a = c.args in
    let given : List (List ℕ) = a.lookups.now ∷ a.tuples.now ∷ a.multiplicities.now ∷ a.flags.now ∷ a.elements.now ∷ [] in
    let lent : List (List ℕ) = a.lookups_out.now ∷ a.tuples_out.now ∷ a.multiplicities_out.now ∷ a.flags_out.now ∷ a.elements_out.now ∷ [] in
    let told = both_told (a.nodes.now ∷ []) given lent a.room.now a.out_room.now c.less-left.ensures c.less_five-left.ensures c.filled.ensures
    c.less_five-out_left.ensures c.filled-2.ensures in
    let both = sym told ∙ c.if-not-filled.false in
    rest-fits a.nodes.now given a.room.now (both_left _ _ both) c.fill-nodes_end.ensures

pub fill_five-out_ends-requires : goal.fill_five-out_ends-requires
fill_five-out_ends-requires c =
    let a = c.args in
    let given : List (List ℕ) = a.lookups.now ∷ a.tuples.now ∷ a.multiplicities.now ∷ a.flags.now ∷ a.elements.now ∷ [] in
    let lent : List (List ℕ) = a.lookups_out.now ∷ a.tuples_out.now ∷ a.multiplicities_out.now ∷ a.flags_out.now ∷ a.elements_out.now ∷ [] in
    let told = both_told (a.nodes.now ∷ []) given lent a.room.now a.out_room.now c.less-left.ensures c.less_five-left.ensures c.filled.ensures
    c.less_five-out_left.ensures c.filled-2.ensures in
    let both = sym told ∙ c.if-not-filled.false in
    front_fits lent [] a.out_room.now (both_right _ _ both)

pub pack_in-answer-requires : goal.pack_in-answer-requires
pack_in-answer-requires c =
    (after refl c.fill_five-ends.ensures, split refl c.fill_five-out_ends.ensures)

pub encode_five-requires : goal.encode_five-requires
encode_five-requires c =
    let a = c.args in
    let given : List (List ℕ) = a.lookups.now ∷ a.tuples.now ∷ a.multiplicities.now ∷ a.flags.now ∷ a.elements.now ∷ [] in
    let lent : List (List ℕ) = a.lookups_out.now ∷ a.tuples_out.now ∷ a.multiplicities_out.now ∷ a.flags_out.now ∷ a.elements_out.now ∷ [] in
    let told = both_told (a.nodes.now ∷ []) given lent a.room.now a.out_room.now c.less-left.ensures c.less_five-left.ensures c.filled.ensures
    c.less_five-out_left.ensures c.filled-2.ensures in
    let both = sym told ∙ c.if-not-filled.false in
    (split c.pack_in-answer.auto.out_room c.fill_five-out_ends.ensures, sized (both_right _ _ both) c.fill_five-out_ends.ensures)

pub returns : goal.returns
returns c =
    let a = c.args in
    let given : List (List ℕ) = a.lookups.now ∷ a.tuples.now ∷ a.multiplicities.now ∷ a.flags.now ∷ a.elements.now ∷ [] in
    let lent : List (List ℕ) = a.lookups_out.now ∷ a.tuples_out.now ∷ a.multiplicities_out.now ∷ a.flags_out.now ∷ a.elements_out.now ∷ [] in
    let told = both_told (a.nodes.now ∷ []) given lent a.room.now a.out_room.now c.less-left.ensures c.less_five-left.ensures c.filled.ensures
    c.less_five-out_left.ensures c.filled-2.ensures in
    let both = sym told ∙ c.if-not-filled.false in
    let x = c.fill_five-out_ends.result in
    let after = c.pack_in-answer.new in
    let same = c.pack_in-answer.auto.out_room in
    fitting _ _ _ _ _ _ _ _ _ (parts _ 0 (c.fill-nodes_end.result ∷ five_ends c.fill_five-ends.result)) (parts _ 0 (five_ends x)) (parts after.out_room 0 (five_ends x))
    (sym c.known.ensures ∙ c.if-not-known.false) (both_left _ _ both) (both_right _ _ both)
    (six a.nodes.now a.room.now (both_left _ _ both) c.fill-nodes_end.ensures c.fill_five-ends.ensures)
    (five-alone (both_right _ _ both) c.fill_five-out_ends.ensures).1 c.pack_in-answer.ensures
    (sym (flat-parts x after.out_room (split same c.fill_five-out_ends.ensures) (same ∙ c.fill_five-out_ends.auto.room ∙ room-ends (both_right _ _ both) c.fill_five-out_ends.ensures)))
    (ap (lookups_in after.names_out) c.encode_five.ensures) c.tell_packed-2.ensures
