use Rattle.delmatik_bytes.specs.laws.Pack.{same-part, still, used-fits, front-short, five-written}
use Rattle.packing_columns.proofs.LayoutLoops.{names-room, tuples-room, multiplicities-room, flags-room, elements-room}
use Rattle.packing_columns.specs.inner.Layout.{plan_words}
use Rattle.lookup.specs.Lookups.{as_lookups}
use Rattle.lists.specs.laws.Filled.{put_mid_is}
use Rattle.lists.specs.laws.Parts.{part_length}
use borrow.Rule.Slice.PartMut.{put_mid}
use Prim.Native.Nat.{ℕ, ◌-◌, ◌≤◌, zero-le}
use mathlib.Core.List.{List}
use mathlib.Core.Path.{◌≡◌, refl, ap, ◌∙◌}
use lib.ListN.{length, take, drop, length-append, length-drop}
use native.Mathlib.Omega.{arith}
use Rattle.delmatik_bytes.proofs.pack_same_bus.write_in.Goals as goal

-- words over the front of a room leave it as long as it was
front_same : (d y : List ℕ) {e : ℕ} → e ≤ length d → length y ≡ length (take (e - 0) (drop 0 d)) → length (put_mid 0 (e - 0) d y) ≡ length d
front_same d y {e} h s =
    ap length (put_mid_is d 0 e refl zero-le) ∙ simp (length-append, length-drop) (omega (arith, part_length d 0 e zero-le h))

pub overflow_mul-used : goal.overflow_mul-used
overflow_mul-used c = used-fits c.requires.0.numbered.few c.requires.0.numbered.parted.few

pub copy-requires : goal.copy-requires
copy-requires c = front-short c.args.plan.words c.requires.0.lookups

pub write_list-requires : goal.write_list-requires
write_list-requires c = (c.requires.0.numbered.parted, c.requires.0.numbered.heads, names-room _ c.requires.0.fitting, c.requires.0.names)

pub write_at-requires : goal.write_at-requires
write_at-requires c =
    let same = front_same c.args.room.now c.copy.new.out c.requires.1.first_in c.copy.auto.out in (
      c.requires.0.numbered.parted,
      c.requires.0.numbered.order,
      tuples-room _ c.requires.0.fitting,
      c.requires.1.second,
      still c.requires.1.second_in same,
      same-part c.args.room.now _ c.requires.1.second c.requires.1.second_in same c.requires.0.tuples,
    )

pub write_at-requires-2 : goal.write_at-requires-2
write_at-requires-2 c =
    let same = c.write_at.auto.room ∙ front_same c.args.room.now c.copy.new.out c.requires.1.first_in c.copy.auto.out in (
      c.requires.0.numbered.parted,
      c.requires.0.numbered.order,
      multiplicities-room _ c.requires.0.fitting,
      c.requires.1.third,
      still c.requires.1.third_in same,
      same-part c.args.room.now _ c.requires.1.third c.requires.1.third_in same c.requires.0.multiplicities,
    )

pub write_at-requires-3 : goal.write_at-requires-3
write_at-requires-3 c =
    let same = c.write_at-2.auto.room ∙ c.write_at.auto.room ∙ front_same c.args.room.now c.copy.new.out c.requires.1.first_in c.copy.auto.out in (
      c.requires.0.numbered.parted,
      c.requires.0.numbered.order,
      flags-room _ c.requires.0.fitting,
      c.requires.1.fourth,
      still c.requires.1.fourth_in same,
      same-part c.args.room.now _ c.requires.1.fourth c.requires.1.fourth_in same c.requires.0.flags,
    )

pub write_at-requires-4 : goal.write_at-requires-4
write_at-requires-4 c =
    let same = c.write_at-3.auto.room ∙ c.write_at-2.auto.room ∙ c.write_at.auto.room
    ∙ front_same c.args.room.now c.copy.new.out c.requires.1.first_in c.copy.auto.out in (
      c.requires.0.numbered.parted,
      c.requires.0.numbered.order,
      elements-room _ c.requires.0.fitting,
      c.requires.1.fifth,
      still c.requires.1.fifth_in same,
      same-part c.args.room.now _ c.requires.1.fifth c.requires.1.fifth_in same c.requires.0.elements,
    )

pub returns : goal.returns
returns c =
    let a = c.args in
    five-written a.room.now a.ends c.requires.1
    (plan_words a.plan (as_lookups a.lookups.now)) a.names_out.now
    refl c.write_at.ensures c.write_at-2.ensures c.write_at-3.ensures c.write_at-4.ensures
    (front-short a.plan.words c.requires.0.lookups) c.requires.0.tuples c.requires.0.multiplicities c.requires.0.flags c.requires.0.elements
    c.copy.ensures refl refl refl refl c.write_list.ensures
