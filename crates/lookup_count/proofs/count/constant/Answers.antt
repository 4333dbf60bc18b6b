use mathlib.Core.Path.{refl}
use Rattle.lookup_count.specs.Count.{count_refusal}
use Rattle.lookup_count.proofs.count.constant.Goals as goal

pub returns-then-not-has_room : goal.returns-then-not-has_room
unfolding count_refusal
returns-then-not-has_room c = rw (← c.has_room.ensures, c.if-not-has_room.true) (refl, refl)

pub returns : goal.returns
unfolding count_refusal
returns c =
    rw (← c.has_room.ensures, c.if-not-has_room.false, c.bounded.ensures, ← c.residue.ensures) (
      refl,
      c.push.ensures,
    )
