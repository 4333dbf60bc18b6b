use mathlib.Core.Path.{refl}
use borrow.Author.Tests.{le-ltb, lt-ltb}
use Rattle.lookup_count.specs.Count.{negation_refusal}
use Rattle.lookup_count.proofs.count.negation.Goals as goal

pub returns-then-not-has_room : goal.returns-then-not-has_room
unfolding negation_refusal
returns-then-not-has_room c = rw (← c.has_room.ensures, c.if-not-has_room.true) (refl, refl)

pub returns-then-used-count : goal.returns-then-used-count
unfolding negation_refusal
returns-then-used-count c =
    rw (
      ← c.has_room.ensures,
      c.if-not-has_room.false,
      le-ltb _ _ c.if-used-count.true,
    ) (refl, refl)

pub returns : goal.returns
unfolding negation_refusal
returns c =
    rw (← c.has_room.ensures, c.if-not-has_room.false, c.bounded.ensures, lt-ltb _ _ c.if-used-count.false) (refl, c.push.ensures)
