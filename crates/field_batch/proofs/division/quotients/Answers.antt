use mathlib.Core.Path.{refl}
use Rattle.field_batch.proofs.DivisionLoops.{dividing_begins, dividing_step, dividing_turn}
use borrow.Author.Rules.{rules}
use Rattle.field_batch.proofs.division.quotients.Goals as goal

pub loop-i-init : goal.loop-i-init
loop-i-init g c = let t = c.requires in dividing_begins t.0 (search rules) refl t.2 t.1 t.3

pub step-s-requires : goal.step-s-requires
step-s-requires g c = let t = c.requires.0 in let s = c.loop-i.invariant in let k = dividing_step s c.loop-i-test.true refl c.load-d.ensures c.load-k.ensures in (t.modulus, t.low, t.certificate, k.0, k.1, k.2, s.below, k.3, k.4)

pub loop-i-preserved : goal.loop-i-preserved
loop-i-preserved g c =
    dividing_turn c.loop-i.invariant c.loop-i-test.true refl c.load-d.ensures c.load-k.ensures _ c.step-s.ensures c.store.ensures
