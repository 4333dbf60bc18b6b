use Rattle.field.specs.Ext.{ext_words}
use Rattle.field.proofs.laws.Powers.{Squaring}
use Rattle.field.proofs.extension.power.Given as goal

abbrev pub invariant-loop-k : goal.invariant-loop-k
invariant-loop-k l = Squaring l.p l.w (ext_words l.initial.x) l.n (ext_words l.r) (ext_words l.x) l.k

abbrev pub decreases-loop-k : goal.decreases-loop-k
decreases-loop-k l = l.k
