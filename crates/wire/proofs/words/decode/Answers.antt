use Rattle.wire.proofs.Loops.{decode-begins, decode_turn, decode-ends}
use borrow.Author.Rules.{rules}
use Rattle.wire.proofs.words.decode.Goals as goal

pub loop-i-init : goal.loop-i-init
loop-i-init c = decode-begins (search rules) (search rules)

pub loop-i-preserved : goal.loop-i-preserved
loop-i-preserved c = decode_turn c.loop-i.invariant (search rules) c.word_at.ensures

pub returns : goal.returns
returns c = decode-ends c.loop-i.invariant (search rules)
