use Rattle.delmatik.specs.Exports.{exported_verdict}
use Rattle.delmatik.proofs.Answered.{numbers_are}
use Rattle.delmatik.proofs.protocol.delmatik_terminals.Goals as goal

pub returns : goal.returns
unfolding exported_verdict
returns c = numbers_are c.write_answer.ensures c.verify_terminal_sum-v.ensures
