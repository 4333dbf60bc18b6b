use Rattle.delmatik.specs.Exports.{exported_verdict}
use Rattle.delmatik.proofs.Answered.{numbers_are}
use Rattle.delmatik.proofs.protocol.delmatik_height_bound.Goals as goal

pub returns : goal.returns
unfolding exported_verdict
returns c = numbers_are c.write_answer.ensures c.check_multiplicity_height_bound-v.ensures
