use Rattle.logup.specs.Generation.{answer_of}
use Rattle.delmatik_answers.proofs.Untouched.{untouched, told}
use Rattle.delmatik_answers.proofs.generated.write_terminal.Goals as goal

pub returns-then-n : goal.returns-then-n
returns-then-n c =
    untouched (answer_of c.args.g) c.args.out.now c.generation_number-n.ensures c.if-n.true

pub returns : goal.returns
returns c =
    told (answer_of c.args.g) c.args.out.now c.generation_number-n.ensures c.if-n.false c.put_terminal.ensures
