use Rattle.field.proofs.laws.Word.{neg_m-mod}
use Rattle.lookup_count.proofs.count.residue.Goals as goal

pub returns-then-minus : goal.returns-then-minus
returns-then-minus c =
    rw (c.if-minus.true, c.neg.ensures.1, c.reduce-m.ensures.1, c.from.ensures) (neg_m-mod c.args.p
    c.args.magnitude)
