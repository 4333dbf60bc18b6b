use Rattle.field_batch.proofs.DivisionLoops.{words-kept, step-out, step_in}
use Rattle.field_batch.proofs.division.step.Goals as goal

pub returns-then-m-eq0 : goal.returns-then-m-eq0
returns-then-m-eq0 g c = let e = step-out g.row.P c.args.w c.args.m c.args.inverse c.args.d c.args.k c.requires.6 c.if-m-eq0.true c.requires.7 c.requires.8 in (c.requires.6, e.0, e.1)

pub cofactor_times-requires : goal.cofactor_times-requires
cofactor_times-requires g c = let e = words-kept g.row.P c.args.w c.args.m _ c.args.d c.args.k c.if-m-eq0.false c.requires.7 in (c.requires.0, c.requires.1, c.requires.2, c.requires.4, c.requires.5.w0, c.requires.5.w1, c.times-t.ensures.0, e.0, e.1)

pub returns : goal.returns
returns g c =
    let e = step_in g.row.P c.args.w c.args.m c.args.inverse c.args.d c.args.k c.requires.0 c.requires.2 c.requires.4 c.if-m-eq0.false c.requires.7 c.requires.8 c.mul.ensures.1 c.times-t.ensures.1 c.cofactor_times.ensures.1 c.mul-2.ensures.1 in (
      c.mul-2.ensures.0,
      e.0,
      e.1,
    )
