use Rattle.lookup_challenges.specs.laws.Prefixes.{loaded}
use Rattle.field.proofs.laws.Slice.{element-whole}
use Rattle.lookup_challenges.proofs.challenges.write.Goals as goal

pub power-gamma-requires : goal.power-gamma-requires
power-gamma-requires c =
    (c.requires.0, c.requires.1, loaded c.requires.2.beta_below c.load.ensures)

pub fill-requires : goal.fill-requires
fill-requires c = (
  c.requires.0,
  loaded c.requires.2.alpha_below c.load-2.ensures,
  c.power-gamma.ensures.0,
  c.requires.2.few,
  c.requires.2.room,
)

pub returns : goal.returns
returns c =
    rw (
      c.fill.ensures,
      c.load-2.ensures,
      c.power-gamma.ensures.1,
      c.load.ensures,
      element-whole c.args.alpha.now
          c.requires.2.alpha_four,
      element-whole c.args.beta.now c.requires.2.beta_four,
    )
