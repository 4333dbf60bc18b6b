use Rattle.field.specs.Ext.{ext_words}
use Prim.Native.Nat.{◌+◌}
use Rattle.field.proofs.laws.Element.{scale4-mod}
use Rattle.lookup_challenges.specs.Prefixes.{prefix_by}
use Rattle.lookup_challenges.proofs.challenges.prefix.Goals as goal

pub returns : goal.returns
unfolding prefix_by
returns c =
    rw (
      c.add.ensures.1,
      c.scale.ensures.1,
      c.reduce.ensures.1,
      scale4-mod c.args.p (c.args.i + 1) (ext_words c.args.gamma),
    )
