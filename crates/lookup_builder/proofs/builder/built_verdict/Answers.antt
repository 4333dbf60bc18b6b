use Rattle.lookup_builder.specs.FromInteractions.{as_interactions}
use Rattle.lookup_builder.proofs.Answers.{built-tested}
use Rattle.lookup_builder.proofs.builder.built_verdict.Goals as goal

pub returns : goal.returns
returns c =
    built-tested c.args.limits c.args.p c.args.columns c.args.nodes.now c.args.kinds (as_interactions c.args.interactions.now) c.interaction_count.ensures c.write_lookups.ensures c.words_verdict.ensures
