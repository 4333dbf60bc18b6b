use mathlib.Core.Path.{◌∙◌}
use borrow.Author.Tests.{eq-eqb, ne_eqb}
use Rattle.lookup_protocol.proofs.laws.Height.{few-tested}
use Rattle.lookup_protocol.specs.Height.{tables_fit}
use borrow.Author.Rules.{rules}
use Rattle.lookup_protocol.proofs.protocol.tables_fit.Goals as goal

pub returns-then-not-tables_within : goal.returns-then-not-tables_within
unfolding tables_fit
returns-then-not-tables_within c = rw (← c.tables_within.ensures, c.if-not-tables_within.true)

pub part_start-words-requires : goal.part_start-words-requires
part_start-words-requires c = (
  search rules,
  search rules,
  search rules,
  (few-tested c.args.counts.now c.args.heights.now c.requires c.tables_within.ensures c.if-not-tables_within.false).0.few_tables,
)

pub returns-then-lookups-words : goal.returns-then-lookups-words
unfolding tables_fit
returns-then-lookups-words c =
    rw (
      ← c.tables_within.ensures,
      c.if-not-tables_within.false,
      ← c.part_start-words.ensures.0,
      ne_eqb _ _ c.if-lookups-words.true,
    )

pub all_small-requires : goal.all_small-requires
all_small-requires c =
    record {
      few = (few-tested c.args.counts.now c.args.heights.now c.requires c.tables_within.ensures c.if-not-tables_within.false).0;
      whole = c.if-lookups-words.false ∙ c.part_start-words.ensures.0;
    }

pub returns : goal.returns
unfolding tables_fit
returns c =
    rw (
      ← c.tables_within.ensures,
      c.if-not-tables_within.false,
      ← c.part_start-words.ensures.0,
      eq-eqb _ _ c.if-lookups-words.false,
      ← c.all_small.ensures,
    )
