use Rattle.logup_terms.proofs.TermsLoops.{exclusive_is, additive_without_flags}
use Rattle.logup_column.specs.inner.Own.{own_place}
use Rattle.logup_column.specs.inner.Powers.{beta_of}
use Rattle.field.specs.Ext.{ext_words}
use mathlib.Core.Path.{sym, ◌∙◌}
use Rattle.logup_terms.proofs.compute.compute_terms.Goals as goal

pub returns-then-exclusive : goal.returns-then-exclusive
returns-then-exclusive c =
    exclusive_is (own_place c.args.own.now c.args.widths.now c.args.multiplicities.now c.args.flags.now
    c.args.nodes.now c.args.vals.now (ext_words c.args.alpha) (beta_of c.args.powers))
    (sym c.exclusive.ensures ∙ c.if-exclusive.true) c.compute_exclusive_terms.ensures

pub returns : goal.returns
returns c =
    additive_without_flags c.args.own.now c.args.widths.now c.args.multiplicities.now c.args.flags.now
    c.args.nodes.now c.args.vals.now (ext_words c.args.alpha) (beta_of c.args.powers)
    c.exclusive.ensures c.if-exclusive.false c.compute_combined_sum_terms.ensures
