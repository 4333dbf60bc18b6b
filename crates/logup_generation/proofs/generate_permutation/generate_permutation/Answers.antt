use mathlib.Core.Path.{◌≡◌, sym, ap, ◌∙◌}
use borrow.Author.Rules.{rules}
use Rattle.std.specs.Prelude.{Err}
use Rattle.expression.specs.Refusal.{refusal}
use Rattle.logup_generation.proofs.Finishing.{refused_is, absent_is, rows_are}
use Rattle.logup_column.specs.laws.Refusals.{accepted-answer, refused-answer}
use Rattle.logup_generation.proofs.Testing.{entry_is, rows-ready}
use Rattle.logup_generation.proofs.generate_permutation.generate_permutation.Goals as goal

pub generate_rows-requires : goal.generate_rows-requires
generate_rows-requires c =
    let k = c.entry_refusal.ensures.1 (ap refusal c.in_ok-entry_refusal.was) in
    rows-ready _ c.requires.0 c.requires.1 k.0 (sym c.has_lookups.ensures ∙ c.if-not-has_lookups.false) k.1

pub returns-in_err-entry_refusal : goal.returns-in_err-entry_refusal
returns-in_err-entry_refusal c =
    let e : c.from_residual.result ≡ Err c.in_err-entry_refusal.field-0.0 = search rules in
    rw e (refused_is c.args.rule _ _ _ _ _ _ _ (sym (refused-answer _ c.in_err-entry_refusal.was (c.entry_refusal.ensures.0 ∙ entry_is _
    _ c.args.w _ c.args.challenges.now c.args.trace.now))))

pub returns : goal.returns
returns c =
    rows_are c.args.rule _ _ _ _ _ _ (sym (accepted-answer c.in_ok-entry_refusal.was (c.entry_refusal.ensures.0 ∙ entry_is _ _ c.args.w _
    c.args.challenges.now c.args.trace.now))) (sym c.has_lookups.ensures ∙ c.if-not-has_lookups.false)
    (c.generate_rows.ensures c.args.limits c.args.table.now.lookups.names.now)

pub returns-then-not-has_lookups : goal.returns-then-not-has_lookups
returns-then-not-has_lookups c =
    absent_is c.args.rule _ _ _ _ _ _ (sym (accepted-answer c.in_ok-entry_refusal.was (c.entry_refusal.ensures.0 ∙ entry_is _ _
    c.args.w _ c.args.challenges.now c.args.trace.now))) (sym c.has_lookups.ensures ∙ c.if-not-has_lookups.true)
