use Rattle.std.specs.Prelude.{Err}
use mathlib.Core.Path.{◌≡◌, refl, ap, ◌∙◌}
use borrow.Author.Rules.{rules}
use Rattle.logup_constraints.specs.Refusals.{terminal_of}
use Rattle.logup_constraints.proofs.Testing.{entry_is, rows-ready}
use Rattle.logup_constraints.proofs.Deciding.{refused_is, absent_is, given_is}
use Rattle.logup_constraints.proofs.eval_all.eval_trace.Goals as goal

pub rows_verdict-requires : goal.rows_verdict-requires
rows_verdict-requires c =
    let k = c.in_ok-entry_refusal.ensures.1 refl in
    rows-ready _ _ _ c.requires.0 c.requires.1 k.0 k.1 (ap terminal_of c.in-Some.is)

pub returns-in_err-entry_refusal : goal.returns-in_err-entry_refusal
returns-in_err-entry_refusal c =
    let f = c.in_err-entry_refusal.field-0.0 in
    let e : c.from_residual.result ≡ Err f = search rules in
    rw e (refused_is c.args.rule _ _ _ _ _ _ _ _ f (c.in_err-entry_refusal.ensures.0 ∙ entry_is _ _ c.args.w _ _ _ _ _))

pub returns-in_default : goal.returns-in_default
returns-in_default c =
    absent_is c.args.rule _ _ _ _ _ _ _ _ (c.in_ok-entry_refusal.ensures.0 ∙ entry_is _ _ c.args.w _ _ _ _ _)
    (ap terminal_of c.in_default.is)

pub returns : goal.returns
returns c =
    given_is c.args.rule _ _ _ _ _ _ _ _ _ (c.in_ok-entry_refusal.ensures.0 ∙ entry_is _ _ c.args.w _ _ _ _ _) (ap terminal_of c.in-Some.is)
    (c.rows_verdict.ensures c.args.table.now.lookups.names.now)
