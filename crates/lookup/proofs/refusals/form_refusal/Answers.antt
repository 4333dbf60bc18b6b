use Rattle.std.proofs.Common.{Err, rules}
use mathlib.Core.Path.{◌≡◌, sym, ◌∙◌}
use Rattle.lookup.proofs.TestedSizes.{form_few_nodes}
use Rattle.lookup.specs.Lookups.{as_lookups}
use Rattle.lookup.specs.Refusals.{nodes_refusal, lists_refusal, form_refusal}
use Rattle.lookup.proofs.refusals.form_refusal.Goals as goal

pub returns-then-not-form_sizes : goal.returns-then-not-form_sizes
unfolding form_refusal
returns-then-not-form_sizes c = rw (← c.form_sizes.ensures, c.if-not-form_sizes.true)

pub returns-then-not-constants_below : goal.returns-then-not-constants_below
unfolding form_refusal
returns-then-not-constants_below c =
    rw (
      ← c.form_sizes.ensures,
      c.if-not-form_sizes.false,
      ← c.constants_below.ensures,
      c.if-not-constants_below.true,
    )

pub nodes_refusal-requires : goal.nodes_refusal-requires
nodes_refusal-requires c =
    let args = c.args in (
      c.requires.degree,
      form_few_nodes args.limits args.columns args.nodes.now (as_lookups args.lookups.now) c.requires (sym c.form_sizes.ensures ∙
          c.if-not-form_sizes.false),
    )

pub lists_refusal-requires : goal.lists_refusal-requires
lists_refusal-requires c =
    let args = c.args in
    form_few_nodes args.limits args.columns args.nodes.now (as_lookups args.lookups.now) c.requires (sym c.form_sizes.ensures ∙ c.if-not-form_sizes.false)

pub returns-in_err-nodes_refusal : goal.returns-in_err-nodes_refusal
unfolding form_refusal nodes_refusal
returns-in_err-nodes_refusal c =
    let e : c.from_residual.result ≡ Err c.in_err-nodes_refusal.field-0.0 = search rules in
    rw (
      e,
      ← c.form_sizes.ensures,
      c.if-not-form_sizes.false,
      ← c.constants_below.ensures,
      c.if-not-constants_below.false,
      ← c.shape_of.ensures,
    )
    (c.in_err-nodes_refusal.ensures _)

pub returns : goal.returns
unfolding form_refusal nodes_refusal lists_refusal
returns c =
    rw (
      ← c.form_sizes.ensures,
      c.if-not-form_sizes.false,
      ← c.constants_below.ensures,
      c.if-not-constants_below.false,
      ← c.shape_of.ensures,
    )
    (c.lists_refusal.ensures ∙ c.in_ok-nodes_refusal.ensures _)
