use Rattle.std.proofs.Common.{Err, rules}
use mathlib.Core.Path.{◌≡◌, sym, ◌∙◌}
use Rattle.lookup.specs.laws.Tested.{few_nodes}
use Rattle.lookup.specs.Table.{as_table}
use Rattle.lookup.specs.Tests.{known}
use Rattle.lookup.specs.Refusals.{nodes_refusal, lists_refusal, table_refusal}
use Rattle.lookup.proofs.refusals.table_refusal.Goals as goal

pub returns-then-not-sizes : goal.returns-then-not-sizes
unfolding table_refusal
returns-then-not-sizes c = rw (← c.sizes.ensures, c.if-not-sizes.true)

pub returns-then-not-words_below : goal.returns-then-not-words_below
unfolding table_refusal
returns-then-not-words_below c =
    rw (
      ← c.sizes.ensures,
      c.if-not-sizes.false,
      ← c.words_below.ensures,
      c.if-not-words_below.true,
    )

pub nodes_refusal-requires : goal.nodes_refusal-requires
nodes_refusal-requires c =
    (c.requires.degree, few_nodes c.args.limits (as_table c.args.table.now) c.requires (sym c.sizes.ensures ∙ c.if-not-sizes.false))

pub lists_refusal-requires : goal.lists_refusal-requires
lists_refusal-requires c =
    few_nodes c.args.limits (as_table c.args.table.now) c.requires (sym c.sizes.ensures ∙ c.if-not-sizes.false)

pub returns-in_err-nodes_refusal : goal.returns-in_err-nodes_refusal
unfolding table_refusal nodes_refusal known
returns-in_err-nodes_refusal c =
    let e : c.from_residual.result ≡ Err c.in_err-nodes_refusal.field-0.0 = search rules in
    rw (
      e,
      ← c.sizes.ensures,
      c.if-not-sizes.false,
      ← c.words_below.ensures,
      c.if-not-words_below.false,
    )
    (c.in_err-nodes_refusal.ensures _)

pub returns : goal.returns
unfolding table_refusal nodes_refusal lists_refusal known
returns c =
    rw (
      ← c.sizes.ensures,
      c.if-not-sizes.false,
      ← c.words_below.ensures,
      c.if-not-words_below.false,
    )
    (c.lists_refusal.ensures ∙ c.in_ok-nodes_refusal.ensures _)
