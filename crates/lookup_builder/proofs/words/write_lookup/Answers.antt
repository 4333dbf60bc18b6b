use mathlib.Core.Bool.{cond}
use Prim.Native.Nat.{◌+◌}
use borrow.Author.Tests.{lt-ltb, le-ltb, le-leb, lt-leb}
use mathlib.Core.Path.{◌≡◌, ap, ◌∙◌}
use Rattle.expression.specs.Words.{low_half, high_half}
use Rattle.lookup_builder.specs.Building.{name_bytes, tuple_number, is_local, is_exclusive}
use Rattle.lookup_builder.proofs.Built.{flag_word, words_put}
use Rattle.lookup_builder.proofs.words.write_lookup.Goals.{then-local, else-local, then-exclusive, else-exclusive}
use Rattle.lookup_builder.proofs.words.write_lookup.Goals as goal

pub returns : goal.returns
returns c =
    let args = c.args in
    let weight = c.built_weight-weight.ensures in
    let tuples = c.tuple_number-tuples.ensures in
    let name : c.if-local.name ≡ cond (is_local args.kinds args.i) 0 (name_bytes args.interactions.now args.i) =
    elim c.if-local.branch [
      | then-local w ↦ rw (lt-ltb args.i args.kinds.locals w.if-local.true) w.name-is
      | else-local w ↦ rw (le-ltb args.i args.kinds.locals w.if-local.false) (w.name-is ∙ w.name_bytes-name.ensures)
    ] in
    let flags : c.if-exclusive.flags ≡ cond (is_exclusive args.kinds args.i) (tuple_number args.interactions.now args.i) 0 =
    elim c.if-exclusive.branch [
      | then-exclusive w ↦ rw (le-leb (args.kinds.locals + args.kinds.globals) args.i w.if-exclusive.true) (w.flags-is ∙ tuples)
      | else-exclusive w ↦ rw (lt-leb (args.kinds.locals + args.kinds.globals) args.i w.if-exclusive.false) w.flags-is
    ] in
    rw tuples (words_put args.out.now args.kinds args.interactions.now args.weights.now args.i c.requires.2 (c.from.ensures ∙ flag_word _) name (c.low_half.ensures ∙ ap low_half weight) (c.from-2.ensures ∙ flag_word _) flags (c.high_half.ensures ∙ ap high_half weight))
