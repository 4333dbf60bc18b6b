-- What the tests leave of a table that passed them.
use Rattle.std.specs.Prelude.{◌≡◌, Bool, true, ◌&&◌, ◌||◌, not, [], ◌∷◌, ℕ, ◌≤◌, ltb, length}
use Rattle.std.proofs.Common.{subst, arith}
use Rattle.std.proofs.Math.Option.{none}
use Rattle.lists.specs.laws.Tests.{both_left, both_right, passed}
use Rattle.field.specs.inner.Requires.{KnownPrime}
use Rattle.field.specs.Known.{prime_of, w_of}
use Rattle.field.proofs.laws.Known.{known-prime, w_below, certificate_of}
use Rattle.expression.specs.Limits.{Sane}
use Rattle.expression.specs.Node.{node_count}
use Rattle.expression.specs.Tests.{traces_below, constants_below, degrees_low}
use Rattle.expression.specs.Requires.{Evaluable}
use Rattle.expression.specs.laws.Tested.{small-tested, traces-tested}
use Rattle.expression.specs.laws.Refusal.{unless_none}
use Rattle.expression.specs.declared.sizes.Limits.{Limits}
use Rattle.expression.specs.declared.refusal.Refusal.TheVariants.{SizeAtOdds, WordTooLarge, NodeInvalid, DegreeTooHigh, LookupInvalid}
use Rattle.lookup.specs.Lookups.{lookup_count}
use Rattle.lookup.specs.Table.{Table}
use Rattle.lookup.specs.Tests.{sizes, words_below, known, lists_agree, in_position, has_lookups, preprocessed_enough, rows_enough}
use Rattle.lookup.specs.laws.Tested.{limited, fitting, agreeing, sizes_passed, lookups-few}
use Rattle.logup_column.specs.inner.Refusals.{position_refusal, table_tests}
use Rattle.logup_column.specs.inner.Requires.{LookupLists, Field}
use Rattle.logup_column.specs.inner.Tested.{Tested}

pub tested : (m : Limits) (p : ℕ) (t : Table) (fit low : Bool) → table_tests m p t fit low none ≡ none → Tested m p t fit low
unfolding table_tests position_refusal words_below
tested m p t fit low h =
    let (a, h2) = unless_none (sizes m t && fit) SizeAtOdds _ h in
    let (b, h3) = unless_none (words_below p t && low) WordTooLarge _ h2 in
    let (c, h4) = unless_none (known t) NodeInvalid _ h3 in
    let (_, h5) = unless_none (degrees_low m t.nodes) DegreeTooHigh _ h4 in
    let (e, _) = unless_none (lists_agree (node_count t.nodes) t.lookups && in_position t.lookups.lookups) LookupInvalid _ h5 in
    let s = sizes_passed m t (both_left (sizes m t) fit a) in
    let w = passed (traces_below p t.traces) (constants_below p t.nodes ∷ low ∷ []) b in
    record {
      within = s.0;
      nodes_within = s.1;
      lookups_within = s.2;
      traces_fit = s.3;
      lookups_fit = s.4;
      traces_below = w.0;
      constants_below = w.1.0;
      known = c;
      agree = both_left (lists_agree (node_count t.nodes) t.lookups) (in_position t.lookups.lookups) e;
      fits = both_right (sizes m t) fit a;
      lows = w.1.1.0;
    }

module _ {m : Limits} {p : ℕ} {t : Table} {fit low : Bool} (g : Sane m) (s : Tested m p t fit low) where
  pub tested-height : t.traces.shape.height ≤ 1048576
  tested-height = (small-tested m t.traces.shape t.traces.public_values g s.within).height

  pub tested-lookups : lookup_count t.lookups.lookups ≤ 64
  tested-lookups = (lookups-few m t.lookups.lookups t.lookups.tuples g s.lookups_within).0

  pub tested-tuples : length t.lookups.tuples ≤ 64
  tested-tuples = (lookups-few m t.lookups.lookups t.lookups.tuples g s.lookups_within).1

  pub tested-lists : LookupLists t.lookups.lookups t.lookups.tuples t.lookups.multiplicities t.lookups.flags t.lookups.elements
  tested-lists =
      record {
        names = t.lookups.names;
        nodes = node_count t.nodes;
        fitting = fitting t.lookups s.lookups_fit;
        agreeing = agreeing (node_count t.nodes) t.lookups s.agree;
        narrow = λ j. omega (arith, (limited m t.lookups.lookups t.lookups.tuples s.lookups_within).width j, g.tuple_words);
      }

  pub tested-traces : KnownPrime p → has_lookups t.lookups.lookups ≡ true → rows_enough t.traces.shape t.lookups.lookups ≡ true → Evaluable p t.traces t.nodes
  unfolding rows_enough preprocessed_enough known
  tested-traces o h r =
      traces-tested m p t.traces t.nodes g o s.nodes_within s.traces_fit s.traces_below s.constants_below s.known
      (both_right (ltb 0 t.traces.shape.height) (preprocessed_enough t.traces.shape)
      (subst (λ (b : Bool). (not b || (ltb 0 t.traces.shape.height && preprocessed_enough t.traces.shape)) ≡ true) h r))

-- the field of a number, whatever the number
pub field_of : (field : ℕ) → Field (prime_of field) (w_of field)
field_of field = record { modulus = known-prime field; low = w_below field; certificate = certificate_of field }
