-- A table of one row with two lookups on one bus: it meets `OneBus`, its lookups are one group, and the net of (3) is its ledger's word, in each field.
use Rattle.std.specs.Prelude.{ℕ, zero, suc, ◌<◌, ◌≡◌, refl, true, [], ◌∷◌, T}
use Rattle.std.proofs.Common.{◌∙◌, arith}
use Rattle.lists.specs.Same.{same_list}
use Rattle.lists.specs.Count.{total, every, joined}
use Rattle.lists.specs.Fold.{fold}
use Rattle.field.specs.Word.{add_m, mul_m}
use Rattle.field.specs.Known.{prime_of}
use Rattle.field.proofs.laws.Known.{modulus_of}
use Rattle.expression.specs.Words.{all_below, all_within}
use Rattle.expression.specs.Limits.{cabinet}
use Rattle.expression.specs.Node.{decode, node}
use Rattle.expression.specs.Window.{row_of, window}
use Rattle.expression.specs.Values.{node_value, values, row_values}
use Rattle.expression.specs.Degree.{node_degree, degrees}
use Rattle.expression.specs.Tests.{traces_within, nodes_within, traces_fit, nodes_fit, traces_below, constants_below, nodes_known, degrees_low}
use Rattle.lookup.specs.Lookups.{name_start, tuple_start, multiplicity_start, flag_start, element_start, tuple_width, multiplicity_node, flag_node, tuple_nodes, lookup_at}
use Rattle.lookup.specs.Table.{Table}
use Rattle.lookup.specs.Tests.{weight_limit, lookup_within, lookups_within, lookups_fit, sizes, words_below, known, lengths_agree, nodes_present, lists_agree, in_position, has_lookups, preprocessed_enough, rows_enough}
use Rattle.logup.specs.Tuple.{tuple}
use Rattle.logup.specs.Ledger.{has_ledger, count, lookup_entries, row_entries, entries, post, ledger}
use Rattle.balance_slots.specs.Nets.{net_of}
use Rattle.balance.specs.Groups.{members, same_bus, groups}
use Rattle.balance.specs.Entries as balance
use Rattle.balance.proofs.laws.Cases.{columns}
use Rattle.theorems_balance.specs.OneBus.{member_of, OneBus}
use Rattle.theorems_balance.proofs.laws.OneBus.{one_bus-ledger}

-- column 0 is 3, the tuple's word in both lookups, and column 1 is 1, how often it counts
abbrev twice : Table
twice =
    record {
      traces =
          record {
            shape = record { main_width = 2; height = 1; pre_width = 0; pre_height = 0 };
            main = 3 ∷ 1 ∷ [];
            preprocessed = [];
            public_values = [];
          };
      nodes = columns;
      lookups =
          record {
            lookups = 1 ∷ 1 ∷ 1 ∷ 0 ∷ 0 ∷ 1 ∷ 1 ∷ 0 ∷ 0 ∷ 1 ∷ 1 ∷ 1 ∷ 1 ∷ 0 ∷ 1 ∷ 1 ∷ 0 ∷ 0 ∷ [];
            names = 98 ∷ 98 ∷ [];
            tuples = 1 ∷ 1 ∷ [];
            multiplicities = 1 ∷ 1 ∷ [];
            flags = [];
            elements = 0 ∷ 0 ∷ [];
          };
    }

same : (i j : ℕ) → i < 2 → j < 2 → same_bus (member_of twice i) (member_of twice j) ≡ true
unfolding same_bus same_list lookup_at name_start total
same zero zero a b = refl
same zero (suc zero) a b = refl
same (suc zero) zero a b = refl
same (suc zero) (suc zero) a b = refl
same zero (suc (suc j)) a b = absurd (omega arith)
same (suc zero) (suc (suc j)) a b = absurd (omega arith)
same (suc (suc i)) j a b = absurd (omega arith)

one_bus : OneBus twice
one_bus = record { some = omega arith; each = same }

-- what is computed of it in a field
record Computed (field : ℕ) : Type 0 where
  has : T (has_ledger cabinet (prime_of field) twice)
  ledger_two : ledger (prime_of field) twice (3 ∷ []) ≡ 2

computed : Computed 1 × Computed 2
unfolding prime_of add_m mul_m total every joined fold cabinet all_below all_within node decode row_of window node_value values row_values node_degree
    degrees traces_within nodes_within traces_fit nodes_fit traces_below constants_below nodes_known degrees_low name_start tuple_start
    multiplicity_start flag_start element_start tuple_width multiplicity_node flag_node tuple_nodes weight_limit lookup_within lookups_within lookups_fit sizes words_below
    known lengths_agree nodes_present lists_agree in_position has_lookups preprocessed_enough rows_enough has_ledger tuple count lookup_entries
    row_entries entries same_list post ledger
computed = (record { has = tt; ledger_two = refl }, record { has = tt; ledger_two = refl })

pub one-group : groups (members (twice ∷ [])) ≡ members (twice ∷ []) ∷ []
one-group = (one_bus-ledger cabinet (prime_of 1) (modulus_of 1) twice one_bus computed.0.has).0

abbrev Net : ℕ → Type 0
Net field = net_of (prime_of field) (balance.entries (prime_of field) (members (twice ∷ []))) (3 ∷ []) ≡ 2

net : (field : ℕ) → Computed field → Net field
net field c = (one_bus-ledger cabinet (prime_of field) (modulus_of field) twice one_bus c.has).1 (3 ∷ []) ∙ c.ledger_two

pub net-two : Net 1 × Net 2
net-two = (net 1 computed.0, net 2 computed.1)
