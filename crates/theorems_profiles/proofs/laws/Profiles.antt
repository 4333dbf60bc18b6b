-- A call that the gateway does not refuse by 1 has the same answer and the same outputs in the cabinet.
use Rattle.std.specs.Prelude.{ℕ, ◌≡◌, refl, ◌≢◌, Bool, true, false, cond, ◌&&◌, [], ◌∷◌, length}
use Rattle.std.proofs.Common.{ap, ◌∙◌, arith}
use Rattle.std.proofs.Math.Option.{Option, none, some}
use Rattle.field.specs.Known.{known_field, prime_of, w_of}
use Rattle.expression.specs.Choices.{known, known_rule, limits_of}
use Rattle.expression.specs.Limits.{cabinet, gateway}
use Rattle.expression.specs.Refusal.{number, answer_number}
use Rattle.expression.specs.declared.refusal.Refusal.{Refusal}
use Rattle.lookup.specs.Lookups.{lookup_at}
use Rattle.lookup_count.specs.Count as count
use Rattle.lookup_challenges.specs.Prefixes as prefixes
use Rattle.lookup_protocol.specs.Height.{height_at}
use Rattle.lookup_protocol.specs.Terminals.{terminals_at}
use Rattle.lookup_degree.specs.Degree.{node_degrees, lookup_degree}
use Rattle.lookup_degree.specs.ConstraintDegree as degree
use Rattle.lookup_buses.specs.Widths.{widest}
use Rattle.lookup_buses.specs.CheckBusWidths as widths
use Rattle.lookup_builder.specs.Building.{built}
use Rattle.lookup_builder.specs.FromInteractions as building
use Rattle.packing.specs.PackSameBus as packing
use Rattle.packing.specs.Written.{words_of}
use Rattle.logup.specs.Rule.{table_under}
use Rattle.logup.specs.Generation as generation
use Rattle.logup.specs.Constraints.{constraints_refusal, verdict, verdict_at}
use Rattle.balance.specs.Tables.{tables_of}
use Rattle.balance.specs.Refusals.{tables_refusal}
use Rattle.balance.specs.Balance as balance
use Rattle.wire.specs.Wire.{words_of as words}
use Rattle.wire.specs.Room.{fit, all_words}
use Rattle.delmatik_bytes.specs.Bytes.{decoded_lookups, decoded_table, lookup_lists}
use Rattle.delmatik_bytes.specs.Generate as generate_bytes
use Rattle.delmatik_bytes.specs.Pack as pack_bytes
use Rattle.delmatik_bytes.specs.Balance as balance_bytes
use Rattle.theorems_profiles.specs.Profiles.{OnWords, GatewayInCabinet}
use Rattle.theorems_profiles.proofs.laws.Narrower.{gateway_narrower}
use Rattle.theorems_profiles.proofs.laws.Refusals.{SameUnless1, or_else-same, test_same, entry-same, constraints-same, degree-same, packing-same, building-same, widths_same, height-same, terminals-same, prefixes-same, count_same, negation_same, tables-same}

-- What a call gives: an outcome, or what it gives where a choice is unknown. The outcome is of something that is the same unless its number is 1,
-- and tells that 1.
outcome-same : {A B : Type 0} (number_of_lem : A → ℕ) (number_within : B → ℕ) (known : Bool) (outcome : B → A) (unknown : A)
    → ((x : B) → number_within x ≡ 1 → number_of_lem (outcome x) ≡ 1)
    → (x : B) {y : B} → (number_within x ≢ 1 → x ≡ y)
    → number_of_lem (cond known (outcome x) unknown) ≢ 1 → cond known (outcome x) unknown ≡ cond known (outcome y) unknown
outcome-same number_of_lem number_within true outcome unknown told x g h = ap outcome (g (λ e. h (told x e)))
outcome-same number_of_lem number_within false outcome unknown told x g h = refl

-- an outcome of a refusal
call_same : {A : Type 0} (number_of_lem : A → ℕ) (known : Bool) (outcome : Option Refusal → A) (unknown : A)
    → ((f : Refusal) → number_of_lem (outcome (some f)) ≡ number f)
    → (x : Option Refusal) {y : Option Refusal} → SameUnless1 x y
    → number_of_lem (cond known (outcome x) unknown) ≢ 1 → cond known (outcome x) unknown ≡ cond known (outcome y) unknown
call_same {A} number_of_lem known outcome unknown told = outcome-same number_of_lem answer_number known outcome unknown tells
  where
    tells : (x : Option Refusal) → answer_number x ≡ 1 → number_of_lem (outcome x) ≡ 1
    tells none e = absurd (omega arith)
    tells (some f) e = told f ∙ e

on_words : OnWords
unfolding known limits_of generation.generation_at generation.generation generation.entry_outcome generation.rows_outcome verdict_at verdict degree.degree_at
    degree.degree_answer degree.in_numbers packing.packing_at packing.packing packing.in_numbers building.building_at building.building
    building.in_numbers widths.widths_at widths.widths_answer widths.in_numbers height_at terminals_at prefixes.prefixes_at prefixes.prefixes
    count.from_i32_at count.from_i32 count.negated_at count.negated count.in_numbers balance.check_at balance.check balance.in_numbers
on_words =
    record {
      generation =
          λ rule t challenges buffer field.
          call_same (λ (o : generation.Outcome). o.answer.number) (known_field field && true && known_rule rule)
          (generation.entry_outcome cabinet (prime_of field) (w_of field) (table_under rule t) challenges buffer) _ (λ f. refl)
          (generation.entry_refusal gateway (prime_of field) (w_of field) (table_under rule t) challenges buffer)
          (entry-same gateway cabinet gateway_narrower (prime_of field) (w_of field) (table_under rule t) challenges buffer);
      constraints =
          λ rule t challenges width words terminal field.
          test_same (known_field field && true && known_rule rule)
          (or_else-same (constraints_refusal gateway (prime_of field) (w_of field) (table_under rule t) challenges width words terminal) _
          (constraints-same gateway cabinet gateway_narrower (prime_of field) (w_of field) (table_under rule t) challenges width words terminal));
      degree =
          λ columns nodes l i t field.
          call_same (λ a. (degree.in_numbers a).answer.number) (known_field field && true)
          (λ r. degree.answered r (lookup_degree (node_degrees t nodes) (lookup_at l i))) _ (λ f. refl)
          (degree.degree_refusal gateway (prime_of field) columns nodes l i t)
          (degree-same gateway cabinet gateway_narrower (prime_of field) columns nodes l i t);
      packing =
          λ limit columns nodes l lent field.
          call_same (λ o. (packing.in_numbers o).answer.number) (known_field field && true)
          (λ r. packing.outcome r (words_of (packing.columns limit nodes l)) lent) _ (λ f. refl)
          (packing.packing_refusal gateway (prime_of field) limit columns nodes l lent)
          (packing-same gateway cabinet gateway_narrower (prime_of field) limit columns nodes l lent);
      building =
          λ columns nodes k g lent field.
          call_same (λ o. (building.in_numbers o).answer.number) (known_field field && true)
          (λ r. building.outcome r (built k g.interactions g.weights) lent) _ (λ f. refl)
          (building.building_refusal gateway (prime_of field) columns nodes k g (length lent))
          (building-same gateway cabinet gateway_narrower (prime_of field) columns nodes k g (length lent));
      widths =
          λ l field.
          call_same (λ a. (widths.in_numbers a).answer.number) (known_field field && true)
          (λ r. widths.answered r (widest (widths.tables_of l))) _ (λ f. refl) _
          (widths_same gateway cabinet gateway_narrower l _);
      height_bound =
          λ lookups counts heights field.
          test_same (known_field field && true) (height-same gateway cabinet gateway_narrower (prime_of field) lookups counts heights);
      terminals = λ ts field. test_same (known_field field && true) (terminals-same gateway cabinet gateway_narrower (prime_of field) ts);
      prefixes =
          λ alpha beta width n out field.
          call_same (λ (o : prefixes.Outcome). o.answer.number) (known_field field && true)
          (λ r. prefixes.outcome r (prime_of field) (w_of field) alpha beta width n out) _ (λ f. refl)
          (prefixes.prefixes_refusal gateway (prime_of field) alpha beta width n out)
          (prefixes-same gateway cabinet gateway_narrower (prime_of field) alpha beta width n out);
      from_i32 =
          λ nodes used x field.
          call_same (λ o. (count.in_numbers o).answer.number) (known_field field && true)
          (λ r. count.outcome r nodes used count.constant_kind (count.residue (prime_of field) (count.negative x) (count.magnitude x)) (count.magnitude x)) _ (λ f. refl)
          (count.count_refusal gateway nodes used) (count_same gateway cabinet gateway_narrower nodes used);
      negated =
          λ nodes used x field.
          call_same (λ o. (count.in_numbers o).answer.number) (known_field field && true)
          (λ r. count.outcome r nodes used count.negation_kind x.node x.weight) _ (λ f. refl)
          (count.negation_refusal gateway nodes used x.node) (negation_same gateway cabinet gateway_narrower nodes used x.node);
      balance =
          λ l workspace field.
          call_same (λ o. (balance.in_numbers o).answer.number) (known_field field && true)
          (λ r. balance.outcome r (balance.balance (prime_of field) (length workspace) (tables_of l)) workspace) _ (λ f. refl)
          (tables_refusal gateway (prime_of field) l) (tables-same gateway cabinet gateway_narrower (prime_of field) l);
    }

pub gateway_in_cabinet : GatewayInCabinet
unfolding known generate_bytes.generation_on_bytes pack_bytes.packing_on_bytes balance_bytes.balance_on_bytes packing.in_numbers balance.in_numbers
gateway_in_cabinet =
    record {
      on_words = on_words;
      generation_on_bytes =
          λ rule t challenges trace terminal room trace_room field.
          outcome-same (λ (o : generate_bytes.Generation). o.number) (λ (o : generation.Outcome). o.answer.number)
          (known_field field && true && known_rule rule && fit (generate_bytes.lists_of t challenges) room && fit (trace ∷ []) trace_room)
          (λ o. generate_bytes.in_bytes o terminal (all_words (generate_bytes.lists_of t challenges))) _ (λ o e. e) _
          (on_words.generation rule (decoded_table t) (words challenges) (words trace) field);
      packing_on_bytes =
          λ limit columns nodes l lent used room out_room field.
          outcome-same (λ (o : pack_bytes.Packing). o.number) (λ o. (packing.in_numbers o).answer.number)
          (known_field field && true && fit (nodes ∷ lookup_lists l) room && fit (lookup_lists lent) out_room)
          (λ o. pack_bytes.in_bytes o used (all_words (nodes ∷ lookup_lists l))) _ (λ o e. e) _
          (on_words.packing limit columns (words nodes) (decoded_lookups l) (decoded_lookups lent) field);
      balance_on_bytes =
          λ l workspace room workspace_room field.
          outcome-same (λ (o : balance_bytes.Balance). o.number) (λ o. (balance.in_numbers o).answer.number)
          (known_field field && true && fit (balance_bytes.lists_of l) room && fit (workspace ∷ []) workspace_room)
          (λ o. balance_bytes.in_bytes o (all_words (balance_bytes.lists_of l))) _ (λ o e. e) _
          (on_words.balance (balance_bytes.decoded_lists l) (words workspace) field);
    }
