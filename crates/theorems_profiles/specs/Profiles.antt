-- The gateway beside the cabinet, as one statement with a part for each entry point. SPECIFICATION, section 11: "A call that the gateway does not
-- refuse by 1 has the same answer and the same outputs in the cabinet." Its proof is laws/Profiles.antt; laws/Examples.antt has a call of each.
use Rattle.std.specs.Prelude.{ℕ, ◌≡◌, ◌≢◌, List, ℤ}
use Rattle.std.proofs.Math.Option.{Option}
use Rattle.expression.specs.Choices.{choices_of}
use Rattle.expression.specs.Refusal.{answer_number}
use Rattle.expression.specs.declared.choices.Choices.{Choices}
use Rattle.lookup.specs.Lookups.{Lookups}
use Rattle.lookup.specs.Table.{Table}
use Rattle.lookup.specs.declared.refusals.Columns.{Columns}
use Rattle.lookup_count.specs.Count as count
use Rattle.lookup_count.specs.declared.count.Count.{Count}
use Rattle.lookup_challenges.specs.Prefixes as prefixes
use Rattle.lookup_protocol.specs.Height.{height_at}
use Rattle.lookup_protocol.specs.Terminals.{terminals_at}
use Rattle.lookup_degree.specs.ConstraintDegree as degree
use Rattle.lookup_buses.specs.CheckBusWidths as widths
use Rattle.lookup_builder.specs.FromInteractions as building
use Rattle.lookup_builder.specs.declared.answer.Kinds.{Kinds}
use Rattle.packing.specs.PackSameBus as packing
use Rattle.logup.specs.Generation as generation
use Rattle.logup.specs.Constraints.{verdict_at}
use Rattle.balance.specs.Tables.{TableLists}
use Rattle.balance.specs.Balance as balance
use Rattle.delmatik_bytes.specs.Generate as generate_bytes
use Rattle.delmatik_bytes.specs.Pack as pack_bytes
use Rattle.delmatik_bytes.specs.Balance as balance_bytes

-- A call, all of it but its choices given, and how the number is read off what it gives, which is its answer and all that it was lent to write:
-- in the gateway, profile 2, and in the cabinet, profile 1, whatever the field.
abbrev pub SameInCabinet : {A : Type 0} → (A → ℕ) → (Choices → A) → Type 0
SameInCabinet number call = (field : ℕ) → number (call (choices_of field 2)) ≢ 1 → call (choices_of field 2) ≡ call (choices_of field 1)

-- the entry points on words; the exported functions tell what these give, and no more
pub record OnWords : Type 0 where
  pub generation : (rule : ℕ) (t : Table) (challenges buffer : List ℕ)
      → SameInCabinet (λ (o : generation.Outcome). o.answer.number) (λ c. generation.generation_at c rule t challenges buffer)
  pub constraints : (rule : ℕ) (t : Table) (challenges : List ℕ) (width : ℕ) (words : List ℕ) (terminal : Option (List ℕ))
      → SameInCabinet answer_number (λ c. verdict_at c rule t challenges width words terminal)
  pub degree : (columns : Columns) (nodes : List ℕ) (l : Lookups) (i t : ℕ)
      → SameInCabinet (λ a. (degree.in_numbers a).answer.number) (λ c. degree.degree_at c columns nodes l i t)
  pub packing : (limit : ℕ) (columns : Columns) (nodes : List ℕ) (l lent : Lookups)
      → SameInCabinet (λ o. (packing.in_numbers o).answer.number) (λ c. packing.packing_at c limit columns nodes l lent)
  pub building : (columns : Columns) (nodes : List ℕ) (k : Kinds) (g : building.Interactions) (lent : List ℕ)
      → SameInCabinet (λ o. (building.in_numbers o).answer.number) (λ c. building.building_at c columns nodes k g lent)
  pub widths : (l : widths.BusTables) → SameInCabinet (λ a. (widths.in_numbers a).answer.number) (λ c. widths.widths_at c l)
  pub height_bound : (lookups counts heights : List ℕ) → SameInCabinet answer_number (λ c. height_at c lookups counts heights)
  pub terminals : (ts : List ℕ) → SameInCabinet answer_number (λ c. terminals_at c ts)
  pub prefixes : (alpha beta : List ℕ) (width n : ℕ) (out : List ℕ)
      → SameInCabinet (λ (o : prefixes.Outcome). o.answer.number) (λ c. prefixes.prefixes_at c alpha beta width n out)
  pub from_i32 : (nodes : List ℕ) (used : ℕ) (x : ℤ) → SameInCabinet (λ o. (count.in_numbers o).answer.number) (λ c. count.from_i32_at c nodes used x)
  pub negated : (nodes : List ℕ) (used : ℕ) (x : Count)
      → SameInCabinet (λ o. (count.in_numbers o).answer.number) (λ c. count.negated_at c nodes used x)
  pub balance : (l : TableLists) (workspace : List ℕ) → SameInCabinet (λ o. (balance.in_numbers o).answer.number) (λ c. balance.check_at c l workspace)

-- and the three on bytes
pub record GatewayInCabinet : Type 0 where
  pub on_words : OnWords
  pub generation_on_bytes : (rule : ℕ) (t : Table) (challenges trace terminal room trace_room : List ℕ)
      → SameInCabinet (λ (o : generate_bytes.Generation). o.number)
      (λ c. generate_bytes.generation_on_bytes c rule t challenges trace terminal room trace_room)
  pub packing_on_bytes : (limit : ℕ) (columns : Columns) (nodes : List ℕ) (l lent : Lookups) (used room out_room : List ℕ)
      → SameInCabinet (λ (o : pack_bytes.Packing). o.number) (λ c. pack_bytes.packing_on_bytes c limit columns nodes l lent used room out_room)
  pub balance_on_bytes : (l : TableLists) (workspace room workspace_room : List ℕ)
      → SameInCabinet (λ (o : balance_bytes.Balance). o.number) (λ c. balance_bytes.balance_on_bytes c l workspace room workspace_room)
