-- What the exported functions return and write: the number of the refusal, 0 where nothing is refused, its three details, and each lent output
-- afterwards. Number and details are the answer, and are always told; refusals 1 to 12 leave every lent output as it was (SPECIFICATION,
-- section 10.5), so that a definition takes what was lent.
use Rattle.std.specs.Prelude.{ℕ, List, Result}
use Rattle.std.proofs.Math.Option.{Option}
use Rattle.expression.specs.Refusal.{answer_number, answer_details}
use Rattle.expression.specs.declared.refusal.Refusal.{Refusal}
use Rattle.lookup.specs.Lookups.{Lookups}
use Rattle.lookup_challenges.specs.Prefixes as prefixes
use Rattle.lookup_builder.specs.FromInteractions as building
use Rattle.lookup_count.specs.Count as count
use Rattle.packing.specs.PackSameBus as packing
use Rattle.logup.specs.Generation as generation
use Rattle.balance.specs.Balance as balance
use Rattle.delmatik_answers.specs.Generation.{generation_number, generation_details, generation_terminal}
use Rattle.delmatik_answers.specs.Refused.{refused}
use Rattle.delmatik_answers.specs.Types.{number_written}
use Rattle.delmatik_answers.specs.Packing.{packing_used}
use Rattle.delmatik_answers.specs.Count.{counted_words}

pub record ExportedVerdict : Type 0 where
  pub number : ℕ
  pub details : List ℕ

unfoldable pub exported_verdict : Option Refusal → ExportedVerdict
exported_verdict r = record { number = answer_number r; details = answer_details r }

pub record ExportedGeneration : Type 0 where
  pub number : ℕ
  pub details : List ℕ
  pub terminal : List ℕ
  pub trace : List ℕ

-- the outcome, and the lent terminal
unfoldable pub exported_generation : generation.Outcome → List ℕ → ExportedGeneration
exported_generation o lent =
    record {
      number = generation_number o.answer;
      details = generation_details o.answer;
      terminal = generation_terminal o.answer lent;
      trace = o.buffer;
    }

-- one number
pub record ExportedNumber : Type 0 where
  pub number : ℕ
  pub details : List ℕ
  pub value : List ℕ

-- the answer, and the lent number
unfoldable pub exported_degree : Result ℕ Refusal → List ℕ → ExportedNumber
exported_degree a lent =
    record { number = answer_number (refused a); details = answer_details (refused a); value = number_written a lent }

unfoldable pub exported_widest : Result ℕ Refusal → List ℕ → ExportedNumber
exported_widest a lent =
    record { number = answer_number (refused a); details = answer_details (refused a); value = number_written a lent }

-- how much of each lent list is used; the lists
pub record ExportedPacking : Type 0 where
  pub number : ℕ
  pub details : List ℕ
  pub used : List ℕ
  pub lists : Lookups

-- the outcome, and the six lent numbers
unfoldable pub exported_packing : packing.Outcome → List ℕ → ExportedPacking
exported_packing o lent =
    record {
      number = answer_number (refused o.answer);
      details = answer_details (refused o.answer);
      used = packing_used o.answer lent;
      lists = o.lists;
    }

pub record ExportedBuilding : Type 0 where
  pub number : ℕ
  pub details : List ℕ
  pub used : List ℕ
  pub lookups : List ℕ

-- the outcome, and the lent number
unfoldable pub exported_building : building.Outcome → List ℕ → ExportedBuilding
exported_building o lent =
    record {
      number = answer_number (refused o.answer);
      details = answer_details (refused o.answer);
      used = number_written o.answer lent;
      lookups = o.lookups;
    }

pub record ExportedPrefixes : Type 0 where
  pub number : ℕ
  pub details : List ℕ
  pub out : List ℕ

unfoldable pub exported_prefixes : prefixes.Outcome → ExportedPrefixes
exported_prefixes o = record { number = o.answer.number; details = o.answer.details; out = o.out }

pub record ExportedBalance : Type 0 where
  pub number : ℕ
  pub details : List ℕ
  pub workspace : List ℕ

unfoldable pub exported_balance : balance.Outcome → ExportedBalance
exported_balance o = record { number = answer_number o.refusal; details = answer_details o.refusal; workspace = o.workspace }

-- a count's node and weight; the nodes
pub record ExportedCount : Type 0 where
  pub number : ℕ
  pub details : List ℕ
  pub count : List ℕ
  pub nodes : List ℕ

-- the outcome, and the two lent words
unfoldable pub exported_count : count.Outcome → List ℕ → ExportedCount
exported_count o lent =
    record {
      number = answer_number (refused o.answer);
      details = answer_details (refused o.answer);
      count = counted_words o.answer lent;
      nodes = o.nodes;
    }
