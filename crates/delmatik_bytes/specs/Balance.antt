-- Balance for a caller that holds bytes: what is answered, and what stands in the lent bytes and rooms afterwards, for every input.
use Rattle.std.specs.Prelude.{ℕ, cond, ◌&&◌, List, [], ◌∷◌}
use Rattle.std.proofs.Math.Option.{Option, some}
use Rattle.expression.specs.Choices.{known}
use Rattle.expression.specs.Refusal.{answer_number, answer_details}
use Rattle.expression.specs.declared.choices.Choices.{Choices}
use Rattle.expression.specs.declared.refusal.Refusal.{Refusal}
use Rattle.expression.specs.declared.refusal.Refusal.TheVariants.{SizeAtOdds}
use Rattle.balance.specs.Tables.{TableLists}
use Rattle.balance.specs.Balance.{Outcome, check_at}
use Rattle.wire.specs.Wire.{words_of, bytes_of}
use Rattle.wire.specs.Room.{fit, all_words}
use Rattle.delmatik_bytes.specs.Bytes.{decoded_lookups, lookup_lists}

pub record Balance : Type 0 where
  pub number : ℕ
  pub details : List ℕ
  -- the bytes of the workspace
  pub workspace : List ℕ
  -- the words in the two rooms
  pub room : List ℕ
  pub workspace_room : List ℕ

abbrev pub answered : Option Refusal → List ℕ → List ℕ → List ℕ → Balance
answered refusal workspace room workspace_room =
    record {
      number = answer_number refusal;
      details = answer_details refusal;
      workspace = workspace;
      room = room;
      workspace_room = workspace_room;
    }

-- the words of the tables' lists, and the lists in their room
abbrev pub decoded_lists : TableLists → TableLists
decoded_lists l =
    record {
      sizes = words_of l.sizes;
      main = words_of l.main;
      preprocessed = words_of l.preprocessed;
      public_values = words_of l.public_values;
      nodes = words_of l.nodes;
      lookups = decoded_lookups l.lookups;
    }

abbrev pub lists_of : TableLists → List (List ℕ)
lists_of l = l.main ∷ l.preprocessed ∷ l.public_values ∷ l.nodes ∷ l.sizes ∷ lookup_lists l.lookups

-- the outcome on words, its workspace as bytes
abbrev pub in_bytes : Outcome → List ℕ → Balance
in_bytes o room = answered o.refusal (bytes_of o.workspace) room o.workspace

-- refusal 1, and nothing is written, where a choice is unknown, bytes are not whole words or a room has another number of words
unfoldable pub balance_on_bytes : Choices → TableLists → List ℕ → List ℕ → List ℕ → Balance
balance_on_bytes c l workspace room workspace_room =
    cond (known c && fit (lists_of l) room && fit (workspace ∷ []) workspace_room)
    (in_bytes (check_at c (decoded_lists l) (words_of workspace)) (all_words (lists_of l)))
    (answered (some SizeAtOdds) workspace room workspace_room)
