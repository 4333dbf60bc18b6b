-- Generation for a caller that holds bytes: what is answered, and what stands in the lent bytes and rooms afterwards, for every input.
use Rattle.std.specs.Prelude.{ℕ, cond, ◌&&◌, List, [], ◌∷◌}
use Rattle.expression.specs.Choices.{known, known_rule}
use Rattle.expression.specs.declared.choices.Choices.{Choices}
use Rattle.expression.specs.declared.refusal.Refusal.TheVariants.{SizeAtOdds}
use Rattle.lookup.specs.Table.{Table}
use Rattle.logup.specs.Generation.{Answer, refused, Outcome, generation_at}
use Rattle.delmatik_answers.specs.Generation.{generation_number, generation_details, generation_terminal}
use Rattle.wire.specs.Wire.{words_of, bytes_of}
use Rattle.wire.specs.Room.{fit, all_words}
use Rattle.delmatik_bytes.specs.Bytes.{lookup_lists, decoded_table}

pub record Generation : Type 0 where
  pub number : ℕ
  pub details : List ℕ
  pub terminal : List ℕ
  -- the bytes of the trace buffer
  pub trace : List ℕ
  -- the words in the two rooms, which are working memory: no refusal but the 1 below leaves them as they were
  pub room : List ℕ
  pub trace_room : List ℕ

-- an answer, and the lent terminal
abbrev pub answered : Answer → List ℕ → List ℕ → List ℕ → List ℕ → Generation
answered a terminal trace room trace_room =
    record {
      number = generation_number a;
      details = generation_details a;
      terminal = generation_terminal a terminal;
      trace = trace;
      room = room;
      trace_room = trace_room;
    }

-- the lists in their room
abbrev pub lists_of : Table → List ℕ → List (List ℕ)
lists_of t challenges = t.traces.main ∷ t.traces.preprocessed ∷ t.traces.public_values ∷ t.nodes ∷ challenges ∷ lookup_lists t.lookups

-- the outcome on words, its buffer as bytes
abbrev pub in_bytes : Outcome → List ℕ → List ℕ → Generation
in_bytes o terminal room = answered o.answer terminal (bytes_of o.buffer) room o.buffer

-- refusal 1, and nothing is written, where a choice is unknown, bytes are not whole words or a room has another number of words
unfoldable pub generation_on_bytes : Choices → ℕ → Table → List ℕ → List ℕ → List ℕ → List ℕ → List ℕ → Generation
generation_on_bytes c rule t challenges trace terminal room trace_room =
    cond (known c && known_rule rule && fit (lists_of t challenges) room && fit (trace ∷ []) trace_room)
    (in_bytes (generation_at c rule (decoded_table t) (words_of challenges) (words_of trace)) terminal (all_words (lists_of t challenges)))
    (answered (refused SizeAtOdds) terminal trace room trace_room)
