-- Packing for a caller that holds bytes: what is answered, and what stands in the lent bytes and rooms afterwards, for every input.
use Rattle.std.specs.Prelude.{ℕ, cond, ◌&&◌, List, ◌∷◌, Err, Result}
use Rattle.expression.specs.Choices.{known}
use Rattle.expression.specs.Refusal.{answer_number, answer_details}
use Rattle.expression.specs.declared.choices.Choices.{Choices}
use Rattle.expression.specs.declared.refusal.Refusal.TheVariants.{SizeAtOdds}
use Rattle.lookup.specs.Lookups.{Lookups}
use Rattle.lookup.specs.declared.refusals.Columns.{Columns}
use Rattle.packing.specs.PackSameBus.{Outcome, packing_at}
use Rattle.delmatik_answers.specs.Packing.{packing_refused, packing_used}
use Rattle.wire.specs.Wire.{words_of}
use Rattle.wire.specs.Room.{fit, flat, all_words}
use Rattle.expression.specs.declared.refusal.Refusal.{Refusal}
use Rattle.packing.specs.declared.answer.Counts.{Counts}
use Rattle.delmatik_bytes.specs.Bytes.{decoded_lookups, encoded_lookups, lookup_lists}

pub record Packing : Type 0 where
  pub number : ℕ
  pub details : List ℕ
  -- how many words, or bytes of names, of each list are used
  pub used : List ℕ
  -- the bytes of the lists that are written
  pub lists : Lookups
  -- the words in the two rooms, which are working memory: no refusal but the 1 below leaves them as they were
  pub room : List ℕ
  pub out_room : List ℕ

-- an answer, and what was lent for `used`
abbrev pub answered : Result Counts Refusal → List ℕ → Lookups → List ℕ → List ℕ → Packing
answered a used lists room out_room =
    record {
      number = answer_number (packing_refused a);
      details = answer_details (packing_refused a);
      used = packing_used a used;
      lists = lists;
      room = room;
      out_room = out_room;
    }

-- the outcome on words, its lists as bytes
abbrev pub in_bytes : Outcome → List ℕ → List ℕ → Packing
in_bytes o used room = answered o.answer used (encoded_lookups o.lists) room (flat (lookup_lists o.lists))

-- refusal 1, and nothing is written, where a choice is unknown, bytes are not whole words or a room has another number of words
unfoldable pub packing_on_bytes : Choices → ℕ → Columns → List ℕ → Lookups → Lookups → List ℕ → List ℕ → List ℕ → Packing
packing_on_bytes c limit columns nodes l lent used room out_room =
    cond (known c && fit (nodes ∷ lookup_lists l) room && fit (lookup_lists lent) out_room)
    (in_bytes (packing_at c limit columns (words_of nodes) (decoded_lookups l) (decoded_lookups lent)) used (all_words (nodes ∷ lookup_lists l)))
    (answered (Err SizeAtOdds) used lent room out_room)
