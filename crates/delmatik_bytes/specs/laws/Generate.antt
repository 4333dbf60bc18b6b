-- Generation on bytes, by cases.
use Rattle.std.specs.Prelude.{ℕ, ◌≡◌, true, false, ◌&&◌, List, [], ◌∷◌, map}
use Rattle.std.proofs.Math.Path.{ap, ap₂}
use Rattle.std.proofs.Common.{◌∙◌}
use Rattle.expression.specs.Choices.{known, known_rule}
use Rattle.expression.specs.declared.choices.Choices.{Choices}
use Rattle.expression.specs.declared.refusal.Refusal.TheVariants.{SizeAtOdds}
use Rattle.lookup.specs.Table.{Table}
use Rattle.logup.specs.Generation.{Answer, refused, Outcome}
use Rattle.delmatik_answers.specs.Generation.{generation_number, generation_details, generation_terminal}
use Rattle.wire.specs.Wire.{words_of, bytes_of}
use Rattle.wire.specs.Room.{fit, all_words}
use Rattle.delmatik_bytes.specs.inner.Words.{generation_on_words}
use Rattle.delmatik_bytes.specs.Generate.{answered, lists_of, in_bytes, generation_on_bytes}

module _ (c : Choices) (rule : ℕ) (t : Table) (challenges trace given room trace_room : List ℕ) {n : ℕ} {details terminal : List ℕ} {a : Answer} where
  pub fitting : {trace_after Room-after buffer words : List ℕ} (lists : List (List ℕ)) → (known c && known_rule rule) ≡ true
      → fit (lists_of t challenges) room ≡ true → fit (trace ∷ []) trace_room ≡ true
      → (Room-after ≡ all_words (lists_of t challenges)) × (lists ≡ map words_of (lists_of t challenges)) → words ≡ words_of trace
      → record { answer = a; buffer = buffer } ≡ generation_on_words c rule t.traces.shape t.lookups.names lists words
      → trace_after ≡ bytes_of buffer
      → (n ≡ generation_number a) × (details ≡ generation_details a) × (terminal ≡ generation_terminal a given)
      → record { number = n; details = details; terminal = terminal; trace = trace_after; room = Room-after; trace_room = buffer }
      ≡ generation_on_bytes c rule t challenges trace given room trace_room
  unfolding generation_on_bytes
  fitting {trace_after} {Room-after} {buffer} {words} lists k f g r w o b told =
      let same : generation_on_words c rule t.traces.shape t.lookups.names lists words
      ≡ generation_on_words c rule t.traces.shape t.lookups.names (map words_of (lists_of t challenges)) (words_of trace) =
      ap₂ (generation_on_words c rule t.traces.shape t.lookups.names) r.1 w in
      rw (k, f, g)
      ((λ i. record { number = told.0 i; details = told.1 i; terminal = told.2 i; trace = b i; room = r.0 i; trace_room = buffer })
      ∙ ap (λ (z : Outcome). in_bytes z given (all_words (lists_of t challenges))) (o ∙ same))

  -- refusal 1, and everything as it was lent
  as_lent : a ≡ refused SizeAtOdds → (n ≡ generation_number a) × (details ≡ generation_details a) × (terminal ≡ generation_terminal a given)
      → record { number = n; details = details; terminal = terminal; trace = trace; room = room; trace_room = trace_room }
      ≡ answered (refused SizeAtOdds) given trace room trace_room
  as_lent q told =
      (λ i. record { number = told.0 i; details = told.1 i; terminal = told.2 i; trace = trace; room = room; trace_room = trace_room })
      ∙ ap (λ (z : Answer). answered z given trace room trace_room) q

  pub unknown : (known c && known_rule rule) ≡ false → a ≡ refused SizeAtOdds
      → (n ≡ generation_number a) × (details ≡ generation_details a) × (terminal ≡ generation_terminal a given)
      → record { number = n; details = details; terminal = terminal; trace = trace; room = room; trace_room = trace_room }
      ≡ generation_on_bytes c rule t challenges trace given room trace_room
  unfolding generation_on_bytes
  unknown k q told = rw k (as_lent q told)

  pub odd : (known c && known_rule rule) ≡ true → (fit (lists_of t challenges) room && fit (trace ∷ []) trace_room) ≡ false → a ≡ refused SizeAtOdds
      → (n ≡ generation_number a) × (details ≡ generation_details a) × (terminal ≡ generation_terminal a given)
      → record { number = n; details = details; terminal = terminal; trace = trace; room = room; trace_room = trace_room }
      ≡ generation_on_bytes c rule t challenges trace given room trace_room
  unfolding generation_on_bytes
  odd k e q told = rw (k, e) (as_lent q told)
