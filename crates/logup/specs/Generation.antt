-- Generation (`LogUpGadget::generate_permutation`): its answer and the words of the buffer afterwards, for every input. SPECIFICATION,
-- section 4.1.
use Rattle.std.specs.Prelude.{ℕ, ◌*◌, ◌/◌, ◌%◌, Bool, cond, not, ◌&&◌, ◌||◌, List, [], ◌∷◌, ◌++◌, eqb, leb, length, drop, replicate, Result, Ok, Err, Some, None}
use Rattle.std.specs.Prelude as Std
use Rattle.std.proofs.Math.Option.{Option, none, some, get_or}
use Rattle.field.specs.Element.{zero4}
use Rattle.field.specs.Ext.{ext_words}
use Rattle.field.specs.Known.{prime_of, w_of}
use Rattle.expression.specs.Choices.{known, known_rule, limits_of}
use Rattle.expression.specs.declared.choices.Choices.{Choices}
use Rattle.expression.specs.Words.{all_below}
use Rattle.expression.specs.Refusal.{number, details, unless}
use Rattle.expression.specs.Values.{row_values}
use Rattle.expression.specs.declared.sizes.Limits.{Limits}
use Rattle.expression.specs.declared.refusal.Refusal.{Refusal}
use Rattle.expression.specs.declared.refusal.Refusal.TheVariants.{SizeAtOdds, TraceTooSmall}
use Rattle.lookup.specs.Lookups.{lookup_count}
use Rattle.lookup.specs.Table.{Table}
use Rattle.lookup.specs.Tests.{has_lookups}
use Rattle.lookup.specs.declared.types.LookupTerminal.{LookupTerminal}
use Rattle.logup.specs.Rule.{table_under}
use Rattle.logup.specs.Rows.{trace, used, accumulator, first_fault}
use Rattle.logup.specs.Refusals.{logup_refusal}

-- SPECIFICATION, section 1.4: "An answer is a number and three 64-bit details", and "a terminal" beside it: its four words, none where it is absent
pub record Answer : Type 0 where
  pub number : ℕ
  pub details : List ℕ
  pub terminal : Option (List ℕ)

abbrev pub refused : Refusal → Answer
refused f = record { number = number f; details = details f; terminal = none }

-- "Number 0 with zero details means that nothing is refused"
abbrev pub accepted : Option (List ℕ) → Answer
accepted e = record { number = 0; details = 0 ∷ 0 ∷ 0 ∷ []; terminal = e }

abbrev pub absent : Answer
absent = accepted none

abbrev pub terminal : List ℕ → Answer
terminal e = accepted (some e)

-- the answer that each result of the code stands for
abbrev pub answer_of : Result (Std.Option LookupTerminal) Refusal → Answer
answer_of (Ok (Some t)) = terminal (ext_words t.0)
answer_of (Ok None) = absent
answer_of (Err f) = refused f

pub record Outcome : Type 0 where
  pub answer : Answer
  pub buffer : List ℕ

-- generation within some limits and in some field: what it gives for a table, challenges and a buffer
abbrev pub Generation : Type 0
Generation = Table → List ℕ → List ℕ → Outcome

-- n words at the front of a lent buffer: "words past it are untouched"
abbrev pub written : List ℕ → ℕ → List ℕ → List ℕ
written words n buffer = words ++ drop n buffer

-- refusal 8: with lookups "not exactly 2n challenges (generation)", for so many challenge words
abbrev pub challenges_match : List ℕ → ℕ → Bool
challenges_match lookups words = not (has_lookups lookups) || eqb (words / 4) (2 * lookup_count lookups)

-- refusal 10: with lookups "a buffer of fewer than height × (n + 1) × 4 words (generation)", for a buffer of `room` words
abbrev pub buffer_refusal : List ℕ → ℕ → ℕ → Option Refusal
buffer_refusal lookups height room = unless (not (has_lookups lookups) || leb (used lookups height) room) TraceTooSmall none

module _ (m : Limits) (p w : ℕ) (t : Table) (challenges buffer : List ℕ) where
  abbrev pub lists : List ℕ
  lists = t.lookups.lookups

  -- SPECIFICATION, section 10.2: "tested in the order of their numbers, as far as they apply to the entry point"
  unfoldable pub entry_refusal : Option Refusal
  entry_refusal =
      logup_refusal m p t
      (record {
        sizes = eqb (length challenges % 4) 0;
        words = all_below p challenges;
        challenges = challenges_match lists (length challenges);
      })
      (buffer_refusal lists t.traces.shape.height (length buffer))

  abbrev pub values : ℕ → List ℕ
  values = row_values p t.nodes t.traces

  -- SPECIFICATION, section 4.5: "after refusals 13 to 15 it is zero"; 4.4: "The terminal is the sum of all fractions of all rows."
  unfoldable pub rows_outcome : Option Refusal → Outcome
  rows_outcome (some f) =
      record { answer = refused f; buffer = written (replicate (used lists t.traces.shape.height) 0) (used lists t.traces.shape.height) buffer }
  rows_outcome none =
      record {
        answer = terminal (accumulator p w t.lookups challenges values t.traces.shape.height);
        buffer = written (trace p w t.lookups challenges values t.traces.shape.height) (used lists t.traces.shape.height) buffer;
      }

  -- SPECIFICATION, section 4.5: "so is the whole buffer after refusals 1 to 12"; 4.1: "Without lookups the terminal is absent and the
  -- buffer is untouched."
  unfoldable pub entry_outcome : Option Refusal → Outcome
  entry_outcome (some f) = record { answer = refused f; buffer = buffer }
  entry_outcome none =
      cond (has_lookups lists) (rows_outcome (first_fault p w t.lookups challenges values t.traces.shape.height))
      (record { answer = absent; buffer = buffer })

  unfoldable pub generation : Outcome
  generation = entry_outcome entry_refusal

-- at the choices of a call, of the table as its rule reads it: refusal 1 where one of them is unknown
unfoldable pub generation_at : Choices → ℕ → Table → List ℕ → List ℕ → Outcome
generation_at c rule t challenges buffer =
    cond (known c && known_rule rule)
    (generation (limits_of c.profile) (prime_of c.field) (w_of c.field) (table_under rule t) challenges buffer)
    (record { answer = refused SizeAtOdds; buffer = buffer })

-- SPECIFICATION, section 9.2: it accepts "where it refuses nothing"
abbrev pub accepts : Answer → Bool
accepts a = eqb a.number 0

-- SPECIFICATION, section 9.2: terminals agree "where their four words are equal; an absent one counts as four zeros"
abbrev pub terminal_words : Answer → List ℕ
terminal_words a = get_or a.terminal zero4
