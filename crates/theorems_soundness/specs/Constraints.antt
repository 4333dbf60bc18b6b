-- Exactly the generated trace and terminal pass, as a statement. SPECIFICATION, section 5. Its proof is laws/Constraints.antt.
use Rattle.std.specs.Prelude.{ℕ, ◌+◌, ◌<◌, ◌≡◌, ◌↔◌, List, T, length, take}
use Rattle.std.proofs.Math.Option.{Option, none, some}
use Rattle.field.specs.Known.{prime_of, w_of}
use Rattle.expression.specs.Choices.{known, known_rule, limits_of}
use Rattle.expression.specs.declared.choices.Choices.{Choices}
use Rattle.expression.specs.declared.sizes.Limits.{Limits}
use Rattle.expression.specs.declared.refusal.Refusal.{Refusal}
use Rattle.lookup.specs.Lookups.{lookup_count}
use Rattle.lookup.specs.Table.{Table, values_of}
use Rattle.lookup.specs.Tests.{has_lookups}
use Rattle.logup.specs.Rule.{lookups_under}
use Rattle.logup.specs.Rows.{place, used}
use Rattle.logup.specs.Constraints.{constraints_refusal, verdict_at, Regular, IsGenerated}
use Rattle.logup.specs.Generation.{Generation, terminal, generation_at, accepts}

-- "Where every denominator is nonzero and flags are lawful": each lookup on each row, as the rule reads it
abbrev pub AllRegular : ℕ → ℕ → ℕ → Table → List ℕ → Type 0
AllRegular p w rule t challenges =
    (r i : ℕ) → r < t.traces.shape.height → i < lookup_count t.lookups.lookups
    → Regular p w (place p w (lookups_under rule t.lookups) challenges (values_of p t) r i)

-- what the first n + 1 elements of each row hold, in a trace of any width, and the terminal
abbrev pub HoldsGenerated : ℕ → ℕ → ℕ → Table → List ℕ → ℕ → List ℕ → List ℕ → Type 0
HoldsGenerated p w rule t challenges width words e =
    IsGenerated p w (lookups_under rule t.lookups) challenges (values_of p t) t.traces.shape.height width words e

-- the constraints within some limits and in some field: what they give for a table, challenges, a width, a trace and a terminal
abbrev pub Verdict : Type 0
Verdict = Table → List ℕ → ℕ → List ℕ → Option (List ℕ) → Option Refusal

-- the constraints accept the generated trace and terminal, where refusals 1 to 11 find nothing
abbrev pub GeneratedPasses : Limits → ℕ → ℕ → ℕ → Verdict → Type 0
GeneratedPasses m p w rule v =
    (t : Table) (challenges : List ℕ) (width : ℕ) (words e : List ℕ) → length e ≡ 4 → AllRegular p w rule t challenges
    → constraints_refusal m p w t challenges width words (some e) ≡ none → HoldsGenerated p w rule t challenges width words e
    → v t challenges width words (some e) ≡ none

-- and no other
abbrev pub OnlyGeneratedPasses : ℕ → ℕ → ℕ → Verdict → Type 0
OnlyGeneratedPasses p w rule v =
    (t : Table) (challenges : List ℕ) (width : ℕ) (words e : List ℕ) → length e ≡ 4 → AllRegular p w rule t challenges
    → v t challenges width words (some e) ≡ none → HoldsGenerated p w rule t challenges width words e

-- "exactly the generated trace and terminal pass": at the generated trace's width, the used part of generation's buffer and its answer
abbrev pub ExactlyTheGeneratedPass : ℕ → ℕ → ℕ → Generation → Verdict → Type 0
ExactlyTheGeneratedPass p w rule g v =
    (t : Table) (challenges buffer : List ℕ) → T (accepts (g t challenges buffer).answer) → T (has_lookups t.lookups.lookups)
    → AllRegular p w rule t challenges → (words e : List ℕ) → length e ≡ 4
    → (v t challenges (lookup_count t.lookups.lookups + 1) words (some e) ≡ none)
    ↔ ((words ≡ take (used t.lookups.lookups t.traces.shape.height) (g t challenges buffer).buffer)
    × (terminal e ≡ (g t challenges buffer).answer))

-- of the entry points `generate` and `eval_all` at every known field, profile and rule
abbrev pub KnownConstraints : Type 0
KnownConstraints =
    (c : Choices) (rule : ℕ) → T (known c) → T (known_rule rule)
    → GeneratedPasses (limits_of c.profile) (prime_of c.field) (w_of c.field) rule (verdict_at c rule)
    × OnlyGeneratedPasses (prime_of c.field) (w_of c.field) rule (verdict_at c rule)
    × ExactlyTheGeneratedPass (prime_of c.field) (w_of c.field) rule (generation_at c rule) (verdict_at c rule)
