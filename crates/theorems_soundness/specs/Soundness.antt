-- Terminals determine ledgers, as a statement: for a generation, and for the entry point's in every known field. SPECIFICATION, section 9.3. Its
-- proof is laws/Soundness.antt.
use Rattle.std.specs.Prelude.{ℕ, ◌+◌, ◌*◌, ◌-◌, ◌/◌, ◌<◌, ◌≤◌, ◌≡◌, ◌↔◌, false, T, length}
use mathlib.Core.List.{List, map, Memᴰ}
use Rattle.field.specs.Known.{prime_of}
use Rattle.theorems_logup.specs.Distinct.{Distinct}
use Rattle.theorems_logup.specs.Sets.{Pairing}
use Rattle.expression.specs.Choices.{known, known_rule, limits_of}
use Rattle.expression.specs.declared.choices.Choices.{Choices}
use Rattle.expression.specs.declared.sizes.Limits.{Limits}
use Rattle.lookup.specs.Lookups.{lookup_count, tuple_count, tuple_width, lookup_at}
use Rattle.lookup.specs.Table.{Table}
use Rattle.logup.specs.Generation.{Answer, Generation, generation_at, accepts, terminal_words}
use Rattle.logup.specs.Ledger.{has_ledger, ledger, tuples_met, Element, Listed, at_pair}

-- "all lookups of both on one bus"
abbrev pub OnBus : List ℕ → Table → Type 0
OnBus name t = (i : ℕ) → i < lookup_count t.lookups.lookups → ((lookup_at t.lookups i).local ≡ false) × ((lookup_at t.lookups i).name ≡ name)

-- "all tuples of both of one width w"
abbrev pub AllWide : ℕ → Table → Type 0
AllWide width t =
    (i k : ℕ) → i < lookup_count t.lookups.lookups → k < tuple_count t.lookups.lookups i
    → tuple_width t.lookups.lookups t.lookups.tuples i k ≡ width

-- "Take two tables that have ledgers, with all lookups of both on one bus and all tuples of both of one width w ≥ 1."
pub record Comparable (m : Limits) (p : ℕ) (t₁ t₂ : Table) (bus : List ℕ) (width : ℕ) : Type 0 where
  pub some_words : 1 ≤ width
  pub on_bus₁ : OnBus bus t₁
  pub on_bus₂ : OnBus bus t₂
  pub wide₁ : AllWide width t₁
  pub wide₂ : AllWide width t₂
  pub ledger₁ : T (has_ledger m p t₁)
  pub ledger₂ : T (has_ledger m p t₂)

-- "are equal where each list of w field words has the same word in both"
abbrev pub SameLedger : ℕ → ℕ → Table → Table → Type 0
SameLedger p width t₁ t₂ = (l : List ℕ) → Listed p width l → ledger p t₁ l ≡ ledger p t₂ l

-- "whatever buffers it is lent": one for each alpha and beta
abbrev pub Buffers : Type 0
Buffers = List ℕ → List ℕ → List ℕ

-- its answer at a pair, with the buffer that is lent to that call
abbrev pub answer_at : Generation → Table → Buffers → List ℕ → List ℕ → Answer
answer_at g t buffers alpha beta = (g t (at_pair t alpha beta) (buffers alpha beta)).answer

-- "It accepts where it refuses nothing."
abbrev pub AcceptedAt : Generation → Table → Buffers → List ℕ → List ℕ → Type 0
AcceptedAt g t buffers alpha beta = T (accepts (answer_at g t buffers alpha beta))

-- "Terminals agree where their four words are equal; an absent one counts as four zeros."
abbrev pub AgreeAt : Generation → Table → Table → Buffers → Buffers → List ℕ → List ℕ → Type 0
AgreeAt g t₁ t₂ buffers₁ buffers₂ alpha beta =
    terminal_words (answer_at g t₁ buffers₁ alpha beta) ≡ terminal_words (answer_at g t₂ buffers₂ alpha beta)

-- SPECIFICATION, section 9.2: "1 + (w - 1) · n · (n - 1) / 2 different betas, and with each beta n different alphas", "each beta may have
-- alphas of its own. With n = 0 the set has no pair."
pub record FullSet (p width n : ℕ) (set : List (Pairing (List ℕ))) : Type 0 where
  pub betas : Distinct (map (λ (r : Pairing (List ℕ)). r.beta) set)
  pub betas_many : length set ≡ 1 + (width - 1) * n * (n - 1) / 2
  pub beta_element : (r : Pairing (List ℕ)) → Memᴰ r set → Element p r.beta
  pub alphas : (r : Pairing (List ℕ)) → Memᴰ r set → Distinct r.alphas
  pub alphas_many : (r : Pairing (List ℕ)) → Memᴰ r set → length r.alphas ≡ n
  pub alpha_element : (r : Pairing (List ℕ)) → Memᴰ r set → (a : List ℕ) → Memᴰ a r.alphas → Element p a

-- what holds of each pair of a set: of each beta with each of its alphas
abbrev pub AtEachPair : List (Pairing (List ℕ)) → (List ℕ → List ℕ → Type 0) → Type 0
AtEachPair set P = (r : Pairing (List ℕ)) → Memᴰ r set → (alpha : List ℕ) → Memᴰ alpha r.alphas → P alpha r.beta

-- "Take a full set at each pair of which generation accepts both tables, whatever buffers it is lent. Then the two ledgers are equal
-- exactly where the two terminals agree at every pair of the set."
abbrev pub TerminalsDetermineLedgers : ℕ → Generation → Table → Table → ℕ → List (Pairing (List ℕ)) → Buffers → Buffers → Type 0
TerminalsDetermineLedgers p g t₁ t₂ width set buffers₁ buffers₂ =
    FullSet p width (tuples_met p t₁ t₂) set
    → AtEachPair set (AcceptedAt g t₁ buffers₁)
    → AtEachPair set (AcceptedAt g t₂ buffers₂)
    → SameLedger p width t₁ t₂ ↔ AtEachPair set (AgreeAt g t₁ t₂ buffers₁ buffers₂)

-- for a generation, the limits that it keeps and the prime of its field
abbrev pub LogUpSoundness : Limits → ℕ → Generation → Type 0
LogUpSoundness m p g =
    (t₁ t₂ : Table) (bus : List ℕ) (width : ℕ) (set : List (Pairing (List ℕ))) (buffers₁ buffers₂ : Buffers)
    → Comparable m p t₁ t₂ bus width
    → TerminalsDetermineLedgers p g t₁ t₂ width set buffers₁ buffers₂

-- what holds of the entry point `generate` at every known field, profile and rule, with that profile's limits and that field's prime
abbrev pub AtKnownChoices : (Limits → ℕ → Generation → Type 0) → Type 0
AtKnownChoices S =
    (c : Choices) (rule : ℕ) → T (known c) → T (known_rule rule) → S (limits_of c.profile) (prime_of c.field) (generation_at c rule)

-- the theorem of section 9.3: in each field, both tables and the whole set being of it
abbrev pub KnownSoundness : Type 0
KnownSoundness = AtKnownChoices LogUpSoundness
