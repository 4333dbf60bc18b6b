-- The workspace as words, and what the code makes of it: slot k is the words from slot-words · k on.
use Rattle.std.specs.Prelude as Std
use Rattle.std.specs.Prelude.{Some, None, ℕ, zero, suc, ◌+◌, ◌*◌, Bool, true, false, cond, ◌&&◌, List, [], ◌∷◌, ◌++◌, eqb, leb, ltb, length, take, drop, set, replicate}
use Rattle.std.proofs.Math.Option.{Option, none, some}
use Rattle.lists.specs.Same.{same_list}
use Rattle.lists.specs.Tab.{tab}
use Rattle.field.specs.Word.{add_m}
use Rattle.expression.specs.Words.{word}
use Rattle.expression.specs.declared.refusal.Refusal.{Refusal}
use Rattle.expression.specs.declared.refusal.Refusal.TheVariants.{WorkspaceFull, NetNotZero}
use Rattle.logup.specs.Ledger.{Entry}
use Rattle.balance_slots.specs.Decimal.{tuple_less}
use Rattle.balance_slots.specs.Slots.{Slot}
use Rattle.balance_slots.specs.Workspace.{full, workspace_of, slot_words, tuple_words, tuple_word, net_word}

-- the workspace, how many slots are in use, and whether one was missing
pub record Work : Type 0 where
  pub words : List ℕ
  pub used : ℕ
  pub full : Bool

-- how many slots are in use, and whether one was missing, which is none
abbrev pub in_use : Std.Option ℕ → ℕ
in_use (Some n) = n
in_use None = 0

abbrev pub missing : Std.Option ℕ → Bool
missing (Some n) = false
missing None = true

abbrev pub work : List ℕ → Std.Option ℕ → Work
work workspace u = record { words = workspace; used = in_use u; full = missing u }

-- whether slot k holds the tuple t
unfoldable pub match_at : List ℕ → List ℕ → ℕ → Bool
match_at workspace t k = eqb (word workspace (slot_words * k)) (length t) && same_list (take (length t) (drop (slot_words * k + tuple_word) workspace)) t

-- the slot of t among n slots from slot k on, or k + n
unfoldable pub find_slot : List ℕ → List ℕ → ℕ → ℕ → ℕ
find_slot workspace t k zero = k
find_slot workspace t k (suc n) = cond (match_at workspace t k) k (find_slot workspace t (suc k) n)

-- a count is added to slot k's net
unfoldable pub added_at : ℕ → List ℕ → ℕ → ℕ → List ℕ
added_at p workspace k count = set workspace (slot_words * k + net_word) (add_m p (word workspace (slot_words * k + net_word)) count)

-- the words of a slot
unfoldable pub new_words : List ℕ → ℕ → List ℕ
new_words t count = (length t ∷ tab (word t) 0 tuple_words) ++ (count ∷ [])

-- slot n with these words
unfoldable pub new_at : List ℕ → ℕ → List ℕ → ℕ → List ℕ
new_at workspace n t count = take (slot_words * n) workspace ++ (new_words t count ++ drop (slot_words * n + slot_words) workspace)

-- an entry; without room for a new slot all is zero
unfoldable pub add_nonzero_at : ℕ → Work → List ℕ → ℕ → Work
add_nonzero_at p before t count =
    cond (ltb (find_slot before.words t 0 before.used) before.used)
    (record { words = added_at p before.words (find_slot before.words t 0 before.used) count; used = before.used; full = false })
    (cond (leb (slot_words * before.used + slot_words) (length before.words))
    (record { words = new_at before.words before.used t count; used = before.used + 1; full = false })
    (record { words = replicate (length before.words) 0; used = 0; full = true }))

-- a skipped entry, and an entry after a slot was missing, change nothing
unfoldable pub step : ℕ → Work → Entry → Work
step p before e = cond before.full before (cond (eqb e.count 0) before (add_nonzero_at p before e.tuple e.count))

-- the work that these slots leave in `room` words
unfoldable pub work_of : ℕ → List Slot → Work
work_of room ss =
    record { words = workspace_of room ss; used = cond (full room ss) 0 (length ss); full = full room ss }

abbrev pub net_at : List ℕ → ℕ → ℕ
net_at workspace k = word workspace (slot_words * k + net_word)

abbrev pub tuple_at : List ℕ → ℕ → List ℕ
tuple_at workspace k = take (word workspace (slot_words * k)) (drop (slot_words * k + tuple_word) workspace)

-- slot k, whose net is not zero, against the best so far
abbrev pub chosen_at : List ℕ → Std.Option ℕ → ℕ → Std.Option ℕ
chosen_at workspace None k = Some k
chosen_at workspace (Some b) k = cond (tuple_less (tuple_at workspace k) (tuple_at workspace b)) (Some k) (Some b)

-- slot k against the best so far
unfoldable pub better_at : List ℕ → Std.Option ℕ → ℕ → Std.Option ℕ
better_at workspace b k = cond (eqb (net_at workspace k) 0) b (chosen_at workspace b k)

-- the best of the first n slots
unfoldable pub least_to : List ℕ → ℕ → Std.Option ℕ
least_to workspace zero = None
least_to workspace (suc k) = better_at workspace (least_to workspace k) k

-- what the found slot says of group g
abbrev pub slot_refusal : ℕ → List ℕ → Std.Option ℕ → Option Refusal
slot_refusal g workspace None = none
slot_refusal g workspace (Some k) = some (NetNotZero g k (net_at workspace k))

-- its number, or 0
abbrev pub slot_of : Std.Option ℕ → ℕ
slot_of None = 0
slot_of (Some k) = k

-- the refusal of group g
unfoldable pub work_refusal : ℕ → Work → Option Refusal
work_refusal g after = cond after.full (some WorkspaceFull) (slot_refusal g after.words (least_to after.words after.used))
