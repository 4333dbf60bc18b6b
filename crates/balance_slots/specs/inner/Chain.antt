-- Slots linked by hash. The width word of a linked slot is its width + 16 · link; the link is 1 + the number of the slot before it in its
-- chain, or 0. All else is as in the workspace without links.
use Rattle.std.specs.Prelude as Std
use Rattle.std.specs.Prelude.{Some, None, ℕ, zero, suc, ◌+◌, ◌*◌, ◌/◌, ◌%◌, ◌<◌, ◌≤◌, ◌≡◌, Bool, cond, ◌&&◌, List, eqb, ltb, length, take, drop}
use Rattle.lists.specs.Same.{same_list}
use Rattle.lists.specs.Tab.{tab}
use Rattle.expression.specs.Words.{word}
use Rattle.balance_slots.specs.inner.Work.{Work, in_use, work}
use Rattle.balance_slots.specs.inner.Hash.{chains, hash}
use Rattle.balance_slots.specs.declared.add.Linked.{Linked}
use Rattle.balance_slots.specs.declared.hash.Seed.{Seed}
use Rattle.balance_slots.specs.Workspace.{slot_words, tuple_words, tuple_word}

-- 1 + the last i below n with f i = h, or 0
unfoldable pub last_before : (ℕ → ℕ) → ℕ → ℕ → ℕ
last_before f h zero = 0
last_before f h (suc i) = cond (eqb (f i) h) (suc i) (last_before f h i)

-- the hash of slot i's tuple
unfoldable pub hash_at : Seed → List ℕ → ℕ → ℕ
hash_at seed workspace i = hash seed (λ j. word workspace (slot_words * i + tuple_word + j)) (word workspace (slot_words * i) % 16)

-- the first n slots are linked: a chain begins at the newest slot of its hash, and each slot is followed by the newest before it
pub record Chained (seed : Seed) (heads workspace : List ℕ) (n : ℕ) : Type 0 where
  pub begin : (h : ℕ) → h < chains → word heads h ≡ last_before (hash_at seed workspace) h n
  pub follow : (i : ℕ) → i < n → word workspace (slot_words * i) / 16 ≡ last_before (hash_at seed workspace) (hash_at seed workspace i) i
  pub narrow : (i : ℕ) → i < n → word workspace (slot_words * i) % 16 ≤ tuple_words
  pub long : length heads ≡ chains

-- whether slot k, which is linked, holds the tuple t
unfoldable pub holds : List ℕ → List ℕ → ℕ → Bool
holds workspace t k = eqb (word workspace (slot_words * k) % 16) (length t) && same_list (take (length t) (drop (slot_words * k + tuple_word) workspace)) t

-- word i without the links of the first n slots
unfoldable pub plain_word : List ℕ → ℕ → ℕ → ℕ
plain_word workspace n i = cond (ltb i (slot_words * n) && eqb (i % slot_words) 0) (word workspace i % 16) (word workspace i)

-- the workspace without them
unfoldable pub plain : List ℕ → ℕ → List ℕ
plain workspace n = tab (plain_word workspace n) 0 (length workspace)

-- how many slots are linked, and how many are in use; none, if one was missing
abbrev pub linked_of : Std.Option Linked → ℕ
linked_of (Some v) = v.linked
linked_of None = 0

abbrev pub use_of : Std.Option Linked → Std.Option ℕ
use_of (Some v) = Some v.used
use_of None = None

-- the work without them
abbrev pub plain_work : List ℕ → Std.Option Linked → Work
plain_work workspace v = work (plain workspace (linked_of v)) (use_of v)

-- the first r slots are linked, at least and at most so many, and without the links the workspace is `is`
pub record SlotsLinked (seed : Seed) (heads workspace : List ℕ) (r least most : ℕ) (is : List ℕ) : Type 0 where
  pub chained : Chained seed heads workspace r
  pub same : plain workspace r ≡ is
  pub not_fewer : least ≤ r
  pub not_more : r ≤ most

-- the slots in use lie in the workspace, and the first of them are linked
pub record ChainsLinked (seed : Seed) (heads workspace : List ℕ) (v : Std.Option Linked) : Type 0 where
  pub chained : Chained seed heads workspace (linked_of v)
  pub inside : linked_of v ≤ in_use (use_of v)
  pub room : slot_words * in_use (use_of v) ≤ length workspace
