-- An entry in the workspace's words is an entry in the slots.
use Rattle.std.specs.Prelude.{◌≡◌, Bool, ◌&&◌, ℕ, zero, suc, ◌+◌, ◌*◌, ◌-◌, ◌/◌, ◌<◌, ◌≤◌, eqb, leb, ltb, get_or, set}
use Rattle.std.proofs.Math.Path.{refl, sym, ap, ap₂}
use Rattle.std.proofs.Common.{◌∙◌, zero-le, length-append, get_or-append-add, ext_get_or}
use Rattle.std.proofs.Math.Bool.{true, false, cond}
use mathlib.Core.List.{List, [], ◌∷◌, ◌++◌, append_assoc, append-nil, flat_map, Memᴰ}
use native.Mathlib.Omega.{arith}
use Rattle.std.proofs.Math.ListN.{length, take, drop, replicate}
use Rattle.std.proofs.lemmas.List.{length-replicate, set_at, get_or_at}
use Rattle.std.proofs.Math.Seq.{append_snoc, drop-append-add, take_at}
use borrow.Author.Tests.{eqb-true, eqb-false, ltb-true, ltb-false, leb-true, leb-false, lt-ltb, le-ltb}
use Rattle.lists.specs.Same.{same_list}
use Rattle.lists.specs.laws.Same.{same_lengths}
use Rattle.lists.specs.Fold.{fold}
use Rattle.lists.specs.Tab.{tab}
use Rattle.lists.specs.laws.Tab.{tab-length, tab_get}
use Rattle.field.specs.Word.{add_m}
use Rattle.expression.specs.Words.{word}
use Rattle.expression.specs.laws.Below.{word-zeros, drop-zeros}
use Rattle.logup.specs.Ledger.{Entry}
use Rattle.balance_slots.specs.Slots.{Slot, add_nonzero, add, slots}
use Rattle.balance_slots.specs.Workspace.{words_of_slot, full, workspace_of, slot_words, tuple_word, net_word}
use Rattle.balance_slots.specs.inner.Work.{Work, match_at, find_slot, added_at, new_words, new_at, add_nonzero_at, step, work_of}

-- every tuple fits a slot
abbrev pub Fit : List Slot → Type 0
Fit [] = Unit {0}
Fit (s ∷ ss) = (length s.tuple ≤ 8) × Fit ss

-- a slot's words but the net
unfoldable pub front : Slot → List ℕ
front s = length s.tuple ∷ (s.tuple ++ replicate (8 - length s.tuple) 0)

pub front_long : (s : Slot) → length s.tuple ≤ 8 → length (front s) ≡ 9
unfolding front
front_long s h = simp (length-append, length-replicate) (omega arith)

pub slot_is : (s : Slot) (workspace : List ℕ) → words_of_slot s ++ workspace ≡ front s ++ s.net ∷ workspace
unfolding front
slot_is s workspace = append_snoc (length s.tuple ∷ (s.tuple ++ replicate (8 - length s.tuple) 0)) s.net workspace

pub slot-long : (s : Slot) → length s.tuple ≤ 8 → length (words_of_slot s) ≡ 10
unfolding front
slot-long s h = simp (length-append, length-replicate) (omega arith)

-- the first slot
match_first : (s : Slot) (workspace t : List ℕ) → length s.tuple ≤ 8 → match_at (words_of_slot s ++ workspace) t 0 ≡ same_list s.tuple t
unfolding match_at front
match_first s workspace t h = go (eqb (length s.tuple) (length t)) refl
  where
    body : List ℕ
    body = (s.tuple ++ replicate (8 - length s.tuple) 0) ++ (s.net ∷ []) ++ workspace

    go : (b : Bool) → eqb (length s.tuple) (length t) ≡ b → (b && same_list (take (length t) body) t) ≡ same_list s.tuple t
    go true e =
        let l : length s.tuple ≡ length t = eqb-true (length s.tuple) (length t) e in
        ap (λ (x : List ℕ). same_list x t)
        (ap (take (length t)) (append_assoc (s.tuple ++ replicate (8 - length s.tuple) 0) (s.net ∷ []) workspace ∙ append_assoc s.tuple (replicate (8 - length s.tuple) 0) ((s.net ∷ []) ++ workspace)) ∙ take_at s.tuple (replicate (8 - length s.tuple) 0 ++ ((s.net ∷ []) ++ workspace)) (length t) l)
    go false e = same_lengths s.tuple t (eqb-false (length s.tuple) (length t) e)

-- the later slots
match_later : (xs workspace t : List ℕ) (k : ℕ) → length xs ≡ 10 → match_at (xs ++ workspace) t (suc k) ≡ match_at workspace t k
unfolding match_at
match_later xs workspace t k h =
    let a : slot_words * suc k ≡ length xs + slot_words * k = omega arith in
    let b : slot_words * suc k + tuple_word ≡ length xs + (slot_words * k + tuple_word) = omega arith in
    ap₂ (λ (x : ℕ) (y : List ℕ). eqb x (length t) && same_list (take (length t) y) t)
    (ap (λ (n : ℕ). get_or (xs ++ workspace) n 0) a ∙ get_or-append-add xs workspace (slot_words * k) 0)
    (ap (λ (n : ℕ). drop n (xs ++ workspace)) b ∙ drop-append-add xs workspace (slot_words * k + tuple_word))

find_later : (xs workspace t : List ℕ) (k n : ℕ) → length xs ≡ 10 → find_slot (xs ++ workspace) t (suc k) n ≡ suc (find_slot workspace t k n)
unfolding find_slot
find_later xs workspace t k zero h = refl
find_later xs workspace t k (suc n) h = ap₂ (λ (b : Bool) (j : ℕ). cond b (suc k) j) (match_later xs workspace t k h) (find_later xs workspace t (suc k) n h) ∙ out (match_at workspace t k)
  where
    out : (b : Bool) → cond b (suc k) (suc (find_slot workspace t (suc k) n)) ≡ suc (cond b k (find_slot workspace t (suc k) n))
    out true = refl
    out false = refl

find_step : (s : Slot) (workspace t : List ℕ) (n : ℕ) → length s.tuple ≤ 8 → find_slot (words_of_slot s ++ workspace) t 0 (suc n) ≡ cond (same_list s.tuple t) 0 (suc (find_slot workspace t 0 n))
unfolding find_slot
find_step s workspace t n h = ap₂ (λ (b : Bool) (k : ℕ). cond b 0 k) (match_first s workspace t h) (find_later (words_of_slot s) workspace t 0 n (slot-long s h))

set-add : (xs ys : List ℕ) (n v : ℕ) → set (xs ++ ys) (length xs + n) v ≡ xs ++ set ys n v
set-add [] ys n v = ap (λ (m : ℕ). set ys m v) (let e : 0 + n ≡ n = omega arith in e)
set-add (x ∷ xs) ys n v =
    let e : suc (length xs) + n ≡ suc (length xs + n) = omega arith in
    ap (λ (m : ℕ). set (x ∷ (xs ++ ys)) m v) e ∙ ap (λ (l : List ℕ). x ∷ l) (set-add xs ys n v)

added_first : (p : ℕ) (s : Slot) (workspace : List ℕ) (c : ℕ) → length s.tuple ≤ 8 → added_at p (words_of_slot s ++ workspace) 0 c ≡ words_of_slot (record { tuple = s.tuple; net = add_m p s.net c }) ++ workspace
unfolding added_at front
added_first p s workspace c h =
    ap (λ (l : List ℕ). set l 9 (add_m p (get_or l 9 0) c)) (slot_is s workspace)
    ∙ ap (λ (n : ℕ). set (front s ++ s.net ∷ workspace) 9 (add_m p n c)) (get_or_at (front s) s.net workspace 0 9 (front_long s h))
    ∙ set_at (front s) s.net workspace (add_m p s.net c) 9 (front_long s h)
    ∙ sym (slot_is (record { tuple = s.tuple; net = add_m p s.net c }) workspace)

added_later : (p : ℕ) (xs workspace : List ℕ) (k c : ℕ) → length xs ≡ 10 → added_at p (xs ++ workspace) (suc k) c ≡ xs ++ added_at p workspace k c
unfolding added_at
added_later p xs workspace k c h =
    let a : slot_words * suc k + net_word ≡ length xs + (slot_words * k + net_word) = omega arith in
    ap (λ (n : ℕ). set (xs ++ workspace) n (add_m p (get_or (xs ++ workspace) n 0) c)) a
    ∙ ap (λ (v : ℕ). set (xs ++ workspace) (length xs + (slot_words * k + net_word)) (add_m p v c)) (get_or-append-add xs workspace (slot_words * k + net_word) 0)
    ∙ set-add xs workspace (slot_words * k + net_word) (add_m p (get_or workspace (slot_words * k + net_word) 0) c)

-- a tuple that has a slot: its net grows, and nothing else changes
pub entered_found : (p : ℕ) (ss : List Slot) (e : Entry) (rest : List ℕ) → Fit ss → find_slot (flat_map words_of_slot ss ++ rest) e.tuple 0 (length ss) < length ss
    → added_at p (flat_map words_of_slot ss ++ rest) (find_slot (flat_map words_of_slot ss ++ rest) e.tuple 0 (length ss)) e.count ≡ flat_map words_of_slot (add_nonzero p ss e) ++ rest
unfolding flat_map add_nonzero
entered_found p [] e rest f h = absurd (omega arith)
entered_found p (s ∷ ss) e rest f h =
    let W : List ℕ = flat_map words_of_slot ss ++ rest in
    let A : (words_of_slot s ++ flat_map words_of_slot ss) ++ rest ≡ words_of_slot s ++ W = append_assoc (words_of_slot s) (flat_map words_of_slot ss) rest in
    let k : find_slot ((words_of_slot s ++ flat_map words_of_slot ss) ++ rest) e.tuple 0 (suc (length ss)) ≡ cond (same_list s.tuple e.tuple) 0 (suc (find_slot W e.tuple 0 (length ss))) =
    ap (λ (l : List ℕ). find_slot l e.tuple 0 (suc (length ss))) A ∙ find_step s W e.tuple (length ss) f.0 in
    ap₂ (λ (l : List ℕ) (j : ℕ). added_at p l j e.count) A k ∙ go (same_list s.tuple e.tuple) (λ g. entered_found p ss e rest f.1 g) (rw k at h)
  where
    go : (b : Bool)
        → (find_slot (flat_map words_of_slot ss ++ rest) e.tuple 0 (length ss) < length ss → added_at p (flat_map words_of_slot ss ++ rest) (find_slot (flat_map words_of_slot ss ++ rest) e.tuple 0 (length ss)) e.count ≡ flat_map words_of_slot (add_nonzero p ss e) ++ rest)
        → cond b 0 (suc (find_slot (flat_map words_of_slot ss ++ rest) e.tuple 0 (length ss))) < suc (length ss)
        → added_at p (words_of_slot s ++ (flat_map words_of_slot ss ++ rest)) (cond b 0 (suc (find_slot (flat_map words_of_slot ss ++ rest) e.tuple 0 (length ss)))) e.count
        ≡ flat_map words_of_slot (cond b (record { tuple = s.tuple; net = add_m p s.net e.count } ∷ ss) (s ∷ add_nonzero p ss e)) ++ rest
    go true ih g = added_first p s (flat_map words_of_slot ss ++ rest) e.count f.0 ∙ sym (append_assoc (words_of_slot (record { tuple = s.tuple; net = add_m p s.net e.count })) (flat_map words_of_slot ss) rest)
    go false ih g =
        added_later p (words_of_slot s) (flat_map words_of_slot ss ++ rest) (find_slot (flat_map words_of_slot ss ++ rest) e.tuple 0 (length ss)) e.count (slot-long s f.0)
        ∙ ap (λ (l : List ℕ). words_of_slot s ++ l) (ih (omega arith)) ∙ sym (append_assoc (words_of_slot s) (flat_map words_of_slot (add_nonzero p ss e)) rest)

-- a tuple that has none: a new slot at the end
eight : (t : List ℕ) (n : ℕ) → length t ≤ n → tab (word t) 0 n ≡ t ++ replicate (n - length t) 0
eight t n h =
    ext_get_or 0 (tab (word t) 0 n) (t ++ replicate (n - length t) 0) (tab-length (word t) 0 n ∙ sym (simp (length-append, length-replicate) (omega arith)))
    (λ (i : ℕ) g. tab_get (word t) 0 n i (rw (tab-length (word t) 0 n) at g) ∙ ap (word t) (let z : 0 + i ≡ i = omega arith in z) ∙ sym (word-zeros t (n - length t) i))

new_slot_words : (t : List ℕ) (c : ℕ) → length t ≤ 8 → new_words t c ≡ words_of_slot (record { tuple = t; net = c })
unfolding new_words
new_slot_words t c h = ap (λ (l : List ℕ). (length t ∷ l) ++ (c ∷ [])) (eight t 8 h)

pub entered_new : (p : ℕ) (ss : List Slot) (e : Entry) (rest : List ℕ) → Fit ss → length e.tuple ≤ 8 → length ss ≤ find_slot (flat_map words_of_slot ss ++ rest) e.tuple 0 (length ss)
    → flat_map words_of_slot (add_nonzero p ss e) ≡ flat_map words_of_slot ss ++ new_words e.tuple e.count
unfolding flat_map add_nonzero
entered_new p [] e rest f h g = append-nil (words_of_slot (record { tuple = e.tuple; net = e.count })) ∙ sym (new_slot_words e.tuple e.count h)
entered_new p (s ∷ ss) e rest f h g =
    let W : List ℕ = flat_map words_of_slot ss ++ rest in
    let k : find_slot ((words_of_slot s ++ flat_map words_of_slot ss) ++ rest) e.tuple 0 (suc (length ss)) ≡ cond (same_list s.tuple e.tuple) 0 (suc (find_slot W e.tuple 0 (length ss))) =
    ap (λ (l : List ℕ). find_slot l e.tuple 0 (suc (length ss))) (append_assoc (words_of_slot s) (flat_map words_of_slot ss) rest) ∙ find_step s W e.tuple (length ss) f.0 in
    go (same_list s.tuple e.tuple) (λ q. entered_new p ss e rest f.1 h q) (rw k at g)
  where
    go : (b : Bool)
        → (length ss ≤ find_slot (flat_map words_of_slot ss ++ rest) e.tuple 0 (length ss) → flat_map words_of_slot (add_nonzero p ss e) ≡ flat_map words_of_slot ss ++ new_words e.tuple e.count)
        → suc (length ss) ≤ cond b 0 (suc (find_slot (flat_map words_of_slot ss ++ rest) e.tuple 0 (length ss)))
        → flat_map words_of_slot (cond b (record { tuple = s.tuple; net = add_m p s.net e.count } ∷ ss) (s ∷ add_nonzero p ss e)) ≡ (words_of_slot s ++ flat_map words_of_slot ss) ++ new_words e.tuple e.count
    go true ih q = absurd (omega arith)
    go false ih q = ap (λ (l : List ℕ). words_of_slot s ++ l) (ih (omega arith)) ∙ sym (append_assoc (words_of_slot s) (flat_map words_of_slot ss) (new_words e.tuple e.count))

-- the slots in use afterwards
pub entered-count : (p : ℕ) (ss : List Slot) (e : Entry) (rest : List ℕ) → Fit ss
    → length (add_nonzero p ss e) ≡ cond (ltb (find_slot (flat_map words_of_slot ss ++ rest) e.tuple 0 (length ss)) (length ss)) (length ss) (length ss + 1)
unfolding flat_map add_nonzero
entered-count p [] e rest f = ap (λ (b : Bool). cond b 0 (0 + 1)) (sym (le-ltb (find_slot rest e.tuple 0 0) 0 zero-le))
entered-count p (s ∷ ss) e rest f =
    let W : List ℕ = flat_map words_of_slot ss ++ rest in
    let k : find_slot ((words_of_slot s ++ flat_map words_of_slot ss) ++ rest) e.tuple 0 (suc (length ss)) ≡ cond (same_list s.tuple e.tuple) 0 (suc (find_slot W e.tuple 0 (length ss))) =
    ap (λ (l : List ℕ). find_slot l e.tuple 0 (suc (length ss))) (append_assoc (words_of_slot s) (flat_map words_of_slot ss) rest) ∙ find_step s W e.tuple (length ss) f.0 in
    go (same_list s.tuple e.tuple) (entered-count p ss e rest f.1) ∙ ap (λ (n : ℕ). cond (ltb n (suc (length ss))) (suc (length ss)) (suc (length ss) + 1)) (sym k)
  where
    F : ℕ
    F = find_slot (flat_map words_of_slot ss ++ rest) e.tuple 0 (length ss)

    later : (b : Bool) → ltb F (length ss) ≡ b → suc (cond b (length ss) (length ss + 1)) ≡ cond (ltb (suc F) (suc (length ss))) (suc (length ss)) (suc (length ss) + 1)
    later true q = let h : F < length ss = ltb-true F (length ss) q in rw (lt-ltb (suc F) (suc (length ss)) (omega arith))
    later false q = let h : length ss ≤ F = ltb-false F (length ss) q in rw (le-ltb (suc F) (suc (length ss)) (omega arith)) (omega arith)

    go : (b : Bool) → length (add_nonzero p ss e) ≡ cond (ltb F (length ss)) (length ss) (length ss + 1)
        → length (cond b (record { tuple = s.tuple; net = add_m p s.net e.count } ∷ ss) (s ∷ add_nonzero p ss e)) ≡ cond (ltb (cond b 0 (suc F)) (suc (length ss))) (suc (length ss)) (suc (length ss) + 1)
    go true ih = rw (lt-ltb 0 (suc (length ss)) (omega arith))
    go false ih = ap suc ih ∙ later (ltb F (length ss)) refl

-- The code's step on the words is an entry among the slots.
abbrev pub made : List ℕ → ℕ → Bool → Work
made workspace n b = record { words = workspace; used = n; full = b }

work-full : (room : ℕ) (ss : List Slot) → full room ss ≡ true → work_of room ss ≡ made (replicate room 0) 0 true
unfolding work_of workspace_of
work-full room ss e = rw e

-- the words of slots that fit, and zeros
abbrev open_words : ℕ → List Slot → List ℕ
open_words room ss = flat_map words_of_slot ss ++ replicate (room - slot_words * length ss) 0

work_open : (room : ℕ) (ss : List Slot) → full room ss ≡ false → work_of room ss ≡ made (open_words room ss) (length ss) false
unfolding work_of workspace_of
work_open room ss e = rw e

words_long : (ss : List Slot) → Fit ss → length (flat_map words_of_slot ss) ≡ slot_words * length ss
unfolding flat_map
words_long [] f = refl
words_long (s ∷ ss) f = length-append (words_of_slot s) (flat_map words_of_slot ss) ∙ (let k : length (words_of_slot s) + length (flat_map words_of_slot ss) ≡ slot_words * suc (length ss) = omega (arith, slot-long s f.0, words_long ss f.1) in k)

open_long : (room : ℕ) (ss : List Slot) → Fit ss → length ss ≤ room / 10 → length (open_words room ss) ≡ room
open_long room ss f h =
    length-append (flat_map words_of_slot ss) (replicate (room - slot_words * length ss) 0) ∙ (let k : length (flat_map words_of_slot ss) + length (replicate {A = ℕ} (room - slot_words * length ss) 0) ≡ room = simp length-replicate (omega (arith, words_long ss f)) in k)

add_nonzero_longer : (p : ℕ) (ss : List Slot) (e : Entry) → length ss ≤ length (add_nonzero p ss e)
unfolding add_nonzero
add_nonzero_longer p [] e = zero-le
add_nonzero_longer p (s ∷ ss) e = go (same_list s.tuple e.tuple) (add_nonzero_longer p ss e)
  where
    go : (b : Bool) → length ss ≤ length (add_nonzero p ss e) → suc (length ss) ≤ length (cond b (record { tuple = s.tuple; net = add_m p s.net e.count } ∷ ss) (s ∷ add_nonzero p ss e))
    go true ih = omega arith
    go false ih = omega arith

add_nonzero-fit : (p : ℕ) (ss : List Slot) (e : Entry) → Fit ss → length e.tuple ≤ 8 → Fit (add_nonzero p ss e)
unfolding add_nonzero
add_nonzero-fit p [] e f h = (h, tt)
add_nonzero-fit p (s ∷ ss) e f h = go (same_list s.tuple e.tuple) (add_nonzero-fit p ss e f.1 h)
  where
    go : (b : Bool) → Fit (add_nonzero p ss e) → Fit (cond b (record { tuple = s.tuple; net = add_m p s.net e.count } ∷ ss) (s ∷ add_nonzero p ss e))
    go true ih = f
    go false ih = (f.0, ih)

add_fit : (p : ℕ) (ss : List Slot) (e : Entry) → Fit ss → length e.tuple ≤ 8 → Fit (add p ss e)
unfolding add
add_fit p ss e f h = go (eqb e.count 0) (add_nonzero-fit p ss e f h)
  where
    go : (b : Bool) → Fit (add_nonzero p ss e) → Fit (cond b ss (add_nonzero p ss e))
    go true g = f
    go false g = g

-- no room stays no room
add-full : (p room : ℕ) (ss : List Slot) (e : Entry) → full room ss ≡ true → full room (add p ss e) ≡ true
unfolding full add
add-full p room ss e h = go (eqb e.count 0) (add_nonzero_longer p ss e)
  where
    go : (b : Bool) → length ss ≤ length (add_nonzero p ss e) → ltb (room / 10) (length (cond b ss (add_nonzero p ss e))) ≡ true
    go true g = h
    go false g = let k : room / 10 < length ss = ltb-true (room / 10) (length ss) h in lt-ltb (room / 10) (length (add_nonzero p ss e)) (omega arith)

module _ (p room : ℕ) (ss : List Slot) (e : Entry) (f : Fit ss) (h : length e.tuple ≤ 8) (o : full room ss ≡ false) where
  abbrev N : ℕ
  N = length ss

  abbrev W : List ℕ
  W = open_words room ss

  abbrev F : ℕ
  F = find_slot W e.tuple 0 N

  room_for : N ≤ room / 10
  unfolding full
  room_for = ltb-false (room / 10) N o

  -- its tuple has a slot
  found : F < N → made (added_at p W F e.count) N false ≡ work_of room (add_nonzero p ss e)
  unfolding full
  found g =
      let c : length (add_nonzero p ss e) ≡ N = entered-count p ss e (replicate (room - slot_words * N) 0) f ∙ ap (λ (b : Bool). cond b N (N + 1)) (lt-ltb F N g) in
      let q : full room (add_nonzero p ss e) ≡ false = ap (ltb (room / 10)) c ∙ o in
      ap₂ (λ (x : List ℕ) (n : ℕ). made x n false) (entered_found p ss e (replicate (room - slot_words * N) 0) f g ∙ ap (λ (n : ℕ). flat_map words_of_slot (add_nonzero p ss e) ++ replicate (room - slot_words * n) 0) (sym c)) (sym c)
      ∙ sym (work_open room (add_nonzero p ss e) q)

  count_new : N ≤ F → length (add_nonzero p ss e) ≡ N + 1
  count_new g = entered-count p ss e (replicate (room - slot_words * N) 0) f ∙ ap (λ (b : Bool). cond b N (N + 1)) (le-ltb F N g)

  -- it gets one
  fresh : N ≤ F → slot_words * N + slot_words ≤ room → made (new_at W N e.tuple e.count) (N + 1) false ≡ work_of room (add_nonzero p ss e)
  unfolding full new_at
  fresh g r =
      let c : length (add_nonzero p ss e) ≡ N + 1 = count_new g in
      let q : full room (add_nonzero p ss e) ≡ false = ap (ltb (room / 10)) c ∙ le-ltb (room / 10) (N + 1) (omega arith) in
      let a : take (slot_words * N) W ≡ flat_map words_of_slot ss = take_at (flat_map words_of_slot ss) (replicate (room - slot_words * N) 0) (slot_words * N) (words_long ss f) in
      let k : slot_words * N + slot_words ≡ length (flat_map words_of_slot ss) + 10 = omega (arith, words_long ss f) in
      let z : room - slot_words * N - 10 ≡ room - slot_words * (N + 1) = omega arith in
      let d : drop (slot_words * N + slot_words) W ≡ replicate (room - slot_words * (N + 1)) 0 =
      ap (λ (n : ℕ). drop n W) k ∙ drop-append-add (flat_map words_of_slot ss) (replicate (room - slot_words * N) 0) 10 ∙ drop-zeros 10 (room - slot_words * N) ∙ ap (λ (n : ℕ). replicate n 0) z in
      let t : take (slot_words * N) W ++ (new_words e.tuple e.count ++ drop (slot_words * N + slot_words) W) ≡ flat_map words_of_slot (add_nonzero p ss e) ++ replicate (room - slot_words * (N + 1)) 0 =
      ap₂ (λ (x y : List ℕ). x ++ (new_words e.tuple e.count ++ y)) a d
      ∙ sym (append_assoc (flat_map words_of_slot ss) (new_words e.tuple e.count) (replicate (room - slot_words * (N + 1)) 0))
      ∙ ap (λ (x : List ℕ). x ++ replicate (room - slot_words * (N + 1)) 0) (sym (entered_new p ss e (replicate (room - slot_words * N) 0) f h g)) in
      ap₂ (λ (x : List ℕ) (n : ℕ). made x n false) (t ∙ ap (λ (n : ℕ). flat_map words_of_slot (add_nonzero p ss e) ++ replicate (room - slot_words * n) 0) (sym c)) (sym c)
      ∙ sym (work_open room (add_nonzero p ss e) q)

  -- there is none
  missing : N ≤ F → room < slot_words * N + slot_words → made (replicate (length W) 0) 0 true ≡ work_of room (add_nonzero p ss e)
  unfolding full
  missing g r =
      let q : full room (add_nonzero p ss e) ≡ true = ap (ltb (room / 10)) (count_new g) ∙ lt-ltb (room / 10) (N + 1) (omega arith) in
      ap (λ (n : ℕ). made (replicate n 0) 0 true) (open_long room ss f room_for) ∙ sym (work-full room (add_nonzero p ss e) q)

  add_nonzero_is : add_nonzero_at p (made W N false) e.tuple e.count ≡ work_of room (add_nonzero p ss e)
  unfolding add_nonzero_at
  add_nonzero_is = go (ltb F N) refl (leb (slot_words * N + slot_words) (length W)) refl
    where
      L : length W ≡ room
      L = open_long room ss f room_for

      go : (b : Bool) → ltb F N ≡ b → (c : Bool) → leb (slot_words * N + slot_words) (length W) ≡ c
          → cond b (made (added_at p W F e.count) N false) (cond c (made (new_at W N e.tuple e.count) (N + 1) false) (made (replicate (length W) 0) 0 true)) ≡ work_of room (add_nonzero p ss e)
      go true q c r = found (ltb-true F N q)
      go false q true r = fresh (ltb-false F N q) (let k : slot_words * N + slot_words ≤ length W = leb-true (slot_words * N + slot_words) (length W) r in omega (arith, L))
      go false q false r = missing (ltb-false F N q) (let k : length W < slot_words * N + slot_words = leb-false (slot_words * N + slot_words) (length W) r in omega (arith, L))

  add_is : step p (made W N false) e ≡ work_of room (add p ss e)
  unfolding step add
  add_is = go (eqb e.count 0) add_nonzero_is
    where
      go : (b : Bool) → add_nonzero_at p (made W N false) e.tuple e.count ≡ work_of room (add_nonzero p ss e)
          → cond b (made W N false) (add_nonzero_at p (made W N false) e.tuple e.count) ≡ work_of room (cond b ss (add_nonzero p ss e))
      go true g = sym (work_open room ss o)
      go false g = g

pub step_is : (p room : ℕ) (ss : List Slot) (e : Entry) → Fit ss → length e.tuple ≤ 8 → step p (work_of room ss) e ≡ work_of room (add p ss e)
step_is p room ss e f h = go (full room ss) refl
  where
    stays : step p (made (replicate room 0) 0 true) e ≡ made (replicate room 0) 0 true
    stays = unfold step in refl

    go : (b : Bool) → full room ss ≡ b → step p (work_of room ss) e ≡ work_of room (add p ss e)
    go true q = ap (λ (w : Work). step p w e) (work-full room ss q) ∙ stays ∙ sym (work-full room (add p ss e) (add-full p room ss e q))
    go false q = ap (λ (w : Work). step p w e) (work_open room ss q) ∙ add_is p room ss e f h q

-- every tuple has at most eight words
abbrev pub Narrow : List Entry → Type 0
Narrow es = (e : Entry) → Memᴰ e es → length e.tuple ≤ 8

pub fold_is : (p room : ℕ) (es : List Entry) → Narrow es → (ss : List Slot) → Fit ss → fold (step p) (work_of room ss) es ≡ work_of room (fold (add p) ss es)
unfolding fold
fold_is p room [] h ss f = refl
fold_is p room (e ∷ es) h ss f =
    let n : length e.tuple ≤ 8 = h e (Memᴰ.head refl) in
    ap (λ (w : Work). fold (step p) w es) (step_is p room ss e f n) ∙ fold_is p room es (λ x m. h x (Memᴰ.tail m)) (add p ss e) (add_fit p ss e f n)

pub fold-fit : (p : ℕ) (es : List Entry) → Narrow es → (ss : List Slot) → Fit ss → Fit (fold (add p) ss es)
unfolding fold
fold-fit p [] h ss f = f
fold-fit p (e ∷ es) h ss f = fold-fit p es (λ x m. h x (Memᴰ.tail m)) (add p ss e) (add_fit p ss e f (h e (Memᴰ.head refl)))

work_empty : (room : ℕ) → work_of room [] ≡ made (replicate room 0) 0 false
unfolding full flat_map
work_empty room =
    work_open room [] (le-ltb (room / 10) 0 zero-le) ∙ ap (λ (n : ℕ). made (replicate n 0) 0 false) (let z : room - slot_words * 0 ≡ room = omega arith in z)

-- A group's entries, met one by one in a workspace of zeros.
pub work-slots : (p room : ℕ) (es : List Entry) → Narrow es → fold (step p) (made (replicate room 0) 0 false) es ≡ work_of room (slots p es)
unfolding slots
work-slots p room es h = ap (λ (w : Work). fold (step p) w es) (sym (work_empty room)) ∙ fold_is p room es h [] tt

pub slots-fit : (p : ℕ) (es : List Entry) → Narrow es → Fit (slots p es)
unfolding slots
slots-fit p es h = fold-fit p es h [] tt
