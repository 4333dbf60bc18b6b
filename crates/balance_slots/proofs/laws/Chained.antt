-- What keeps the chains, and what they find.
use Rattle.std.specs.Prelude.{◌≡◌, refl, Bool, true, false, cond, ◌&&◌, List, ℕ, zero, suc, ◌+◌, ◌*◌, ◌-◌, ◌/◌, ◌%◌, ◌<◌, ◌≤◌, eqb, length, take, drop, set, replicate}
use Rattle.std.proofs.Common.{sym, ap, ap₂, ◌∙◌, add-zero, add-one, arith, length-set, get_or-set_same, get_or-set_other, get_or-take, get_or-drop, eqb-true}
use Rattle.std.proofs.lemmas.List.{length-replicate, get_or-replicate}
use Rattle.std.proofs.lemmas.Bool.{eqb-false}
use Rattle.lists.specs.Same.{same_list}
use Rattle.lists.specs.laws.Same.{same_list-eq}
use Rattle.lists.specs.laws.Tests.{both_left, both_right}
use Rattle.lists.specs.laws.Count.{last_or_below}
use Rattle.expression.specs.Words.{word}
use Rattle.balance_slots.specs.inner.Work.{match_at, find_slot}
use Rattle.balance_slots.specs.declared.hash.Seed.{Seed}
use Rattle.balance_slots.specs.inner.Hash.{chains, hash}
use Rattle.balance_slots.specs.inner.Chain.{last_before, hash_at, Chained, holds, plain}
use Rattle.balance_slots.proofs.laws.Last.{last-same, hash-same}
use Rattle.balance_slots.proofs.laws.Plain.{plain-width, plain_past, part-plain}
use Rattle.balance_slots.specs.Workspace.{slot_words, tuple_word}

-- no slot is linked yet
pub chained_none : {seed : Seed} {heads : List ℕ} (workspace : List ℕ) → heads ≡ replicate chains 0 → Chained seed heads workspace 0
unfolding last_before
chained_none {seed} {heads} workspace e =
    record {
      begin = λ h l. ap (λ (x : List ℕ). word x h) e ∙ get_or-replicate chains h 0 0 l;
      follow = λ i l. absurd (omega arith);
      narrow = λ i l. absurd (omega arith);
      long = ap length e ∙ length-replicate {A = ℕ} chains 0;
    }

-- two workspaces whose first n slots differ in nets alone
pub record Alike (workspace vs : List ℕ) (n : ℕ) : Type 0 where
  pub words : (i j : ℕ) → i < n → j ≤ 8 → word vs (slot_words * i + j) ≡ word workspace (slot_words * i + j)

alike_width : {workspace vs : List ℕ} {n : ℕ} → Alike workspace vs n → (i : ℕ) → i < n → word vs (slot_words * i) ≡ word workspace (slot_words * i)
alike_width {workspace} {vs} a i h = ap (word vs) (sym (add-zero (slot_words * i))) ∙ a.words i 0 h (omega arith) ∙ ap (word workspace) (add-zero (slot_words * i))

alike_hash : (seed : Seed) {workspace vs : List ℕ} {n : ℕ} → Alike workspace vs n → (i : ℕ) → i < n → word workspace (slot_words * i) % 16 ≤ 8 → hash_at seed vs i ≡ hash_at seed workspace i
unfolding hash_at
alike_hash seed {workspace} {vs} a i h s =
    ap (λ (w : ℕ). hash seed (λ j. word vs (slot_words * i + tuple_word + j)) (w % 16)) (alike_width a i h)
    ∙ hash-same seed (λ j. word vs (slot_words * i + tuple_word + j)) (λ j. word workspace (slot_words * i + tuple_word + j)) (word workspace (slot_words * i) % 16)
    (λ j l. let e : slot_words * i + tuple_word + j ≡ slot_words * i + (1 + j) = omega arith in ap (word vs) e ∙ a.words i (1 + j) h (omega arith) ∙ ap (word workspace) (sym e))

pub chained_alike : {seed : Seed} {heads workspace vs : List ℕ} {n : ℕ} → Chained seed heads workspace n → Alike workspace vs n → Chained seed heads vs n
chained_alike {seed} {heads} {workspace} {vs} {n} c a =
    record {
      begin = λ h l. c.begin h l ∙ last-same (hash_at seed workspace) (hash_at seed vs) h n (λ i g. sym (hashes i g));
      follow =
          λ i l. ap (λ (w : ℕ). w / 16) (alike_width a i l) ∙ c.follow i l ∙ last-same (hash_at seed workspace) (hash_at seed vs) (hash_at seed workspace i) i (λ j g. sym (hashes j (omega arith)))
          ∙ ap (λ (h : ℕ). last_before (hash_at seed vs) h i) (sym (hashes i l));
      narrow = λ i l. rw (alike_width a i l) (c.narrow i l);
      long = c.long;
    }
  where
    hashes : (i : ℕ) → i < n → hash_at seed vs i ≡ hash_at seed workspace i
    hashes i g = alike_hash seed a i g (c.narrow i g)

-- slot n is linked
own-hash : {h : ℕ} (seed : Seed) (workspace vs : List ℕ) (n : ℕ) → word vs (slot_words * n) % 16 ≡ word workspace (slot_words * n) → ((j : ℕ) → word vs (slot_words * n + tuple_word + j) ≡ word workspace (slot_words * n + tuple_word + j))
    → h ≡ hash seed (λ j. word workspace (slot_words * n + tuple_word + j)) (word workspace (slot_words * n)) → hash_at seed vs n ≡ h
unfolding hash_at
own-hash seed workspace vs n e f q =
    ap (hash seed (λ j. word vs (slot_words * n + tuple_word + j))) e ∙ hash-same seed (λ j. word vs (slot_words * n + tuple_word + j)) (λ j. word workspace (slot_words * n + tuple_word + j)) (word workspace (slot_words * n)) (λ j l. f j) ∙ sym q

last-next : (f : ℕ → ℕ) (h n : ℕ) → last_before f h (n + 1) ≡ cond (eqb (f n) h) (n + 1) (last_before f h n)
unfolding last_before
last-next f h n = rw (add-one n)

module _ {seed : Seed} {heads workspace : List ℕ} {n h : ℕ} (c : Chained seed heads workspace n) (room : slot_words * n + slot_words ≤ length workspace) (small : word workspace (slot_words * n) ≤ 8)
    (is : h ≡ hash seed (λ j. word workspace (slot_words * n + tuple_word + j)) (word workspace (slot_words * n))) (low : h < chains) where
  abbrev w : ℕ
  w = word workspace (slot_words * n) + 16 * word heads h

  abbrev vs : List ℕ
  vs = set workspace (slot_words * n) w

  abbrev hs : List ℕ
  hs = set heads h (n + 1)

  own : word vs (slot_words * n) ≡ w
  own = get_or-set_same workspace (slot_words * n) w 0 (omega arith)

  others : (i : ℕ) → (i ≡ slot_words * n → ⊥) → word vs i ≡ word workspace i
  others i e = get_or-set_other workspace (slot_words * n) i w 0 e

  older : Chained seed heads vs n
  older = chained_alike c (record { words = λ i j l m. others (slot_words * i + j) (λ z. omega arith) })

  last : hash_at seed vs n ≡ h
  last =
      own-hash seed workspace vs n (ap (λ (x : ℕ). x % 16) own ∙ (let z : (word workspace (slot_words * n) + 16 * word heads h) % 16 ≡ word workspace (slot_words * n) = omega arith in z))
      (λ j. others (slot_words * n + tuple_word + j) (λ z. omega arith)) is

  begins : (g : ℕ) → g < chains → word hs g ≡ last_before (hash_at seed vs) g (n + 1)
  begins g l = go (eqb h g) refl ∙ sym (last-next (hash_at seed vs) g n ∙ ap (λ (x : ℕ). cond (eqb x g) (n + 1) (last_before (hash_at seed vs) g n)) last)
    where
      go : (b : Bool) → eqb h g ≡ b → word hs g ≡ cond b (n + 1) (last_before (hash_at seed vs) g n)
      go true e = ap (word hs) (sym (eqb-true h g e)) ∙ get_or-set_same heads h (n + 1) 0 (omega (arith, c.long))
      go false e = get_or-set_other heads h g (n + 1) 0 (λ z. eqb-false h g e (sym z)) ∙ older.begin g l

  follows : (i : ℕ) → i < n + 1 → word vs (slot_words * i) / 16 ≡ last_before (hash_at seed vs) (hash_at seed vs i) i
  follows i l =
      last_or_below (λ i. word vs (slot_words * i) / 16 ≡ last_before (hash_at seed vs) (hash_at seed vs i) i) n i (omega arith)
      (ap (λ (x : ℕ). x / 16) own ∙ (let z : (word workspace (slot_words * n) + 16 * word heads h) / 16 ≡ word heads h = omega arith in z) ∙ older.begin h low ∙ ap (λ (x : ℕ). last_before (hash_at seed vs) x n) (sym last))
      (older.follow i)

  narrows : (i : ℕ) → i < n + 1 → word vs (slot_words * i) % 16 ≤ 8
  narrows i l = last_or_below (λ i. word vs (slot_words * i) % 16 ≤ 8) n i (omega arith) (rw own (omega (arith, small))) (older.narrow i)

  pub chained-next : Chained seed (set heads h (n + 1)) (set workspace (slot_words * n) (word workspace (slot_words * n) + 16 * word heads h)) (n + 1)
  chained-next = record { begin = begins; follow = follows; narrow = narrows; long = length-set heads h (n + 1) ∙ c.long }

-- a slot and a tuple, with and without links
pub match_linked : (workspace t : List ℕ) (n k : ℕ) → k < n → length t ≤ 8 → slot_words * k + slot_words ≤ length workspace → match_at (plain workspace n) t k ≡ holds workspace t k
unfolding match_at holds
match_linked workspace t n k h s r =
    ap₂ (λ (w : ℕ) (l : List ℕ). eqb w (length t) && same_list l t) (plain-width workspace n k h (omega arith)) (part-plain workspace n k (length t) s r)

match_past : (workspace t : List ℕ) (n k : ℕ) → n ≤ k → length t ≤ 8 → slot_words * k + slot_words ≤ length workspace → match_at (plain workspace n) t k ≡ match_at workspace t k
unfolding match_at
match_past workspace t n k h s r =
    ap₂ (λ (w : ℕ) (l : List ℕ). eqb w (length t) && same_list l t) (plain_past workspace n (slot_words * k) (omega arith) (omega arith)) (part-plain workspace n k (length t) s r)

pub find_past : (workspace t : List ℕ) (n k m : ℕ) → n ≤ k → length t ≤ 8 → slot_words * (k + m) ≤ length workspace → find_slot (plain workspace n) t k m ≡ find_slot workspace t k m
unfolding find_slot
find_past workspace t n k zero h s r = refl
find_past workspace t n k (suc m) h s r =
    ap₂ (λ (b : Bool) (x : ℕ). cond b k x) (match_past workspace t n k h s (omega arith)) (find_past workspace t n (suc k) m (omega arith) s (omega arith))

-- a slot that holds t has its hash
holds-hash : (seed : Seed) (workspace t : List ℕ) (k : ℕ) → holds workspace t k ≡ true → hash_at seed workspace k ≡ hash seed (word t) (length t)
unfolding holds hash_at
holds-hash seed workspace t k e =
    let w : word workspace (slot_words * k) % 16 ≡ length t = eqb-true (word workspace (slot_words * k) % 16) (length t) (both_left (eqb (word workspace (slot_words * k) % 16) (length t)) (same_list (take (length t) (drop (slot_words * k + tuple_word) workspace)) t) e) in
    let l : take (length t) (drop (slot_words * k + tuple_word) workspace) ≡ t = same_list-eq (take (length t) (drop (slot_words * k + tuple_word) workspace)) t (both_right (eqb (word workspace (slot_words * k) % 16) (length t)) (same_list (take (length t) (drop (slot_words * k + tuple_word) workspace)) t) e) in
    ap (hash seed (λ j. word workspace (slot_words * k + tuple_word + j))) w
    ∙ hash-same seed (λ j. word workspace (slot_words * k + tuple_word + j)) (word t) (length t)
    (λ j h. sym (get_or-take (length t) (drop (slot_words * k + tuple_word) workspace) j 0 h ∙ get_or-drop (slot_words * k + tuple_word) workspace j 0) ∙ ap (λ (x : List ℕ). word x j) l)

-- one slot of a search
pub find_step : (workspace t : List ℕ) (n k : ℕ) → k < n → find_slot workspace t k (n - k) ≡ cond (match_at workspace t k) k (find_slot workspace t (suc k) (n - suc k))
unfolding find_slot
find_step workspace t n k h = let e : n - k ≡ suc (n - suc k) = omega arith in ap (find_slot workspace t k) e

-- the slots after the last with the hash of t do not hold t
pub find_skips : (seed : Seed) (workspace t : List ℕ) (l n m : ℕ) → m ≤ l → l ≤ n → slot_words * n ≤ length workspace → length t ≤ 8
    → find_slot (plain workspace l) t (last_before (hash_at seed workspace) (hash seed (word t) (length t)) m) (n - last_before (hash_at seed workspace) (hash seed (word t) (length t)) m) ≡ find_slot (plain workspace l) t m (n - m)
unfolding last_before
find_skips seed workspace t l n zero h i r s = refl
find_skips seed workspace t l n (suc k) h i r s = go (eqb (hash_at seed workspace k) (hash seed (word t) (length t))) refl (find_skips seed workspace t l n k (omega arith) i r s)
  where
    H : ℕ
    H = hash seed (word t) (length t)

    B : ℕ
    B = last_before (hash_at seed workspace) H k

    other : (b : Bool) → eqb (hash_at seed workspace k) H ≡ false → holds workspace t k ≡ b → holds workspace t k ≡ false
    other true q e = absurd (eqb-false (hash_at seed workspace k) H q (holds-hash seed workspace t k e))
    other false q e = e

    go : (b : Bool) → eqb (hash_at seed workspace k) H ≡ b → find_slot (plain workspace l) t B (n - B) ≡ find_slot (plain workspace l) t k (n - k)
        → find_slot (plain workspace l) t (cond b (suc k) B) (n - cond b (suc k) B) ≡ find_slot (plain workspace l) t (suc k) (n - suc k)
    go true q ih = refl
    go false q ih =
        ih ∙ find_step (plain workspace l) t n k (omega arith)
        ∙ ap (λ (b : Bool). cond b k (find_slot (plain workspace l) t (suc k) (n - suc k))) (match_linked workspace t l k (omega arith) s (omega arith) ∙ other (holds workspace t k) q refl)
