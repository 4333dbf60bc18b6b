-- The workspace without its links, word by word.
use Rattle.std.specs.Prelude.{◌≡◌, refl, Bool, true, false, cond, ◌&&◌, List, ◌++◌, ℕ, ◌+◌, ◌*◌, ◌-◌, ◌%◌, ◌<◌, ◌≤◌, eqb, ltb, length, take, drop, set}
use Rattle.std.proofs.Common.{sym, ap, ◌∙◌, zero-add, arith, length-set, length-drop, ext_get_or, get_or-set_same, get_or-set_other, get_or-take, get_or-drop, get_or-append-add, length-take-le, eq-eqb, ne_eqb, eqb-true, lt-ltb, le-ltb, ltb-true, ltb-false}
use Rattle.std.proofs.Math.ListN.{get_or-append}
use Rattle.std.proofs.lemmas.Bool.{eqb-false}
use Rattle.lists.specs.laws.Tab.{tab-length, tab_get}
use Rattle.field.specs.Word.{add_m}
use Rattle.expression.specs.Words.{word}
use Rattle.balance_slots.specs.inner.Work.{added_at, new_words, new_at}
use Rattle.balance_slots.proofs.laws.Room.{new_at-long}
use Rattle.balance_slots.specs.inner.Chain.{plain_word, plain}
use Rattle.balance_slots.specs.Workspace.{slot_words, tuple_word, net_word}

pub plain-length : (workspace : List ℕ) (n : ℕ) → length (plain workspace n) ≡ length workspace
unfolding plain
plain-length workspace n = tab-length (plain_word workspace n) 0 (length workspace)

-- the width word of a linked slot, and every other word
linked_is : (workspace : List ℕ) (n i : ℕ) → i < slot_words * n → i % 10 ≡ 0 → plain_word workspace n i ≡ word workspace i % 16
unfolding plain_word
linked_is workspace n i h z = rw (lt-ltb i (slot_words * n) h, eq-eqb (i % 10) 0 z)

past_is : (workspace : List ℕ) (n i : ℕ) → slot_words * n ≤ i → plain_word workspace n i ≡ word workspace i
unfolding plain_word
past_is workspace n i h = rw (le-ltb i (slot_words * n) h)

inner_is : (workspace : List ℕ) (n i : ℕ) → (i % 10 ≡ 0 → ⊥) → plain_word workspace n i ≡ word workspace i
unfolding plain_word
inner_is workspace n i h = go (ltb i (slot_words * n)) (eqb (i % 10) 0) (ne_eqb (i % 10) 0 h)
  where
    go : (b c : Bool) → c ≡ false → cond (b && c) (word workspace i % 16) (word workspace i) ≡ word workspace i
    go true c e = rw e
    go false c e = refl

-- it depends on its own word alone
word_same : (workspace vs : List ℕ) (n i : ℕ) → word workspace i ≡ word vs i → plain_word workspace n i ≡ plain_word vs n i
unfolding plain_word
word_same workspace vs n i e = ap (λ (x : ℕ). cond (ltb i (slot_words * n) && eqb (i % 10) 0) (x % 16) x) e

plain_at : (workspace : List ℕ) (n i : ℕ) → i < length workspace → word (plain workspace n) i ≡ plain_word workspace n i
unfolding plain
plain_at workspace n i h = tab_get (plain_word workspace n) 0 (length workspace) i h ∙ ap (plain_word workspace n) (zero-add i)

pub plain-width : (workspace : List ℕ) (n k : ℕ) → k < n → slot_words * k < length workspace → word (plain workspace n) (slot_words * k) ≡ word workspace (slot_words * k) % 16
plain-width workspace n k h g = plain_at workspace n (slot_words * k) g ∙ linked_is workspace n (slot_words * k) (omega arith) (omega arith)

pub plain_past : (workspace : List ℕ) (n i : ℕ) → slot_words * n ≤ i → i < length workspace → word (plain workspace n) i ≡ word workspace i
plain_past workspace n i h g = plain_at workspace n i g ∙ past_is workspace n i h

plain-inner : (workspace : List ℕ) (n k j : ℕ) → j < 9 → slot_words * k + tuple_word + j < length workspace → word (plain workspace n) (slot_words * k + tuple_word + j) ≡ word workspace (slot_words * k + tuple_word + j)
plain-inner workspace n k j h g = plain_at workspace n (slot_words * k + tuple_word + j) g ∙ inner_is workspace n (slot_words * k + tuple_word + j) (λ z. omega arith)

-- a list that has the plain words is the plain list
plain_is : (workspace vs : List ℕ) (n : ℕ) → length vs ≡ length workspace → ((i : ℕ) → i < length workspace → word vs i ≡ plain_word workspace n i) → vs ≡ plain workspace n
plain_is workspace vs n l e =
    ext_get_or 0 vs (plain workspace n) (l ∙ sym (plain-length workspace n)) (λ (i : ℕ) h. e i (omega arith) ∙ sym (plain_at workspace n i (omega arith)))

pub plain_none : (workspace : List ℕ) → plain workspace 0 ≡ workspace
plain_none workspace = sym (plain_is workspace workspace 0 refl (λ i h. sym (past_is workspace 0 i (omega arith))))

-- by the number of a word: the one that is set, or another
at_set : (P : Type 0) (i j : ℕ) → (i ≡ j → P) → ((i ≡ j → ⊥) → P) → P
at_set P i j y n = go (eqb i j) refl
  where
    go : (b : Bool) → eqb i j ≡ b → P
    go true e = y (eqb-true i j e)
    go false e = n (eqb-false i j e)

below_or : (P : Type 0) (i j : ℕ) → (i < j → P) → (j ≤ i → P) → P
below_or P i j y n = go (ltb i j) refl
  where
    go : (b : Bool) → ltb i j ≡ b → P
    go true e = y (ltb-true i j e)
    go false e = n (ltb-false i j e)

-- a net is set
plain-net : (workspace : List ℕ) (n k v : ℕ) → set (plain workspace n) (slot_words * k + net_word) v ≡ plain (set workspace (slot_words * k + net_word) v) n
plain-net workspace n k v =
    plain_is (set workspace (slot_words * k + net_word) v) (set (plain workspace n) (slot_words * k + net_word) v) n (length-set (plain workspace n) (slot_words * k + net_word) v ∙ plain-length workspace n ∙ sym (length-set workspace (slot_words * k + net_word) v))
    (λ i h. let g : i < length workspace = rw (length-set workspace (slot_words * k + net_word) v) at h in
    at_set (word (set (plain workspace n) (slot_words * k + net_word) v) i ≡ plain_word (set workspace (slot_words * k + net_word) v) n i) i (slot_words * k + net_word) (λ e. same i g e) (λ e. other i g e))
  where
    same : (i : ℕ) → i < length workspace → i ≡ slot_words * k + net_word → word (set (plain workspace n) (slot_words * k + net_word) v) i ≡ plain_word (set workspace (slot_words * k + net_word) v) n i
    same i g e =
        rw e (get_or-set_same (plain workspace n) (slot_words * k + net_word) v 0 (rw (plain-length workspace n) (rw e at g)) ∙ sym (inner_is (set workspace (slot_words * k + net_word) v) n (slot_words * k + net_word) (λ z. omega arith) ∙ get_or-set_same workspace (slot_words * k + net_word) v 0 (rw e at g)))

    other : (i : ℕ) → i < length workspace → (i ≡ slot_words * k + net_word → ⊥) → word (set (plain workspace n) (slot_words * k + net_word) v) i ≡ plain_word (set workspace (slot_words * k + net_word) v) n i
    other i g e =
        get_or-set_other (plain workspace n) (slot_words * k + net_word) i v 0 e ∙ plain_at workspace n i g ∙ word_same workspace (set workspace (slot_words * k + net_word) v) n i (sym (get_or-set_other workspace (slot_words * k + net_word) i v 0 e))

pub plain_added : (p : ℕ) (workspace : List ℕ) (n k c : ℕ) → slot_words * k + slot_words ≤ length workspace → added_at p (plain workspace n) k c ≡ plain (added_at p workspace k c) n
unfolding added_at
plain_added p workspace n k c h =
    let a : slot_words * k + tuple_word + 8 ≡ slot_words * k + net_word = omega arith in
    let e : word (plain workspace n) (slot_words * k + net_word) ≡ word workspace (slot_words * k + net_word) = rw a at (plain-inner workspace n k 8 (omega arith) (omega arith)) in
    ap (λ (x : ℕ). set (plain workspace n) (slot_words * k + net_word) (add_m p x c)) e ∙ plain-net workspace n k (add_m p (word workspace (slot_words * k + net_word)) c)

below-same : (workspace : List ℕ) (n i : ℕ) → i < slot_words * n → plain_word workspace (n + 1) i ≡ plain_word workspace n i
unfolding plain_word
below-same workspace n i h =
    ap (λ (x : Bool). cond (x && eqb (i % 10) 0) (word workspace i % 16) (word workspace i)) (lt-ltb i (slot_words * (n + 1)) (omega arith) ∙ sym (lt-ltb i (slot_words * n) h))

-- but for the width word of slot n, one more linked slot changes nothing
one_more : (workspace : List ℕ) (n i : ℕ) → (i ≡ slot_words * n → ⊥) → plain_word workspace (n + 1) i ≡ plain_word workspace n i
one_more workspace n i e = below_or (plain_word workspace (n + 1) i ≡ plain_word workspace n i) i (slot_words * n) (below-same workspace n i) from
  where
    from : slot_words * n ≤ i → plain_word workspace (n + 1) i ≡ plain_word workspace n i
    from h =
        below_or (plain_word workspace (n + 1) i ≡ word workspace i) i (slot_words * n + slot_words) (λ b. inner_is workspace (n + 1) i (λ z. omega arith)) (λ b. past_is workspace (n + 1) i (omega arith))
        ∙ sym (past_is workspace n i h)

-- a link is set
pub plain_linked : (workspace : List ℕ) (n v : ℕ) → slot_words * n < length workspace → word workspace (slot_words * n) ≤ 8 → plain (set workspace (slot_words * n) (word workspace (slot_words * n) + 16 * v)) (n + 1) ≡ plain workspace n
plain_linked workspace n v r s =
    plain_is workspace (plain W (n + 1)) n (plain-length W (n + 1) ∙ length-set workspace (slot_words * n) w)
    (λ i h. let g : i < length W = rw (length-set workspace (slot_words * n) w) h in
    plain_at W (n + 1) i g ∙ at_set (plain_word W (n + 1) i ≡ plain_word workspace n i) i (slot_words * n) (λ e. same i e) (λ e. other i e))
  where
    w : ℕ
    w = word workspace (slot_words * n) + 16 * v

    W : List ℕ
    W = set workspace (slot_words * n) w

    same : (i : ℕ) → i ≡ slot_words * n → plain_word W (n + 1) i ≡ plain_word workspace n i
    same i e =
        let m : (word workspace (slot_words * n) + 16 * v) % 16 ≡ word workspace (slot_words * n) = omega arith in
        rw e (linked_is W (n + 1) (slot_words * n) (omega arith) (omega arith) ∙ ap (λ (x : ℕ). x % 16) (get_or-set_same workspace (slot_words * n) w 0 r) ∙ m ∙ sym (past_is workspace n (slot_words * n) (omega arith)))

    other : (i : ℕ) → (i ≡ slot_words * n → ⊥) → plain_word W (n + 1) i ≡ plain_word workspace n i
    other i e = word_same W workspace (n + 1) i (get_or-set_other workspace (slot_words * n) i w 0 e) ∙ one_more workspace n i e

-- a link is taken out
pub plain-next : (workspace : List ℕ) (n : ℕ) → slot_words * n < length workspace → set (plain workspace n) (slot_words * n) (word (plain workspace n) (slot_words * n) % 16) ≡ plain workspace (n + 1)
plain-next workspace n r =
    plain_is workspace (set (plain workspace n) (slot_words * n) w) (n + 1) (length-set (plain workspace n) (slot_words * n) w ∙ plain-length workspace n)
    (λ i h. at_set (word (set (plain workspace n) (slot_words * n) w) i ≡ plain_word workspace (n + 1) i) i (slot_words * n) (λ e. same i e) (λ e. other i h e))
  where
    w : ℕ
    w = word (plain workspace n) (slot_words * n) % 16

    same : (i : ℕ) → i ≡ slot_words * n → word (set (plain workspace n) (slot_words * n) w) i ≡ plain_word workspace (n + 1) i
    same i e =
        rw e (get_or-set_same (plain workspace n) (slot_words * n) w 0 (rw (plain-length workspace n) r) ∙ ap (λ (x : ℕ). x % 16) (plain_past workspace n (slot_words * n) (omega arith) r) ∙ sym (linked_is workspace (n + 1) (slot_words * n) (omega arith) (omega arith)))

    other : (i : ℕ) → i < length workspace → (i ≡ slot_words * n → ⊥) → word (set (plain workspace n) (slot_words * n) w) i ≡ plain_word workspace (n + 1) i
    other i h e = get_or-set_other (plain workspace n) (slot_words * n) i w 0 e ∙ plain_at workspace n i h ∙ sym (one_more workspace n i e)

-- parts without width words of linked slots
drop-plain : (workspace : List ℕ) (n m : ℕ) → slot_words * n ≤ m → drop m (plain workspace n) ≡ drop m workspace
drop-plain workspace n m h =
    ext_get_or 0 (drop m (plain workspace n)) (drop m workspace) (length-drop m (plain workspace n) ∙ ap (λ (l : ℕ). l - m) (plain-length workspace n) ∙ sym (length-drop m workspace))
    (λ (i : ℕ) g. let r : i < length workspace - m = rw (length-drop m (plain workspace n), plain-length workspace n) at g in
    get_or-drop m (plain workspace n) i 0 ∙ plain_past workspace n (m + i) (omega arith) (omega arith) ∙ sym (get_or-drop m workspace i 0))

pub part-plain : (workspace : List ℕ) (n k m : ℕ) → m ≤ 8 → slot_words * k + slot_words ≤ length workspace → take m (drop (slot_words * k + tuple_word) (plain workspace n)) ≡ take m (drop (slot_words * k + tuple_word) workspace)
part-plain workspace n k m h r =
    ext_get_or 0 (take m (drop (slot_words * k + tuple_word) (plain workspace n))) (take m (drop (slot_words * k + tuple_word) workspace)) (long (plain workspace n) (rw (plain-length workspace n) r) ∙ sym (long workspace r))
    (λ (i : ℕ) g. let b : i < m = rw (long (plain workspace n) (rw (plain-length workspace n) r)) at g in
    get_or-take m (drop (slot_words * k + tuple_word) (plain workspace n)) i 0 b ∙ get_or-drop (slot_words * k + tuple_word) (plain workspace n) i 0 ∙ plain-inner workspace n k i (omega arith) (omega arith) ∙ sym (get_or-take m (drop (slot_words * k + tuple_word) workspace) i 0 b ∙ get_or-drop (slot_words * k + tuple_word) workspace i 0))
  where
    long : (vs : List ℕ) → slot_words * k + slot_words ≤ length vs → length (take m (drop (slot_words * k + tuple_word) vs)) ≡ m
    long vs l = length-take-le m (drop (slot_words * k + tuple_word) vs) (rw (length-drop (slot_words * k + tuple_word) vs) (omega arith))

-- a new slot, word by word
pub new_before : (workspace t : List ℕ) (k c i : ℕ) → slot_words * k ≤ length workspace → i < slot_words * k → word (new_at workspace k t c) i ≡ word workspace i
unfolding new_at
new_before workspace t k c i l h =
    get_or-append (take (slot_words * k) workspace) (new_words t c ++ drop (slot_words * k + slot_words) workspace) 0 i (rw (length-take-le (slot_words * k) workspace l) h) ∙ get_or-take (slot_words * k) workspace i 0 h

new_in : (workspace t : List ℕ) (k c j : ℕ) → slot_words * k ≤ length workspace → word (new_at workspace k t c) (slot_words * k + j) ≡ word (new_words t c ++ drop (slot_words * k + slot_words) workspace) j
unfolding new_at
new_in workspace t k c j l =
    ap (λ (m : ℕ). word (take (slot_words * k) workspace ++ (new_words t c ++ drop (slot_words * k + slot_words) workspace)) (m + j)) (sym (length-take-le (slot_words * k) workspace l)) ∙ get_or-append-add (take (slot_words * k) workspace) (new_words t c ++ drop (slot_words * k + slot_words) workspace) j 0

pub plain_new : (workspace t : List ℕ) (n k c : ℕ) → n ≤ k → slot_words * k + slot_words ≤ length workspace → new_at (plain workspace n) k t c ≡ plain (new_at workspace k t c) n
plain_new workspace t n k c m r =
    plain_is W U n (new_at-long (plain workspace n) k t c (rw (plain-length workspace n) r) ∙ plain-length workspace n ∙ sym (new_at-long workspace k t c r))
    (λ i h. let g : i < length workspace = rw (new_at-long workspace k t c r) at h in
    below_or (word U i ≡ plain_word W n i) i (slot_words * k) (λ b. before i g b) (λ b. from i b ∙ sym (past_is W n i (omega arith))))
  where
    W : List ℕ
    W = new_at workspace k t c

    U : List ℕ
    U = new_at (plain workspace n) k t c

    before : (i : ℕ) → i < length workspace → i < slot_words * k → word U i ≡ plain_word W n i
    before i g b =
        new_before (plain workspace n) t k c i (rw (plain-length workspace n) (omega arith)) b ∙ plain_at workspace n i g ∙ word_same workspace W n i (sym (new_before workspace t k c i (omega arith) b))

    from : (i : ℕ) → slot_words * k ≤ i → word U i ≡ word W i
    from i b =
        let e : i ≡ slot_words * k + (i - slot_words * k) = omega arith in
        ap (word U) e ∙ new_in (plain workspace n) t k c (i - slot_words * k) (rw (plain-length workspace n) (omega arith)) ∙ ap (λ (l : List ℕ). word (new_words t c ++ l) (i - slot_words * k)) (drop-plain workspace n (slot_words * k + slot_words) (omega arith)) ∙ sym (new_in workspace t k c (i - slot_words * k) (omega arith)) ∙ sym (ap (word W) e)
