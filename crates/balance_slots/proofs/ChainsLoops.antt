-- The turns of hashing, linking and searching, over plain lists and numbers.
use Rattle.std.specs.Prelude as Std
use Rattle.std.specs.Prelude.{Some, None}
use mathlib.Core.Path.{◌≡◌, refl, sym, ap, ap₂, ◌∙◌}
use Rattle.std.proofs.Common.{subst}
use mathlib.Core.Bool.{Bool, true, false, cond, ◌&&◌}
use mathlib.Core.List.{List}
use Prim.Native.Nat.{ℕ, suc, ◌+◌, ◌*◌, ◌-◌, ◌/◌, ◌%◌, ◌<◌, ◌≤◌, zero-le}
use native.Mathlib.Nat.{zero-add, mul-le-mul, mod-add-mod}
use native.Mathlib.Numerals.{add-one}
use native.Mathlib.Omega.{arith}
use lib.Dec.{eqb, leb, ltb}
use lib.ListN.{length, take, drop, get_or, set, replicate, length-set}
use lib.Seq.{get_or-set_other}
use borrow.Author.Tests.{eq-eqb, ne_eqb, lt-ltb, le-ltb, le-leb, lt-leb}
use Rattle.algebra.proofs.laws.Remainder.{mod-mul-mod}
use Rattle.lists.specs.Same.{same_list}
use Rattle.field.specs.Word.{add_m}
use Rattle.expression.specs.Words.{word}
use Rattle.balance_slots.specs.inner.Work.{Work, find_slot, added_at, new_at, add_nonzero_at, step}
use Rattle.balance_slots.proofs.laws.Add.{made}
use Rattle.balance_slots.proofs.laws.Room.{new_at-long}
use Rattle.balance_slots.specs.inner.Hash.{hash_prime, chains, polynomial, hash}
use Rattle.balance_slots.specs.inner.Chain.{SlotsLinked, last_before, hash_at, Chained, holds, plain, plain_work, ChainsLinked}
use Rattle.balance_slots.specs.declared.add.Linked.{Linked}
use Rattle.balance_slots.specs.declared.hash.Seed.{Seed}
use Rattle.balance_slots.proofs.laws.Last.{last-le, last_hits, hash-same}
use Rattle.balance_slots.proofs.laws.Plain.{plain-length, plain_none, plain-next, plain_linked, plain_added, plain_new, new_before}
use Rattle.balance_slots.proofs.laws.Chained.{chained_none, Alike, chained_alike, chained-next, match_linked, find_past, find_step, find_skips}
use Rattle.balance_slots.specs.Workspace.{slot_words, tuple_word, net_word}

-- 2^31 is 1 modulo the prime
abbrev folded : ℕ → ℕ
folded x = x % 2147483648 + x / 2147483648

folded-same : (x : ℕ) → folded x % hash_prime ≡ x % hash_prime
folded-same x = omega arith

-- what 64 bits hold of a step, once folded and twice
pub once-low : (x : ℕ) → x ≤ 9223372051887161340 → folded x ≤ 6442450949
once-low x h = omega arith

pub twice-low : (y : ℕ) → y ≤ 6442450949 → folded y ≤ 2147483651
twice-low y h = omega arith

-- the polynomial of words, from the front; h is the value plus a multiple of the prime
pub record HashLoop (point factor : ℕ) (s : List ℕ) (at n j h : ℕ) : Type 0 where
  pub is : h % hash_prime ≡ polynomial point (λ j. word s (at + j)) j
  pub small : h ≤ 2147483651
  pub point_low : point ≤ 4294967295
  pub factor_low : factor ≤ 4294967295
  pub within : j ≤ n

-- a value of the loop times a number of 32 bits
times_low : {h b : ℕ} → h ≤ 2147483651 → b ≤ 4294967295 → h * b ≤ 2147483651 * 4294967295
times_low l m = mul-le-mul l m

-- and a word
pub step_fits : {x w : ℕ} → x ≤ 2147483651 * 4294967295 → w ≤ 4294967295 → x + w ≤ 9223372051887161340
step_fits h b = omega arith

module _ {point factor : ℕ} {s : List ℕ} {at n : ℕ} where
  pub hash_loop_begins : point ≤ 4294967295 → factor ≤ 4294967295 → HashLoop point factor s at n 0 1
  unfolding polynomial
  hash_loop_begins p f = record { is = refl; small = omega arith; point_low = p; factor_low = f; within = zero-le }

  -- the products fit 64 bits
  pub point_fits : {j h : ℕ} → HashLoop point factor s at n j h → h * point ≤ 2147483651 * 4294967295
  point_fits m = times_low m.small m.point_low

  pub factor-fits : {j h : ℕ} → HashLoop point factor s at n j h → h * factor ≤ 2147483651 * 4294967295
  factor-fits m = times_low m.small m.factor_low

  pub hash_loop_turn : {j h w : ℕ} → HashLoop point factor s at n j h → j < n → w ≤ 4294967295 → w ≡ word s (at + j) → HashLoop point factor s at n (j + 1) (folded (folded (h * point + w)))
  unfolding polynomial
  hash_loop_turn {j} {h} {w} m l b e =
      record {
        is =
            folded-same (folded (h * point + w)) ∙ folded-same (h * point + w) ∙ sym (mod-add-mod (h * point) hash_prime w)
            ∙ ap (λ (x : ℕ). (x + w) % hash_prime) (sym (mod-mul-mod h point hash_prime)) ∙ mod-add-mod (h % hash_prime * point) hash_prime w
            ∙ rw (add-one j) (ap₂ (λ (x y : ℕ). (x * point + y) % hash_prime) m.is e);
        small = twice-low (folded (h * point + w)) (once-low (h * point + w) (step_fits (point_fits m) b));
        point_low = m.point_low;
        factor_low = m.factor_low;
        within = omega arith;
      }

  pub hash_loop_ends : {j h : ℕ} (seed : Seed) → HashLoop point factor s at n j h → n ≤ j → point ≡ seed.point → factor ≡ seed.factor
      → (h * factor % hash_prime % chains ≡ hash seed (λ j. word s (at + j)) n) × (h * factor % hash_prime % chains < chains)
  unfolding hash
  hash_loop_ends {j} {h} seed m l ep ef =
      let e : j ≡ n = omega (arith, m.within) in (
        ap (λ (x : ℕ). x % chains) (sym (mod-mul-mod h factor hash_prime))
            ∙ ap₂ (λ (x y : ℕ). x * y % hash_prime % chains) (m.is ∙ ap₂ (λ (x i : ℕ). polynomial x (λ j. word s (at + j)) i) ep e) ef,
        omega arith,
      )

-- links taken out from the front
pub record UnlinkLoop (d : List ℕ) (n i : ℕ) (workspace : List ℕ) : Type 0 where
  pub is : workspace ≡ plain d i
  pub within : i ≤ n
  pub long : length workspace ≡ length d
  pub room : slot_words * n ≤ length d

pub unlink_begins : {d : List ℕ} {n : ℕ} → slot_words * n ≤ length d → UnlinkLoop d n 0 d
unlink_begins {d} r = record { is = sym (plain_none d); within = zero-le; long = refl; room = r }

pub unlink_turn : {d workspace : List ℕ} {n i : ℕ} → UnlinkLoop d n i workspace → i < n → UnlinkLoop d n (i + 1) (set workspace (slot_words * i) (get_or workspace (slot_words * i) 0 % 16))
unlink_turn {d} {workspace} {n} {i} u l =
    record {
      is = ap (λ (x : List ℕ). set x (slot_words * i) (get_or x (slot_words * i) 0 % 16)) u.is ∙ plain-next d i (omega (arith, u.room));
      within = omega arith;
      long = length-set workspace (slot_words * i) (get_or workspace (slot_words * i) 0 % 16) ∙ u.long;
      room = u.room;
    }

pub unlink_ends : {d workspace : List ℕ} {n i : ℕ} → UnlinkLoop d n i workspace → n ≤ i → workspace ≡ plain d n
unlink_ends {d} {workspace} {n} {i} u l = let e : i ≡ n = omega (arith, u.within) in u.is ∙ ap (plain d) e

-- the slot found so far, and slot k, which is linked
pub found_next : {b : Bool} {next : ℕ} (workspace t : List ℕ) (k found : ℕ) (c : Bool) → b ≡ (eqb (word workspace (slot_words * k) % 16) (length t) && same_list (take (length t) (drop (slot_words * k + tuple_word) workspace)) t) → b ≡ c
    → next ≡ cond c k found → next ≡ cond (holds workspace t k) k found
unfolding holds
found_next workspace t k found c e y n = n ∙ ap (λ (x : Bool). cond x k found) (sym y ∙ e)

-- one slot is linked
pub link_low : {seed : Seed} {heads workspace : List ℕ} {i h : ℕ} → Chained seed heads workspace i → h < chains → word heads h ≤ i
link_low {seed} {heads} {workspace} {i} {h} c l = rw (c.begin h l) (last-le (hash_at seed workspace) h i)

pub link_is : {seed : Seed} {heads workspace : List ℕ} {i w h : ℕ} → Chained seed heads workspace i → slot_words * i + slot_words ≤ length workspace → word workspace (slot_words * i) ≤ 8 → w ≡ word workspace (slot_words * i)
    → (h ≡ hash seed (λ j. word workspace (slot_words * i + tuple_word + j)) w) × (h < chains)
    → SlotsLinked seed (set heads h (i + 1)) (set workspace (slot_words * i) (word workspace (slot_words * i) + 16 * word heads h)) (i + 1) i (i + 1) (plain workspace i)
link_is {seed} {heads} {workspace} {i} {w} {h} c r s e (q, l) =
    record {
      chained = chained-next c r s (q ∙ ap (hash seed (λ j. word workspace (slot_words * i + tuple_word + j))) e) l;
      same = plain_linked workspace i (word heads h) (omega arith) s;
      not_fewer = omega arith;
      not_more = omega arith;
    }

-- a new slot, not yet linked
new_alike : (workspace t : List ℕ) (l n c : ℕ) → l ≤ n → slot_words * n + slot_words ≤ length workspace → Alike workspace (new_at workspace n t c) l
new_alike workspace t l n c h r = record { words = λ i j g m. new_before workspace t n c (slot_words * i + j) (omega arith) (omega arith) }

pub new_chained : {seed : Seed} {heads workspace b : List ℕ} {l : ℕ} (t : List ℕ) (n c : ℕ) → Chained seed heads workspace l → l ≤ n → slot_words * n + slot_words ≤ length workspace → b ≡ new_at workspace n t c
    → SlotsLinked seed heads b l 0 (n + 1) (new_at (plain workspace l) n t c)
new_chained {seed} {heads} {workspace} {b} {l} t n c k h r e =
    record { chained = rw e (chained_alike k (new_alike workspace t l n c h r)); same = rw e (sym (plain_new workspace t l n c h r)); not_fewer = zero-le; not_more = omega arith }

pub new_linkable : {seed : Seed} {heads workspace b : List ℕ} {l : ℕ} (t : List ℕ) (n c : ℕ) → Chained seed heads workspace l → l ≤ n → n ≤ l → slot_words * n + slot_words ≤ length workspace → b ≡ new_at workspace n t c
    → Chained seed heads b n × (slot_words * n + slot_words ≤ length b)
new_linkable {seed} {heads} {workspace} {b} {l} t n c k h g r e =
    let q : l ≡ n = omega arith in
    (rw q at (new_chained t n c k h r e).chained, rw (e, new_at-long workspace n t c r) r)

pub new_linked : {seed : Seed} {heads workspace b hs vs : List ℕ} {l v : ℕ} (t : List ℕ) (n c : ℕ) → Chained seed heads workspace l → l ≤ n → n ≤ l → slot_words * n + slot_words ≤ length workspace → b ≡ new_at workspace n t c
    → SlotsLinked seed hs vs v n (n + 1) (plain b n) → SlotsLinked seed hs vs v 0 (n + 1) (new_at (plain workspace l) n t c)
new_linked {seed} {heads} {workspace} {b} {hs} {vs} {l} {v} t n c k h g r e y =
    let z : n ≡ l = omega arith in
    record { chained = y.chained; same = y.same ∙ ap (plain b) z ∙ (new_chained t n c k h r e).same; not_fewer = zero-le; not_more = y.not_more }

-- slots linked from the front
pub record LinkLoop (seed : Seed) (h₀ d : List ℕ) (n i : ℕ) (heads workspace : List ℕ) : Type 0 where
  pub chained : Chained seed heads workspace i
  pub is : plain workspace i ≡ d
  pub within : i ≤ n
  pub wide : length heads ≡ length h₀
  pub long : length workspace ≡ length d
  pub room : slot_words * n ≤ length d

pub link_loop_begins : {seed : Seed} {d heads : List ℕ} {n : ℕ} → heads ≡ replicate chains 0 → slot_words * n ≤ length d → LinkLoop seed heads d n 0 heads d
link_loop_begins {seed} {d} e r = record { chained = chained_none d e; is = plain_none d; within = zero-le; wide = refl; long = refl; room = r }

pub link_loop_turn : {seed : Seed} {h₀ d heads workspace heads' workspace' : List ℕ} {n i r : ℕ} → LinkLoop seed h₀ d n i heads workspace → i < n → (r ≡ i → ⊥)
    → SlotsLinked seed heads' workspace' r i (i + 1) (plain workspace i) → LinkLoop seed h₀ d n (i + 1) heads' workspace'
link_loop_turn {seed} {h₀} {d} {heads} {workspace} {heads'} {workspace'} {n} {i} {r} k l z s =
    let q : r ≡ i + 1 = omega (arith, z, s.not_fewer, s.not_more) in
    let g : plain workspace' r ≡ d = s.same ∙ k.is in
    record { chained = rw q at s.chained; is = rw q at g; within = omega arith; wide = s.chained.long ∙ sym k.chained.long ∙ k.wide; long = sym (plain-length workspace' r) ∙ ap length g; room = k.room }

pub link_loop_stops : {seed : Seed} {h₀ d heads workspace heads' workspace' : List ℕ} {n i r : ℕ} → LinkLoop seed h₀ d n i heads workspace → i < n → r ≡ i
    → SlotsLinked seed heads' workspace' r i (i + 1) (plain workspace i) → SlotsLinked seed heads' workspace' i 0 n d
link_loop_stops {seed} {h₀} {d} {heads} {workspace} {heads'} {workspace'} {n} {i} {r} k l z s =
    let g : plain workspace' r ≡ d = s.same ∙ k.is in
    record { chained = rw z at s.chained; same = rw z at g; not_fewer = zero-le; not_more = k.within }

pub link_loop_ends : {seed : Seed} {h₀ d heads workspace : List ℕ} {n i : ℕ} → LinkLoop seed h₀ d n i heads workspace → n ≤ i → SlotsLinked seed heads workspace n 0 n d
link_loop_ends {seed} {h₀} {d} {heads} {workspace} {n} {i} k l =
    let e : i ≡ n = omega (arith, k.within) in
    record { chained = rw e at k.chained; same = rw e at k.is; not_fewer = zero-le; not_more = omega arith }

-- a walk along a chain, by some seed: cur is 1 + the slot to be looked at, and no slot from cur on but the one found is the first that
-- holds t
pub record ChainLoop (heads workspace t : List ℕ) (l n cur found : ℕ) : Type 0 where
  pub is : found ≡ find_slot (plain workspace l) t cur (n - cur)
  pub seed : Seed
  pub chained : Chained seed heads workspace l
  pub here : (k : ℕ) → cur ≡ suc k → hash_at seed workspace k ≡ hash seed (word t) (length t)
  pub within : cur ≤ l
  pub inside : l ≤ n
  pub room : slot_words * n ≤ length workspace
  pub narrow : length t ≤ 8

module _ {heads workspace t : List ℕ} {l n : ℕ} where
  -- at the newest slot with the hash of t among the first m
  walk_at : {seed : Seed} {cur found : ℕ} (m : ℕ) → Chained seed heads workspace l → m ≤ l → l ≤ n → slot_words * n ≤ length workspace → length t ≤ 8 → found ≡ find_slot (plain workspace l) t m (n - m)
      → cur ≡ last_before (hash_at seed workspace) (hash seed (word t) (length t)) m → ChainLoop heads workspace t l n cur found
  walk_at {seed} {cur} {found} m c h i r s e q =
      record {
        is = e ∙ sym (find_skips seed workspace t l n m h i r s) ∙ ap (λ (x : ℕ). find_slot (plain workspace l) t x (n - x)) (sym q);
        seed = seed;
        chained = c;
        here = λ k z. last_hits (hash_at seed workspace) (hash seed (word t) (length t)) m k (sym q ∙ z);
        within = rw q (omega (arith, last-le (hash_at seed workspace) (hash seed (word t) (length t)) m));
        inside = i;
        room = r;
        narrow = s;
      }

  pub walk_begins : {seed : Seed} {h w cur found : ℕ} → Chained seed heads workspace l → l ≤ n → slot_words * n ≤ length workspace → length t ≤ 8 → found ≡ find_slot workspace t l (n - l)
      → (h ≡ hash seed (λ j. word t (0 + j)) (length t)) × (h < chains) → w ≡ word heads h → cur ≡ w → ChainLoop heads workspace t l n cur found
  walk_begins {seed} {h} {w} {cur} {found} c i r s e (q, b) ew ec =
      let z : l + (n - l) ≡ n = omega arith in
      let y : h ≡ hash seed (word t) (length t) = q ∙ hash-same seed (λ j. word t (0 + j)) (word t) (length t) (λ j g. ap (word t) (zero-add j)) in
      walk_at l c (omega arith) i r s (e ∙ sym (find_past workspace t l l (n - l) (omega arith) s (rw z r))) (ec ∙ ew ∙ c.begin h b ∙ ap (λ (x : ℕ). last_before (hash_at seed workspace) x l) y)

  pub walk_turn : {cur found k next w : ℕ} → ChainLoop heads workspace t l n cur found → 0 < cur → k ≡ cur - 1
      → next ≡ cond (holds workspace t k) k found → w ≡ word workspace (slot_words * k) → ChainLoop heads workspace t l n (w / 16) next
  walk_turn {cur} {found} {k} {next} {w} v p ek en ew =
      let z : cur ≡ suc k = omega arith in
      let g : hash_at v.seed workspace k ≡ hash v.seed (word t) (length t) = v.here k z in
      let b : k < l = omega (arith, v.within) in
      let f : found ≡ find_slot (plain workspace l) t (suc k) (n - suc k) = v.is ∙ ap (λ (x : ℕ). find_slot (plain workspace l) t x (n - x)) z in
      walk_at k v.chained (omega arith) v.inside v.room v.narrow
      (en ∙ ap₂ (λ (x : Bool) (y : ℕ). cond x k y) (sym (match_linked workspace t l k b v.narrow (omega (arith, v.inside, v.room)))) f ∙ sym (find_step (plain workspace l) t n k (omega (arith, v.inside))))
      (ap (λ (x : ℕ). x / 16) ew ∙ v.chained.follow k b ∙ ap (λ (x : ℕ). last_before (hash_at v.seed workspace) x k) g)

  pub walk_less : {cur found w : ℕ} → ChainLoop heads workspace t l n cur found → 0 < cur → w ≡ word workspace (slot_words * (cur - 1)) → w / 16 < cur
  walk_less {cur} {found} {w} v p ew =
      let e : w / 16 ≡ last_before (hash_at v.seed workspace) (hash_at v.seed workspace (cur - 1)) (cur - 1) = ap (λ (x : ℕ). x / 16) ew ∙ v.chained.follow (cur - 1) (omega (arith, v.within)) in
      rw e (omega (arith, last-le (hash_at v.seed workspace) (hash_at v.seed workspace (cur - 1)) (cur - 1)))

  pub walk_ends : {cur found : ℕ} → ChainLoop heads workspace t l n cur found → cur ≤ 0 → found ≡ find_slot (plain workspace l) t 0 n
  walk_ends {cur} {found} v h =
      let z : cur ≡ 0 = omega arith in
      let y : n - 0 ≡ n = omega arith in
      v.is ∙ ap (λ (x : ℕ). find_slot (plain workspace l) t x (n - x)) z ∙ ap (find_slot (plain workspace l) t 0) y

-- a count changes no tuple and no link
added_long : (p : ℕ) (workspace : List ℕ) (k c : ℕ) → length (added_at p workspace k c) ≡ length workspace
unfolding added_at
added_long p workspace k c = length-set workspace (slot_words * k + net_word) (add_m p (word workspace (slot_words * k + net_word)) c)

added_alike : (p : ℕ) (workspace : List ℕ) (k c l : ℕ) → Alike workspace (added_at p workspace k c) l
unfolding added_at
added_alike p workspace k c l = record { words = λ i j g m. get_or-set_other workspace (slot_words * k + net_word) (slot_words * i + j) (add_m p (word workspace (slot_words * k + net_word)) c) 0 (λ z. omega arith) }

-- what an entry leaves
abbrev pub left : ℕ → ℕ → Std.Option Linked
left n l = Some (record { used = n; linked = l })

-- the three ways of an entry
pub add_nonzero_found : {seed : Seed} {heads workspace b : List ℕ} {v : Linked} {k : ℕ} (p : ℕ) (t : List ℕ) (count : ℕ) → ChainsLinked seed heads workspace (Some v) → k ≡ find_slot (plain workspace v.linked) t 0 v.used → k < v.used → b ≡ added_at p workspace k count
    → (plain_work b (left v.used v.linked) ≡ add_nonzero_at p (plain_work workspace (Some v)) t count) × ChainsLinked seed heads b (left v.used v.linked)
unfolding add_nonzero_at
add_nonzero_found {seed} {heads} {workspace} {b} {v} {k} p t count r e h eb =
    let f : ltb (find_slot (plain workspace v.linked) t 0 v.used) v.used ≡ true = rw (sym e) (lt-ltb k v.used h) in
    let q : plain b v.linked ≡ added_at p (plain workspace v.linked) k count = ap (λ (x : List ℕ). plain x v.linked) eb ∙ sym (plain_added p workspace v.linked k count (omega (arith, r.room))) in (
      rw f (ap (λ (x : List ℕ). made x v.used false) (q ∙ ap (λ (x : ℕ). added_at p (plain workspace v.linked) x count) e)),
      record {
        chained = rw eb (chained_alike r.chained (added_alike p workspace k count v.linked));
        inside = r.inside;
        room = rw (eb, added_long p workspace k count) r.room;
      },
    )

pub add_nonzero-full : {seed : Seed} {heads workspace b hs : List ℕ} {v : Linked} {k : ℕ} (p : ℕ) (t : List ℕ) (count : ℕ) → ChainsLinked seed heads workspace (Some v) → k ≡ find_slot (plain workspace v.linked) t 0 v.used → v.used ≤ k → length workspace - slot_words * v.used < 10
    → b ≡ replicate (length workspace) 0 → hs ≡ replicate (length heads) 0 → (plain_work b (None) ≡ add_nonzero_at p (plain_work workspace (Some v)) t count) × ChainsLinked seed hs b (None)
unfolding add_nonzero_at
add_nonzero-full {seed} {heads} {workspace} {b} {hs} {v} {k} p t count r e h g eb eh =
    let f : ltb (find_slot (plain workspace v.linked) t 0 v.used) v.used ≡ false = rw (sym e) (le-ltb k v.used h) in
    let m : leb (slot_words * v.used + slot_words) (length (plain workspace v.linked)) ≡ false = rw (plain-length workspace v.linked) (lt-leb (slot_words * v.used + slot_words) (length workspace) (omega (arith, r.room))) in (
      rw (f, m) (ap (λ (x : List ℕ). made x 0 true) (plain_none b ∙ eb ∙ ap (λ (n : ℕ). replicate n 0) (sym (plain-length workspace v.linked)))),
      record { chained = chained_none b (eh ∙ ap (λ (n : ℕ). replicate n 0) r.chained.long); inside = zero-le; room = zero-le },
    )

pub add_nonzero_new : {seed : Seed} {heads workspace b hs : List ℕ} {v : Linked} {k l : ℕ} (p : ℕ) (t : List ℕ) (count : ℕ) → ChainsLinked seed heads workspace (Some v) → k ≡ find_slot (plain workspace v.linked) t 0 v.used → v.used ≤ k → 10 ≤ length workspace - slot_words * v.used
    → SlotsLinked seed hs b l 0 (v.used + 1) (new_at (plain workspace v.linked) v.used t count)
    → (plain_work b (left (v.used + 1) l) ≡ add_nonzero_at p (plain_work workspace (Some v)) t count) × ChainsLinked seed hs b (left (v.used + 1) l)
unfolding add_nonzero_at
add_nonzero_new {seed} {heads} {workspace} {b} {hs} {v} {k} {l} p t count r e h g s =
    let P : List ℕ = plain workspace v.linked in
    let n : length P ≡ length workspace = plain-length workspace v.linked in
    let f : ltb (find_slot P t 0 v.used) v.used ≡ false = rw (sym e) (le-ltb k v.used h) in
    let m : leb (slot_words * v.used + slot_words) (length P) ≡ true = rw n (le-leb (slot_words * v.used + slot_words) (length workspace) (omega (arith, r.room))) in
    let z : length b ≡ length workspace = sym (plain-length b l) ∙ ap length s.same ∙ new_at-long P v.used t count (rw n (omega (arith, r.room))) ∙ n in
    (rw (f, m) (ap (λ (x : List ℕ). made x (v.used + 1) false) s.same), record { chained = s.chained; inside = s.not_more; room = rw z (omega (arith, r.room)) })

-- the three ways of a step
pub step-full : {seed : Seed} {heads workspace : List ℕ} {u : Std.Option Linked} (p : ℕ) (t : List ℕ) (count : ℕ) → ChainsLinked seed heads workspace u → u ≡ None
    → (plain_work workspace None ≡ step p (plain_work workspace u) (record { tuple = t; count = count })) × ChainsLinked seed heads workspace None
unfolding step
step-full {seed} {heads} {workspace} {u} p t count r e =
    (ap (λ (v : Std.Option Linked). step p (plain_work workspace v) (record { tuple = t; count = count })) (sym e), subst (ChainsLinked seed heads workspace) e r)

pub step_skip : {seed : Seed} {heads workspace : List ℕ} {v : Linked} (p : ℕ) (t : List ℕ) (count : ℕ) → ChainsLinked seed heads workspace (Some v) → count ≡ 0
    → (plain_work workspace (Some v) ≡ step p (plain_work workspace (Some v)) (record { tuple = t; count = count })) × ChainsLinked seed heads workspace (Some v)
unfolding step
step_skip {seed} {heads} {workspace} {v} p t count r z =
    (sym (ap (λ (d : Bool). cond d (plain_work workspace (Some v)) (add_nonzero_at p (plain_work workspace (Some v)) t count)) (eq-eqb count 0 z)), r)

pub step-add : {seed : Seed} {hs vs : List ℕ} {u : Std.Option Linked} {w : Work} (p : ℕ) (workspace t : List ℕ) (v : Linked) (count : ℕ) → (count ≡ 0 → ⊥) → (w ≡ add_nonzero_at p (plain_work workspace (Some v)) t count) × ChainsLinked seed hs vs u
    → (w ≡ step p (plain_work workspace (Some v)) (record { tuple = t; count = count })) × ChainsLinked seed hs vs u
unfolding step
step-add p workspace t v count n (q, r) =
    (q ∙ sym (ap (λ (d : Bool). cond d (plain_work workspace (Some v)) (add_nonzero_at p (plain_work workspace (Some v)) t count)) (ne_eqb count 0 n)), r)
