-- The turns of finding a slot and of writing its words, over plain lists and numbers.
use mathlib.Core.Path.{◌≡◌, refl, sym, ap, ap₂, ◌∙◌}
use mathlib.Core.Bool.{Bool, true, false, cond, ◌&&◌}
use mathlib.Core.List.{List, [], ◌∷◌, ◌++◌}
use Prim.Native.Nat.{ℕ, suc, ◌+◌, ◌*◌, ◌-◌, ◌%◌, ◌<◌, ◌≤◌, zero-le}
use native.Mathlib.Numerals.{add-one}
use native.Mathlib.Omega.{arith}
use lib.Dec.{eqb}
use lib.ListN.{length, take, drop, set}
use borrow.Author.Tests.{eq-eqb}
use borrow.Rule.Slice.PartMut.{put_mid}
use Rattle.lists.specs.Same.{same_list}
use Rattle.lists.specs.laws.Parts.{part_length}
use Rattle.lists.specs.laws.Filled.{Filled, filled-one, filled-whole, put_mid_is}
use Rattle.lists.specs.Tab.{tab}
use Rattle.lists.specs.laws.Tab.{tab_none, tab-one}
use Rattle.field.proofs.laws.Word.{add_m-sum, add_m-mod}
use Rattle.expression.specs.Words.{word}
use Rattle.balance_slots.specs.inner.Work.{match_at, find_slot, added_at, new_words, new_at}
use Rattle.balance_slots.specs.Workspace.{slot_words, tuple_word, net_word}

-- a slot and a tuple
pub holds_is : {w v : ℕ} {r : Bool} (workspace t : List ℕ) (k : ℕ) → w ≡ v → w ≡ length t
    → r ≡ same_list (take ((slot_words * k + tuple_word + length t) - (slot_words * k + tuple_word)) (drop (slot_words * k + tuple_word) workspace)) t
    → r ≡ (eqb v (length t) && same_list (take (length t) (drop (slot_words * k + tuple_word) workspace)) t)
holds_is {w} {v} {r} workspace t k e z er =
    let a : (slot_words * k + tuple_word + length t) - (slot_words * k + tuple_word) ≡ length t = omega arith in
    rw (eq-eqb v (length t) (sym e ∙ z)) (er ∙ ap (λ (n : ℕ). same_list (take n (drop (slot_words * k + tuple_word) workspace)) t) a)

-- a search from slot f on: no slot before k holds t
pub record FindSlotLoop (workspace t : List ℕ) (f n k : ℕ) : Type 0 where
  pub rest : find_slot workspace t k (n - k) ≡ find_slot workspace t f (n - f)
  pub within : k ≤ n

pub search_begins : {workspace t : List ℕ} {f n : ℕ} → f ≤ n → FindSlotLoop workspace t f n f
search_begins h = record { rest = refl; within = h }

search_step : (workspace t : List ℕ) (n k : ℕ) → k < n → find_slot workspace t k (n - k) ≡ cond (match_at workspace t k) k (find_slot workspace t (k + 1) (n - (k + 1)))
unfolding find_slot
search_step workspace t n k h =
    let e : n - k ≡ suc (n - (k + 1)) = omega arith in
    ap (find_slot workspace t k) e ∙ ap (λ (j : ℕ). cond (match_at workspace t k) k (find_slot workspace t j (n - (k + 1)))) (sym (add-one k))

pub search_turn : {workspace t : List ℕ} {f n k : ℕ} {b : Bool} → FindSlotLoop workspace t f n k → k < n → b ≡ match_at workspace t k → b ≡ false → FindSlotLoop workspace t f n (k + 1)
search_turn {workspace} {t} {f} {n} {k} {b} s h e z =
    record {
      rest = ap (λ (c : Bool). cond c k (find_slot workspace t (k + 1) (n - (k + 1)))) (sym z ∙ e) ∙ sym (search_step workspace t n k h) ∙ s.rest;
      within = omega arith;
    }

pub search_hits : {workspace t : List ℕ} {f n k : ℕ} {b : Bool} → FindSlotLoop workspace t f n k → k < n → b ≡ match_at workspace t k → b ≡ true → k ≡ find_slot workspace t f (n - f)
search_hits {workspace} {t} {f} {n} {k} {b} s h e z =
    ap (λ (c : Bool). cond c k (find_slot workspace t (k + 1) (n - (k + 1)))) (sym z ∙ e) ∙ sym (search_step workspace t n k h) ∙ s.rest

pub search_ends : {workspace t : List ℕ} {f n k : ℕ} → FindSlotLoop workspace t f n k → n ≤ k → n ≡ find_slot workspace t f (n - f)
unfolding find_slot
search_ends {workspace} {t} {f} {n} {k} s h =
    let e : k ≡ n = omega (arith, s.within) in
    let z : n - k ≡ 0 = omega arith in
    sym e ∙ ap (find_slot workspace t k) (sym z) ∙ s.rest

-- a count
pub added_is : {a b s r : ℕ} (p : ℕ) (workspace : List ℕ) (k count : ℕ) → a ≡ word workspace (slot_words * k + net_word) → b ≡ count → s ≡ a + b → r ≡ s % p → set workspace (slot_words * k + net_word) r ≡ added_at p workspace k count
unfolding added_at
added_is p workspace k count ea eb es er =
    let net : ℕ = word workspace (slot_words * k + net_word) in
    ap (set workspace (slot_words * k + net_word)) (er ∙ ap (λ (n : ℕ). n % p) (es ∙ ap₂ (λ (x y : ℕ). x + y) ea eb) ∙ sym (add_m-sum p net count) ∙ add_m-mod p net count)

-- the words of a slot, from the front
pub record PutSlotLoop (d t : List ℕ) (j : ℕ) (s : List ℕ) : Type 0 where
  pub out : Filled d (length t ∷ tab (word t) 0 j) (j + 1) s
  pub within : j ≤ 8
  pub ten : length d ≡ 10
  pub long : length s ≡ 10

-- the first word is written
pub put_slot_loop_begins : {t : List ℕ} {w : ℕ} (d : List ℕ) → length d ≡ 10 → w ≡ length t → PutSlotLoop (set d 0 w) t 0 (set d 0 w)
put_slot_loop_begins {t} {w} [] h e = absurd (omega arith)
put_slot_loop_begins {t} {w} (x ∷ d) h e =
    record {
      out =
          record {
            is = ap (λ (y : ℕ). y ∷ d) e ∙ ap (λ (l : List ℕ). (length t ∷ l) ++ d) (sym (tab_none (word t) 0));
            size = ap (λ (l : List ℕ). suc (length l)) (tab_none (word t) 0);
            room = omega arith;
            len = refl;
          };
      within = zero-le;
      ten = h;
      long = h;
    }

pub put_slot_loop_turn : {d t s : List ℕ} {j w : ℕ} → PutSlotLoop d t j s → j < 8 → w ≡ word t j → PutSlotLoop d t (j + 1) (set s (j + 1) w)
put_slot_loop_turn {d} {t} {s} {j} {w} r h e =
    let f : Filled d (length t ∷ tab (word t) 0 (j + 1)) (j + 1 + 1) (set s (j + 1) w) =
    filled-one w 0 r.out (omega (arith, r.ten)) (ap (λ (l : List ℕ). length t ∷ l) (tab-one (word t) 0 j ∙ ap (λ (x : ℕ). tab (word t) 0 j ++ (x ∷ [])) (ap (word t) (let z : 0 + j ≡ j = omega arith in z) ∙ sym e))) in
    record { out = f; within = omega arith; ten = r.ten; long = f.len ∙ r.ten }

pub put_slot_loop_ends : {d t s : List ℕ} {j : ℕ} (count : ℕ) → PutSlotLoop d t j s → 8 ≤ j → set s 9 count ≡ new_words t count
unfolding new_words
put_slot_loop_ends {d} {t} {s} {j} count r h =
    let e : j ≡ 8 = omega (arith, r.within) in
    let f : Filled d (length t ∷ tab (word t) 0 8) 9 s = rw e at r.out in
    let g : Filled d ((length t ∷ tab (word t) 0 8) ++ (count ∷ [])) 10 (set s 9 count) = filled-one count 0 f (omega (arith, r.ten)) refl in
    filled-whole g (omega (arith, r.ten))

-- a new slot
pub new_is : {ys : List ℕ} (workspace t : List ℕ) (n count : ℕ) → ys ≡ new_words t count → put_mid (slot_words * n) ((slot_words * n + slot_words) - slot_words * n) workspace ys ≡ new_at workspace n t count
unfolding new_at
new_is workspace t n count e = put_mid_is workspace (slot_words * n) (slot_words * n + slot_words) e (omega arith)

pub new_part : (workspace : List ℕ) (n : ℕ) → slot_words * n + slot_words ≤ length workspace → length (take ((slot_words * n + slot_words) - slot_words * n) (drop (slot_words * n) workspace)) ≡ 10
new_part workspace n h = part_length workspace (slot_words * n) (slot_words * n + slot_words) (omega arith) h ∙ (let e : (slot_words * n + slot_words) - slot_words * n ≡ 10 = omega arith in e)
