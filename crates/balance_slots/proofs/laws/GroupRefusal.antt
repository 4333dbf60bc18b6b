-- The slot that the search finds is the one that the definition names.
use Rattle.std.specs.Prelude as Std
use Rattle.std.specs.Prelude.{Some, None, ◌≡◌, refl, Bool, true, false, cond, ℕ, zero, suc, ◌+◌, ◌*◌, ◌-◌, ◌<◌, ◌≤◌, eqb, length, take, drop, get_or, replicate}
use Rattle.std.proofs.Common.{sym, ap, ap₂, ◌∙◌, subst, arith, take-suc, take_all, length-take-le, get_or-append-add, take_at, eq-eqb, ne_eqb, eqb-true}
use Rattle.std.proofs.Math.Option.{some}
use mathlib.Core.List.{List, [], ◌∷◌, ◌++◌, append-nil, append_assoc, flat_map}
use Rattle.std.proofs.lemmas.List.{get_or_at}
use Rattle.std.proofs.Math.Seq.{drop-append-add}
use Rattle.std.proofs.lemmas.Bool.{eqb-false}
use Rattle.lists.specs.Fold.{fold}
use Rattle.lists.specs.laws.Fold.{fold-append}
use Rattle.expression.specs.Words.{word}
use Rattle.expression.specs.declared.refusal.Refusal.TheVariants.{WorkspaceFull, NetNotZero}
use Rattle.balance_slots.specs.Decimal.{tuple_less}
use Rattle.balance_slots.specs.Slots.{Slot}
use Rattle.balance_slots.specs.Workspace.{words_of_slot, full, workspace_of, slot_words, tuple_word}
use Rattle.balance_slots.specs.GroupRefusal.{Numbered, unbalanced, earlier, names_first, group_refusal}
use Rattle.balance_slots.specs.inner.Work.{work_of, net_at, tuple_at, better_at, least_to, slot_refusal, work_refusal}
use Rattle.balance_slots.proofs.laws.Add.{Fit, front, front_long, slot_is, slot-long}

abbrev pub nobody : Slot
nobody = record { tuple = []; net = 0 }

-- the words workspace hold the slots ss
pub record Holding (workspace : List ℕ) (ss : List Slot) : Type 0 where
  pub net : (k : ℕ) → k < length ss → net_at workspace k ≡ (get_or ss k nobody).net
  pub tuple : (k : ℕ) → k < length ss → tuple_at workspace k ≡ (get_or ss k nobody).tuple

-- one slot more at the end
unbalanced-one : (k : ℕ) (xs : List Slot) (s : Slot) → unbalanced k (xs ++ (s ∷ [])) ≡ unbalanced k xs ++ cond (eqb s.net 0) [] (record { number = k + length xs; slot = s } ∷ [])
unfolding unbalanced
unbalanced-one k [] s =
    let e : k ≡ k + 0 = omega arith in
    append-nil (cond (eqb s.net 0) [] (record { number = k; slot = s } ∷ [])) ∙ ap (λ (n : ℕ). cond (eqb s.net 0) [] (record { number = n; slot = s } ∷ [])) e
unbalanced-one k (x ∷ xs) s =
    let e : suc k + length xs ≡ k + suc (length xs) = omega arith in
    ap (λ (l : List Numbered). cond (eqb x.net 0) [] (record { number = k; slot = x } ∷ []) ++ l)
    (unbalanced-one (suc k) xs s ∙ ap (λ (n : ℕ). unbalanced (suc k) xs ++ cond (eqb s.net 0) [] (record { number = n; slot = s } ∷ [])) e)
    ∙ sym (append_assoc (cond (eqb x.net 0) [] (record { number = k; slot = x } ∷ [])) (unbalanced (suc k) xs) (cond (eqb s.net 0) [] (record { number = k + suc (length xs); slot = s } ∷ [])))

-- the best so far is the definition's
abbrev Agrees : List Slot → ℕ → List Numbered → Std.Option ℕ → Type 0
Agrees ss k [] b = b ≡ None
Agrees ss k (x ∷ xs) b = (b ≡ Some (fold earlier x xs).number) × ((fold earlier x xs).slot ≡ get_or ss (fold earlier x xs).number nobody) × ((fold earlier x xs).number < k)

wider : (ss : List Slot) (k : ℕ) (us : List Numbered) (b : Std.Option ℕ) → Agrees ss k us b → Agrees ss (suc k) us b
wider ss k [] b a = a
wider ss k (x ∷ xs) b a = (a.0, a.1, (let h : (fold earlier x xs).number < k = a.2 in omega arith))

same-zero : (workspace : List ℕ) (b : Std.Option ℕ) (k : ℕ) → net_at workspace k ≡ 0 → b ≡ better_at workspace b k
unfolding better_at
same-zero workspace b k e = rw (eq-eqb (net_at workspace k) 0 e)

first_one : (workspace : List ℕ) (k : ℕ) → (net_at workspace k ≡ 0 → ⊥) → better_at workspace (None) k ≡ Some k
unfolding better_at
first_one workspace k n = rw (ne_eqb (net_at workspace k) 0 n)

later_one : (workspace : List ℕ) (j k : ℕ) → (net_at workspace k ≡ 0 → ⊥) → better_at workspace (Some j) k ≡ cond (tuple_less (tuple_at workspace k) (tuple_at workspace j)) (Some k) (Some j)
unfolding better_at
later_one workspace j k n = rw (ne_eqb (net_at workspace k) 0 n)

-- the numbered slot k
abbrev nth : List Slot → ℕ → Numbered
nth ss k = record { number = k; slot = get_or ss k nobody }

chosen : (workspace : List ℕ) (ss : List Slot) (k : ℕ) (y : Numbered) (t : Bool) → tuple_less (get_or ss k nobody).tuple y.slot.tuple ≡ t → y.slot ≡ get_or ss y.number nobody → y.number < k
    → (cond t (Some k) (Some y.number) ≡ Some (earlier y (nth ss k)).number) × ((earlier y (nth ss k)).slot ≡ get_or ss (earlier y (nth ss k)).number nobody) × ((earlier y (nth ss k)).number < suc k)
chosen workspace ss k y true e q l = (rw e, rw e, rw e (omega arith))
chosen workspace ss k y false e q l = (rw e, rw e q, rw e (omega arith))

loud : (workspace : List ℕ) (ss : List Slot) → Holding workspace ss → (k : ℕ) → k < length ss → (b : Std.Option ℕ) → ((get_or ss k nobody).net ≡ 0 → ⊥) → (vs : List Numbered) → Agrees ss k vs b → Agrees ss (suc k) (vs ++ (nth ss k ∷ [])) (better_at workspace b k)
unfolding fold
loud workspace ss h k l b n [] e = (ap (λ (x : Std.Option ℕ). better_at workspace x k) e ∙ first_one workspace k (λ z. n (sym (h.net k l) ∙ z)), refl, omega arith)
loud workspace ss h k l b n (x ∷ xs) e =
    let y : Numbered = fold earlier x xs in
    let f : fold earlier x (xs ++ (nth ss k ∷ [])) ≡ earlier y (nth ss k) = fold-append earlier x xs (nth ss k ∷ []) in
    let c = chosen workspace ss k y (tuple_less (get_or ss k nobody).tuple y.slot.tuple) refl e.1 e.2 in
    let t : tuple_less (tuple_at workspace k) (tuple_at workspace y.number) ≡ tuple_less (get_or ss k nobody).tuple y.slot.tuple =
    ap₂ tuple_less (h.tuple k l) (h.tuple y.number (let g : y.number < k = e.2 in omega arith) ∙ ap (λ (v : Slot). v.tuple) (sym e.1)) in
    let d : better_at workspace b k ≡ cond (tuple_less (get_or ss k nobody).tuple y.slot.tuple) (Some k) (Some y.number) =
    ap (λ (v : Std.Option ℕ). better_at workspace v k) e.0 ∙ later_one workspace y.number k (λ z. n (sym (h.net k l) ∙ z)) ∙ ap (λ (q : Bool). cond q (Some k) (Some y.number)) t in (
      d ∙ c.0 ∙ ap (λ (v : Numbered). Some v.number) (sym f),
      ap (λ (v : Numbered). v.slot) f ∙ c.1 ∙ ap (λ (v : Numbered). get_or ss v.number nobody) (sym f),
      rw (ap (λ (v : Numbered). v.number) f) c.2,
    )

step : (workspace : List ℕ) (ss : List Slot) → Holding workspace ss → (k : ℕ) → k < length ss → (us : List Numbered) (b : Std.Option ℕ) → Agrees ss k us b
    → Agrees ss (suc k) (us ++ cond (eqb (get_or ss k nobody).net 0) [] (nth ss k ∷ [])) (better_at workspace b k)
step workspace ss h k l us b a = go (eqb (get_or ss k nobody).net 0) refl
  where
    go : (t : Bool) → eqb (get_or ss k nobody).net 0 ≡ t → Agrees ss (suc k) (us ++ cond t [] (nth ss k ∷ [])) (better_at workspace b k)
    go true e = rw (append-nil us, ← same-zero workspace b k (h.net k l ∙ eqb-true (get_or ss k nobody).net 0 e)) (wider ss k us b a)
    go false e = loud workspace ss h k l b (eqb-false (get_or ss k nobody).net 0 e) us a

agrees : (workspace : List ℕ) (ss : List Slot) → Holding workspace ss → (k : ℕ) → k ≤ length ss → Agrees ss k (unbalanced 0 (take k ss)) (least_to workspace k)
unfolding least_to unbalanced
agrees workspace ss h zero l = refl
agrees workspace ss h (suc k) l =
    let e : unbalanced 0 (take (suc k) ss) ≡ unbalanced 0 (take k ss) ++ cond (eqb (get_or ss k nobody).net 0) [] (nth ss k ∷ []) =
    ap (unbalanced 0) (take-suc ss k nobody l) ∙ unbalanced-one 0 (take k ss) (get_or ss k nobody)
    ∙ ap (λ (n : ℕ). unbalanced 0 (take k ss) ++ cond (eqb (get_or ss k nobody).net 0) [] (record { number = n; slot = get_or ss k nobody } ∷ [])) (let z : 0 + length (take k ss) ≡ k = omega (arith, length-take-le k ss (let w : k ≤ length ss = omega arith in w)) in z) in
    rw e (step workspace ss h k l (unbalanced 0 (take k ss)) (least_to workspace k) (agrees workspace ss h k (omega arith)))

says : (workspace : List ℕ) (ss : List Slot) → Holding workspace ss → (g k : ℕ) → k ≤ length ss → (us : List Numbered) (b : Std.Option ℕ) → Agrees ss k us b → slot_refusal g workspace b ≡ names_first g us
unfolding names_first
says workspace ss h g k l [] b a = rw a
says workspace ss h g k l (x ∷ xs) b a =
    ap (slot_refusal g workspace) a.0
    ∙ ap (λ (n : ℕ). some (NetNotZero g (fold earlier x xs).number n)) (h.net (fold earlier x xs).number (let z : (fold earlier x xs).number < k = a.2 in omega arith) ∙ ap (λ (v : Slot). v.net) (sym a.1))

-- the search names what the definition names
least_names : (workspace : List ℕ) (ss : List Slot) (g : ℕ) → Holding workspace ss → slot_refusal g workspace (least_to workspace (length ss)) ≡ names_first g (unbalanced 0 ss)
least_names workspace ss g h =
    says workspace ss h g (length ss) (omega arith) (unbalanced 0 (take (length ss) ss)) (least_to workspace (length ss)) (agrees workspace ss h (length ss) (omega arith))
    ∙ ap (λ (l : List Slot). names_first g (unbalanced 0 l)) (take_all (length ss) ss (omega arith))

net-first : (s : Slot) (workspace : List ℕ) → length s.tuple ≤ 8 → net_at (words_of_slot s ++ workspace) 0 ≡ s.net
net-first s workspace h = ap (λ (l : List ℕ). get_or l 9 0) (slot_is s workspace) ∙ get_or_at (front s) s.net workspace 0 9 (front_long s h)

tuple-first : (s : Slot) (workspace : List ℕ) → tuple_at (words_of_slot s ++ workspace) 0 ≡ s.tuple
tuple-first s workspace =
    ap (take (length s.tuple)) (append_assoc (s.tuple ++ replicate (8 - length s.tuple) 0) (s.net ∷ []) workspace ∙ append_assoc s.tuple (replicate (8 - length s.tuple) 0) ((s.net ∷ []) ++ workspace))
    ∙ take_at s.tuple (replicate (8 - length s.tuple) 0 ++ ((s.net ∷ []) ++ workspace)) (length s.tuple) refl

at_later : (xs workspace : List ℕ) (k j : ℕ) → length xs ≡ 10 → get_or (xs ++ workspace) (slot_words * suc k + j) 0 ≡ word workspace (slot_words * k + j)
at_later xs workspace k j h =
    let a : slot_words * suc k + j ≡ length xs + (slot_words * k + j) = omega arith in
    ap (λ (n : ℕ). get_or (xs ++ workspace) n 0) a ∙ get_or-append-add xs workspace (slot_words * k + j) 0

tuple_later : (xs workspace : List ℕ) (k : ℕ) → length xs ≡ 10 → tuple_at (xs ++ workspace) (suc k) ≡ tuple_at workspace k
tuple_later xs workspace k h =
    let a : slot_words * suc k ≡ length xs + slot_words * k = omega arith in
    let b : slot_words * suc k + tuple_word ≡ length xs + (slot_words * k + tuple_word) = omega arith in
    ap₂ (λ (n : ℕ) (l : List ℕ). take n l) (ap (λ (n : ℕ). get_or (xs ++ workspace) n 0) a ∙ get_or-append-add xs workspace (slot_words * k) 0) (ap (λ (n : ℕ). drop n (xs ++ workspace)) b ∙ drop-append-add xs workspace (slot_words * k + tuple_word))

held-net : (ss : List Slot) (rest : List ℕ) → Fit ss → (k : ℕ) → k < length ss → net_at (flat_map words_of_slot ss ++ rest) k ≡ (get_or ss k nobody).net
unfolding flat_map
held-net [] rest f k h = absurd (omega arith)
held-net (s ∷ ss) rest f zero h = ap (λ (l : List ℕ). net_at l 0) (append_assoc (words_of_slot s) (flat_map words_of_slot ss) rest) ∙ net-first s (flat_map words_of_slot ss ++ rest) f.0
held-net (s ∷ ss) rest f (suc k) h =
    ap (λ (l : List ℕ). net_at l (suc k)) (append_assoc (words_of_slot s) (flat_map words_of_slot ss) rest) ∙ at_later (words_of_slot s) (flat_map words_of_slot ss ++ rest) k 9 (slot-long s f.0) ∙ held-net ss rest f.1 k (omega arith)

held-tuple : (ss : List Slot) (rest : List ℕ) → Fit ss → (k : ℕ) → k < length ss → tuple_at (flat_map words_of_slot ss ++ rest) k ≡ (get_or ss k nobody).tuple
unfolding flat_map
held-tuple [] rest f k h = absurd (omega arith)
held-tuple (s ∷ ss) rest f zero h = ap (λ (l : List ℕ). tuple_at l 0) (append_assoc (words_of_slot s) (flat_map words_of_slot ss) rest) ∙ tuple-first s (flat_map words_of_slot ss ++ rest)
held-tuple (s ∷ ss) rest f (suc k) h =
    ap (λ (l : List ℕ). tuple_at l (suc k)) (append_assoc (words_of_slot s) (flat_map words_of_slot ss) rest) ∙ tuple_later (words_of_slot s) (flat_map words_of_slot ss ++ rest) k (slot-long s f.0) ∙ held-tuple ss rest f.1 k (omega arith)

held : (ss : List Slot) (rest : List ℕ) → Fit ss → Holding (flat_map words_of_slot ss ++ rest) ss
held ss rest f = record { net = held-net ss rest f; tuple = held-tuple ss rest f }

held-width : (ss : List Slot) (rest : List ℕ) → Fit ss → (k : ℕ) → k < length ss → word (flat_map words_of_slot ss ++ rest) (slot_words * k) ≤ 8
unfolding flat_map
held-width [] rest f k h = absurd (omega arith)
held-width (s ∷ ss) rest f zero h = subst (λ (n : ℕ). n ≤ 8) (sym (ap (λ (l : List ℕ). word l 0) (append_assoc (words_of_slot s) (flat_map words_of_slot ss) rest))) f.0
held-width (s ∷ ss) rest f (suc k) h =
    let W : List ℕ = flat_map words_of_slot ss ++ rest in
    let a : slot_words * suc k ≡ slot_words * suc k + 0 = omega arith in
    let b : slot_words * k + 0 ≡ slot_words * k = omega arith in
    subst (λ (n : ℕ). n ≤ 8)
    (sym (ap (λ (l : List ℕ). word l (slot_words * suc k)) (append_assoc (words_of_slot s) (flat_map words_of_slot ss) rest) ∙ ap (word (words_of_slot s ++ W)) a ∙ at_later (words_of_slot s) W k 0 (slot-long s f.0) ∙ ap (word W) b))
    (held-width ss rest f.1 k (omega arith))

-- The verdict on the words is the group's.
pub work_refusal_is : (room g : ℕ) (ss : List Slot) → Fit ss → work_refusal g (work_of room ss) ≡ group_refusal room g ss
unfolding work_refusal work_of workspace_of group_refusal
work_refusal_is room g ss f = go (full room ss)
  where
    go : (b : Bool)
        → cond b (some WorkspaceFull) (slot_refusal g (cond b (replicate room 0) (flat_map words_of_slot ss ++ replicate (room - slot_words * length ss) 0)) (least_to (cond b (replicate room 0) (flat_map words_of_slot ss ++ replicate (room - slot_words * length ss) 0)) (cond b 0 (length ss))))
        ≡ cond b (some WorkspaceFull) (names_first g (unbalanced 0 ss))
    go true = refl
    go false = least_names (flat_map words_of_slot ss ++ replicate (room - slot_words * length ss) 0) ss g (held ss (replicate (room - slot_words * length ss) 0) f)

-- every width in use is at most eight
pub widths_in_use : (room : ℕ) (ss : List Slot) → Fit ss → (j : ℕ) → j < (work_of room ss).used → word (work_of room ss).words (slot_words * j) ≤ 8
unfolding work_of workspace_of
widths_in_use room ss f j = go (full room ss)
  where
    go : (b : Bool) → j < cond b 0 (length ss) → word (cond b (replicate room 0) (flat_map words_of_slot ss ++ replicate (room - slot_words * length ss) 0)) (slot_words * j) ≤ 8
    go true h = absurd (omega arith)
    go false h = held-width ss (replicate (room - slot_words * length ss) 0) f j h
