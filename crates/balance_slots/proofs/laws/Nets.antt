-- What the slots of a group hold is the group's ledger, and the slots are its different tuples in order of first meeting.
use Rattle.std.specs.Prelude.{◌≡◌, refl, Bool, true, false, cond, ◌||◌, ℕ, ◌<◌, eqb}
use Rattle.std.proofs.Common.{sym, ap, ◌∙◌, true≢false, eqb-true}
use mathlib.Core.List.{List, [], ◌∷◌, ◌++◌, map, Memᴰ}
use Rattle.lists.specs.Same.{same_list}
use Rattle.lists.specs.laws.Same.{same_list-eq, same_list_refl}
use Rattle.lists.specs.Fold.{fold}
use Rattle.field.specs.Word.{add_m}
use Rattle.field.proofs.laws.Word.{add_m-below, add_m-zero, zero-add_m}
use Rattle.logup.specs.Ledger.{Entry, post}
use Rattle.balance_slots.specs.Slots.{Slot, add_nonzero, add, slots}
use Rattle.balance_slots.specs.Nets.{net_of}

-- lists that differ do so either way round
same_list_flip : (a b : List ℕ) → same_list a b ≡ false → same_list b a ≡ false
same_list_flip a b e = go (same_list b a) refl
  where
    go : (c : Bool) → same_list b a ≡ c → c ≡ false
    go true q = let s : same_list a b ≡ true = rw (same_list-eq b a q) (same_list_refl a) in cc
    go false q = refl

-- the net of a tuple in the slots, 0 where it has none
unfoldable pub held : List Slot → List ℕ → ℕ
held [] l = 0
held (s ∷ ss) l = cond (same_list s.tuple l) s.net (held ss l)

-- no slot has this tuple
unfoldable pub absent : List ℕ → List Slot → Bool
absent t [] = true
absent t (s ∷ ss) = cond (same_list s.tuple t) false (absent t ss)

-- each tuple has one slot, and a net is a word below p
abbrev pub Sound : ℕ → List Slot → Type 0
Sound p [] = Unit {0}
Sound p (s ∷ ss) = (s.net < p) × (absent s.tuple ss ≡ true) × Sound p ss

-- every entry's count is a word below p
abbrev pub Counted : ℕ → List Entry → Type 0
Counted p es = (e : Entry) → Memᴰ e es → e.count < p

absent-held : (t : List ℕ) (ss : List Slot) → absent t ss ≡ true → held ss t ≡ 0
unfolding absent held
absent-held t [] a = refl
absent-held t (s ∷ ss) a = go (same_list s.tuple t) (absent-held t ss) a
  where
    go : (b : Bool) → (absent t ss ≡ true → held ss t ≡ 0) → cond b false (absent t ss) ≡ true → cond b s.net (held ss t) ≡ 0
    go true ih q = cc
    go false ih q = ih q

held_below : (p : ℕ) → 0 < p → (ss : List Slot) (l : List ℕ) → Sound p ss → held ss l < p
unfolding held
held_below p z [] l s = z
held_below p z (u ∷ ss) l s = go (same_list u.tuple l) (held_below p z ss l s.2)
  where
    go : (b : Bool) → held ss l < p → cond b u.net (held ss l) < p
    go true h = s.0
    go false h = h

-- an entry changes what its own tuple's slot holds by its count, and no other
add_nonzero-held : (p : ℕ) (ss : List Slot) (e : Entry) (l : List ℕ) → e.count < p → held (add_nonzero p ss e) l ≡ cond (same_list e.tuple l) (add_m p (held ss l) e.count) (held ss l)
unfolding add_nonzero held
add_nonzero-held p [] e l h = go (same_list e.tuple l)
  where
    go : (b : Bool) → cond b e.count 0 ≡ cond b (add_m p 0 e.count) 0
    go true = sym (zero-add_m p e.count h)
    go false = refl
add_nonzero-held p (s ∷ ss) e l h = go (same_list s.tuple e.tuple) refl (add_nonzero-held p ss e l h)
  where
    own : (b c : Bool) → b ≡ c → cond b (add_m p s.net e.count) (held ss l) ≡ cond c (add_m p (cond b s.net (held ss l)) e.count) (cond b s.net (held ss l))
    own true c q = rw (sym q)
    own false c q = rw (sym q)

    -- another tuple's slot: it is not both
    apart : (b c : Bool) → (b ≡ true → c ≡ true → ⊥) → held (add_nonzero p ss e) l ≡ cond c (add_m p (held ss l) e.count) (held ss l)
        → cond b s.net (held (add_nonzero p ss e) l) ≡ cond c (add_m p (cond b s.net (held ss l)) e.count) (cond b s.net (held ss l))
    apart true true n ih = absurd (n refl refl)
    apart true false n ih = refl
    apart false c n ih = ih

    go : (b : Bool) → same_list s.tuple e.tuple ≡ b → held (add_nonzero p ss e) l ≡ cond (same_list e.tuple l) (add_m p (held ss l) e.count) (held ss l)
        → held (cond b (record { tuple = s.tuple; net = add_m p s.net e.count } ∷ ss) (s ∷ add_nonzero p ss e)) l
        ≡ cond (same_list e.tuple l) (add_m p (cond (same_list s.tuple l) s.net (held ss l)) e.count) (cond (same_list s.tuple l) s.net (held ss l))
    go true q ih = own (same_list s.tuple l) (same_list e.tuple l) (ap (λ (t : List ℕ). same_list t l) (same_list-eq s.tuple e.tuple q))
    go false q ih =
        apart (same_list s.tuple l) (same_list e.tuple l)
        (λ b c. let f : same_list s.tuple e.tuple ≡ true = rw (same_list-eq s.tuple l b, same_list-eq e.tuple l c) (same_list_refl l) in true≢false (sym f ∙ q)) ih

-- a skipped entry changes nothing
add-held : (p : ℕ) → 0 < p → (ss : List Slot) (e : Entry) (l : List ℕ) → Sound p ss → e.count < p → held (add p ss e) l ≡ post p (held ss) e l
unfolding add post
add-held p z ss e l s h = go (eqb e.count 0) refl (same_list e.tuple l) (add_nonzero-held p ss e l h)
  where
    skipped : (c : Bool) → e.count ≡ 0 → held ss l ≡ cond c (add_m p (held ss l) e.count) (held ss l)
    skipped true q = sym (ap (add_m p (held ss l)) q ∙ add_m-zero p (held ss l) (held_below p z ss l s))
    skipped false q = refl

    go : (b : Bool) → eqb e.count 0 ≡ b → (c : Bool) → held (add_nonzero p ss e) l ≡ cond c (add_m p (held ss l) e.count) (held ss l)
        → held (cond b ss (add_nonzero p ss e)) l ≡ cond c (add_m p (held ss l) e.count) (held ss l)
    go true q c ih = skipped c (eqb-true e.count 0 q)
    go false q c ih = ih

-- soundness is kept
add_nonzero-absent : (p : ℕ) (t : List ℕ) (ss : List Slot) (e : Entry) → absent t ss ≡ true → same_list e.tuple t ≡ false → absent t (add_nonzero p ss e) ≡ true
unfolding add_nonzero absent
add_nonzero-absent p t [] e a h = rw h
add_nonzero-absent p t (s ∷ ss) e a h = go (same_list s.tuple e.tuple) (same_list s.tuple t) refl a (λ r. add_nonzero-absent p t ss e r h)
  where
    go : (b c : Bool) → same_list s.tuple t ≡ c → cond c false (absent t ss) ≡ true → (absent t ss ≡ true → absent t (add_nonzero p ss e) ≡ true)
        → absent t (cond b (record { tuple = s.tuple; net = add_m p s.net e.count } ∷ ss) (s ∷ add_nonzero p ss e)) ≡ true
    go b true q r ih = cc
    go true false q r ih = rw q r
    go false false q r ih = rw q (ih r)

add_nonzero_sound : (p : ℕ) → 0 < p → (ss : List Slot) (e : Entry) → e.count < p → Sound p ss → Sound p (add_nonzero p ss e)
unfolding add_nonzero absent
add_nonzero_sound p z [] e h s = (h, refl, tt)
add_nonzero_sound p z (u ∷ ss) e h s = go (same_list u.tuple e.tuple) refl (add_nonzero_sound p z ss e h s.2)
  where
    go : (b : Bool) → same_list u.tuple e.tuple ≡ b → Sound p (add_nonzero p ss e) → Sound p (cond b (record { tuple = u.tuple; net = add_m p u.net e.count } ∷ ss) (u ∷ add_nonzero p ss e))
    go true q ih = (add_m-below p z u.net e.count, s.1, s.2)
    go false q ih = (s.0, add_nonzero-absent p u.tuple ss e s.1 (same_list_flip u.tuple e.tuple q), ih)

add_sound : (p : ℕ) → 0 < p → (ss : List Slot) (e : Entry) → e.count < p → Sound p ss → Sound p (add p ss e)
unfolding add
add_sound p z ss e h s = go (eqb e.count 0) (add_nonzero_sound p z ss e h s)
  where
    go : (b : Bool) → Sound p (add_nonzero p ss e) → Sound p (cond b ss (add_nonzero p ss e))
    go true k = s
    go false k = k

fold_sound : (p : ℕ) → 0 < p → (es : List Entry) → Counted p es → (ss : List Slot) → Sound p ss → Sound p (fold (add p) ss es)
unfolding fold
fold_sound p z [] h ss s = s
fold_sound p z (e ∷ es) h ss s = fold_sound p z es (λ x m. h x (Memᴰ.tail m)) (add p ss e) (add_sound p z ss e (h e (Memᴰ.head refl)) s)

fold-held : (p : ℕ) → 0 < p → (es : List Entry) → Counted p es → (ss : List Slot) → Sound p ss → (l : List ℕ) → held (fold (add p) ss es) l ≡ fold (post p) (held ss) es l
unfolding fold
fold-held p z [] h ss s l = refl
fold-held p z (e ∷ es) h ss s l =
    let c : e.count < p = h e (Memᴰ.head refl) in
    fold-held p z es (λ x m. h x (Memᴰ.tail m)) (add p ss e) (add_sound p z ss e c s) l
    ∙ ap (λ (f : List ℕ → ℕ). fold (post p) f es l) (λ j t. add-held p z ss e t s c j)

held_none : (l : List ℕ) → held [] l ≡ 0
unfolding held
held_none l = refl

pub slots_sound : (p : ℕ) → 0 < p → (es : List Entry) → Counted p es → Sound p (slots p es)
unfolding slots
slots_sound p z es h = fold_sound p z es h [] tt

-- The slots hold the ledger.
pub slots-hold : (p : ℕ) → 0 < p → (es : List Entry) → Counted p es → (l : List ℕ) → held (slots p es) l ≡ net_of p es l
unfolding slots net_of
slots-hold p z es h l = fold-held p z es h [] tt l ∙ ap (λ (f : List ℕ → ℕ). fold (post p) f es l) (λ j t. held_none t j)

-- all nets are zero
abbrev pub Zero : List Slot → Type 0
Zero [] = Unit {0}
Zero (s ∷ ss) = (s.net ≡ 0) × Zero ss

zero_held : (ss : List Slot) → Zero ss → (l : List ℕ) → held ss l ≡ 0
unfolding held
zero_held [] z l = refl
zero_held (s ∷ ss) z l = go (same_list s.tuple l) (zero_held ss z.1 l)
  where
    go : (b : Bool) → held ss l ≡ 0 → cond b s.net (held ss l) ≡ 0
    go true ih = z.0
    go false ih = ih

held-zero : (p : ℕ) (ss : List Slot) → Sound p ss → ((l : List ℕ) → held ss l ≡ 0) → Zero ss
unfolding held
held-zero p [] s h = tt
held-zero p (u ∷ ss) s h = (sym own ∙ h u.tuple, held-zero p ss s.2 (λ l. rest l (same_list u.tuple l) refl (h l)))
  where
    own : held (u ∷ ss) u.tuple ≡ u.net
    own = rw (same_list_refl u.tuple)

    rest : (l : List ℕ) (b : Bool) → same_list u.tuple l ≡ b → cond b u.net (held ss l) ≡ 0 → held ss l ≡ 0
    rest l true q e = rw (sym (same_list-eq u.tuple l q)) (absent-held u.tuple ss s.1)
    rest l false q e = e

-- every net of the slots is zero exactly where every word of the ledger is
pub zero_nets : (p : ℕ) → 0 < p → (es : List Entry) → Counted p es → Zero (slots p es) → (l : List ℕ) → net_of p es l ≡ 0
zero_nets p z es h k l = sym (slots-hold p z es h l) ∙ zero_held (slots p es) k l

pub nets_zero : (p : ℕ) → 0 < p → (es : List Entry) → Counted p es → ((l : List ℕ) → net_of p es l ≡ 0) → Zero (slots p es)
nets_zero p z es h k = held-zero p (slots p es) (slots_sound p z es h) (λ l. slots-hold p z es h l ∙ k l)

-- the different tuples, in order of first meeting; skipped ones aside
unfoldable pub listed : List ℕ → List (List ℕ) → Bool
listed t [] = false
listed t (u ∷ us) = same_list u t || listed t us

abbrev pub include : List (List ℕ) → Entry → List (List ℕ)
include ts e = cond (eqb e.count 0 || listed e.tuple ts) ts (ts ++ (e.tuple ∷ []))

unfoldable pub different : List Entry → List (List ℕ)
different es = fold include [] es

abbrev tuples_of : List Slot → List (List ℕ)
tuples_of ss = map (λ (s : Slot). s.tuple) ss

add_nonzero-tuples : (p : ℕ) (ss : List Slot) (e : Entry) → tuples_of (add_nonzero p ss e) ≡ cond (listed e.tuple (tuples_of ss)) (tuples_of ss) (tuples_of ss ++ (e.tuple ∷ []))
unfolding add_nonzero listed
add_nonzero-tuples p [] e = refl
add_nonzero-tuples p (s ∷ ss) e = go (same_list s.tuple e.tuple) (add_nonzero-tuples p ss e)
  where
    later : (c : Bool) → s.tuple ∷ cond c (tuples_of ss) (tuples_of ss ++ (e.tuple ∷ [])) ≡ cond c (s.tuple ∷ tuples_of ss) ((s.tuple ∷ tuples_of ss) ++ (e.tuple ∷ []))
    later true = refl
    later false = refl

    go : (b : Bool) → tuples_of (add_nonzero p ss e) ≡ cond (listed e.tuple (tuples_of ss)) (tuples_of ss) (tuples_of ss ++ (e.tuple ∷ []))
        → tuples_of (cond b (record { tuple = s.tuple; net = add_m p s.net e.count } ∷ ss) (s ∷ add_nonzero p ss e))
        ≡ cond (b || listed e.tuple (tuples_of ss)) (s.tuple ∷ tuples_of ss) ((s.tuple ∷ tuples_of ss) ++ (e.tuple ∷ []))
    go true ih = refl
    go false ih = ap (λ (l : List (List ℕ)). s.tuple ∷ l) ih ∙ later (listed e.tuple (tuples_of ss))

add-tuples : (p : ℕ) (ss : List Slot) (e : Entry) → tuples_of (add p ss e) ≡ include (tuples_of ss) e
unfolding add
add-tuples p ss e = go (eqb e.count 0) (add_nonzero-tuples p ss e)
  where
    go : (b : Bool) → tuples_of (add_nonzero p ss e) ≡ cond (listed e.tuple (tuples_of ss)) (tuples_of ss) (tuples_of ss ++ (e.tuple ∷ []))
        → tuples_of (cond b ss (add_nonzero p ss e)) ≡ cond (b || listed e.tuple (tuples_of ss)) (tuples_of ss) (tuples_of ss ++ (e.tuple ∷ []))
    go true ih = refl
    go false ih = ih

fold-tuples : (p : ℕ) (es : List Entry) (ss : List Slot) → tuples_of (fold (add p) ss es) ≡ fold include (tuples_of ss) es
unfolding fold
fold-tuples p [] ss = refl
fold-tuples p (e ∷ es) ss = fold-tuples p es (add p ss e) ∙ ap (λ (l : List (List ℕ)). fold include l es) (add-tuples p ss e)

-- Slots are the group's different tuples, skipped ones aside, in order of first meeting.
pub slots-different : (p : ℕ) (es : List Entry) → map (λ (s : Slot). s.tuple) (slots p es) ≡ different es
unfolding slots different
slots-different p es = fold-tuples p es []
