-- Laws of rooms and of the lists of bytes that are decoded into them.
use Prim.Native.Nat.{ℕ, zero, suc, ◌+◌, ◌-◌, ◌*◌, ◌/◌, ◌%◌, ◌<◌, ◌≤◌, zero-le}
use Rattle.std.specs.Prelude.{◌≡◌, refl, Bool, true, false, cond, ◌&&◌, eqb, leb, get_or, Option, None, Some}
use Rattle.std.proofs.Math.Path.{sym, ap, ap₂}
use Rattle.std.proofs.Common.{◌∙◌, zero-add, arith, length-drop, drop_of_length-le, take-append-drop, eqb-true, leb-true}
use mathlib.Core.List.{List, [], ◌∷◌, ◌++◌, map, append-nil, append_assoc}
use Rattle.std.proofs.Math.ListN.{length, take, drop, length-append, length-take}
use Rattle.std.proofs.Math.Seq.{take_at, drop_at, drop-drop, take-append_seam, drop-append_seam}
use borrow.Rule.Slice.PartMut.{put_mid}
use Rattle.lists.specs.laws.Filled.{Filled, filled-part, put_mid_is}
use Rattle.lists.specs.laws.Parts.{part-lent}
use Rattle.lists.specs.laws.Tests.{both_left, both_right}
use Rattle.wire.specs.Wire.{words_of, bytes_of}
use Rattle.wire.specs.Room.{sizes_fit, fit, flat, all_words}
use Rattle.wire.specs.inner.Place.{placed, word_count, all_less, filled, Five, parts, Steps, Ordered, both_ends, Split, five_ends, After}
use Rattle.wire.specs.laws.Trip.{words-length}
use Rattle.wire.specs.declared.room.Ends.{Ends}

-- The test by what is left is the test of the sizes.
pub none-left : (sizes : List ℕ) → filled (all_less None sizes) ≡ false
none-left [] = refl
none-left (b ∷ sizes) = none-left sizes

step : (h : Bool) (w : ℕ) (sizes : List ℕ) → filled (all_less (cond h (Some w) None) sizes) ≡ (h && filled (all_less (Some w) sizes))
step true w sizes = refl
step false w sizes = none-left sizes

pub left-fits : (sizes : List ℕ) (words : ℕ) → filled (all_less (Some words) sizes) ≡ sizes_fit sizes words
unfolding sizes_fit
left-fits [] words = refl
left-fits (b ∷ sizes) words =
    let one : Bool = eqb (b % 4) 0 && leb (b / 4) words in
    step one (words - b / 4) sizes ∙ ap (λ (x : Bool). one && x) (left-fits sizes (words - b / 4))

pub fit-told : (lists : List (List ℕ)) (room : List ℕ) {left : Option ℕ} {b : Bool} → left ≡ all_less (Some (length room)) (map length lists) → b ≡ filled left → b ≡ fit lists room
unfolding fit
fit-told lists room e f = f ∙ ap filled e ∙ left-fits (map length lists) (length room)

-- Lists that fit: their words are as many as the room's, and each is whole words.
sizes-sum : (lists : List (List ℕ)) (room : ℕ) → sizes_fit (map length lists) room ≡ true → word_count lists ≡ room
unfolding sizes_fit word_count
sizes-sum [] room e = sym (eqb-true room 0 e)
sizes-sum (b ∷ lists) room e =
    let one : Bool = eqb (length b % 4) 0 && leb (length b / 4) room in
    let rest : Bool = sizes_fit (map length lists) (room - length b / 4) in
    let few : length b / 4 ≤ room = leb-true (length b / 4) room (both_right (eqb (length b % 4) 0) (leb (length b / 4) room) (both_left one rest e)) in
    omega (arith, sizes-sum lists (room - length b / 4) (both_right one rest e))

pub fit_count : (lists : List (List ℕ)) (room : List ℕ) → fit lists room ≡ true → word_count lists ≡ length room
unfolding fit
fit_count lists room e = sizes-sum lists (length room) e

sizes-whole : (lists : List (List ℕ)) (room k : ℕ) → sizes_fit (map length lists) room ≡ true → k < length lists → length (get_or lists k []) % 4 ≡ 0
unfolding sizes_fit
sizes-whole [] room k e l = absurd (omega arith)
sizes-whole (b ∷ lists) room zero e l =
    let one : Bool = eqb (length b % 4) 0 && leb (length b / 4) room in
    eqb-true (length b % 4) 0 (both_left (eqb (length b % 4) 0) (leb (length b / 4) room) (both_left one (sizes_fit (map length lists) (room - length b / 4)) e))
sizes-whole (b ∷ lists) room (suc k) e l =
    let one : Bool = eqb (length b % 4) 0 && leb (length b / 4) room in
    sizes-whole lists (room - length b / 4) k (both_right one (sizes_fit (map length lists) (room - length b / 4)) e) (omega arith)

pub fit-whole : (lists : List (List ℕ)) (room : List ℕ) (k : ℕ) → fit lists room ≡ true → k < length lists → length (get_or lists k []) % 4 ≡ 0
unfolding fit
fit-whole lists room k e l = sizes-whole lists (length room) k e l

-- one list alone
pub fit-one : (bytes room : List ℕ) → fit (bytes ∷ []) room ≡ true → length bytes ≡ 4 * length room
unfolding word_count
fit-one bytes room e = omega (arith, fit_count (bytes ∷ []) room e, fit-whole (bytes ∷ []) room 0 e (omega arith))

-- the words of the lists
pub all_words-length : (lists : List (List ℕ)) → length (all_words lists) ≡ word_count lists
unfolding flat word_count
all_words-length [] = refl
all_words-length (b ∷ lists) = simp length-append (ap₂ ◌+◌ (words-length b) (all_words-length lists))

pub all_words-append : (xs ys : List (List ℕ)) → all_words (xs ++ ys) ≡ all_words xs ++ all_words ys
unfolding flat
all_words-append [] ys = refl
all_words-append (x ∷ xs) ys = ap (λ (l : List ℕ). words_of x ++ l) (all_words-append xs ys) ∙ sym (append_assoc (words_of x) (all_words xs) (all_words ys))

-- Words in a room from a place on.
module _ (at : ℕ) (u room : List ℕ) (fits : at + length u ≤ length room) where
  pub placed-length : length (placed at u room) ≡ length room
  unfolding placed
  placed-length = simp (length-append, length-take, length-drop) (omega arith)

  abbrev front : List ℕ
  front = take at room ++ u

  front_length : length front ≡ at + length u
  front_length = simp (length-append, length-take) (omega arith)

  whole : placed at u room ≡ front ++ drop (at + length u) room
  unfolding placed
  whole = sym (append_assoc (take at room) u (drop (at + length u) room))

  -- and more words after them
  pub placed-more : (v : List ℕ) → placed (at + length u) v (placed at u room) ≡ placed at (u ++ v) room
  unfolding placed
  placed-more v =
      let n : ℕ = at + length u in
      let before : take n (placed at u room) ≡ front = ap (take n) whole ∙ take_at front (drop n room) n front_length in
      let after : drop (n + length v) (placed at u room) ≡ drop (n + length v) room =
      sym (drop-drop (length v) n (placed at u room)) ∙ ap (drop (length v)) (ap (drop n) whole ∙ drop_at front (drop n room) n front_length) ∙ drop-drop (length v) n room in
      let size : n + length v ≡ at + length (u ++ v) = simp length-append (omega arith) in
      ap₂ (λ (x y : List ℕ). x ++ (v ++ y)) before (after ∙ ap (λ (k : ℕ). drop k room) size)
      ∙ append_assoc (take at room) u (v ++ drop (at + length (u ++ v)) room)
      ∙ ap (λ (l : List ℕ). take at room ++ l) (sym (append_assoc u v (drop (at + length (u ++ v)) room)))

-- the whole room
pub placed-all : (u room : List ℕ) → length u ≡ length room → placed 0 u room ≡ u
unfolding placed
placed-all u room e = ap (λ (l : List ℕ). u ++ l) (drop_of_length-le room {i = 0 + length u} (omega arith)) ∙ append-nil u

-- one list more after those that stand in the room
next : (at : ℕ) (lists : List (List ℕ)) (bytes room : List ℕ) {end : ℕ} {now after : List ℕ} → at + word_count lists ≤ length room → end ≡ at + word_count lists
    → now ≡ placed at (all_words lists) room → after ≡ placed end (words_of bytes) now → after ≡ placed at (all_words (lists ++ (bytes ∷ []))) room
unfolding flat
next at lists bytes room {end} {now} {after} fits e n a =
    let size : length (all_words lists) ≡ word_count lists = all_words-length lists in
    let place : end ≡ at + length (all_words lists) = e ∙ ap (λ (k : ℕ). at + k) (sym size) in
    let more : all_words lists ++ words_of bytes ≡ all_words (lists ++ (bytes ∷ [])) =
    ap (λ (l : List ℕ). all_words lists ++ l) (sym (append-nil (words_of bytes))) ∙ sym (all_words-append lists (bytes ∷ [])) in
    a ∙ ap₂ (λ (k : ℕ) (l : List ℕ). placed k (words_of bytes) l) place n
    ∙ placed-more at (all_words lists) room (omega (arith, size)) (words_of bytes) ∙ ap (λ (l : List ℕ). placed at l room) more

pub five : {a b c d e : List ℕ} {at : ℕ} {r₀ r₁ r₂ r₃ r₄ r₅ : List ℕ} {ends : Ends} → at + word_count (a ∷ b ∷ c ∷ d ∷ e ∷ []) ≤ length r₀
    → (ends.first ≡ at + length a / 4) × (r₁ ≡ placed at (words_of a) r₀)
    → (ends.second ≡ ends.first + length b / 4) × (r₂ ≡ placed ends.first (words_of b) r₁)
    → (ends.third ≡ ends.second + length c / 4) × (r₃ ≡ placed ends.second (words_of c) r₂)
    → (ends.fourth ≡ ends.third + length d / 4) × (r₄ ≡ placed ends.third (words_of d) r₃)
    → (ends.fifth ≡ ends.fourth + length e / 4) × (r₅ ≡ placed ends.fourth (words_of e) r₄)
    → Five a b c d e at r₀ r₅ ends
unfolding word_count flat
five {a} {b} {c} {d} {e} {at} {r₀} {r₁} {r₂} {r₃} {r₄} {r₅} {ends} fits f s t u v =
    let w₁ : r₁ ≡ placed at (all_words (a ∷ [])) r₀ = f.1 ∙ ap (λ (l : List ℕ). placed at l r₀) (sym (append-nil (words_of a))) in
    let w₂ : r₂ ≡ placed at (all_words (a ∷ b ∷ [])) r₀ = next at (a ∷ []) b r₀ (omega arith) (omega (arith, f.0)) w₁ s.1 in
    let w₃ : r₃ ≡ placed at (all_words (a ∷ b ∷ c ∷ [])) r₀ = next at (a ∷ b ∷ []) c r₀ (omega arith) (omega (arith, f.0, s.0)) w₂ t.1 in
    let w₄ : r₄ ≡ placed at (all_words (a ∷ b ∷ c ∷ d ∷ [])) r₀ = next at (a ∷ b ∷ c ∷ []) d r₀ (omega arith) (omega (arith, f.0, s.0, t.0)) w₃ u.1 in
    let w₅ : r₅ ≡ placed at (all_words (a ∷ b ∷ c ∷ d ∷ e ∷ [])) r₀ = next at (a ∷ b ∷ c ∷ d ∷ []) e r₀ (omega arith) (omega (arith, f.0, s.0, t.0, u.0)) w₄ v.1 in
    let size : length (all_words (a ∷ b ∷ c ∷ d ∷ e ∷ [])) ≡ word_count (a ∷ b ∷ c ∷ d ∷ e ∷ []) = all_words-length (a ∷ b ∷ c ∷ d ∷ e ∷ []) in
    record {
      first = f.0;
      second = s.0;
      third = t.0;
      fourth = u.0;
      fifth = v.0;
      within = omega (arith, f.0, s.0, t.0, u.0, v.0);
      same = ap length w₅ ∙ placed-length at (all_words (a ∷ b ∷ c ∷ d ∷ e ∷ [])) r₀ (omega (arith, size));
      words = w₅;
    }

-- Words that fill their part of the room, as the borrow checker has it.
pub part_placed : {ys : List ℕ} (bytes room : List ℕ) (at : ℕ) → at + length bytes / 4 ≤ length room
    → ys ≡ words_of bytes ++ drop (length bytes / 4) (take (at + length bytes / 4 - at) (drop at room))
    → put_mid at (at + length bytes / 4 - at) room ys ≡ placed at (words_of bytes) room
unfolding placed
part_placed {ys} bytes room at fits e =
    let n : ℕ = length bytes / 4 in
    let none_left : drop n (take (at + n - at) (drop at room)) ≡ [] = drop_of_length-le (take (at + n - at) (drop at room)) {i = n} (simp (length-take, length-drop) (omega arith)) in
    let is : ys ≡ words_of bytes = e ∙ ap (λ (l : List ℕ). words_of bytes ++ l) none_left ∙ append-nil (words_of bytes) in
    put_mid_is room at (at + n) is (omega arith) ∙ ap (λ (k : ℕ). take at room ++ (words_of bytes ++ drop (at + k) room)) (sym (words-length bytes))

-- The parts of a room are the lists that stand in it.
pub parts_are : (lists : List (List ℕ)) (ends : List ℕ) (at : ℕ) (room rest : List ℕ) → drop at room ≡ flat lists ++ rest → Steps at (map length lists) ends → parts room at ends ≡ lists
unfolding flat
parts_are [] [] at room rest e s = refl
parts_are (l ∷ lists) (end ∷ ends) at room rest e s =
    let size : end - at ≡ length l = omega (arith, s.0) in
    let this : drop at room ≡ l ++ (flat lists ++ rest) = e ∙ append_assoc l (flat lists) rest in
    let one : take (end - at) (drop at room) ≡ l = ap₂ take size this ∙ take-append_seam l (flat lists ++ rest) in
    let more : drop end room ≡ flat lists ++ rest =
    ap (λ (k : ℕ). drop k room) s.0 ∙ sym (drop-drop (length l) at room) ∙ ap (drop (length l)) this ∙ drop-append_seam l (flat lists ++ rest) in
    ap₂ (λ (x : List ℕ) (xs : List (List ℕ)). x ∷ xs) one (parts_are lists ends end room rest more s.1)
parts_are [] (end ∷ ends) at room rest e s = absurd s
parts_are (l ∷ lists) [] at room rest e s = absurd s

-- how many words each list has
abbrev word_sizes : List (List ℕ) → List ℕ
word_sizes lists = map (λ (b : List ℕ). length b / 4) lists

sizes_are : (lists : List (List ℕ)) → word_sizes lists ≡ map length (map words_of lists)
sizes_are [] = refl
sizes_are (b ∷ lists) = ap₂ (λ (n : ℕ) (ns : List ℕ). n ∷ ns) (sym (words-length b)) (sizes_are lists)

-- lists that fill the room: their words are the whole room, and each list's are its part
filling : (lists : List (List ℕ)) (ends room : List ℕ) {after : List ℕ} → fit lists room ≡ true → after ≡ placed 0 (all_words lists) room → Steps 0 (word_sizes lists) ends
    → (after ≡ all_words lists) × (parts after 0 ends ≡ map words_of lists)
filling lists ends room {after} fits e s =
    let is : after ≡ all_words lists = e ∙ placed-all (all_words lists) room (all_words-length lists ∙ fit_count lists room fits) in
    (is, parts_are (map words_of lists) ends 0 after [] (is ∙ sym (append-nil (all_words lists))) (rw (sizes_are lists) at s))

module _ {a b c d e f g h i j : List ℕ} {r₀ r₁ r₂ : List ℕ} {x y : Ends} where
  pub ten : fit (a ∷ b ∷ c ∷ d ∷ e ∷ f ∷ g ∷ h ∷ i ∷ j ∷ []) r₀ ≡ true → Five a b c d e 0 r₀ r₁ x → Five f g h i j x.fifth r₁ r₂ y
      → (r₂ ≡ all_words (a ∷ b ∷ c ∷ d ∷ e ∷ f ∷ g ∷ h ∷ i ∷ j ∷ []))
      × (parts r₂ 0 (both_ends x y) ≡ map words_of (a ∷ b ∷ c ∷ d ∷ e ∷ f ∷ g ∷ h ∷ i ∷ j ∷ []))
  unfolding word_count
  ten fits l m =
      let u : List (List ℕ) = a ∷ b ∷ c ∷ d ∷ e ∷ [] in
      let v : List (List ℕ) = f ∷ g ∷ h ∷ i ∷ j ∷ [] in
      let size : length (all_words u) ≡ word_count u = all_words-length u in
      let place : x.fifth ≡ 0 + length (all_words u) = omega (arith, size) in
      let within : 0 + length (all_words u) ≤ length r₀ = omega (arith, place) in
      filling (a ∷ b ∷ c ∷ d ∷ e ∷ f ∷ g ∷ h ∷ i ∷ j ∷ []) (both_ends x y) r₀ fits
      (m.words ∙ ap₂ (λ (k : ℕ) (r : List ℕ). placed k (all_words v) r) place l.words ∙ placed-more 0 (all_words u) r₀ within (all_words v)
      ∙ ap (λ (z : List ℕ). placed 0 z r₀) (sym (all_words-append u v)))
      (l.first, (l.second, (l.third, (l.fourth, (l.fifth, (m.first, (m.second, (m.third, (m.fourth, (m.fifth, tt))))))))))

  pub ordered : {n : ℕ} → n ≡ length r₂ → Five a b c d e 0 r₀ r₁ x → Five f g h i j x.fifth r₁ r₂ y → Ordered x y n
  ordered q l m =
      let last : y.fifth ≤ length r₂ = omega (arith, m.within, m.same) in
      record {
        second = omega (arith, l.second);
        third = omega (arith, l.third);
        fourth = omega (arith, l.fourth);
        fifth = omega (arith, l.fifth);
        sixth = omega (arith, m.first);
        seventh = omega (arith, m.second);
        eighth = omega (arith, m.third);
        ninth = omega (arith, m.fourth);
        tenth = omega (arith, m.fifth);
        first_in = omega (arith, q, last);
        second_in = omega (arith, q, last);
        third_in = omega (arith, q, last);
        fourth_in = omega (arith, q, last);
        fifth_in = omega (arith, q, last);
        sixth_in = omega (arith, q, last);
        seventh_in = omega (arith, q, last);
        eighth_in = omega (arith, q, last);
        ninth_in = omega (arith, q, last);
        tenth_in = omega (arith, q, last);
      }

word_count-append : (xs ys : List (List ℕ)) → word_count (xs ++ ys) ≡ word_count xs + word_count ys
unfolding word_count
word_count-append [] ys = sym (zero-add (word_count ys))
word_count-append (x ∷ xs) ys = omega (arith, word_count-append xs ys)

-- what is filled first has room, and what is filled after five lists
pub front_fits : (xs ys : List (List ℕ)) (room : List ℕ) → fit (xs ++ ys) room ≡ true → 0 + word_count xs ≤ length room
front_fits xs ys room e = omega (arith, word_count-append xs ys, fit_count (xs ++ ys) room e)

pub back_fits : {a b c d e : List ℕ} {r₀ r₁ : List ℕ} {x : Ends} (ys : List (List ℕ)) → fit (a ∷ b ∷ c ∷ d ∷ e ∷ ys) r₀ ≡ true → Five a b c d e 0 r₀ r₁ x → x.fifth + word_count ys ≤ length r₁
unfolding word_count
back_fits {a} {b} {c} {d} {e} {r₀} ys fits l = omega (arith, fit_count (a ∷ b ∷ c ∷ d ∷ e ∷ ys) r₀ fits)

-- one list and five more
module _ {b c d e f : List ℕ} {r₁ r₂ : List ℕ} {n : ℕ} {x : Ends} where
  pub six : (a r₀ : List ℕ) → fit (a ∷ b ∷ c ∷ d ∷ e ∷ f ∷ []) r₀ ≡ true → (n ≡ 0 + length a / 4) × (r₁ ≡ placed 0 (words_of a) r₀) → Five b c d e f n r₁ r₂ x
      → (r₂ ≡ all_words (a ∷ b ∷ c ∷ d ∷ e ∷ f ∷ []))
      × (parts r₂ 0 (n ∷ five_ends x) ≡ map words_of (a ∷ b ∷ c ∷ d ∷ e ∷ f ∷ []))
  unfolding word_count flat
  six a r₀ fits l m =
      let v : List (List ℕ) = b ∷ c ∷ d ∷ e ∷ f ∷ [] in
      let place : n ≡ 0 + length (words_of a) = l.0 ∙ ap (λ (k : ℕ). 0 + k) (sym (words-length a)) in
      let within : 0 + length (words_of a) ≤ length r₀ = omega (arith, place, l.0, fit_count (a ∷ b ∷ c ∷ d ∷ e ∷ f ∷ []) r₀ fits) in
      filling (a ∷ b ∷ c ∷ d ∷ e ∷ f ∷ []) (n ∷ five_ends x) r₀ fits
      (m.words ∙ ap₂ (λ (k : ℕ) (r : List ℕ). placed k (all_words v) r) place l.1 ∙ placed-more 0 (words_of a) r₀ within (all_words v))
      (l.0, (m.first, (m.second, (m.third, (m.fourth, (m.fifth, tt))))))

-- five alone
module _ {a b c d e : List ℕ} {r₀ r₁ : List ℕ} {x : Ends} where
  pub five-alone : fit (a ∷ b ∷ c ∷ d ∷ e ∷ []) r₀ ≡ true → Five a b c d e 0 r₀ r₁ x
      → (r₁ ≡ all_words (a ∷ b ∷ c ∷ d ∷ e ∷ [])) × (parts r₁ 0 (five_ends x) ≡ map words_of (a ∷ b ∷ c ∷ d ∷ e ∷ []))
  five-alone fits l =
      filling (a ∷ b ∷ c ∷ d ∷ e ∷ []) (five_ends x) r₀ fits l.words (l.first, (l.second, (l.third, (l.fourth, (l.fifth, tt)))))

-- one alone
pub one-alone : (bytes room : List ℕ) {after : List ℕ} → fit (bytes ∷ []) room ≡ true → after ≡ placed 0 (words_of bytes) room → after ≡ words_of bytes
unfolding word_count
one-alone bytes room fits e = e ∙ placed-all (words_of bytes) room (omega (arith, words-length bytes, fit_count (bytes ∷ []) room fits))

-- the bytes of as many words
pub given_back : (words bytes : List ℕ) {after : List ℕ} → length bytes ≡ 4 * length words → after ≡ bytes_of words ++ drop (4 * length words) bytes → after ≡ bytes_of words
given_back words bytes e f = f ∙ ap (λ (l : List ℕ). bytes_of words ++ l) (drop_of_length-le bytes {i = 4 * length words} (omega arith)) ∙ append-nil (bytes_of words)

-- one list has room, also in a room of the same length
pub one-fits : (bytes room : List ℕ) → fit (bytes ∷ []) room ≡ true → 0 + length bytes / 4 ≤ length room
one-fits bytes room e = omega (arith, fit-one bytes room e)

pub one_still_fits : (bytes room now : List ℕ) → fit (bytes ∷ []) room ≡ true → length now ≡ length room → length bytes ≡ 4 * length now
one_still_fits bytes room now e s = omega (arith, fit-one bytes room e)

-- five lists that stand in a room, as its parts
pub split : {a b c d e : List ℕ} {at m : ℕ} {r₀ r₁ : List ℕ} {x : Ends} → m ≡ length r₁ → Five a b c d e at r₀ r₁ x → Split x m
split q l =
    record {
      second = omega (arith, l.second);
      third = omega (arith, l.third);
      fourth = omega (arith, l.fourth);
      fifth = omega (arith, l.fifth);
      first_in = omega (arith, q, l.within, l.same);
      second_in = omega (arith, q, l.within, l.same);
      third_in = omega (arith, q, l.within, l.same);
      fourth_in = omega (arith, q, l.within, l.same);
      fifth_in = omega (arith, q, l.within, l.same);
    }

pub after : {a b c d e : List ℕ} {n m : ℕ} {r₀ r₁ : List ℕ} {x : Ends} → m ≡ length r₁ → Five a b c d e n r₀ r₁ x → After n x m
after {x = x} q l = record { first = omega (arith, l.first); first_in = omega (arith, l.first, l.second, l.third, l.fourth, l.fifth, q, l.within, l.same); rest = split q l }

-- Parts of a room that were lent one after the other: each is as it was lent, and is back at y.
pub lent-next : {d p b : List ℕ} {i e : ℕ} (w y : List ℕ) → Filled d p i b → i ≤ e → e ≤ length d → length w ≤ e - i → y ≡ w ++ drop (length w) (take (e - i) (drop i b))
    → (y ≡ w ++ drop (length w) (take (e - i) (drop i d))) × Filled d (p ++ y) e (put_mid i (e - i) b y)
lent-next {d} {p} {b} {i} {e} w y f h g l q =
    let same : take (e - i) (drop i b) ≡ take (e - i) (drop i d) = ap (λ (z : List ℕ). take (e - i) (drop i z)) f.is ∙ part-lent d p i e f.size in
    let is : y ≡ w ++ drop (length w) (take (e - i) (drop i d)) = q ∙ ap (λ (z : List ℕ). w ++ drop (length w) z) same in
    let size : length y ≡ e - i = ap length is ∙ simp (length-append, length-drop, length-take) (omega arith) in
    (is, filled-part y f h g size refl)

abbrev Climbs : ℕ → List ℕ → ℕ → Type 0
Climbs at [] n = n ≡ at
Climbs at (e ∷ ends) n = (at ≤ e) × Climbs e ends n

-- all that stands in a room that ends with its last part
whole_is : (ends : List ℕ) (at : ℕ) (room : List ℕ) → Climbs at ends (length room) → flat (parts room at ends) ≡ drop at room
unfolding flat
whole_is [] at room h = sym (drop_of_length-le room {i = at} (omega (arith, h)))
whole_is (e ∷ ends) at room h =
    let k : at + (e - at) ≡ e = omega (arith, h.0) in
    ap (λ (l : List ℕ). take (e - at) (drop at room) ++ l) (whole_is ends e room h.1 ∙ ap (λ (n : ℕ). drop n room) (sym k) ∙ sym (drop-drop (e - at) at room))
    ∙ take-append-drop (e - at) (drop at room)

pub flat-parts : (x : Ends) (room : List ℕ) → Split x (length room) → length room ≡ x.fifth → flat (parts room 0 (five_ends x)) ≡ room
flat-parts x room s e = whole_is (five_ends x) 0 room (zero-le, (s.second, (s.third, (s.fourth, (s.fifth, e)))))

-- one list and others after it
pub first_fits : (bytes : List ℕ) (ys : List (List ℕ)) (room : List ℕ) → fit (bytes ∷ ys) room ≡ true → 0 + length bytes / 4 ≤ length room
unfolding word_count
first_fits bytes ys room e = omega (arith, fit_count (bytes ∷ ys) room e)

pub rest-fits : (bytes : List ℕ) (ys : List (List ℕ)) (room : List ℕ) {n : ℕ} {now : List ℕ} → fit (bytes ∷ ys) room ≡ true → (n ≡ 0 + length bytes / 4) × (now ≡ placed 0 (words_of bytes) room)
    → n + word_count ys ≤ length now
unfolding word_count
rest-fits bytes ys room {n} {now} e l =
    let same : length now ≡ length room = ap length l.1 ∙ placed-length 0 (words_of bytes) room (omega (arith, words-length bytes, fit_count (bytes ∷ ys) room e)) in
    omega (arith, same, l.0, fit_count (bytes ∷ ys) room e)
