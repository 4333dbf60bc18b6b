-- Packing on bytes: lists in the parts of a room, and the answer by cases.
use Prim.Native.Nat.{ℕ, ◌+◌, ◌-◌, ◌*◌, ◌≤◌, zero-le}
use Rattle.std.specs.Prelude.{◌≡◌, true, false, ◌&&◌, take, Err, Result}
use Rattle.std.proofs.Common.{sym, ◌∙◌, arith, length-take, Fits}
use Rattle.std.proofs.Math.Path.{ap, ap₂}
use mathlib.Core.List.{List, [], ◌∷◌, ◌++◌, map, append_assoc}
use Rattle.std.proofs.Math.ListN.{length, drop, length-append}
use borrow.Rule.Slice.PartMut.{put_mid}
use Rattle.std.specs.Int.{w64}
use Rattle.lists.specs.laws.Parts.{part_length}
use Rattle.lists.specs.laws.Filled.{Filled, filled_none}
use Rattle.expression.specs.Choices.{known}
use Rattle.expression.specs.Refusal.{answer_number, answer_details}
use Rattle.expression.specs.declared.choices.Choices.{Choices}
use Rattle.expression.specs.declared.refusal.Refusal.TheVariants.{SizeAtOdds}
use Rattle.lookup.specs.Lookups.{Lookups, lookup_words}
use Rattle.lookup.specs.declared.refusals.Columns.{Columns}
use Rattle.packing.specs.Written.{written}
use Rattle.packing.specs.PackSameBus.{Outcome, counts, all_written, packing_at}
use Rattle.delmatik_answers.specs.Packing.{packing_refused, packing_used}
use Rattle.wire.specs.Wire.{words_of, bytes_of}
use Rattle.wire.specs.Room.{fit, flat, all_words}
use Rattle.wire.specs.inner.Place.{parts, Split, five_ends, Five, word_count}
use Rattle.wire.specs.declared.room.Ends.{Ends}
use Rattle.wire.specs.laws.Room.{lent-next, parts_are, given_back, fit_count, fit-whole}
use Rattle.delmatik_bytes.specs.Bytes.{lookup_lists, encoded_lookups}
use Rattle.delmatik_bytes.specs.Pack.{answered, in_bytes, packing_on_bytes}
use Rattle.delmatik_bytes.specs.inner.Words.{lookups_in, packing_on_words}
use Rattle.expression.specs.declared.refusal.Refusal.{Refusal}
use Rattle.packing.specs.declared.answer.Counts.{Counts}
use Rattle.delmatik_bytes.specs.inner.Sized.{Sized}

-- as many elements in a part of a room of the same length
pub same-part : (d r : List ℕ) {i e k : ℕ} → i ≤ e → e ≤ length d → length r ≡ length d → k ≤ length (take (e - i) (drop i d)) → k ≤ length (take (e - i) (drop i r))
same-part d r {i} {e} h g s l = omega (arith, part_length d i e h g, part_length r i e h (omega (arith, g, s)))

pub still : {b m n : ℕ} → b ≤ n → m ≡ n → b ≤ m
still h e = omega arith

pub used-fits : {m n : ℕ} → m ≤ n → n ≤ 64 → Fits w64 (lookup_words * m)
used-fits h g = omega arith

pub front-short : (l : List ℕ) {n k : ℕ} → n ≤ k → length (take (n - 0) (drop 0 l)) ≤ k
front-short l h = simp length-take (omega arith)

-- words at the front of each of the five parts, one part after the other
module _ (d : List ℕ) (x : Ends) (s : Split x (length d)) where
  pub five-written : {after y₁ y₂ y₃ y₄ y₅ r₁ r₂ r₃ r₄ r₅ : List ℕ} (w : Lookups) (names : List ℕ)
      → r₁ ≡ put_mid 0 (x.first - 0) d y₁ → r₂ ≡ put_mid x.first (x.second - x.first) r₁ y₂ → r₃ ≡ put_mid x.second (x.third - x.second) r₂ y₃
      → r₄ ≡ put_mid x.third (x.fourth - x.third) r₃ y₄ → r₅ ≡ put_mid x.fourth (x.fifth - x.fourth) r₄ y₅
      → length w.lookups ≤ length (take (x.first - 0) (drop 0 d)) → length w.tuples ≤ length (take (x.second - x.first) (drop x.first d))
      → length w.multiplicities ≤ length (take (x.third - x.second) (drop x.second d)) → length w.flags ≤ length (take (x.fourth - x.third) (drop x.third d))
      → length w.elements ≤ length (take (x.fifth - x.fourth) (drop x.fourth d))
      → y₁ ≡ written w.lookups (take (x.first - 0) (drop 0 d)) → y₂ ≡ written w.tuples (take (x.second - x.first) (drop x.first r₁))
      → y₃ ≡ written w.multiplicities (take (x.third - x.second) (drop x.second r₂)) → y₄ ≡ written w.flags (take (x.fourth - x.third) (drop x.third r₃))
      → y₅ ≡ written w.elements (take (x.fifth - x.fourth) (drop x.fourth r₄))
      → after ≡ written w.names names → lookups_in after (parts r₅ 0 (five_ends x)) ≡ all_written w (lookups_in names (parts d 0 (five_ends x)))
  unfolding flat
  five-written {after} {y₁} {y₂} {y₃} {y₄} {y₅} {r₁} {r₂} {r₃} {r₄} {r₅} w names p₁ p₂ p₃ p₄ p₅ b₁ b₂ b₃ b₄ b₅ e₁ e₂ e₃ e₄ e₅ n =
      let z₁ = lent-next {d = d} w.lookups y₁ filled_none zero-le s.first_in (omega (arith, b₁, part_length d 0 x.first zero-le s.first_in)) e₁ in
      let f₁ : Filled d (y₁) x.first r₁ = rw p₁ z₁.1 in
      let z₂ = lent-next w.tuples y₂ f₁ s.second s.second_in (omega (arith, b₂, part_length d x.first x.second s.second s.second_in)) e₂ in
      let f₂ : Filled d (y₁ ++ y₂) x.second r₂ = rw p₂ z₂.1 in
      let z₃ = lent-next w.multiplicities y₃ f₂ s.third s.third_in (omega (arith, b₃, part_length d x.second x.third s.third s.third_in)) e₃ in
      let f₃ : Filled d ((y₁ ++ y₂) ++ y₃) x.third r₃ = rw p₃ z₃.1 in
      let z₄ = lent-next w.flags y₄ f₃ s.fourth s.fourth_in (omega (arith, b₄, part_length d x.third x.fourth s.fourth s.fourth_in)) e₄ in
      let f₄ : Filled d (((y₁ ++ y₂) ++ y₃) ++ y₄) x.fourth r₄ = rw p₄ z₄.1 in
      let z₅ = lent-next w.elements y₅ f₄ s.fifth s.fifth_in (omega (arith, b₅, part_length d x.fourth x.fifth s.fifth s.fifth_in)) e₅ in
      let n₂ : x.second ≡ x.first + length y₂ = omega (arith, z₁.1.size, simp length-append at z₂.1.size) in
      let n₃ : x.third ≡ x.second + length y₃ = omega (arith, simp length-append at z₂.1.size, simp length-append at z₃.1.size) in
      let n₄ : x.fourth ≡ x.third + length y₄ = omega (arith, simp length-append at z₃.1.size, simp length-append at z₄.1.size) in
      let n₅ : x.fifth ≡ x.fourth + length y₅ = omega (arith, simp length-append at z₄.1.size, simp length-append at z₅.1.size) in
      let all : (((((y₁ ++ y₂) ++ y₃) ++ y₄) ++ y₅) ++ drop x.fifth d) ≡ (y₁ ++ (y₂ ++ (y₃ ++ (y₄ ++ (y₅ ++ []))))) ++ drop x.fifth d = simp append_assoc in
      let ys = parts_are (y₁ ∷ y₂ ∷ y₃ ∷ y₄ ∷ y₅ ∷ []) (five_ends x) 0 r₅ (drop x.fifth d) (p₅ ∙ z₅.1.is ∙ all) (omega (arith, z₁.1.size), (n₂, (n₃, (n₄, (n₅, tt))))) in
      ap₂ lookups_in n (ys ∙ (λ i. z₁.0 i ∷ z₂.0 i ∷ z₃.0 i ∷ z₄.0 i ∷ z₅.0 i ∷ []))

  -- how long the parts are
  pub counts_in : (names : List ℕ)
      → record { lookups = x.first; names = length names; tuples = x.second - x.first; multiplicities = x.third - x.second; flags = x.fourth - x.third; elements = x.fifth - x.fourth }
      ≡ counts (lookups_in names (parts d 0 (five_ends x)))
  counts_in names =
      let l : x.first ≡ length (take (x.first - 0) (drop 0 d)) = omega (arith, part_length d 0 x.first zero-le s.first_in) in
      λ i.
      record {
        lookups = l i;
        names = length names;
        tuples = sym (part_length d x.first x.second s.second s.second_in) i;
        multiplicities = sym (part_length d x.second x.third s.third s.third_in) i;
        flags = sym (part_length d x.third x.fourth s.fourth s.fourth_in) i;
        elements = sym (part_length d x.fourth x.fifth s.fifth s.fifth_in) i;
      }

-- a part as bytes
pub part-long : (room out : List ℕ) {i e : ℕ} → i ≤ e → e ≤ length room → length out ≡ 4 * (e - i) → 4 * length (take (e - i) (drop i room)) ≤ length out
part-long room out {i} {e} h g q = omega (arith, part_length room i e h g)

pub part-given : (room out : List ℕ) {after : List ℕ} {i e : ℕ} → i ≤ e → e ≤ length room → length out ≡ 4 * (e - i)
    → after ≡ bytes_of (take (e - i) (drop i room)) ++ drop (4 * length (take (e - i) (drop i room))) out → after ≡ bytes_of (take (e - i) (drop i room))
part-given room out {after} {i} {e} h g q f = given_back (take (e - i) (drop i room)) out (omega (arith, q, part_length room i e h g)) f

-- lists that fit have the sizes of their parts
pub sized : {a b c d e : List ℕ} {r₀ r₁ : List ℕ} {x : Ends} → fit (a ∷ b ∷ c ∷ d ∷ e ∷ []) r₀ ≡ true → Five a b c d e 0 r₀ r₁ x → Sized x a b c d e
sized {a} {b} {c} {d} {e} {r₀} f l =
    let lists : List (List ℕ) = a ∷ b ∷ c ∷ d ∷ e ∷ [] in
    record {
      lookups_size = omega (arith, l.first, fit-whole lists r₀ 0 f (omega arith));
      tuples_size = omega (arith, l.second, fit-whole lists r₀ 1 f (omega arith));
      multiplicities_size = omega (arith, l.third, fit-whole lists r₀ 2 f (omega arith));
      flags_size = omega (arith, l.fourth, fit-whole lists r₀ 3 f (omega arith));
      elements_size = omega (arith, l.fifth, fit-whole lists r₀ 4 f (omega arith));
    }

-- and fill their room
pub room-ends : {a b c d e : List ℕ} {r₀ r₁ : List ℕ} {x : Ends} → fit (a ∷ b ∷ c ∷ d ∷ e ∷ []) r₀ ≡ true → Five a b c d e 0 r₀ r₁ x → length r₀ ≡ x.fifth
unfolding word_count
room-ends {a} {b} {c} {d} {e} {r₀} f l = omega (arith, fit_count (a ∷ b ∷ c ∷ d ∷ e ∷ []) r₀ f)

module _ (c : Choices) (limit : ℕ) (columns : Columns) (nodes : List ℕ) (l lent : Lookups) (given room out_room : List ℕ) {n : ℕ} {details used : List ℕ} {a : Result Counts Refusal} where
  pub fitting : {after : Lookups} {names Room-after out_after : List ℕ} (lists decoded written : List (List ℕ)) → known c ≡ true
      → fit (nodes ∷ lookup_lists l) room ≡ true → fit (lookup_lists lent) out_room ≡ true
      → (Room-after ≡ all_words (nodes ∷ lookup_lists l)) × (lists ≡ map words_of (nodes ∷ lookup_lists l)) → decoded ≡ map words_of (lookup_lists lent)
      → record { answer = a; lists = lookups_in names written } ≡ packing_on_words c limit columns l.names lists (lookups_in lent.names decoded)
      → out_after ≡ flat (lookup_lists (lookups_in names written)) → after ≡ encoded_lookups (lookups_in names written)
      → (n ≡ answer_number (packing_refused a)) × (details ≡ answer_details (packing_refused a)) × (used ≡ packing_used a given)
      → record { number = n; details = details; used = used; lists = after; room = Room-after; out_room = out_after }
      ≡ packing_on_bytes c limit columns nodes l lent given room out_room
  unfolding packing_on_bytes packing_at
  fitting {after} {names} {Room-after} {out_after} lists decoded written k f g r d o w b told =
      let same : packing_on_words c limit columns l.names lists (lookups_in lent.names decoded)
      ≡ packing_on_words c limit columns l.names (map words_of (nodes ∷ lookup_lists l)) (lookups_in lent.names (map words_of (lookup_lists lent))) =
      ap₂ (λ (x y : List (List ℕ)). packing_on_words c limit columns l.names x (lookups_in lent.names y)) r.1 d in
      rw (k, f, g)
      ((λ i. record { number = told.0 i; details = told.1 i; used = told.2 i; lists = b i; room = r.0 i; out_room = w i })
      ∙ ap (λ (z : Outcome). in_bytes z given (all_words (nodes ∷ lookup_lists l))) (o ∙ same))

  -- refusal 1, and everything as it was lent
  as_lent : a ≡ Err SizeAtOdds
      → (n ≡ answer_number (packing_refused a)) × (details ≡ answer_details (packing_refused a)) × (used ≡ packing_used a given)
      → record { number = n; details = details; used = used; lists = lent; room = room; out_room = out_room } ≡ answered (Err SizeAtOdds) given lent room out_room
  as_lent q told =
      (λ i. record { number = told.0 i; details = told.1 i; used = told.2 i; lists = lent; room = room; out_room = out_room })
      ∙ ap (λ (z : Result Counts Refusal). answered z given lent room out_room) q

  pub unknown : known c ≡ false → a ≡ Err SizeAtOdds
      → (n ≡ answer_number (packing_refused a)) × (details ≡ answer_details (packing_refused a)) × (used ≡ packing_used a given)
      → record { number = n; details = details; used = used; lists = lent; room = room; out_room = out_room }
      ≡ packing_on_bytes c limit columns nodes l lent given room out_room
  unfolding packing_on_bytes
  unknown k q told = rw k (as_lent q told)

  pub odd : known c ≡ true → (fit (nodes ∷ lookup_lists l) room && fit (lookup_lists lent) out_room) ≡ false → a ≡ Err SizeAtOdds
      → (n ≡ answer_number (packing_refused a)) × (details ≡ answer_details (packing_refused a)) × (used ≡ packing_used a given)
      → record { number = n; details = details; used = used; lists = lent; room = room; out_room = out_room }
      ≡ packing_on_bytes c limit columns nodes l lent given room out_room
  unfolding packing_on_bytes
  odd k e q told = rw (k, e) (as_lent q told)
