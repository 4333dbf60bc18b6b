-- A buffer d that is written from the front, p so far, stands at p ++ drop i d with length p ≡ i.
use Rattle.std.specs.Prelude.{◌≡◌, refl, List, [], ◌∷◌, ◌++◌, ℕ, zero, suc, ◌+◌, ◌-◌, ◌<◌, ◌≤◌, length, take, drop, get_or, set, replicate}
use Rattle.std.proofs.Common.{ap, ◌∙◌, append_assoc, add-one, arith, length-append, length-drop, length-take, drop-cons, take_at, drop_at, drop-drop, take-add, take-suc, get_or-drop}
use Rattle.std.proofs.lemmas.List.{set_at}
use Rattle.std.proofs.Math.Seq.{append_snoc}

module _ {A : Type 0} where
  -- one element more is stored
  pub put_next : (d p : List A) (i : ℕ) (v z : A) → length p ≡ i → i < length d → set (p ++ drop i d) i v ≡ (p ++ (v ∷ [])) ++ drop (i + 1) d
  put_next d p i v z e l = rw (add-one i, drop-cons d i z l, set_at p (get_or d i z) (drop (suc i) d) v i e, append_snoc p v (drop (suc i) d))

  -- the part from i to e was lent, and is back at ys
  pub part-back : (d p ys : List A) (i e : ℕ) → length p ≡ i → i ≤ e
      → take i (p ++ drop i d) ++ (ys ++ drop (e - i) (drop i (p ++ drop i d))) ≡ (p ++ ys) ++ drop e d
  part-back d p ys i e l h =
      let k : i + (e - i) ≡ e = omega arith in
      rw (take_at p (drop i d) i l, drop_at p (drop i d) i l, drop-drop (e - i) i d, k, append_assoc p ys (drop e d))

  -- the part that is lent is the buffer's own
  pub part-lent : (d p : List A) (i e : ℕ) → length p ≡ i → take (e - i) (drop i (p ++ drop i d)) ≡ take (e - i) (drop i d)
  part-lent d p i e l = rw (drop_at p (drop i d) i l)

  -- the buffer is as long as it was
  pub through_length : (d p : List A) (i : ℕ) → length p ≡ i → i ≤ length d → length (p ++ drop i d) ≡ length d
  through_length d p i l h = simp (length-append, length-drop, l) (omega arith)

  -- the elements from 0 to e are those to i and those from i to e
  pub take_more : (l : List A) (i e : ℕ) → i ≤ e → take e l ≡ take i l ++ take (e - i) (drop i l)
  take_more l i e h = let k : e ≡ i + (e - i) = omega arith in ap (λ (n : ℕ). take n l) k ∙ take-add i (e - i) l

  pub take-one : (l : List A) (i : ℕ) (z : A) → i < length l → take (i + 1) l ≡ take i l ++ (get_or l i z ∷ [])
  take-one l i z h = rw (add-one i) (take-suc l i z h)

  pub part_length : (l : List A) (i e : ℕ) → i ≤ e → e ≤ length l → length (take (e - i) (drop i l)) ≡ e - i
  part_length l i e h g = simp (length-take, length-drop) (omega arith)

-- zeros past the end are what is read past the end
get_or-zeros : (n j : ℕ) → ◌≡◌ {A = ℕ} (get_or (replicate n 0) j 0) 0
get_or-zeros zero j = refl
get_or-zeros (suc n) zero = refl
get_or-zeros (suc n) (suc j) = get_or-zeros n j

pub get_or_pad : (p : List ℕ) (n i a : ℕ) → get_or (p ++ drop i (replicate n 0)) a 0 ≡ get_or p a 0
get_or_pad [] n i a = get_or-drop i (replicate n 0) a 0 ∙ get_or-zeros n (i + a)
get_or_pad (x ∷ p) n i zero = refl
get_or_pad (x ∷ p) n i (suc a) = get_or_pad p n i a
