-- A buffer d that is written from the front: its first i elements are p, and the rest is as it was.
use Rattle.std.specs.Prelude.{◌≡◌, refl, List, [], ◌∷◌, ◌++◌, ℕ, ◌+◌, ◌-◌, ◌<◌, ◌≤◌, length, take, drop, set}
use Rattle.std.proofs.Common.{ap, ◌∙◌, append-nil, zero-le, arith, length-append, drop_of_length-le, drop-drop}
use borrow.Rule.Slice.PartMut.{put_mid}
use Rattle.lists.specs.laws.Parts.{put_next, part-back, through_length}

module _ {A : Type 0} where
  -- d the buffer at first, p what is written, i how many that are, b the buffer now. `len` follows from the others: a field, so that omega and search read it
  pub record Filled (d p : List A) (i : ℕ) (b : List A) : Type 0 where
    pub is : b ≡ p ++ drop i d
    pub size : length p ≡ i
    pub room : i ≤ length d
    pub len : length b ≡ length d

  filled : (d p b : List A) (i : ℕ) → b ≡ p ++ drop i d → length p ≡ i → i ≤ length d → Filled d p i b
  filled d p b i e l h = record { is = e; size = l; room = h; len = ap length e ∙ through_length d p i l h }

  pub filled_none : {d : List A} → Filled d [] 0 d
  filled_none {d} = filled d [] d 0 refl refl zero-le

  -- b[i] = v
  pub filled-one : {d p p' b : List A} {i : ℕ} (v z : A) → Filled d p i b → i < length d → p' ≡ p ++ (v ∷ []) → Filled d p' (i + 1) (set b i v)
  filled-one {d} {p} {p'} {b} {i} v z f h e =
      filled d p' (set b i v) (i + 1) (rw (e, f.is) (put_next d p i v z f.size h)) (rw e (simp length-append (omega (arith, f.size)))) (omega arith)

  -- &mut b[i..e] was lent, and is back at ys
  pub filled-part : {d p p' b : List A} {i e : ℕ} (ys : List A) → Filled d p i b → i ≤ e → e ≤ length d → length ys ≡ e - i → p' ≡ p ++ ys → Filled d p' e (put_mid i (e - i) b ys)
  filled-part {d} {p} {p'} {b} {i} {e} ys f h g l q =
      filled d p' (put_mid i (e - i) b ys) e (rw (q, f.is) (part-back d p ys i e f.size h)) (rw q (simp length-append (omega (arith, f.size)))) g

  -- the whole is written
  pub filled-whole : {d p b : List A} {i : ℕ} → Filled d p i b → length d ≤ i → b ≡ p
  filled-whole {d} {p} {b} {i} f h = f.is ∙ ap (λ (l : List A). p ++ l) (drop_of_length-le d {i = i} h) ∙ append-nil p

  -- a part that was lent is back at ys: what is before it and what is after it is as it was
  pub put_mid_is : {ys zs : List A} (d : List A) (i e : ℕ) → ys ≡ zs → i ≤ e → put_mid i (e - i) d ys ≡ take i d ++ (zs ++ drop e d)
  put_mid_is {ys} {zs} d i e q h = let k : i + (e - i) ≡ e = omega arith in rw q (ap (λ (l : List A). take i d ++ (zs ++ l)) (drop-drop (e - i) i d ∙ ap (λ (n : ℕ). drop n d) k))
