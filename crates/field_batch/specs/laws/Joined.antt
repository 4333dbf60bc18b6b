-- What stands in a list that is made of lists, each of a length of its own: words, and elements of four words.
use Rattle.std.specs.Prelude.{◌≡◌, refl, List, [], ◌∷◌, ◌++◌, ℕ, zero, suc, ◌+◌, ◌*◌, ◌<◌, length, drop}
use Rattle.std.proofs.Common.{sym, ap, ◌∙◌, zero-add, mul-zero, mul-add, arith, length-append, get_or-append-add, get_or-drop}
use Rattle.std.proofs.Math.ListN.{get_or-append}
use Rattle.lists.specs.Count.{total, joined}
use Rattle.lists.specs.laws.Count.{last_or_below, total_in}
use Rattle.lists.specs.laws.Filled.{Filled}
use Rattle.field.specs.Element.{at, element}
use Rattle.field.proofs.laws.Slice.{element-whole}

pub joined-size : (f : ℕ → List ℕ) (len : ℕ → ℕ) (n : ℕ) → ((i : ℕ) → length (f i) ≡ len i) → length (joined f 0 n) ≡ total len n
unfolding joined total
joined-size f len zero h = refl
joined-size f len (suc n) h = simp length-append (omega (arith, joined-size f len n h, ap (λ (i : ℕ). length (f i)) (zero-add n), h n))

-- word c of list i
pub joined_word : (f : ℕ → List ℕ) (len : ℕ → ℕ) (n i c : ℕ) → ((i : ℕ) → length (f i) ≡ len i) → i < n → c < len i → at (joined f 0 n) (total len i + c) ≡ at (f i) c
unfolding joined
joined_word f len zero i c h l k = absurd (omega arith)
joined_word f len (suc n) i c h l k =
    last_or_below (λ (i : ℕ). c < len i → at (joined f 0 n ++ f (0 + n)) (total len i + c) ≡ at (f i) c) n i l
    (λ _. ap (λ (x : ℕ). at (joined f 0 n ++ f (0 + n)) (x + c)) (sym (joined-size f len n h)) ∙ get_or-append-add (joined f 0 n) (f (0 + n)) c 0 ∙ ap (λ (j : ℕ). at (f j) c) (zero-add n))
    (λ t k. get_or-append (joined f 0 n) (f (0 + n)) 0 (total len i + c) (omega (arith, joined-size f len n h, total_in len i n t, k)) ∙ joined_word f len n i c h t k)
    k

pub total_times : (m : ℕ) (f : ℕ → ℕ) (n : ℕ) → total (λ i. m * f i) n ≡ m * total f n
unfolding total
total_times m f zero = sym (mul-zero m)
total_times m f (suc n) = ap (λ (x : ℕ). x + m * f n) (total_times m f n) ∙ sym (mul-add m (total f n) (f n))

pub total-same : (m n : ℕ) → total (λ _. m) n ≡ n * m
unfolding total
total-same m zero = omega arith
total-same m (suc n) = omega (arith, total-same m n)

-- element k of list i, where list i has `len i` elements
pub joined-element : (f : ℕ → List ℕ) (len : ℕ → ℕ) (n i k : ℕ) → ((i : ℕ) → length (f i) ≡ 4 * len i) → i < n → k < len i → element (joined f 0 n) (total len i + k) ≡ element (f i) k
unfolding element
joined-element f len n i k h l t = λ j. word0 j ∷ word 1 (omega arith) j ∷ word 2 (omega arith) j ∷ word 3 (omega arith) j ∷ []
  where
    word : (c : ℕ) → c < 4 → at (joined f 0 n) (4 * (total len i + k) + c) ≡ at (f i) (4 * k + c)
    word c b =
        let e : 4 * (total len i + k) + c ≡ total (λ i. 4 * len i) i + (4 * k + c) = omega (arith, total_times 4 len i) in
        ap (at (joined f 0 n)) e ∙ joined_word f (λ i. 4 * len i) n i (4 * k + c) h l (omega arith)

    word0 : at (joined f 0 n) (4 * (total len i + k)) ≡ at (f i) (4 * k)
    word0 =
        let e : 4 * (total len i + k) ≡ total (λ i. 4 * len i) i + 4 * k = omega (arith, total_times 4 len i) in
        ap (at (joined f 0 n)) e ∙ joined_word f (λ i. 4 * len i) n i (4 * k) h l (omega arith)

-- element i of a list of elements
pub element_of : (f : ℕ → List ℕ) (n i : ℕ) → ((i : ℕ) → length (f i) ≡ 4) → i < n → element (joined f 0 n) i ≡ f i
element_of f n i h l =
    let e : i ≡ total (λ _. 1) i + 0 = omega (arith, total-same 1 i) in
    ap (element (joined f 0 n)) e ∙ joined-element f (λ _. 1) n i 0 h l (omega arith) ∙ element-whole (f i) (h i)

-- an element past what is written is as it was
pub element_past : {d p b : List ℕ} (i : ℕ) → Filled d p (4 * i) b → element b i ≡ element d i
unfolding element
element_past {d} {p} {b} i f = λ j. word0 j ∷ word 1 j ∷ word 2 j ∷ word 3 j ∷ []
  where
    word : (c : ℕ) → at b (4 * i + c) ≡ at d (4 * i + c)
    word c =
        (λ j. at (f.is j) (sym f.size j + c)) ∙ get_or-append-add p (drop (4 * i) d) c 0 ∙ get_or-drop (4 * i) d c 0

    word0 : at b (4 * i) ≡ at d (4 * i)
    word0 = let e : 4 * i ≡ 4 * i + 0 = omega arith in ap (at b) e ∙ word 0 ∙ ap (at d) (sym e)
