-- There and back: the words of the bytes of some words are these words, and the bytes of the words of some bytes these bytes.
use Rattle.std.specs.Prelude.{◌≡◌, refl, List, [], ◌∷◌, ℕ, zero, suc, ◌+◌, ◌*◌, ◌/◌, ◌%◌, ◌<◌, length, get_or}
use Rattle.std.proofs.Common.{sym, ap, ap₂, ◌∙◌, add-zero, zero-add, mod-eq_of_lt, arith, ext_get_or}
use Rattle.std.proofs.Math.Nat.{div-div-eq-div-mul}
use Rattle.lists.specs.Count.{joined}
use Rattle.lists.specs.Tab.{tab}
use Rattle.lists.specs.laws.Joined.{joined_length, joined_at}
use Rattle.lists.specs.laws.Tab.{tab-length, tab_get}
use Rattle.wire.specs.Wire.{word_of, word_at, words_of, word_bytes, bytes_of}

pub four : (x : ℕ) → length (word_bytes x) ≡ 4
unfolding word_bytes
four x = refl

split : (x : ℕ) → x % 256 + 256 * (x / 256) ≡ x
split x = omega arith

gather : (x y z u a b c d : ℕ) → a + 256 * y ≡ x → b + 256 * z ≡ y → c + 256 * u ≡ z → d ≡ u → a + 256 * b + 65536 * c + 16777216 * d ≡ x
gather x y z u a b c d e f g h = omega arith

-- a word below 2^32 is the word of its bytes
whole : (x : ℕ) → x < 4294967296 → word_of (x % 256) (x / 256 % 256) (x / 65536 % 256) (x / 16777216 % 256) ≡ x
unfolding word_of
whole x l =
    let two : x / 65536 ≡ x / 256 / 256 = sym (div-div-eq-div-mul x 256 256) in
    let three : x / 16777216 ≡ x / 65536 / 256 = sym (div-div-eq-div-mul x 65536 256) in
    let small : x / 16777216 < 256 = omega arith in
    gather x (x / 256) (x / 65536) (x / 16777216) (x % 256) (x / 256 % 256) (x / 65536 % 256) (x / 16777216 % 256) (split x)
    (rw two (split (x / 256))) (rw three (split (x / 65536))) (mod-eq_of_lt small)

pub bytes_length : (ws : List ℕ) → length (bytes_of ws) ≡ 4 * length ws
unfolding bytes_of
bytes_length ws = joined_length (λ i. word_bytes (get_or ws i 0)) 4 (length ws) (λ i. four (get_or ws i 0))

word_back : (ws : List ℕ) (i : ℕ) → i < length ws → get_or ws i 0 < 4294967296 → word_at (bytes_of ws) i ≡ get_or ws i 0
unfolding word_at bytes_of word_bytes
word_back ws i l b =
    let f : ℕ → List ℕ = λ j. word_bytes (get_or ws j 0) in
    let at : (c : ℕ) → c < 4 → get_or (joined f 0 (length ws)) (4 * i + c) 0 ≡ get_or (f i) c 0 = λ c k. joined_at f 4 (length ws) i c (λ j. four (get_or ws j 0)) l k in
    let z : 4 * i + 0 ≡ 4 * i = omega arith in
    ap₂ (λ (x y : ℕ). word_of x y (get_or (joined f 0 (length ws)) (4 * i + 2) 0) (get_or (joined f 0 (length ws)) (4 * i + 3) 0))
    (ap (λ (k : ℕ). get_or (joined f 0 (length ws)) k 0) (sym z) ∙ at 0 (omega arith)) (at 1 (omega arith))
    ∙ ap₂ (λ (x y : ℕ). word_of (get_or ws i 0 % 256) (get_or ws i 0 / 256 % 256) x y) (at 2 (omega arith)) (at 3 (omega arith))
    ∙ whole (get_or ws i 0) b

pub words_of_bytes : (ws : List ℕ) → ((i : ℕ) → i < length ws → get_or ws i 0 < 4294967296) → words_of (bytes_of ws) ≡ ws
unfolding words_of
words_of_bytes ws below =
    let n : length (bytes_of ws) / 4 ≡ length ws = omega (arith, bytes_length ws) in
    ap (tab (word_at (bytes_of ws)) 0) n
    ∙ ext_get_or 0 (tab (word_at (bytes_of ws)) 0 (length ws)) ws (tab-length (word_at (bytes_of ws)) 0 (length ws))
    (λ i l. let h : i < length ws = rw (tab-length (word_at (bytes_of ws)) 0 (length ws)) at l in
    tab_get (word_at (bytes_of ws)) 0 (length ws) i h ∙ ap (word_at (bytes_of ws)) (zero-add i) ∙ word_back ws i h (below i h))

pub words-length : (b : List ℕ) → length (words_of b) ≡ length b / 4
unfolding words_of
words-length b = tab-length (word_at b) 0 (length b / 4)

-- and back again: the bytes of the words of some whole words' bytes are these bytes
low : (a n : ℕ) → a < 256 → (a + 256 * n) % 256 ≡ a
low a n h = omega arith

high : (x a n : ℕ) → a < 256 → x ≡ a + 256 * n → x / 256 ≡ n
high x a n h e = omega arith

digits : (a b c d : ℕ) → a < 256 → b < 256 → c < 256 → d < 256 → word_bytes (word_of a b c d) ≡ a ∷ b ∷ c ∷ d ∷ []
unfolding word_bytes word_of
digits a b c d h j k l =
    let x : ℕ = a + 256 * b + 65536 * c + 16777216 * d in
    let q1 : x / 256 ≡ b + 256 * (c + 256 * d) = high x a (b + 256 * (c + 256 * d)) h (omega arith) in
    let q2 : x / 65536 ≡ c + 256 * d = sym (div-div-eq-div-mul x 256 256) ∙ high (x / 256) b (c + 256 * d) j q1 in
    let q3 : x / 16777216 ≡ d = sym (div-div-eq-div-mul x 65536 256) ∙ high (x / 65536) c d k q2 in
    let z : d % 256 ≡ d = mod-eq_of_lt l in
    let y : x ≡ a + 256 * (b + 256 * (c + 256 * d)) = omega arith in
    let e0 : x % 256 ≡ a = ap (λ (n : ℕ). n % 256) y ∙ low a (b + 256 * (c + 256 * d)) h in
    let e1 : x / 256 % 256 ≡ b = ap (λ (n : ℕ). n % 256) q1 ∙ low b (c + 256 * d) j in
    let e2 : x / 65536 % 256 ≡ c = ap (λ (n : ℕ). n % 256) q2 ∙ low c d k in
    let e3 : x / 16777216 % 256 ≡ d = ap (λ (n : ℕ). n % 256) q3 ∙ z in
    λ i. e0 i ∷ e1 i ∷ e2 i ∷ e3 i ∷ []

one_of_four : (b : List ℕ) (k c : ℕ) → c < 4 → get_or (get_or b k 0 ∷ get_or b (k + 1) 0 ∷ get_or b (k + 2) 0 ∷ get_or b (k + 3) 0 ∷ []) c 0 ≡ get_or b (k + c) 0
one_of_four b k zero l = ap (λ (j : ℕ). get_or b j 0) (sym (add-zero k))
one_of_four b k (suc zero) l = refl
one_of_four b k (suc (suc zero)) l = refl
one_of_four b k (suc (suc (suc zero))) l = refl
one_of_four b k (suc (suc (suc (suc c)))) l = absurd (omega arith)

byte_back : (b : List ℕ) → ((i : ℕ) → get_or b i 0 < 256) → (i c : ℕ) → i < length b / 4 → c < 4 → get_or (bytes_of (words_of b)) (4 * i + c) 0 ≡ get_or b (4 * i + c) 0
unfolding bytes_of words_of word_at
byte_back b below i c l k =
    let ws : List ℕ = tab (word_at b) 0 (length b / 4) in
    let n : length ws ≡ length b / 4 = tab-length (word_at b) 0 (length b / 4) in
    let w : get_or ws i 0 ≡ word_at b i = tab_get (word_at b) 0 (length b / 4) i l ∙ ap (word_at b) (zero-add i) in
    joined_at (λ j. word_bytes (get_or ws j 0)) 4 (length ws) i c (λ j. four (get_or ws j 0)) (rw n l) k
    ∙ ap (λ (x : ℕ). get_or (word_bytes x) c 0) w
    ∙ ap (λ (x : List ℕ). get_or x c 0)
    (digits (get_or b (4 * i) 0) (get_or b (4 * i + 1) 0) (get_or b (4 * i + 2) 0) (get_or b (4 * i + 3) 0) (below (4 * i)) (below (4 * i + 1)) (below (4 * i + 2)) (below (4 * i + 3)))
    ∙ one_of_four b (4 * i) c k

pub bytes_of-words : (b : List ℕ) → ((i : ℕ) → get_or b i 0 < 256) → length b % 4 ≡ 0 → bytes_of (words_of b) ≡ b
bytes_of-words b below whole =
    let n : length (words_of b) ≡ length b / 4 = words-length b in
    let size : length (bytes_of (words_of b)) ≡ length b = omega (arith, bytes_length (words_of b), n, whole) in
    ext_get_or 0 (bytes_of (words_of b)) b size
    (λ j l. let e : 4 * (j / 4) + j % 4 ≡ j = omega arith in
    let m : j / 4 < length b / 4 = omega (arith, size, l, whole) in
    ap (λ (k : ℕ). get_or (bytes_of (words_of b)) k 0) (sym e) ∙ byte_back b below (j / 4) (j % 4) m (omega arith) ∙ ap (λ (k : ℕ). get_or b k 0) e)
