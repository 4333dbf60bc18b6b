-- The turns of the loop that multiplies the factors and of the loop that divides.
use mathlib.Core.Path.{◌≡◌, refl, sym, ap, ap₂, ◌∙◌, subst}
use mathlib.Core.Logic.{◌≢◌}
use mathlib.Core.List.{List, [], ◌∷◌, ◌++◌}
use Prim.Native.Nat.{ℕ, zero, suc, max, ◌+◌, ◌*◌, ◌-◌, ◌<◌, ◌≤◌, zero-le}
use native.Mathlib.Nat.{zero-add}
use native.Mathlib.Numerals.{add-one}
use native.Mathlib.Omega.{arith}
use lib.ListN.{length, take, drop, length-append}
use lib.Seq.{take_at}
use lib.Dec.{eqb-suc-zero}
use borrow.Rule.Slice.PartMut.{put_mid}
use Rattle.lists.specs.Count.{joined}
use Rattle.lists.specs.laws.Count.{joined-one}
use Rattle.lists.specs.laws.Filled.{Filled, filled_none, filled-part, filled-whole}
use Rattle.lists.specs.laws.Parts.{part_length}
use Rattle.field.specs.declared.extension.Ext.{Ext}
use Rattle.field.specs.Ext.{ext_words}
use Rattle.field.specs.Modulus.{Certificate}
use Rattle.field.specs.inner.Requires.{KnownPrime}
use Rattle.field.proofs.laws.Known.{modulus}
use Rattle.field.specs.Word.{mul_m}
use Rattle.field.specs.Element.{at, Word4, lift, zero4, mul4, norm2, norm, cofactor, element}
use Rattle.field.proofs.laws.Word.{mul_m_comm, one-mul_m}
use Rattle.field.proofs.laws.Slice.{word-element}
use Rattle.field_batch.specs.inner.Quotients.{quotient, quotient_at, nonzero, factor, product_m, kept, factor_from_last, kept_from_last, Divisible}
use Rattle.field_batch.specs.laws.Joined.{joined-size, total-same, element_of, element_past}
use Rattle.field_batch.specs.laws.Quotients.{inverts-rest, inverts-same, quotient_none, quotient_in, kept_in, kept_out, kept-factor, kept_product, kept_word, product_below, one_below}

kept-four : (p w : ℕ) (ms ds : List ℕ) (j : ℕ) → length (kept_from_last p w ms ds j) ≡ 4
unfolding kept_from_last kept
kept-four p w ms ds j = refl

pub kept-length : {ys : List ℕ} (p w : ℕ) (ms ds : List ℕ) (n : ℕ) → ys ≡ joined (kept_from_last p w ms ds) 0 n → length ys ≡ 4 * n
kept-length p w ms ds n e = ap length e ∙ joined-size (kept_from_last p w ms ds) (λ _. 4) n (kept-four p w ms ds) ∙ total-same 4 n ∙ omega arith

-- the third word of what is kept is the factor
pub factor-kept : (p w m q : ℕ) (d : List ℕ) (k : Ext) → ext_words k ≡ kept p w m d q → k.c2 ≡ factor p w m d
factor-kept p w m q d k e = ap (λ (l : List ℕ). at l 2) e ∙ kept-factor p w m d q

pub product_kept : (p w m q : ℕ) (d : List ℕ) (k : Ext) → ext_words k ≡ kept p w m d q → k.c3 ≡ q
product_kept p w m q d k e = ap (λ (l : List ℕ). at l 3) e ∙ kept_product p w m d q

-- 1 for 0
pub at_least_one : (n : ℕ) → max n 1 ≡ nonzero n
at_least_one zero = refl
at_least_one (suc n) = rw (eqb-suc-zero n) (omega arith)

-- what is kept where the multiplicity is not 0
pub keep_in : {x y n z : ℕ} (p w m : ℕ) (d : Ext) (q : ℕ) → m ≢ 0 → x ≡ at (norm2 p w (ext_words d)) 0 → y ≡ at (norm2 p w (ext_words d)) 2 → n ≡ norm p w (ext_words d) → z ≡ nonzero n
    → x ∷ y ∷ z ∷ q ∷ [] ≡ kept p w m (ext_words d) q
keep_in p w m d q l ex ey en ez = (λ j. ex j ∷ ey j ∷ (ez ∙ ap nonzero en) j ∷ q ∷ []) ∙ sym (kept_in p w m (ext_words d) q l)

pub words-kept : (p w m q : ℕ) (d k : Ext) → m ≢ 0 → ext_words k ≡ kept p w m (ext_words d) q
    → (k.c0 ≡ at (norm2 p w (ext_words d)) 0) × (k.c1 ≡ at (norm2 p w (ext_words d)) 2) × (k.c2 ≡ nonzero (norm p w (ext_words d)))
words-kept p w m q d k l e =
    let f : ext_words k ≡ at (norm2 p w (ext_words d)) 0 ∷ at (norm2 p w (ext_words d)) 2 ∷ nonzero (norm p w (ext_words d)) ∷ q ∷ [] = e ∙ kept_in p w m (ext_words d) q l in
    (ap (λ (l : List ℕ). at l 0) f, ap (λ (l : List ℕ). at l 1) f, ap (λ (l : List ℕ). at l 2) f)

-- a factor of 1
pub times_one : (p a b : ℕ) → a ≡ 1 → b < p → b ≡ mul_m p a b
times_one p a b e l = sym (ap (λ (n : ℕ). mul_m p n b) e ∙ one-mul_m p b l)

-- a quotient, and the inverse of the rest: where the multiplicity is 0, and where not
pub step-out : (p w m v : ℕ) (d k : Ext) → v < p → m ≡ 0 → ext_words k ≡ kept p w m (ext_words d) k.c3 → mul_m p (mul_m p k.c3 k.c2) v ≡ 1
    → (mul_m p k.c3 v ≡ 1) × (zero4 ≡ quotient p w m (ext_words d))
step-out p w m v d k l e ek i =
    let f : k.c2 ≡ 1 = ap (λ (l : List ℕ). at l 2) (ek ∙ kept_out p w m (ext_words d) k.c3 e) in
    (inverts-same k.c3 v p l (ap (λ (n : ℕ). mul_m p (mul_m p k.c3 n) v) (sym f) ∙ i), quotient_none p w m (ext_words d) e)

pub step_in : {u t v' : ℕ} {r : List ℕ} (p w m v : ℕ) (d k : Ext) → KnownPrime p → Certificate p w → Word4 p (ext_words d) → m ≢ 0 → ext_words k ≡ kept p w m (ext_words d) k.c3
    → mul_m p (mul_m p k.c3 k.c2) v ≡ 1 → u ≡ mul_m p v k.c3 → t ≡ mul_m p m u → r ≡ mul4 p w (cofactor p w (ext_words d)) (lift t) → v' ≡ mul_m p v k.c2
    → (mul_m p k.c3 v' ≡ 1) × (r ≡ quotient p w m (ext_words d))
step_in {u} {t} p w m v d k o C l n ek i eu et er ev = (
  ap (mul_m p k.c3) ev ∙ inverts-rest k.c3 k.c2 v p i,
  er ∙ quotient_in p w C d.c0 d.c1 d.c2 d.c3 m k.c3 k.c2 v t (modulus o) l (words-kept p w m k.c3 d k n ek).2 i (et ∙ ap (mul_m p m) eu),
)

pub record Multiplying (p w : ℕ) (ms ds d : List ℕ) (n : ℕ) (held : List ℕ) (product j : ℕ) : Type 0 where
  pub divisible : Divisible p w ms ds
  pub cap : 4 * length d < 18446744073709551616
  pub count : n ≡ length ms
  pub within : j ≤ n
  pub size : length d ≡ 4 * n
  pub len : length held ≡ 4 * n
  pub out≡ : Filled d (joined (kept_from_last p w ms ds) 0 j) (4 * j) held
  pub below : product < p
  pub product≡ : product ≡ product_m p (factor_from_last p w ms ds) j

pub multiplying_begins : {p w n : ℕ} {ms ds d : List ℕ} → Divisible p w ms ds → 4 * length d < 18446744073709551616 → n ≡ length ms → length d ≡ 4 * length ms
    → Multiplying p w ms ds d n d 1 0
unfolding joined product_m
multiplying_begins {p} {w} s c e l =
    record {
      divisible = s;
      cap = c;
      count = e;
      within = zero-le;
      size = omega arith;
      len = omega arith;
      out≡ = filled_none;
      below = one_below p w s.certificate;
      product≡ = refl;
    }

module _ {p w n : ℕ} {ms ds d held : List ℕ} {product j : ℕ} (s : Multiplying p w ms ds d n held product j) (h : j < n) where
  pub multiplying_part : length (take (4 * j + 4 - 4 * j) (drop (4 * j) held)) ≡ 4
  multiplying_part = part_length held (4 * j) (4 * j + 4) (omega arith) (omega (arith, s.len)) ∙ omega arith

  module _ {m : ℕ} {x k : Ext} (em : m ≡ at ms (n - 1 - j)) (ex : ext_words x ≡ element ds (n - 1 - j)) (ek : ext_words k ≡ kept p w m (ext_words x) product) where
    kept_is : ext_words k ≡ kept_from_last p w ms ds j
    unfolding kept_from_last
    kept_is =
        ek ∙ ap₂ (λ (a : ℕ) (b : List ℕ). kept p w a b product) em ex ∙ ap (λ (i : ℕ). kept p w (at ms (i - 1 - j)) (element ds (i - 1 - j)) product) s.count
        ∙ ap (kept p w (at ms (length ms - 1 - j)) (element ds (length ms - 1 - j))) s.product≡

    pub multiplying_factor : k.c2 < p
    unfolding kept_from_last
    multiplying_factor =
        subst (λ (l : List ℕ). at l 2 < p) (sym kept_is)
        (kept_word p w s.divisible.certificate _ _ _ (product_below p w s.divisible.certificate (factor_from_last p w ms ds) j)).w2

    pub multiplying_turn : {product' : ℕ} (ys : List ℕ) → ys ≡ ext_words k → (product' < p) × (product' ≡ mul_m p k.c2 product)
        → Multiplying p w ms ds d n (put_mid (4 * j) (4 * j + 4 - 4 * j) held ys) product' (j + 1)
    unfolding product_m factor_from_last
    multiplying_turn {product'} ys ey (l, ep) =
        record {
          divisible = s.divisible;
          cap = s.cap;
          count = s.count;
          within = omega arith;
          size = s.size;
          len = grown.len ∙ s.size;
          out≡ = subst (λ (i : ℕ). Filled d (joined f 0 (j + 1)) i (put_mid (4 * j) (4 * j + 4 - 4 * j) held ys)) next grown;
          below = l;
          product≡ =
              rw (add-one j)
              (ep ∙ mul_m_comm p k.c2 product ∙ ap₂ (mul_m p) s.product≡ (factor-kept p w m product (ext_words x) k ek ∙ ap₂ (factor p w) em ex ∙ ap (λ (i : ℕ). factor p w (at ms (i - 1 - j)) (element ds (i - 1 - j))) s.count));
        }
      where
        f : ℕ → List ℕ
        f = kept_from_last p w ms ds

        next : 4 * j + 4 ≡ 4 * (j + 1)
        next = omega arith

        grown : Filled d (joined f 0 (j + 1)) (4 * j + 4) (put_mid (4 * j) (4 * j + 4 - 4 * j) held ys)
        grown =
            filled-part ys s.out≡ (omega arith) (omega (arith, s.size)) (ap length ey ∙ omega arith)
            (joined-one f 0 j ∙ ap (λ (y : List ℕ). joined f 0 j ++ y) (ap f (zero-add j) ∙ sym kept_is ∙ sym ey))

pub multiplying_ends : {p w n : ℕ} {ms ds d held : List ℕ} {product j : ℕ} → Multiplying p w ms ds d n held product j → n ≤ j
    → (product < p) × (product ≡ product_m p (factor_from_last p w ms ds) (length ms)) × (held ≡ joined (kept_from_last p w ms ds) 0 (length ms))
multiplying_ends {p} {w} {n} {ms} {ds} {d} {j = j} s h =
    let e : j ≡ length ms = omega (arith, s.within, s.count) in (
      s.below,
      s.product≡ ∙ ap (product_m p (factor_from_last p w ms ds)) e,
      filled-whole s.out≡ (omega (arith, s.size)) ∙ ap (joined (kept_from_last p w ms ds) 0) e,
    )

-- the quotients of the first i; `rest` inverts the product of the other factors
pub record Dividing (p w : ℕ) (ms held d : List ℕ) (n : ℕ) (ds : List ℕ) (rest i : ℕ) : Type 0 where
  pub divisible : Divisible p w ms d
  pub cap : 4 * length d < 18446744073709551616
  pub count : n ≡ length ms
  pub within : i ≤ n
  pub len : length ds ≡ 4 * n
  pub held≡ : held ≡ joined (kept_from_last p w ms d) 0 n
  pub held_len : length held ≡ 4 * n
  pub out≡ : Filled d (joined (quotient_at p w ms d) 0 i) (4 * i) ds
  pub below : rest < p
  pub inverts : mul_m p (product_m p (factor_from_last p w ms d) (n - i)) rest ≡ 1

pub dividing_begins : {p w n : ℕ} {ms held d : List ℕ} {rest : ℕ} → Divisible p w ms d → 4 * length d < 18446744073709551616 → n ≡ length ms
    → held ≡ joined (kept_from_last p w ms d) 0 (length ms) → rest < p → mul_m p (product_m p (factor_from_last p w ms d) (length ms)) rest ≡ 1
    → Dividing p w ms held d n d rest 0
unfolding joined
dividing_begins {p} {w} {n} {ms} {held} {d} {rest} s c e b k i =
    record {
      divisible = s;
      cap = c;
      count = e;
      within = zero-le;
      len = omega (arith, s.size);
      held≡ = b ∙ ap (joined (kept_from_last p w ms d) 0) (sym e);
      held_len = kept-length p w ms d (length ms) b ∙ omega arith;
      out≡ = filled_none;
      below = k;
      inverts = ap (λ (j : ℕ). mul_m p (product_m p (factor_from_last p w ms d) j) rest) (omega arith) ∙ i;
    }

module _ {p w n : ℕ} {ms held d ds : List ℕ} {rest i : ℕ} (s : Dividing p w ms held d n ds rest i) (h : i < n) where
  pub dividing_part : length (take (4 * i + 4 - 4 * i) (drop (4 * i) ds)) ≡ 4
  dividing_part = part_length ds (4 * i) (4 * i + 4) (omega arith) (omega (arith, s.len)) ∙ omega arith

  module _ {m : ℕ} {x k : Ext} (em : m ≡ at ms i) (ex : ext_words x ≡ element ds i) (ek : ext_words k ≡ element held (n - 1 - i)) where
    abbrev before : ℕ
    before = product_m p (factor_from_last p w ms d) (n - 1 - i)

    back : i ≡ length ms - 1 - (n - 1 - i)
    back = omega (arith, s.count)

    x_is : ext_words x ≡ element d i
    x_is = ex ∙ element_past i s.out≡

    k_is : ext_words k ≡ kept p w m (ext_words x) before
    unfolding kept_from_last
    k_is =
        ek ∙ ap (λ (l : List ℕ). element l (n - 1 - i)) s.held≡ ∙ element_of (kept_from_last p w ms d) n (n - 1 - i) (kept-four p w ms d) (omega arith)
        ∙ ap (λ (j : ℕ). kept p w (at ms j) (element d j) before) (sym back) ∙ ap₂ (λ (a : ℕ) (b : List ℕ). kept p w a b before) (sym em) (sym x_is)

    last_is : k.c3 ≡ before
    last_is = product_kept p w m before (ext_words x) k k_is

    pub dividing_step : (m < p) × Word4 p (ext_words x) × Word4 p (ext_words k) × (ext_words k ≡ kept p w m (ext_words x) k.c3) × (mul_m p (mul_m p k.c3 k.c2) rest ≡ 1)
    unfolding product_m factor_from_last
    dividing_step = (
      subst (λ (j : ℕ). j < p) (sym em) (s.divisible.ms_below i),
      subst (Word4 p) (sym x_is) (word-element d i s.divisible.ds_below),
      subst (Word4 p) (sym k_is) (kept_word p w s.divisible.certificate m (ext_words x) before (product_below p w s.divisible.certificate (factor_from_last p w ms d) (n - 1 - i))),
      k_is ∙ ap (kept p w m (ext_words x)) (sym last_is),
      ap₂ (λ (a b : ℕ). mul_m p (mul_m p a b) rest) last_is (factor-kept p w m before (ext_words x) k k_is ∙ ap₂ (factor p w) (em ∙ ap (at ms) back) (x_is ∙ ap (element d) back))
          ∙ ap (λ (j : ℕ). mul_m p (product_m p (factor_from_last p w ms d) j) rest) (sym next) ∙ s.inverts,
    )
      where
        next : n - i ≡ suc (n - 1 - i)
        next = omega arith

    pub dividing_turn : {rest' : ℕ} {quot : Ext} (ys : List ℕ) → (rest' < p) × (mul_m p k.c3 rest' ≡ 1) × (ext_words quot ≡ quotient p w m (ext_words x)) → ys ≡ ext_words quot
        → Dividing p w ms held d n (put_mid (4 * i) (4 * i + 4 - 4 * i) ds ys) rest' (i + 1)
    unfolding quotient_at
    dividing_turn {rest'} {quot} ys (l, e, eo) ey =
        record {
          divisible = s.divisible;
          cap = s.cap;
          count = s.count;
          within = omega arith;
          len = grown.len ∙ omega (arith, s.divisible.size, s.count);
          held≡ = s.held≡;
          held_len = s.held_len;
          out≡ = subst (λ (j : ℕ). Filled d (joined (quotient_at p w ms d) 0 (i + 1)) j (put_mid (4 * i) (4 * i + 4 - 4 * i) ds ys)) next grown;
          below = l;
          inverts = ap (λ (j : ℕ). mul_m p j rest') (ap (product_m p (factor_from_last p w ms d)) less ∙ sym last_is) ∙ e;
        }
      where
        next : 4 * i + 4 ≡ 4 * (i + 1)
        next = omega arith

        less : n - (i + 1) ≡ n - 1 - i
        less = omega arith

        is : ys ≡ quotient_at p w ms d i
        is = ey ∙ eo ∙ ap₂ (quotient p w) em x_is

        grown : Filled d (joined (quotient_at p w ms d) 0 (i + 1)) (4 * i + 4) (put_mid (4 * i) (4 * i + 4 - 4 * i) ds ys)
        grown =
            filled-part ys s.out≡ (omega arith) (omega (arith, s.divisible.size, s.count)) (ap length ey ∙ omega arith)
            (joined-one (quotient_at p w ms d) 0 i ∙ ap (λ (y : List ℕ). joined (quotient_at p w ms d) 0 i ++ y) (ap (quotient_at p w ms d) (zero-add i) ∙ sym is))

pub dividing_ends : {p w n : ℕ} {ms held d ds : List ℕ} {rest i : ℕ} → Dividing p w ms held d n ds rest i → n ≤ i → ds ≡ joined (quotient_at p w ms d) 0 (length ms)
dividing_ends {p} {w} {n} {ms} {d = d} {i = i} s h =
    let e : i ≡ length ms = omega (arith, s.within, s.count) in
    filled-whole s.out≡ (omega (arith, s.divisible.size, s.count)) ∙ ap (joined (quotient_at p w ms d) 0) e

-- the first words of an array were lent for what is kept, and are lent again
module _ {ys : List ℕ} (a : List ℕ) (p w : ℕ) (ms ds : List ℕ) (n : ℕ) (e : ys ≡ joined (kept_from_last p w ms ds) 0 n) where
  pub again_in : 4 * n ≤ length a → 4 * n ≤ length (put_mid 0 (4 * n - 0) a ys)
  again_in h = simp length-append (omega (arith, kept-length p w ms ds n e))

  pub again_is : take (4 * n - 0) (put_mid 0 (4 * n - 0) a ys) ≡ joined (kept_from_last p w ms ds) 0 n
  again_is = let k : 4 * n - 0 ≡ 4 * n = omega arith in rw k (take_at ys (drop (4 * n) a) (4 * n) (kept-length p w ms ds n e) ∙ e)
