-- What a passed test says of the field and of an element's words.
use mathlib.Core.Path.{◌≡◌, refl, sym, ap, ◌∙◌, subst}
use mathlib.Core.Bool.{Bool, true, false, cond, ◌&&◌, false≢true}
use mathlib.Core.List.{List}
use Prim.Native.Nat.{ℕ, ◌<◌}
use Rattle.std.proofs.Math.Option.{Option, none, some, some-ne-none}
use Rattle.expression.specs.Refusal.{answer_number}
use Rattle.expression.specs.declared.refusal.Refusal.{Refusal}
use Rattle.expression.specs.declared.refusal.Refusal.TheVariants.{SizeAtOdds, WordTooLarge}
use lib.Dec.{eqb, ltb}
use lib.ListN.{length}
use borrow.Author.Tests.{eqb-true, ltb-true}
use Rattle.lists.specs.laws.Tests.{both_left, both_right}
use Rattle.field.specs.Element.{at, Word4, element}
use Rattle.field.specs.Modulus.{Certificate}
use Rattle.field.specs.inner.Requires.{KnownPrime}
use Rattle.field.specs.Known.{known_field, prime_of, w_of}
use Rattle.field.proofs.laws.Known.{known-prime, w_below, certificate_of}
use Rattle.field.proofs.laws.Slice.{element-whole}
use Rattle.delmatik_answers.specs.Element.{four_below, element_refusal, element_after, exported_element}

-- the test: the field's number and the sizes first
module _ (field : ℕ) (a : List ℕ) (room : ℕ) where
  pub odd : {k : Bool} → k ≡ known_field field → (k && eqb (length a) 4 && eqb room 4) ≡ false → some SizeAtOdds ≡ element_refusal field a room
  unfolding element_refusal
  odd {k} e t = rw (← e, t)

  pub four-words : {k : Bool} → k ≡ known_field field → (k && eqb (length a) 4 && eqb room 4) ≡ true → length a ≡ 4
  four-words {k} e t =
      eqb-true (length a) 4 (both_right k (eqb (length a) 4) (both_left (k && eqb (length a) 4) (eqb room 4) t))

  pub compared : {k b : Bool} {p : ℕ} → k ≡ known_field field → (k && eqb (length a) 4 && eqb room 4) ≡ true → p ≡ prime_of field → b ≡ four_below p a
      → cond b none (some WordTooLarge) ≡ element_refusal field a room
  unfolding element_refusal
  compared {k} e t g h = rw (← e, t, ← g, ← h)

-- four words below the field's prime, and room for four
pub record Tested (field : ℕ) (a : List ℕ) (room : ℕ) : Type 0 where
  pub size : length a ≡ 4
  pub place : room ≡ 4
  pub words : Word4 (prime_of field) a

below4 : (b0 b1 b2 b3 : Bool) → (b0 && b1 && b2 && b3) ≡ true → (b0 ≡ true) × (b1 ≡ true) × (b2 ≡ true) × (b3 ≡ true)
below4 true true true true e = (refl, refl, refl, refl)
below4 true true true false e = absurd (false≢true e)
below4 true true false b3 e = absurd (false≢true e)
below4 true false b2 b3 e = absurd (false≢true e)
below4 false b1 b2 b3 e = absurd (false≢true e)

words_of : (p : ℕ) (a : List ℕ) → four_below p a ≡ true → Word4 p a
unfolding four_below
words_of p a e =
    let k = below4 (ltb (at a 0) p) (ltb (at a 1) p) (ltb (at a 2) p) (ltb (at a 3) p) e in
    record { w0 = ltb-true _ _ k.0; w1 = ltb-true _ _ k.1; w2 = ltb-true _ _ k.2; w3 = ltb-true _ _ k.3 }

pub tested : (field : ℕ) (a : List ℕ) (room : ℕ) → none ≡ element_refusal field a room → Tested field a room
unfolding element_refusal
tested field a room e =
    go (known_field field) (eqb (length a) 4) (eqb room 4) (four_below (prime_of field) a) refl refl refl (sym e)
  where
    go : (f x y b : Bool) → eqb (length a) 4 ≡ x → eqb room 4 ≡ y → four_below (prime_of field) a ≡ b
        → ◌≡◌ {A = Option Refusal} (cond (f && x && y) (cond b none (some WordTooLarge)) (some SizeAtOdds)) none → Tested field a room
    go true true true true ex ey eb k = record { size = eqb-true _ _ ex; place = eqb-true _ _ ey; words = words_of (prime_of field) a eb }
    go true true true false ex ey eb k = absurd (some-ne-none _ k)
    go true true false b ex ey eb k = absurd (some-ne-none _ k)
    go true false y b ex ey eb k = absurd (some-ne-none _ k)
    go false x y b ex ey eb k = absurd (some-ne-none _ k)

-- the prime and the value of X⁴ as the code reads them, and the words of the element
module _ {p w : ℕ} (field : ℕ) (e : p ≡ prime_of field) (f : w ≡ w_of field) where
  pub modulus : KnownPrime p
  modulus = subst KnownPrime (sym e) (known-prime field)

  pub w_small : w < p
  w_small = subst (λ (q : ℕ). w < q) (sym e) (subst (λ (v : ℕ). v < prime_of field) (sym f) (w_below field))

  pub certificate : Certificate p w
  certificate = subst (λ (q : ℕ). Certificate q w) (sym e) (subst (Certificate (prime_of field)) (sym f) (certificate_of field))

  pub loaded_words : {x a : List ℕ} {room : ℕ} → Tested field a room → x ≡ element a 0 → Word4 p x
  loaded_words {x} {a} t k = subst (λ (q : ℕ). Word4 q x) (sym e) (subst (Word4 (prime_of field)) (sym (k ∙ element-whole a t.size)) t.words)

  -- what is stored is computed in the field
  pub computed : {x y a : List ℕ} {room : ℕ} (op : ℕ → ℕ → List ℕ → List ℕ) → Tested field a room → x ≡ element a 0 → y ≡ op p w x
      → y ≡ op (prime_of field) (w_of field) a
  computed {x} {y} {a} op t k h = h ∙ (λ i. op (e i) (f i) ((k ∙ element-whole a t.size) i))

-- the number and the output are the exported ones
pub element_is : {n : ℕ} {o r : Option Refusal} {after : List ℕ} (element before : List ℕ) → n ≡ answer_number o → o ≡ r → after ≡ element_after o element before
    → record { number = n; out = after } ≡ exported_element r element before
unfolding exported_element
element_is element before e q f = (λ i. record { number = e i; out = f i }) ∙ ap (λ (x : Option Refusal). exported_element x element before) q
