-- Why four words with X⁴ = w are a field, for every p and w with a certificate.
use Rattle.std.specs.Prelude.{◌≡◌, ◌≢◌, ℕ, ◌-◌, ◌<◌, ◌%◌}
use Rattle.std.proofs.Common.{sym, ap, ◌∙◌, mod-eq_of_lt}
use Rattle.algebra.specs.Field.{Field}
use Rattle.algebra.proofs.laws.Remainder.{mul-mod-mod, mod-mul-mod}
use Rattle.field.specs.Modulus.{Certificate}
use Rattle.field.specs.laws.Ring.{El, mk, eq, pos, words}

module _ (p w : ℕ) (C : Certificate p w) where
  -- the field of the words, its zero below p, and w in it
  abbrev pub F1 : Field
  F1 = words p C.prime

  abbrev pub h : 0 < p
  h = pos p C.prime

  abbrev pub W : El p
  W = mk p h w

  pub W_nonsquare : (s : El p) → F1.ring.mul s s ≢ W
  W_nonsquare s e = C.nonsquare s.0 s.1 (ap (λ (x : El p). x.0) e)

  pub minus_one : F1.ring.mul (mk p h C.root) (mk p h C.root) ≡ F1.ring.neg F1.ring.u
  minus_one =
      eq p h
      (mul-mod-mod (C.root % p) C.root p ∙ mod-mul-mod C.root C.root p ∙ C.root_squared
      ∙ ap (λ (x : ℕ). (p - x) % p) (sym (mod-eq_of_lt C.prime.big)))
