-- A product modulo p goes by its factors modulo p.
use Rattle.std.specs.Prelude.{◌≡◌, ℕ, ◌*◌, ◌%◌, ◌/◌}
use Rattle.std.proofs.Common.{sym, ap, ◌∙◌, arith, mul_comm}
use Rattle.std.proofs.Math.Nat.{div-add-mod, add-mul-mod_self_left}

pub mul-mod-mod : (a b p : ℕ) → (a * (b % p)) % p ≡ (a * b) % p
mul-mod-mod a b p =
    sym (add-mul-mod_self_left (a * (b % p)) p (a * (b / p)))
    ∙ ap (λ (n : ℕ). n % p) (omega (arith, ap (λ (n : ℕ). a * n) (div-add-mod b p)))

pub mod-mul-mod : (a b p : ℕ) → ((a % p) * b) % p ≡ (a * b) % p
mod-mul-mod a b p = ap (λ (n : ℕ). n % p) (mul_comm (a % p) b) ∙ mul-mod-mod b a p ∙ ap (λ (n : ℕ). n % p) (mul_comm b a)
