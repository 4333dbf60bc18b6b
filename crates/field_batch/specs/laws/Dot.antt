-- A word below p is its own residue.
use Rattle.std.specs.Prelude.{◌≡◌, ℕ, ◌<◌, ◌%◌}
use Rattle.std.proofs.Common.{◌∙◌, mod-eq_of_lt}

pub kept : {p r m : ℕ} → (r < p) × (r ≡ m) → r % p ≡ m
kept (h, e) = mod-eq_of_lt h ∙ e
