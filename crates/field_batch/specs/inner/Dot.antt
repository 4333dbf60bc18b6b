-- Four sums of products that are not reduced yet: what they are modulo p, and how many products more they can take.
use Rattle.std.specs.Prelude.{List, [], ◌∷◌, ℕ, ◌+◌, ◌*◌, ◌≤◌, ◌%◌}
use Rattle.field_batch.specs.declared.dot.Sum.{Sum}

abbrev pub residues : ℕ → Sum → List ℕ
residues p s = (s.s0 % p) ∷ (s.s1 % p) ∷ (s.s2 % p) ∷ (s.s3 % p) ∷ []

-- with n products more, of words that are at most 2^31 - 1, each fits 64 bits
pub record Room (n : ℕ) (s : Sum) : Type 0 where
  pub r0 : s.s0 + n * (2147483647 * 2147483647) ≤ 18446744073709551615
  pub r1 : s.s1 + n * (2147483647 * 2147483647) ≤ 18446744073709551615
  pub r2 : s.s2 + n * (2147483647 * 2147483647) ≤ 18446744073709551615
  pub r3 : s.s3 + n * (2147483647 * 2147483647) ≤ 18446744073709551615
