-- Steps that are used, of those that may be.
use Rattle.std.specs.Prelude.{ℕ, refl}
use Rattle.std.specs.Coded.{Coded, code_by, coded_ℕ, coded×}

pub record Counting : Type 0 where
  pub used : ℕ
  pub limit : ℕ

abbrev pub counting_code : Coded Counting
counting_code = code_by (ℕ × ℕ) (coded× coded_ℕ coded_ℕ) (λ c. (c.used, c.limit)) (λ p. record { used = p.0; limit = p.1 }) (λ _. refl)
