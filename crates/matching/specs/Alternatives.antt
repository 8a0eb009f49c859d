-- The ways in which an application can come to its target.
--   constant t              the target of a head that ignores its argument
--   Alternative f a t i φ   the filled application of f and a comes to t in way i
use Rattle.std.specs.Prelude.{◌≡◌, ℕ, zero, suc}
use Rattle.terms.specs.Term.{Term, lam, shift, app}
use Rattle.terms.specs.Sweep.{sweep, fill}
use Rattle.matching.specs.Lists.{Predicate}
use Rattle.matching.specs.Goals.{Sweeps, Build}
use Rattle.matching.specs.Occurrences.{FirstCopy}

abbrev pub constant : Term → Term
constant t = lam (shift 1 0 t)

abbrev pub Alternative : Term → Term → Term → ℕ → Predicate
Alternative f a t zero φ = t ≡ app (sweep (fill φ f)) (sweep (fill φ a))
Alternative f a t (suc zero) φ = Sweeps f (constant t) φ
Alternative f a t (suc (suc j)) φ = (e : Term) × FirstCopy t j e × Sweeps a e φ × Build f t e φ
