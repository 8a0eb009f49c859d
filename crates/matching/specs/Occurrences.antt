-- Where a term stands in another, below its binders.
--   all_parts d t     the parts of t in table order, each with the number of binders above it, counted from d
--   part_at d t j the j-th of them
--   Copy q e          the part q, with its depth, is e moved in below that many binders
--   FirstCopy t j e   the j-th part of t is the first that is e, moved in below the binders above that part
--   Unlike q t        where t is a term moved in below some binders, q never sweeps to that term
use Rattle.std.specs.Prelude.{List, [], ◌∷◌, ◌++◌, ◌≡◌, ℕ, suc, ◌<◌, get_or}
use Rattle.terms.specs.Term.{Term, app, lam, loc, con, var, shift, size}
use Rattle.matching.specs.Goals.{Sweeps}

abbrev pub all_parts : ℕ → Term → List (ℕ × Term)
all_parts d (app f a) = (d, app f a) ∷ (all_parts d f ++ all_parts d a)
all_parts d (lam b) = (d, lam b) ∷ all_parts (suc d) b
all_parts d (loc n) = (d, loc n) ∷ []
all_parts d (con n) = (d, con n) ∷ []
all_parts d (var n) = (d, var n) ∷ []

abbrev pub part_at : ℕ → Term → ℕ → ℕ × Term
part_at d t j = get_or (all_parts d t) j (0, con 0)

abbrev pub Copy : ℕ × Term → Term → Type 0
Copy q e = q.1 ≡ shift q.0 0 e

pub record FirstCopy (t : Term) (j : ℕ) (e : Term) : Type 0 where
  pub within : j < size t
  pub copy : Copy (part_at 0 t j) e
  pub none_before : (i : ℕ) → i < j → ¬ Copy (part_at 0 t i) e

abbrev pub Unlike : Term → Term → Type 0
Unlike q t = (φ : ℕ → Term) (d : ℕ) (e : Term) → t ≡ shift d 0 e → ¬ Sweeps q e φ
