-- The bodies of a target and an argument: one for each choice among the copies of the argument.
--   either o x y              x where o decides that it holds, and y where it does not
--   copies e d t              the outermost copies of e in t, where d binders stand above t
--   body e d t c k            t with a copy replaced by local d where c says so, the copies numbered from k in table order
--   Some c k n                one of the n choices from k on is to replace
--   ChosenSoFar f t e c k φ   the head f sweeps to an abstraction over such a body that uses its local, the first k choices being those of
--                             c
use Rattle.std.specs.Prelude.{Bool, cond, true, ◌≡◌, ℕ, suc, ◌+◌, ◌≤◌, ◌<◌}
use Rattle.terms.specs.Term.{Term, app, lam, loc, con, var, shift, uses}
use Rattle.matching.specs.Abstractions.{same}
use Rattle.matching.specs.Lists.{Predicate}
use Rattle.matching.specs.Goals.{Sweeps}

abbrev pub either : {A B : Type 0} → Dec A → B → B → B
either (yes p) x y = x
either (no p) x y = y

abbrev pub copies : Term → ℕ → Term → ℕ
copies e d (app f a) = either (same (app f a) (shift d 0 e)) 1 (copies e d f + copies e d a)
copies e d (lam b) = either (same (lam b) (shift d 0 e)) 1 (copies e (suc d) b)
copies e d (loc n) = either (same (loc n) (shift d 0 e)) 1 0
copies e d (con n) = either (same (con n) (shift d 0 e)) 1 0
copies e d (var n) = either (same (var n) (shift d 0 e)) 1 0

-- the choice at a copy
abbrev pub choose : Bool → ℕ → Term → Term
choose b d t = cond b (loc d) (shift 1 d t)

-- a body for each choice, and each number of the first copy
abbrev pub Family : Type 0
Family = (ℕ → Bool) → ℕ → Term

abbrev pub body : Term → ℕ → Term → Family
body e d (app f a) c k =
    either (same (app f a) (shift d 0 e)) (choose (c k) d (app f a)) (app (body e d f c k) (body e d a c (k + copies e d f)))
body e d (lam b) c k = either (same (lam b) (shift d 0 e)) (choose (c k) d (lam b)) (lam (body e (suc d) b c k))
body e d (loc n) c k = either (same (loc n) (shift d 0 e)) (choose (c k) d (loc n)) (shift 1 d (loc n))
body e d (con n) c k = either (same (con n) (shift d 0 e)) (choose (c k) d (con n)) (con n)
body e d (var n) c k = either (same (var n) (shift d 0 e)) (choose (c k) d (var n)) (var n)

-- the local is used where some copy is chosen
abbrev pub Some : (ℕ → Bool) → ℕ → ℕ → Type 0
Some c k n = (i : ℕ) × (k ≤ i) × (i < k + n) × (c i ≡ true)

-- the choices made so far, the others left open
abbrev pub ChosenSoFar : Term → Term → Term → (ℕ → Bool) → ℕ → Predicate
ChosenSoFar f t e c k φ =
    (b : Term) × Sweeps f (lam b) φ × (uses 0 b ≡ true) × (x : ℕ → Bool) × ((i : ℕ) → i < k → x i ≡ c i) × (b ≡ body e 0 t x 0)
