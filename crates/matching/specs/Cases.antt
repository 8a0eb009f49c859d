-- Document 01's cases 1 to 11, in one table, and what each row claims.
--   lists p t ls    the full listing of the pattern p and the recipe t is ls; "No match is a count of 0": ls is empty
--   rejects p t a   check says no: the assignment a is complete, and no match
--   sweeps t s      t sweeps to s
--   reducible t     t is not normal
--   line_from n es  the line of n entries whose first are es, the others open
use Rattle.std.specs.Prelude.{◌≡◌, List, [], ◌∷◌, ◌++◌, ℕ, ◌-◌, length, replicate}
use Rattle.std.proofs.Math.Option.{Option, none, some}
use Rattle.terms.specs.Term.{Term, app, lam, loc, con, var, Normal}
use Rattle.terms.specs.Sweep.{sweep}
use Rattle.terms.specs.Assignment.{Assignment, Entries, Complete, Match}
use Rattle.terms.specs.Listing.{Line, Full}

pub data Case : Type 0 where
  lists : Term → Term → List Line → Case
  rejects : Term → Term → Assignment → Case
  sweeps : Term → Term → Case
  reducible : Term → Case

abbrev pub CaseHolds : ℕ → Case → Type 0
CaseHolds n (lists p t ls) = Full n p t ls
CaseHolds n (rejects p t a) = Entries n a × Complete p a × ¬ Match n p t a
CaseHolds n (sweeps t s) = sweep t ≡ s
CaseHolds n (reducible t) = ¬ Normal t

abbrev pub line_from : ℕ → List (Option Term) → Line
line_from n es = es ++ replicate (n - length es) none

-- `\ #0`
abbrev pub identity : Term
identity = lam (loc 0)

-- `\ @ @ k1 #0 #0`
abbrev pub recipe8 : Term
recipe8 = lam (app (app (con 1) (loc 0)) (loc 0))

abbrev pub cases : ℕ → List Case
cases n =
    -- 1. `@ p0 p1`, `k0`: p0=`\ #0`, p1=`k0`; then p0=`\ k0`, p1 open
    lists (app (var 0) (var 1)) (con 0) (line_from n (some identity ∷ some (con 0) ∷ []) ∷ line_from n (some (lam (con 0)) ∷ []) ∷ [])
    -- 2. `\ p0`, `\ #0`: count 0. With `\ k1`: p0=`k1`
    ∷ lists (lam (var 0)) identity [] ∷ lists (lam (var 0)) (lam (con 1)) (line_from n (some (con 1) ∷ []) ∷ [])
    -- 3. `\ @ p0 #0`, `k1`: only p0=`k1`
    ∷ lists (lam (app (var 0) (loc 0))) (con 1) (line_from n (some (con 1) ∷ []) ∷ [])
    -- 4. `@ p0 k1`, `@ @ k2 k1 k1`: `@ k2 k1`; `\ @ @ k2 #0 #0`; `\ @ @ k2 #0 k1`; `\ @ @ k2 k1 k1`
    ∷ lists (app (var 0) (con 1)) (app (app (con 2) (con 1)) (con 1))
    (line_from n (some (app (con 2) (con 1)) ∷ []) ∷ line_from n (some (lam (app (app (con 2) (loc 0)) (loc 0))) ∷ [])
    ∷ line_from n (some (lam (app (app (con 2) (loc 0)) (con 1))) ∷ [])
    ∷ line_from n (some (lam (app (app (con 2) (con 1)) (con 1))) ∷ []) ∷ [])
    -- 5. `@ p0 p0`, `k1`: only p0=`\ k1`
    ∷ lists (app (var 0) (var 0)) (con 1) (line_from n (some (lam (con 1)) ∷ []) ∷ [])
    -- 6. `@ \ #0 p0`, `k1`: only p0=`k1`
    ∷ lists (app identity (var 0)) (con 1) (line_from n (some (con 1) ∷ []) ∷ [])
    -- 7. `k1`, `k1`: one all-zero line. `k1`, `k2`: none
    ∷ lists (con 1) (con 1) (line_from n [] ∷ []) ∷ lists (con 1) (con 2) []
    -- 8. `\ @ @ p0 #0 p1`, `\ @ @ k1 #0 #0`, p0=`\ \ @ #0 #1`, p1 = the recipe: check says no
    ∷ rejects (lam (app (app (var 0) (loc 0)) (var 1))) recipe8 (line_from n (some (lam (lam (app (loc 0) (loc 1)))) ∷ some recipe8 ∷ []))
    -- 9. `@ @ \ #0 \ #0 @ \ #0 \ #0` sweeps to `\ #0`
    ∷ sweeps (app (app identity identity) (app identity identity)) identity
    -- 10. `@ \ @ #0 k0 \ #0` sweeps to `@ \ #0 k0`, which is not normal
    ∷ sweeps (app (lam (app (loc 0) (con 0))) identity) (app identity (con 0)) ∷ reducible (app identity (con 0))
    -- 11. `@ k1 p0`, `@ k1 \ #0`: only p0=`\ #0`
    ∷ lists (app (con 1) (var 0)) (app (con 1) identity) (line_from n (some identity ∷ []) ∷ [])
    -- besides the document's: "Open comes before assigned": `@ p1 p0`, `k0`: p1=`\ k0`; then p0=`k0`, p1=`\ #0`
    ∷ lists (app (var 1) (var 0)) (con 0)
    (line_from n (none ∷ some (lam (con 0)) ∷ []) ∷ line_from n (some (con 0) ∷ some identity ∷ []) ∷ [])
    -- besides the document's: a line that assigns nothing, for a pattern with a variable: `@ \ k1 p0`, `k1`
    ∷ lists (app (lam (con 1)) (var 0)) (con 1) (line_from n [] ∷ []) ∷ []
