-- One variable applied to constants in two places: at most one value comes to both targets, and it is read off them place by place.
-- By induction on the body below the abstractions of the value, the constants standing where its locals stood. Assumes nothing.
--   body_below n v         what stands below n abstractions of v, each made where v has none
--   replace d cs t         t with the constants cs for its locals from d on, the first for local d; the locals above move down
--   Comes d ps t u b       b comes to both so
--   BothSweep ps i t u φ   variable i, applied to the first constants and to the second, sweeps to t and to u
--   repeated ps i t u gs   these two goals before the goals gs
use mathlib.Core.Path.{◌≡◌, refl, sym, ap, ap₂, ◌∙◌, subst}
use mathlib.Core.Bool.{Bool, true, false, cond, ◌&&◌}
use mathlib.Core.Option.{Option, none, some, IsSome}
use mathlib.Core.List.{List, [], ◌∷◌}
use mathlib.Core.Logic.{inl, inr, ◌↔◌}
use Prim.Native.Nat.{ℕ, zero, suc, ◌+◌, ◌-◌, ◌*◌, ◌≤◌, ◌<◌}
use native.Mathlib.Omega.{arith}
use native.Mathlib.Decide.{dec_lt, ℕ_discrete}
use lib.Dec.{T, ltb, eqb}
use lib.ListN.{length}
use borrow.Author.Tests.{lt-ltb, le-ltb, eq-eqb, ne_eqb, eqb-true, ltb-false}
use Rattle.terms.specs.Term.{Term, app, lam, loc, con, var, Normal, Closed, Ground, size, shift, unshift, substitute, is_abstraction}
use Rattle.terms.specs.Sweep.{sweep, contract, fill}
use Rattle.terms.specs.Listing.{In}
use Rattle.terms.proofs.Tests.{by_ltb, by_eqb}
use Rattle.terms.proofs.Shift.{shift_unshift, normal_shift, size_shift}
use Rattle.terms.proofs.Substitute.{substitute_shift, substitute_high, normal_substitute}
use Rattle.terms.proofs.Sweep.{sweep_normal}
use Rattle.terms.proofs.Table.{kind, number_of}
use Rattle.terms.proofs.Contracted.{Abstracted, Abstracted.out, Abstracted.kept, abstracted}
use Rattle.matching.specs.Repeated.{spine, firsts, seconds, PairsApart, at_constants, join, enclose, below, both}
use Rattle.matching.specs.Lists.{Predicate}
use Rattle.matching.specs.Goals.{Sweeps, Goal, Goal.match, All, Suits}
use Rattle.matching.proofs.Step.{body_target, contract_to, lam_normal, body_target_normal}
use Rattle.matching.proofs.Targets.{shift_closed, ground_shift}

pub size_spine : (f : Term) (cs : List ℕ) → size (spine f cs) ≡ size f + 2 * length cs
size_spine f [] = omega arith
size_spine f (c ∷ cs) = omega (arith, size_spine f cs)

pub suits_spine : (n : ℕ) (S : ℕ → Type 0) (f : Term) (cs : List ℕ) → Suits n S (spine f cs) → Suits n S f
suits_spine n S f [] x = x
suits_spine n S f (c ∷ cs) x = suits_spine n S f cs (x.0.0, λ i o. x.1 i (inl o))

-- a value and the body below its abstractions
abbrev pub body_below : ℕ → Term → Term
body_below zero v = v
body_below (suc n) v = body_target (body_below n v)

bodies_normal : (n : ℕ) (v : Term) → Normal v → Normal (body_below n v)
bodies_normal zero v h = h
bodies_normal (suc n) v h = body_target_normal (body_below n v) (bodies_normal n v h)

pub enclose_bodies : (n : ℕ) (v : Term) → Normal v → enclose n (body_below n v) ≡ v
enclose_bodies zero v h = refl
enclose_bodies (suc n) v h =
    ap (enclose n) ((contract_to (body_below (suc n) v) (body_below n v) (bodies_normal n v h)).1 refl) ∙ enclose_bodies n v h

-- what one abstraction over a body of a value comes to
normal_contract : (b : Term) → Normal b → Normal (contract (lam b))
normal_contract b h = go (abstracted b)
  where
    go : Abstracted b → Normal (contract (lam b))
    go (out m p u l w) =
        let g : Normal (app m (loc 0)) = rw p at h in
        rw w (rw (normal_shift 1 0 (unshift 1 0 m)) at (rw (← shift_unshift 0 m u) at g.1))
    go (kept o w) = rw w (lam_normal b (rw o tt) h)

pub closed_contract : (n : ℕ) (b : Term) → Closed (suc n) b → Closed n (contract (lam b))
closed_contract n b h = go (abstracted b)
  where
    go : Abstracted b → Closed n (contract (lam b))
    go (out m p u l w) =
        let g : Closed (suc n) (app m (loc 0)) = rw p at h in
        rw w (shift_closed 1 0 n (suc n) (unshift 1 0 m) (omega arith) (omega arith) (rw (← shift_unshift 0 m u) at g.0))
    go (kept o w) = rw w h

ground_contract : (b : Term) → Ground b → Ground (contract (lam b))
ground_contract b h = go (abstracted b)
  where
    go : Abstracted b → Ground (contract (lam b))
    go (out m p u l w) =
        let g : Ground (app m (loc 0)) = rw p at h in
        rw w (rw (ground_shift 1 0 (unshift 1 0 m)) at (rw (← shift_unshift 0 m u) at g.0))
    go (kept o w) = rw w h

pub size_contract : (b : Term) → size (contract (lam b)) ≤ suc (size b)
size_contract b = go (abstracted b)
  where
    go : Abstracted b → size (contract (lam b)) ≤ suc (size b)
    go (out m p u l w) = omega (arith, ap size w, ap size p, ap size (shift_unshift 0 m u), size_shift 1 0 (unshift 1 0 m))
    go (kept o w) = omega (arith, ap size w)

pub size_enclose : (n : ℕ) (b : Term) → size (enclose n b) ≤ size b + n
size_enclose zero b = omega arith
size_enclose (suc n) b = omega (arith, size_enclose n (contract (lam b)), size_contract b)

normal_enclose : (n : ℕ) (b : Term) → Normal b → Normal (enclose n b)
normal_enclose zero b h = h
normal_enclose (suc n) b h = normal_enclose n (contract (lam b)) (normal_contract b h)

closed_enclose : (m n k : ℕ) (b : Term) → k ≡ m + n → Closed k b → Closed m (enclose n b)
closed_enclose m zero k b e h = subst (λ d. Closed d b) (omega arith) h
closed_enclose m (suc n) k b e h =
    closed_enclose m n (m + n) (contract (lam b)) refl (closed_contract (m + n) b (subst (λ d. Closed d b) (omega arith) h))

ground_enclose : (n : ℕ) (b : Term) → Ground b → Ground (enclose n b)
ground_enclose zero b h = h
ground_enclose (suc n) b h = ground_enclose n (contract (lam b)) (ground_contract b h)

pub bodies_enclose : (n : ℕ) (b : Term) → Normal b → body_below n (enclose n b) ≡ b
bodies_enclose zero b h = refl
bodies_enclose (suc n) b h =
    let c = contract (lam b) in
    ap body_target (bodies_enclose n c (normal_contract b h)) ∙ sym ((contract_to b c (normal_contract b h)).0 refl)

-- constants for the innermost locals
abbrev pub pick : ℕ → List ℕ → ℕ → Term
pick d [] k = loc (d + k)
pick d (c ∷ cs) zero = con c
pick d (c ∷ cs) (suc k) = pick d cs k

abbrev pub replace : ℕ → List ℕ → Term → Term
replace d cs (app f a) = app (replace d cs f) (replace d cs a)
replace d cs (lam b) = lam (replace (suc d) cs b)
replace d cs (loc n) = cond (ltb n d) (loc n) (pick d cs (n - d))
replace d cs (con n) = con n
replace d cs (var n) = var n

replace_none : (d : ℕ) (t : Term) → replace d [] t ≡ t
replace_none d (app f a) = ap₂ app (replace_none d f) (replace_none d a)
replace_none d (lam b) = ap lam (replace_none (suc d) b)
replace_none d (loc n) = by_ltb (λ s. cond s (loc n) (loc (d + (n - d))) ≡ loc n) n d (λ l. refl) (λ l. ap loc (omega arith))
replace_none d (con n) = refl
replace_none d (var n) = refl

pick_substitute : (d c : ℕ) (cs : List ℕ) (k : ℕ) → substitute d (con c) (pick (suc d) cs k) ≡ pick d cs k
pick_substitute d c [] k = substitute_high (suc d + k) d (con c) (omega arith) ∙ ap loc (omega arith)
pick_substitute d c (a ∷ cs) zero = refl
pick_substitute d c (a ∷ cs) (suc k) = pick_substitute d c cs k

pub substitute_replace : (d c : ℕ) (cs : List ℕ) (t : Term) → substitute d (con c) (replace (suc d) cs t) ≡ replace d (c ∷ cs) t
substitute_replace d c cs (app f a) = ap₂ app (substitute_replace d c cs f) (substitute_replace d c cs a)
substitute_replace d c cs (lam b) = ap lam (substitute_replace (suc d) c cs b)
substitute_replace d c cs (loc n) = go (dec_lt n d) (ℕ_discrete n d)
  where
    go : Dec (n < d) → Dec (n ≡ d) → substitute d (con c) (replace (suc d) cs (loc n)) ≡ replace d (c ∷ cs) (loc n)
    go (yes l) o = rw (lt-ltb n (suc d) (omega arith), lt-ltb n d l)
    go (no l) (yes q) =
        let z : n - d ≡ 0 = omega arith in
        rw (lt-ltb n (suc d) (omega arith), le-ltb n d (omega arith), z, eq-eqb n d q)
    go (no l) (no q) =
        let z : n - d ≡ suc (n - suc d) = omega arith in
        rw (le-ltb n (suc d) (omega arith), le-ltb n d (omega arith), z) (pick_substitute d c cs (n - suc d))
substitute_replace d c cs (con n) = refl
substitute_replace d c cs (var n) = refl

-- a term is closed, normal and without variables where it is so with the constants put in
normal_replace : (d : ℕ) (cs : List ℕ) (t : Term) → Normal (replace d cs t) → Normal t
normal_replace d [] t h = rw (replace_none d t) at h
normal_replace d (c ∷ cs) t h =
    normal_replace (suc d) cs t (normal_substitute d (con c) (replace (suc d) cs t) (rw (substitute_replace d c cs t) h))

pick_closed : (m d k : ℕ) (cs : List ℕ) → d ≤ m → Closed m (pick d cs k) → d + k < m + length cs
pick_closed m d k [] l h = omega (arith, h)
pick_closed m d zero (c ∷ cs) l h = omega arith
pick_closed m d (suc k) (c ∷ cs) l h = omega (arith, pick_closed m d k cs l h)

closed_replace : (m n d : ℕ) (cs : List ℕ) (t : Term) → n ≡ m + length cs → d ≤ m → Closed m (replace d cs t) → Closed n t
closed_replace m n d cs (app f a) e l h = (closed_replace m n d cs f e l h.0, closed_replace m n d cs a e l h.1)
closed_replace m n d cs (lam b) e l h = closed_replace (suc m) (suc n) (suc d) cs b (omega arith) (omega arith) h
closed_replace m n d cs (loc k) e l h =
    by_ltb (λ s. Closed m (cond s (loc k) (pick d cs (k - d))) → k < n) k d (λ q _. omega arith)
    (λ q x. omega (arith, pick_closed m d (k - d) cs l x)) h
closed_replace m n d cs (con k) e l h = tt
closed_replace m n d cs (var k) e l h = tt

ground_replace : (d : ℕ) (cs : List ℕ) (t : Term) → Ground (replace d cs t) → Ground t
ground_replace d cs (app f a) h = (ground_replace d cs f h.0, ground_replace d cs a h.1)
ground_replace d cs (lam b) h = ground_replace (suc d) cs b h
ground_replace d cs (loc n) h = tt
ground_replace d cs (con n) h = h
ground_replace d cs (var n) h = h

pick_size : (d : ℕ) (cs : List ℕ) (k : ℕ) → size (pick d cs k) ≡ 1
pick_size d [] k = refl
pick_size d (c ∷ cs) zero = refl
pick_size d (c ∷ cs) (suc k) = pick_size d cs k

size_replace : (d : ℕ) (cs : List ℕ) (t : Term) → size (replace d cs t) ≡ size t
size_replace d cs (app f a) = ap suc (ap₂ ◌+◌ (size_replace d cs f) (size_replace d cs a))
size_replace d cs (lam b) = ap suc (size_replace (suc d) cs b)
size_replace d cs (loc n) = by_ltb (λ s. size (cond s (loc n) (pick d cs (n - d))) ≡ 1) n d (λ l. refl) (λ l. pick_size d cs (n - d))
size_replace d cs (con n) = refl
size_replace d cs (var n) = refl

pick_shift : (c d : ℕ) (cs : List ℕ) (k : ℕ) → c ≤ d → pick (suc d) cs k ≡ shift 1 c (pick d cs k)
pick_shift c d [] k h = rw (le-ltb (d + k) c (omega arith)) (ap loc (omega arith))
pick_shift c d (a ∷ cs) zero h = refl
pick_shift c d (a ∷ cs) (suc k) h = pick_shift c d cs k h

replace_shift : (c d : ℕ) (cs : List ℕ) (t : Term) → c ≤ d → replace (suc d) cs (shift 1 c t) ≡ shift 1 c (replace d cs t)
replace_shift c d cs (app f a) h = ap₂ app (replace_shift c d cs f h) (replace_shift c d cs a h)
replace_shift c d cs (lam b) h = ap lam (replace_shift (suc c) (suc d) cs b (omega arith))
replace_shift c d cs (loc n) h = go (dec_lt n c) (dec_lt n d)
  where
    go : Dec (n < c) → Dec (n < d) → replace (suc d) cs (shift 1 c (loc n)) ≡ shift 1 c (replace d cs (loc n))
    go (yes l) o = rw (lt-ltb n c l, lt-ltb n (suc d) (omega arith), lt-ltb n d (omega arith), lt-ltb n c l)
    go (no l) (yes m) = rw (le-ltb n c (omega arith), lt-ltb (n + 1) (suc d) (omega arith), lt-ltb n d m, le-ltb n c (omega arith))
    go (no l) (no m) =
        let z : n + 1 - suc d ≡ n - d = omega arith in
        rw (le-ltb n c (omega arith), le-ltb (n + 1) (suc d) (omega arith), le-ltb n d (omega arith), z) (pick_shift c d cs (n - d) h)
replace_shift c d cs (con n) h = refl
replace_shift c d cs (var n) h = refl

-- the body below one more abstraction
body_target_other : (t : Term) → is_abstraction t ≡ false → body_target t ≡ app (shift 1 0 t) (loc 0)
body_target_other (app f a) h = refl
body_target_other (lam b) h = absurd (subst T h tt)
body_target_other (loc n) h = refl
body_target_other (con n) h = refl
body_target_other (var n) h = refl

pick_no_abstraction : (d : ℕ) (cs : List ℕ) (k : ℕ) → is_abstraction (pick d cs k) ≡ false
pick_no_abstraction d [] k = refl
pick_no_abstraction d (c ∷ cs) zero = refl
pick_no_abstraction d (c ∷ cs) (suc k) = pick_no_abstraction d cs k

replace_innermost : (d : ℕ) (cs : List ℕ) (t : Term)
    → app (shift 1 0 (replace d cs t)) (loc 0) ≡ replace (suc d) cs (app (shift 1 0 t) (loc 0))
replace_innermost d cs t = ap₂ app (sym (replace_shift 0 d cs t (omega arith))) (rw (lt-ltb 0 (suc d) (omega arith)))

body_target_replace : (d : ℕ) (cs : List ℕ) (t : Term) → body_target (replace d cs t) ≡ replace (suc d) cs (body_target t)
body_target_replace d cs (app f a) = replace_innermost d cs (app f a)
body_target_replace d cs (lam b) = refl
body_target_replace d cs (loc n) = body_target_other (replace d cs (loc n)) other ∙ replace_innermost d cs (loc n)
  where
    other : is_abstraction (replace d cs (loc n)) ≡ false
    other = by_ltb (λ s. is_abstraction (cond s (loc n) (pick d cs (n - d))) ≡ false) n d (λ l. refl)
        (λ l. pick_no_abstraction d cs (n - d))
body_target_replace d cs (con n) = replace_innermost d cs (con n)
body_target_replace d cs (var n) = replace_innermost d cs (var n)

-- an application to constants
contract_constant : (s : Term) (c : ℕ) → contract (app s (con c)) ≡ substitute 0 (con c) (body_target s)
contract_constant (app f a) c = ap (λ x. app x (con c)) (sym (substitute_shift 0 (con c) (app f a)))
contract_constant (lam b) c = refl
contract_constant (loc n) c = ap (λ x. app x (con c)) (sym (substitute_shift 0 (con c) (loc n)))
contract_constant (con n) c = refl
contract_constant (var n) c = refl

pub sweep_spine :
    (φ : ℕ → Term) (i n : ℕ) (cs : List ℕ) → length cs ≡ n → Normal (φ i)
    → sweep (fill φ (spine (var i) cs)) ≡ replace 0 cs (body_below n (φ i))
sweep_spine φ i zero [] e h = sweep_normal (φ i) h ∙ sym (replace_none 0 (φ i))
sweep_spine φ i zero (c ∷ cs) e h = absurd (omega arith)
sweep_spine φ i (suc n) [] e h = absurd (omega arith)
sweep_spine φ i (suc n) (c ∷ cs) e h =
    contract_constant (sweep (fill φ (spine (var i) cs))) c
    ∙ ap (λ x. substitute 0 (con c) (body_target x)) (sweep_spine φ i n cs (omega arith) h)
    ∙ ap (substitute 0 (con c)) (body_target_replace 0 cs (body_below n (φ i))) ∙ substitute_replace 0 c cs (body_below (suc n) (φ i))

-- by the kinds of the first records
pub join_kinds : (d : ℕ) (ps : List (ℕ × ℕ)) (t u : Term) → ¬ (kind t ≡ kind u) → join d ps t u ≡ none
join_kinds d ps (app f a) (app g b) h = absurd (h refl)
join_kinds d ps (app f a) (lam u) h = refl
join_kinds d ps (app f a) (loc n) h = refl
join_kinds d ps (app f a) (con n) h = refl
join_kinds d ps (app f a) (var n) h = refl
join_kinds d ps (lam t) (app g b) h = refl
join_kinds d ps (lam t) (lam u) h = absurd (h refl)
join_kinds d ps (lam t) (loc n) h = refl
join_kinds d ps (lam t) (con n) h = refl
join_kinds d ps (lam t) (var n) h = refl
join_kinds d ps (loc m) (app g b) h = refl
join_kinds d ps (loc m) (lam u) h = refl
join_kinds d ps (loc m) (loc n) h = absurd (h refl)
join_kinds d ps (loc m) (con n) h = refl
join_kinds d ps (loc m) (var n) h = refl
join_kinds d ps (con m) (app g b) h = refl
join_kinds d ps (con m) (lam u) h = refl
join_kinds d ps (con m) (loc n) h = refl
join_kinds d ps (con m) (con n) h = absurd (h refl)
join_kinds d ps (con m) (var n) h = refl
join_kinds d ps (var m) (app g b) h = refl
join_kinds d ps (var m) (lam u) h = refl
join_kinds d ps (var m) (loc n) h = refl
join_kinds d ps (var m) (con n) h = refl
join_kinds d ps (var m) (var n) h = absurd (h refl)

pub join_leaf :
    (d l : ℕ) (ps : List (ℕ × ℕ)) (t u : Term) → length ps ≡ l → kind t ≡ kind u → ¬ (kind t ≡ 0) → ¬ (kind t ≡ 1) → ¬ (kind t ≡ 3)
    → join d ps t u ≡ cond (eqb (number_of t) (number_of u)) (some (shift l d t)) none
join_leaf d l ps (app f a) (app g b) e k x y z = absurd (x refl)
join_leaf d l ps (app f a) (lam u) e k x y z = absurd (x refl)
join_leaf d l ps (app f a) (loc n) e k x y z = absurd (x refl)
join_leaf d l ps (app f a) (con n) e k x y z = absurd (x refl)
join_leaf d l ps (app f a) (var n) e k x y z = absurd (x refl)
join_leaf d l ps (lam t) (app g b) e k x y z = absurd (y refl)
join_leaf d l ps (lam t) (lam u) e k x y z = absurd (y refl)
join_leaf d l ps (lam t) (loc n) e k x y z = absurd (y refl)
join_leaf d l ps (lam t) (con n) e k x y z = absurd (y refl)
join_leaf d l ps (lam t) (var n) e k x y z = absurd (y refl)
join_leaf d l ps (loc m) (app g b) e k x y z = absurd (omega arith)
join_leaf d l ps (loc m) (lam u) e k x y z = absurd (omega arith)
join_leaf d l ps (loc m) (loc n) e k x y z = ap (λ i. cond (eqb m n) (some (cond (ltb m d) (loc m) (loc (m + i)))) none) e
join_leaf d l ps (loc m) (con n) e k x y z = absurd (omega arith)
join_leaf d l ps (loc m) (var n) e k x y z = absurd (omega arith)
join_leaf d l ps (con m) (app g b) e k x y z = absurd (z refl)
join_leaf d l ps (con m) (lam u) e k x y z = absurd (z refl)
join_leaf d l ps (con m) (loc n) e k x y z = absurd (z refl)
join_leaf d l ps (con m) (con n) e k x y z = absurd (z refl)
join_leaf d l ps (con m) (var n) e k x y z = absurd (z refl)
join_leaf d l ps (var m) (app g b) e k x y z = absurd (omega arith)
join_leaf d l ps (var m) (lam u) e k x y z = absurd (omega arith)
join_leaf d l ps (var m) (loc n) e k x y z = absurd (omega arith)
join_leaf d l ps (var m) (con n) e k x y z = absurd (omega arith)
join_leaf d l ps (var m) (var n) e k x y z = refl

-- a constant of the body stays
unlike : (m n : ℕ) (p : ℕ × ℕ) → (m ≡ p.0 → n ≡ p.1 → ⊥) → eqb m p.0 && eqb n p.1 ≡ false
unlike m n p h = by_eqb (λ s. s && eqb n p.1 ≡ false) m p.0 (λ q. ne_eqb n p.1 (h q)) (λ q. refl)

constant_stays : (d : ℕ) (ps : List (ℕ × ℕ)) (m : ℕ) → PairsApart ps → at_constants d ps m m ≡ some (con m)
constant_stays d [] m h = rw (eq-eqb m m refl)
constant_stays d (p ∷ ps) m h = rw (unlike m m p (λ q r. h.0 (sym q ∙ r))) (constant_stays (suc d) ps m h.2)

pub constants_other : (d : ℕ) (ps : List (ℕ × ℕ)) (m n : ℕ) → ¬ In (m, n) ps → at_constants d ps m n ≡ cond (eqb m n) (some (con m)) none
constants_other d [] m n h = refl
constants_other d (p ∷ ps) m n h =
    rw (unlike m n p (λ x y. h (inl (ap₂ (λ i j. (i, j)) x y)))) (constants_other (suc d) ps m n (λ i. h (inr i)))

-- a local that a constant replaced
record LocalPair (d k : ℕ) (ps : List (ℕ × ℕ)) : Type 0 where
  pair : ℕ × ℕ
  member : In pair ps
  first : pick d (firsts ps) k ≡ con pair.0
  second : pick d (seconds ps) k ≡ con pair.1
  found : (e : ℕ) → at_constants e ps pair.0 pair.1 ≡ some (loc (e + k))

replaced : (d k : ℕ) (ps : List (ℕ × ℕ)) → PairsApart ps → k < length ps → LocalPair d k ps
replaced d k [] h l = absurd (omega arith)
replaced d zero (p ∷ ps) h l = record {
  pair = p;
  member = inl refl;
  first = refl;
  second = refl;
  found = λ e. rw (eq-eqb p.0 p.0 refl, eq-eqb p.1 p.1 refl) (ap (λ x. some (loc x)) (omega arith));
}
replaced d (suc k) (p ∷ ps) h l =
    let r = replaced d k ps h.2 (omega arith) in
    record {
      pair = r.pair;
      member = inr r.member;
      first = r.first;
      second = r.second;
      found = λ e.
          rw (unlike r.pair.0 r.pair.1 p (λ x y. h.1 (subst (λ z. In z ps) (ap₂ (λ m n. (m, n)) x y) r.member)))
          (r.found (suc e) ∙ ap (λ x. some (loc x)) (omega arith));
    }

-- a local above those
pick_above : (d m k : ℕ) (cs : List ℕ) → length cs ≡ m → m ≤ k → pick d cs k ≡ loc (d + (k - m))
pick_above d m k [] e h = ap loc (omega arith)
pick_above d m zero (c ∷ cs) e h = absurd (omega arith)
pick_above d m (suc k) (c ∷ cs) e h = pick_above d (m - 1) k cs (omega arith) (omega arith) ∙ ap loc (omega arith)

pub length_firsts : (ps : List (ℕ × ℕ)) → length (firsts ps) ≡ length ps
length_firsts [] = refl
length_firsts (p ∷ ps) = ap suc (length_firsts ps)

pub length_seconds : (ps : List (ℕ × ℕ)) → length (seconds ps) ≡ length ps
length_seconds [] = refl
length_seconds (p ∷ ps) = ap suc (length_seconds ps)

-- what is found comes to both targets
abbrev pub Comes : ℕ → List (ℕ × ℕ) → Term → Term → Term → Type 0
Comes d ps t u b = (replace d (firsts ps) b ≡ t) × (replace d (seconds ps) b ≡ u)

none_some : (b : Term) → none ≡ some b → ⊥
none_some b e = subst IsSome (sym e) tt

both_some : (o r : Option Term) (c : Term) → both o r ≡ some c → (f a : Term) × (o ≡ some f) × (r ≡ some a) × (c ≡ app f a)
both_some none r c e = absurd (none_some c e)
both_some (some f) none c e = absurd (none_some c e)
both_some (some f) (some a) c e = (f, a, refl, refl, cc)

below_some : (o : Option Term) (c : Term) → below o ≡ some c → (b : Term) × (o ≡ some b) × (c ≡ lam b)
below_some none c e = absurd (none_some c e)
below_some (some b) c e = (b, refl, cc)

comes_later :
    (d : ℕ) (p : ℕ × ℕ) (ps : List (ℕ × ℕ)) (m n : ℕ) (b : Term) → Comes (suc d) ps (con m) (con n) b → Comes d (p ∷ ps) (con m) (con n) b
comes_later d p ps m n b x = (
  sym (substitute_replace d p.0 (firsts ps) b) ∙ ap (substitute d (con p.0)) x.0,
  sym (substitute_replace d p.1 (seconds ps) b) ∙ ap (substitute d (con p.1)) x.1,
)

constants_sound : (d : ℕ) (ps : List (ℕ × ℕ)) (m n : ℕ) (b : Term) → at_constants d ps m n ≡ some b → Comes d ps (con m) (con n) b
constants_sound d [] m n b e =
    by_eqb (λ s. cond s (some (con m)) none ≡ some b → Comes d [] (con m) (con n) b) m n
    (λ q r. let z : b ≡ con m = cc in rw z (refl, ap con q))
    (λ q r. absurd (none_some b r)) e
constants_sound d (p ∷ ps) m n b e =
    go (λ r. comes_later d p ps m n b (constants_sound (suc d) ps m n b r)) (eqb m p.0) refl (eqb n p.1) refl
  where
    go :
        (at_constants (suc d) ps m n ≡ some b → Comes d (p ∷ ps) (con m) (con n) b) → (x : Bool) → eqb m p.0 ≡ x
        → (y : Bool) → eqb n p.1 ≡ y
        → Comes d (p ∷ ps) (con m) (con n) b
    go later true q true r =
        let z : some (loc d) ≡ some b = rw (q, r) at e in
        let w : b ≡ loc d = cc in
        let k : d - d ≡ 0 = omega arith in
        rw (w, le-ltb d d (omega arith), k) (ap con (sym (eqb-true m p.0 q)), ap con (sym (eqb-true n p.1 r)))
    go later true q false r = later (rw (q, r) at e)
    go later false q y r = later (rw q at e)

module _ (ps : List (ℕ × ℕ)) where
  locals_sound : (d m n : ℕ) (c : Term) → join d ps (loc m) (loc n) ≡ some c → Comes d ps (loc m) (loc n) c
  locals_sound d m n c e = go (eqb m n) refl (ltb m d) refl
    where
      go : (x : Bool) → eqb m n ≡ x → (y : Bool) → ltb m d ≡ y → Comes d ps (loc m) (loc n) c
      go true q true r =
          let z : some (loc m) ≡ some c = rw (q, r) at e in
          let w : c ≡ loc m = cc in
          rw (w, r) (refl, ap loc (eqb-true m n q))
      go true q false r =
          let z : some (loc (m + length ps)) ≡ some c = rw (q, r) at e in
          let w : c ≡ loc (m + length ps) = cc in
          let l = ltb-false m d r in
          let k = m + length ps - d in
          rw (w, le-ltb (m + length ps) d (omega arith)) (
            pick_above d (length ps) k (firsts ps) (length_firsts ps) (omega arith) ∙ ap loc (omega arith),
            pick_above d (length ps) k (seconds ps) (length_seconds ps) (omega arith) ∙ ap loc (omega (arith, eqb-true m n q)),
          )
      go false q y r = absurd (none_some c (rw q at e))

  pub join_sound : (d : ℕ) (t u c : Term) → join d ps t u ≡ some c → Comes d ps t u c
  join_sound d (app f a) (app g b) c e =
      let r = both_some (join d ps f g) (join d ps a b) c e in
      let x = join_sound d f g r.0 r.2 in
      let y = join_sound d a b r.1 r.3 in
      rw r.4 (ap₂ app x.0 y.0, ap₂ app x.1 y.1)
  join_sound d (app f a) (lam u) c e = absurd (none_some c e)
  join_sound d (app f a) (loc n) c e = absurd (none_some c e)
  join_sound d (app f a) (con n) c e = absurd (none_some c e)
  join_sound d (app f a) (var n) c e = absurd (none_some c e)
  join_sound d (lam t) (app g b) c e = absurd (none_some c e)
  join_sound d (lam t) (lam u) c e =
      let r = below_some (join (suc d) ps t u) c e in
      let x = join_sound (suc d) t u r.0 r.1 in
      rw r.2 (ap lam x.0, ap lam x.1)
  join_sound d (lam t) (loc n) c e = absurd (none_some c e)
  join_sound d (lam t) (con n) c e = absurd (none_some c e)
  join_sound d (lam t) (var n) c e = absurd (none_some c e)
  join_sound d (loc m) (app g b) c e = absurd (none_some c e)
  join_sound d (loc m) (lam u) c e = absurd (none_some c e)
  join_sound d (loc m) (loc n) c e = locals_sound d m n c e
  join_sound d (loc m) (con n) c e = absurd (none_some c e)
  join_sound d (loc m) (var n) c e = absurd (none_some c e)
  join_sound d (con m) (app g b) c e = absurd (none_some c e)
  join_sound d (con m) (lam u) c e = absurd (none_some c e)
  join_sound d (con m) (loc n) c e = absurd (none_some c e)
  join_sound d (con m) (con n) c e = constants_sound d ps m n c e
  join_sound d (con m) (var n) c e = absurd (none_some c e)
  join_sound d (var m) (app g b) c e = absurd (none_some c e)
  join_sound d (var m) (lam u) c e = absurd (none_some c e)
  join_sound d (var m) (loc n) c e = absurd (none_some c e)
  join_sound d (var m) (con n) c e = absurd (none_some c e)
  join_sound d (var m) (var n) c e =
      by_eqb (λ s. cond s (some (var m)) none ≡ some c → Comes d ps (var m) (var n) c) m n
      (λ q r. let z : c ≡ var m = cc in rw z (refl, ap var q)) (λ q r. absurd (none_some c r)) e

  -- record for record
  pub size_join : (d : ℕ) (t u b : Term) → join d ps t u ≡ some b → (size b ≡ size t) × (size b ≡ size u)
  size_join d t u b e =
      let s = join_sound d t u b e in
      (sym (size_replace d (firsts ps) b) ∙ ap size s.0, sym (size_replace d (seconds ps) b) ∙ ap size s.1)

-- the two goals of a variable, and the body below the abstractions of its value
abbrev pub BothSweep : List (ℕ × ℕ) → ℕ → Term → Term → Predicate
BothSweep ps i t u φ = Sweeps (spine (var i) (firsts ps)) t φ × Sweeps (spine (var i) (seconds ps)) u φ

abbrev pub repeated : List (ℕ × ℕ) → ℕ → Term → Term → List Goal → List Goal
repeated ps i t u gs = match (spine (var i) (firsts ps)) t ∷ match (spine (var i) (seconds ps)) u ∷ gs

pub both_comes :
    (ps : List (ℕ × ℕ)) (i : ℕ) (t u : Term) (φ : ℕ → Term) → Normal (φ i) → BothSweep ps i t u φ ↔ Comes 0 ps t u
    (body_below (length ps) (φ i))
both_comes ps i t u φ h = (λ s. (sym x ∙ s.0, sym y ∙ s.1), λ s. (x ∙ s.0, y ∙ s.1))
  where
    x : sweep (fill φ (spine (var i) (firsts ps))) ≡ replace 0 (firsts ps) (body_below (length ps) (φ i))
    x = sweep_spine φ i (length ps) (firsts ps) (length_firsts ps) h

    y : sweep (fill φ (spine (var i) (seconds ps))) ≡ replace 0 (seconds ps) (body_below (length ps) (φ i))
    y = sweep_spine φ i (length ps) (seconds ps) (length_seconds ps) h

-- what is found is the body of a value, with which both goals are met
module _ (ps : List (ℕ × ℕ)) (t u b : Term) (e : join 0 ps t u ≡ some b) where
  join_normal : Normal t → Normal b
  join_normal h = normal_replace 0 (firsts ps) b (rw (join_sound ps 0 t u b e).0 h)

  pub enclose_normal : Normal t → Normal (enclose (length ps) b)
  enclose_normal h = normal_enclose (length ps) b (join_normal h)

  pub join_closed : (m : ℕ) → Closed m t → Closed (m + length ps) b
  join_closed m h =
      closed_replace m (m + length ps) 0 (firsts ps) b (omega (arith, length_firsts ps)) (omega arith) (rw (join_sound ps 0 t u b e).0 h)

  pub enclose_closed : (m : ℕ) → Closed m t → Closed m (enclose (length ps) b)
  enclose_closed m h = closed_enclose m (length ps) (m + length ps) b refl (join_closed m h)

  pub enclose_ground : Ground t → Ground (enclose (length ps) b)
  enclose_ground h = ground_enclose (length ps) b (ground_replace 0 (firsts ps) b (rw (join_sound ps 0 t u b e).0 h))

  pub both_meets : (i : ℕ) (φ : ℕ → Term) → Normal (φ i) → Normal t → φ i ≡ enclose (length ps) b → BothSweep ps i t u φ
  both_meets i φ v h q =
      let r : b ≡ body_below (length ps) (φ i) = sym (ap (body_below (length ps)) q ∙ bodies_enclose (length ps) b (join_normal h)) in
      (both_comes ps i t u φ v).1 (subst (Comes 0 ps t u) r (join_sound ps 0 t u b e))

-- it is the only one
module _ (ps : List (ℕ × ℕ)) (h : PairsApart ps) where
  join_local : (d n : ℕ) → join d ps (replace d (firsts ps) (loc n)) (replace d (seconds ps) (loc n)) ≡ some (loc n)
  join_local d n = go (dec_lt n d) (dec_lt (n - d) (length ps))
    where
      go : Dec (n < d) → Dec (n - d < length ps) → join d ps (replace d (firsts ps) (loc n)) (replace d (seconds ps) (loc n)) ≡ some (loc n)
      go (yes l) o = rw (lt-ltb n d l, eq-eqb n n refl, lt-ltb n d l)
      go (no l) (yes m) =
          let r = replaced d (n - d) ps h m in
          rw (le-ltb n d (omega arith), r.first, r.second) (r.found d ∙ ap (λ x. some (loc x)) (omega arith))
      go (no l) (no m) =
          let k = d + (n - d - length ps) in
          let x = pick_above d (length ps) (n - d) (firsts ps) (length_firsts ps) (omega arith) in
          let y = pick_above d (length ps) (n - d) (seconds ps) (length_seconds ps) (omega arith) in
          rw (le-ltb n d (omega arith), x, y, eq-eqb k k refl, le-ltb k d (omega arith)) (ap (λ z. some (loc z)) (omega arith))

  join_replace : (d : ℕ) (b : Term) → join d ps (replace d (firsts ps) b) (replace d (seconds ps) b) ≡ some b
  join_replace d (app f a) = rw (join_replace d f, join_replace d a)
  join_replace d (lam b) = rw (join_replace (suc d) b)
  join_replace d (loc n) = join_local d n
  join_replace d (con n) = constant_stays d ps n h
  join_replace d (var n) = rw (eq-eqb n n refl)

  pub join_unique : (d : ℕ) (b t u : Term) → Comes d ps t u b → join d ps t u ≡ some b
  join_unique d b t u s = ap₂ (join d ps) (sym s.0) (sym s.1) ∙ join_replace d b

  module _ (i : ℕ) (t u : Term) (φ : ℕ → Term) (v : Normal (φ i)) where
    pub join_value : BothSweep ps i t u φ → join 0 ps t u ≡ some (body_below (length ps) (φ i))
    join_value s = join_unique 0 (body_below (length ps) (φ i)) t u ((both_comes ps i t u φ v).0 s)

    pub forced_value : (b : Term) → join 0 ps t u ≡ some b → BothSweep ps i t u φ → φ i ≡ enclose (length ps) b
    forced_value b e s = sym (enclose_bodies (length ps) (φ i) v) ∙ ap (enclose (length ps)) (let r = sym (join_value s) ∙ e in (cc))

    pub join_no_value : join 0 ps t u ≡ none → ¬ BothSweep ps i t u φ
    join_no_value e s = subst IsSome (sym (join_value s) ∙ e) tt

    -- the two goals together are that the variable has this value
    pub forced_exactly : (b : Term) → join 0 ps t u ≡ some b → Normal t → BothSweep ps i t u φ ↔ (φ i ≡ enclose (length ps) b)
    forced_exactly b e h = (forced_value b e, both_meets ps t u b e i φ v h)

    -- among the goals of a search, one goal for the two
    pub goals_forced :
        (b : Term) (gs : List Goal) → join 0 ps t u ≡ some b → Normal t
        → All (repeated ps i t u gs) φ ↔ All (match (var i) (enclose (length ps) b) ∷ gs) φ
    goals_forced b gs e h =
        let r = forced_exactly b e h in
        let w = sweep_normal (φ i) v in
        (λ s. (w ∙ r.0 (s.0, s.1.0), s.1.1), λ s. let x = r.1 (sym w ∙ s.0) in (x.0, (x.1, s.1)))

    pub goals_none : (gs : List Goal) → join 0 ps t u ≡ none → ¬ All (repeated ps i t u gs) φ
    goals_none gs e s = join_no_value e (s.0, s.1.0)
