-- Terms, as document 01's section "Records and terms" has them.
--   Term             a tree of applications, abstractions, locals, constants and variables
--   size t           the number of its records
--   shift d c t      t moved in below d binders; its locals below c are its own and stay
--   unshift d c t    t moved out of d binders that it doesn't use
--   uses k t         t uses local k
--   substitute k e t e put for local k of t, without capture; the locals above k move down
--   redex t          t itself is a redex, of either kind
--   Normal t         t has no redex
--   Closed d t       each local of t has its binder within t or among d binders above it
--   Occurs i t       variable i occurs in t
--   Below n t        the variables of t are below n
--   Ground t         t has no variable, and its constants are ones that a record can hold
--   Value t          t can be the value of a variable
use Rattle.std.specs.Prelude.{◌≡◌, Bool, true, false, not, cond, ◌&&◌, ◌||◌, ◌⊎◌, ℕ, suc, ◌+◌, ◌-◌, ◌<◌, T, ltb, eqb}
use Rattle.terms.specs.Figures.{constants}

-- The five kinds, written `@`, `\`, `#n`, `kn` and `pn` in the document.
-- "local, number = abstractions between it and its binder (0 is innermost)".
pub data Term : Type 0 where
  app : Term → Term → Term
  lam : Term → Term
  loc : ℕ → Term
  con : ℕ → Term
  var : ℕ → Term
  deriving Discrete as Term-discrete

-- the number of records
abbrev pub size : Term → ℕ
size (app f a) = suc (size f + size a)
size (lam b) = suc (size b)
size (loc n) = 1
size (con n) = 1
size (var n) = 1

abbrev pub shift : ℕ → ℕ → Term → Term
shift d c (app f a) = app (shift d c f) (shift d c a)
shift d c (lam b) = lam (shift d (suc c) b)
shift d c (loc n) = cond (ltb n c) (loc n) (loc (n + d))
shift d c (con n) = con n
shift d c (var n) = var n

-- "M moved out"
abbrev pub unshift : ℕ → ℕ → Term → Term
unshift d c (app f a) = app (unshift d c f) (unshift d c a)
unshift d c (lam b) = lam (unshift d (suc c) b)
unshift d c (loc n) = cond (ltb n c) (loc n) (loc (n - d))
unshift d c (con n) = con n
unshift d c (var n) = var n

-- "M doesn't use that local"
abbrev pub uses : ℕ → Term → Bool
uses k (app f a) = uses k f || uses k a
uses k (lam b) = uses (suc k) b
uses k (loc n) = eqb n k
uses k (con n) = false
uses k (var n) = false

-- "put the [..] argument for its local in the body, without capture"
abbrev pub substitute : ℕ → Term → Term → Term
substitute k e (app f a) = app (substitute k e f) (substitute k e a)
substitute k e (lam b) = lam (substitute (suc k) e b)
substitute k e (loc n) = cond (ltb n k) (loc n) (cond (eqb n k) (shift k 0 e) (loc (n - 1)))
substitute k e (con n) = con n
substitute k e (var n) = var n

abbrev pub is_abstraction : Term → Bool
is_abstraction (app f a) = false
is_abstraction (lam b) = true
is_abstraction (loc n) = false
is_abstraction (con n) = false
is_abstraction (var n) = false

-- the term is `#0`
abbrev pub is_innermost : Term → Bool
is_innermost (app f a) = false
is_innermost (lam b) = false
is_innermost (loc n) = eqb n 0
is_innermost (con n) = false
is_innermost (var n) = false

-- the term is `M #0`, and M doesn't use that local
abbrev pub is_eta : Term → Bool
is_eta (app m a) = is_innermost a && not (uses 0 m)
is_eta (lam b) = false
is_eta (loc n) = false
is_eta (con n) = false
is_eta (var n) = false

-- "A redex is an application whose head is an abstraction, or an abstraction over `M #0` where M doesn't use that local."
abbrev pub redex : Term → Bool
redex (app f a) = is_abstraction f
redex (lam b) = is_eta b
redex (loc n) = false
redex (con n) = false
redex (var n) = false

-- "A term is normal if it has neither."
abbrev pub Normal : Term → Type 0
Normal (app f a) = T (not (redex (app f a))) × Normal f × Normal a
Normal (lam b) = T (not (redex (lam b))) × Normal b
Normal (loc n) = Unit {0}
Normal (con n) = Unit {0}
Normal (var n) = Unit {0}

-- "A part is closed if each of its locals has its binder within it."
abbrev pub Closed : ℕ → Term → Type 0
Closed d (app f a) = Closed d f × Closed d a
Closed d (lam b) = Closed (suc d) b
Closed d (loc n) = n < d
Closed d (con n) = Unit {0}
Closed d (var n) = Unit {0}

abbrev pub Occurs : ℕ → Term → Type 0
Occurs i (app f a) = Occurs i f ⊎ Occurs i a
Occurs i (lam b) = Occurs i b
Occurs i (loc n) = ⊥
Occurs i (con n) = ⊥
Occurs i (var n) = i ≡ n

-- "variable, number 0 to 7"
abbrev pub Below : ℕ → Term → Type 0
Below n (app f a) = Below n f × Below n a
Below n (lam b) = Below n b
Below n (loc k) = Unit {0}
Below n (con k) = Unit {0}
Below n (var i) = i < n

-- "without variables"; "constant, number 0 to 65,535", by document 02 "with 24 bits"
abbrev pub Ground : Term → Type 0
Ground (app f a) = Ground f × Ground a
Ground (lam b) = Ground b
Ground (loc n) = Unit {0}
Ground (con n) = n < constants
Ground (var n) = ⊥

-- "A value is closed, normal and without variables", "with no bound on [its] length or on the numbers of [its] locals".
abbrev pub Value : Term → Type 0
Value t = Closed 0 t × Normal t × Ground t
