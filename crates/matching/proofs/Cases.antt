-- Document 01's cases hold. Each row's claim follows from a test that computes, and the tests of all rows are computed at once; a listing
-- is the lister's, which is full. Assumes nothing.
use mathlib.Core.Path.{◌≡◌, refl, sym, ap, ap₂, subst}
use mathlib.Core.Bool.{Bool, true, false}
use mathlib.Core.Option.{Option, none, some}
use mathlib.Core.List.{List, [], ◌∷◌}
use mathlib.Core.Logic.{inl, inr, ⊎_elim}
use Prim.Native.Nat.{ℕ}
use native.Mathlib.Decide.{ℕ_discrete, dec_lt}
use lib.Dec.{T}
use lib.ListN.{length}
use Rattle.terms.specs.Figures.{variables}
use Rattle.terms.specs.Term.{Term, app, lam, loc, con, var, Normal, Below}
use Rattle.terms.specs.Sweep.{sweep, fill}
use Rattle.terms.specs.Assignment.{Assignment, entry, valuation, AssignsAt, Assigns, Entries, Complete}
use Rattle.terms.specs.Listing.{In, Full}
use Rattle.matching.specs.Abstractions.{same}
use Rattle.matching.specs.Cases.{Case, Case.lists, Case.rejects, Case.sweeps, Case.reducible, CaseHolds, cases}
use Rattle.matching.proofs.Decide.{dec-×, normal?, value?}
use Rattle.matching.proofs.Listing.{full_listing, full}

-- decisions
abbrev dec_map : {A B : Type 0} → (A → B) → (B → A) → Dec A → Dec B
dec_map f g (yes a) = yes (f a)
dec_map f g (no a) = no (λ b. a (g b))

abbrev dec-¬ : {A : Type 0} → Dec A → Dec (¬ A)
dec-¬ (yes a) = no (λ f. f a)
dec-¬ (no a) = yes a

abbrev same_option : Discrete (Option Term)
same_option none none = yes refl
same_option none (some w) = no (λ e. let z : ◌≡◌ {A = Bool} true false = cc in subst T z tt)
same_option (some v) none = no (λ e. let z : ◌≡◌ {A = Bool} true false = cc in subst T z tt)
same_option (some v) (some w) = dec_map (λ e. ap some e) (λ e. cc) (same v w)

abbrev same_list : {A : Type 0} → Discrete A → Discrete (List A)
same_list d [] [] = yes refl
same_list d [] (y ∷ m) = no (λ e. let z : ◌≡◌ {A = Bool} true false = cc in subst T z tt)
same_list d (x ∷ l) [] = no (λ e. let z : ◌≡◌ {A = Bool} true false = cc in subst T z tt)
same_list d (x ∷ l) (y ∷ m) = dec_map (λ e. ap₂ ◌∷◌ e.0 e.1) (λ e. (cc, cc)) (dec-× (d x y) (same_list d l m))

abbrev below? : (n : ℕ) (p : Term) → Dec (Below n p)
below? n (app f a) = dec-× (below? n f) (below? n a)
below? n (lam b) = below? n b
below? n (loc k) = yes tt
below? n (con k) = yes tt
below? n (var i) = dec_lt i n

abbrev assigned? : (o : Option Term) → Dec (AssignsAt (Unit {0}) o)
assigned? none = yes tt
assigned? (some v) = dec_map (λ h. (tt, h)) (λ h. h.1) (value? v)

abbrev assigns? : (a : Assignment) → Dec (Assigns (λ i. Unit {0}) a)
assigns? [] = yes tt
assigns? (o ∷ a) = dec-× (assigned? o) (assigns? a)

-- the entry is assigned, and every variable's is
abbrev IsAssigned : Option Term → Type 0
IsAssigned none = ⊥
IsAssigned (some v) = Unit {0}

abbrev has_value? : (o : Option Term) → Dec (IsAssigned o)
has_value? none = no (λ x. x)
has_value? (some v) = yes tt

abbrev FilledIn : Assignment → Term → Type 0
FilledIn a (app f e) = FilledIn a f × FilledIn a e
FilledIn a (lam b) = FilledIn a b
FilledIn a (loc k) = Unit {0}
FilledIn a (con k) = Unit {0}
FilledIn a (var i) = IsAssigned (entry a i)

abbrev filled_in? : (a : Assignment) (p : Term) → Dec (FilledIn a p)
filled_in? a (app f e) = dec-× (filled_in? a f) (filled_in? a e)
filled_in? a (lam b) = filled_in? a b
filled_in? a (loc k) = yes tt
filled_in? a (con k) = yes tt
filled_in? a (var i) = has_value? (entry a i)

assigned_some : (o : Option Term) → IsAssigned o → (v : Term) × (o ≡ some v)
assigned_some none h = absurd h
assigned_some (some v) h = (v, refl)

complete_of : (a : Assignment) (p : Term) → FilledIn a p → Complete p a
complete_of a (app f e) h i o = ⊎_elim (complete_of a f h.0 i) (complete_of a e h.1 i) o
complete_of a (lam b) h i o = complete_of a b h i o
complete_of a (loc k) h i o = absurd o
complete_of a (con k) h i o = absurd o
complete_of a (var k) h i o = rw o (assigned_some (entry a k) h)

-- a row's test over n variables: what computes, and the claim that it gives
abbrev Test : ℕ → Case → Type 0
Test n (lists p t ls) = (Below n p × Normal t) × (full_listing n p t ≡ ls)
Test n (rejects p t a) = Entries n a × (FilledIn a p × ¬ (sweep (fill (valuation a) p) ≡ t))
Test n (sweeps t s) = sweep t ≡ s
Test n (reducible t) = ¬ Normal t

abbrev test? : (n : ℕ) (c : Case) → Dec (Test n c)
test? n (lists p t ls) = dec-× (dec-× (below? n p) (normal? t)) (same_list (same_list same_option) (full_listing n p t) ls)
test? n (rejects p t a) =
    dec-× (dec-× (ℕ_discrete (length a) n) (assigns? a)) (dec-× (filled_in? a p) (dec-¬ (same (sweep (fill (valuation a) p)) t)))
test? n (sweeps t s) = same (sweep t) s
test? n (reducible t) = dec-¬ (normal? t)

test_holds : (n : ℕ) (c : Case) → Test n c → CaseHolds n c
test_holds n (lists p t ls) h = subst (Full n p t) h.1 (full n p t h.0.0 h.0.1)
test_holds n (rejects p t a) h = (h.0, complete_of a p h.1.0, λ m. h.1.1 m.2)
test_holds n (sweeps t s) h = h
test_holds n (reducible t) h = h

-- all rows at once
abbrev Tests : ℕ → List Case → Type 0
Tests n [] = Unit {0}
Tests n (c ∷ cs) = Test n c × Tests n cs

abbrev tests? : (n : ℕ) (cs : List Case) → Dec (Tests n cs)
tests? n [] = yes tt
tests? n (c ∷ cs) = dec-× (test? n c) (tests? n cs)

abbrev decided : {A : Type 0} → Dec A → Bool
decided (yes a) = true
decided (no a) = false

proof : {A : Type 0} (o : Dec A) → T (decided o) → A
proof (yes a) h = a
proof (no a) h = absurd h

tests_hold : (n : ℕ) (cs : List Case) → Tests n cs → (c : Case) → In c cs → CaseHolds n c
tests_hold n (c ∷ cs) h d (inl p) = subst (CaseHolds n) (sym p) (test_holds n c h.0)
tests_hold n (c ∷ cs) h d (inr i) = tests_hold n cs h.1 d i
tests_hold n [] h d x'' = elim x'' [ ]

computed_hold : (n : ℕ) → decided (tests? n (cases n)) ≡ true → (c : Case) → In c (cases n) → CaseHolds n c
computed_hold n e c i = tests_hold n (cases n) (proof (tests? n (cases n)) (subst T (sym e) tt)) c i

computed_eight : decided (tests? 8 (cases 8)) ≡ true
unfolding ℕ_discrete dec_lt
computed_eight = refl

computed_sixteen : decided (tests? 16 (cases 16)) ≡ true
unfolding ℕ_discrete dec_lt
computed_sixteen = refl

pub cases_hold : (c : Case) → In c (cases variables) → CaseHolds variables c
cases_hold c i = computed_hold variables computed_eight c i

pub cases_sixteen : (c : Case) → In c (cases 16) → CaseHolds 16 c
cases_sixteen c i = computed_hold 16 computed_sixteen c i
