-- The ways of an application and the choices of a goal to build make up the assignments of a state, no two of them share one, and there are
-- lines for each. From the same facts of a single goal, since the other goals and the line stay as they are. Assumes nothing.
--   Over Q i n   one of the predicates Q j for j from i on, below n
use mathlib.Core.Path.{◌≡◌, sym, ap, subst}
use mathlib.Core.Bool.{true, false}
use mathlib.Core.List.{List, [], ◌∷◌}
use mathlib.Core.Logic.{◌⊎◌, inl, inr, ⊎_elim, ◌↔◌}
use Prim.Native.Nat.{ℕ, zero, suc, ◌+◌, ◌<◌, ◌≤◌}
use native.Mathlib.Omega.{arith}
use native.Mathlib.Decide.{dec_lt}
use lib.Dec.{ltb}
use lib.ListN.{length, set}
use lib.Seq.{get_or-set_same, get_or-set_other}
use Rattle.terms.specs.Figures.{variables}
use Rattle.terms.specs.Term.{Term, app, lam, loc, con, var}
use Rattle.terms.specs.Listing.{In, Line}
use Rattle.terms.specs.Refusal.{OccursIn}
use Rattle.matching.specs.Bodies.{ChosenSoFar}
use Rattle.matching.specs.Lists.{Values, Extends, Predicate}
use Rattle.matching.specs.Goals.{Goal, Goal.match, Goal.build, All, Listable}
use Rattle.matching.specs.Alternatives.{Alternative}
use Rattle.matching.proofs.Decide.{by_dec}
use Rattle.matching.proofs.Lists.{Under}
use Rattle.matching.proofs.Goals.{Listing, listing_goals, listing_line, listing_both}
use Rattle.matching.proofs.Goals.{listing_same, listing_none, listing_or}
use Rattle.matching.proofs.Alternatives.{alternatives, alternatives_apart, listing_alternative}
use Rattle.matching.proofs.Bodies.{chosen_none, chosen_next, chosen_apart, chosen_all}
use Rattle.matching.proofs.Choices.{listing_chosen}
use Rattle.abstractions.specs.Bodies.{chosen_in}
use Rattle.assignments.specs.declared.Entry.{Entry}
use Rattle.agenda.specs.declared.Agenda.{Agenda}
use Rattle.agenda.specs.State.{Chain, GoalAt, State, Sat, next_at}
use Rattle.arguments.specs.Ways.{Way, HasWays}
use Rattle.builds.specs.Choices.{Choices, CopiesAre, ChosenBody}

-- every goal of a list can be listed
goal_listable : (P W : List ℕ) (top at : ℕ) (g : Goal) → GoalAt P W top at g → Listable variables (OccursIn P) g
goal_listable P W top at (match p t) x = x.suits
goal_listable P W top at (build f t e) x = x.suits

chain_listable : (K : Goal → Type 0) (P W : List ℕ) (top at : ℕ) (gs : List Goal) → Chain K P W top at gs → (g : Goal) → In g gs
    → Listable variables (OccursIn P) g
chain_listable K P W top at [] x g i = absurd i
chain_listable K P W top at (h ∷ gs) x g (inl e) = subst (Listable variables (OccursIn P)) (sym e) (goal_listable P W top at h x.0.goal)
chain_listable K P W top at (h ∷ gs) x g (inr i) = chain_listable K P W top (next_at W at) gs x.1 g i

-- a predicate together with the other goals and the line
abbrev Beside : List Goal → Predicate → List Goal → Line → Predicate
Beside gs Q hs l φ = All gs φ × (Q φ × All hs φ) × Extends φ l

module _ (k : ℕ) (P W : List ℕ) (s : Agenda) (a : List Entry) where
  listing_beside :
      (gs hs js : List Goal) (l : Line) (K : Goal → Type 0) (at : ℕ) (Q : Predicate) → State k P W s a gs js l → Chain K P W s.top at hs
      → Listing variables (OccursIn P) Q → Listing variables (OccursIn P) (Beside gs Q hs l)
  listing_beside gs hs js l K at Q x c y =
      listing_same variables (OccursIn P) (Beside gs Q hs l) (λ φ. All gs φ × ((Q φ × All hs φ) × Extends φ l))
      (λ φ v. (λ q. (q.0, (q.1, q.2)), λ q. (q.0, q.1.0, q.1.1)))
      (listing_both variables (OccursIn P) (All gs) (λ φ. (Q φ × All hs φ) × Extends φ l)
      (listing_goals variables (OccursIn P) gs (chain_listable _ P W s.top s.easy gs x.easy))
      (listing_both variables (OccursIn P) (λ φ. Q φ × All hs φ) (λ φ. Extends φ l)
      (listing_both variables (OccursIn P) Q (All hs) y (listing_goals variables (OccursIn P) hs (chain_listable K P W s.top at hs c)))
      (listing_line variables (OccursIn P) l x.line x.assigns)))

  -- the ways of an application
  pub ways_all :
      (gs hs : List Goal) (l : Line) (n : ℕ) → State k P W s a gs hs l → HasWays n hs → (φ : ℕ → Term) → Values φ
      → Sat gs hs l φ ↔ Under (λ i. Way i gs hs l) n φ
  ways_all gs [] l n x w φ v = absurd w
  ways_all gs (match (app f e) t ∷ hs) l n x w φ v =
      let r = alternatives φ f e t x.deferred.0.goal.target.normal in (
        λ q. let (i, h, u) = r.0 q.1.0 in (i, omega arith, (q.0, (u, q.1.1), q.2)),
        λ (i, h, u). (u.0, (r.1 (i, omega arith, u.1.0), u.1.1), u.2),
      )
  ways_all gs (match (lam b) t ∷ hs) l n x w φ v = absurd x.deferred.0.kind
  ways_all gs (match (loc m) t ∷ hs) l n x w φ v = absurd x.deferred.0.kind
  ways_all gs (match (con m) t ∷ hs) l n x w φ v = absurd x.deferred.0.kind
  ways_all gs (match (var m) t ∷ hs) l n x w φ v = absurd x.deferred.0.kind
  ways_all gs (build f t e ∷ hs) l n x w φ v = absurd w

  pub ways_apart : (gs hs : List Goal) (l : Line) (i j : ℕ) → State k P W s a gs hs l → (φ : ℕ → Term) → Way i gs hs l φ
      → Way j gs hs l φ → i ≡ j
  ways_apart gs [] l i j x φ p q = absurd p
  ways_apart gs (match (app f e) t ∷ hs) l i j x φ p q =
      alternatives_apart φ f e t i j x.deferred.0.goal.target.normal p.1.0 q.1.0
  ways_apart gs (match (lam b) t ∷ hs) l i j x φ p q = absurd p
  ways_apart gs (match (loc m) t ∷ hs) l i j x φ p q = absurd p
  ways_apart gs (match (con m) t ∷ hs) l i j x φ p q = absurd p
  ways_apart gs (match (var m) t ∷ hs) l i j x φ p q = absurd p
  ways_apart gs (build f t e ∷ hs) l i j x φ p q = absurd p

  way_listing : (gs hs : List Goal) (l : Line) (i : ℕ) → State k P W s a gs hs l → Listing variables (OccursIn P) (Way i gs hs l)
  way_listing gs [] l i x = listing_none variables (OccursIn P) (λ φ. ⊥) (λ φ v q. q)
  way_listing gs (match (app f e) t ∷ hs) l i x =
      listing_beside gs hs _ l _ _ (Alternative f e t i) x x.deferred.1
      (listing_alternative variables (OccursIn P) f e t x.deferred.0.goal.suits i)
  way_listing gs (match (lam b) t ∷ hs) l i x = listing_none variables (OccursIn P) (λ φ. ⊥) (λ φ v q. q)
  way_listing gs (match (loc m) t ∷ hs) l i x = listing_none variables (OccursIn P) (λ φ. ⊥) (λ φ v q. q)
  way_listing gs (match (con m) t ∷ hs) l i x = listing_none variables (OccursIn P) (λ φ. ⊥) (λ φ v q. q)
  way_listing gs (match (var m) t ∷ hs) l i x = listing_none variables (OccursIn P) (λ φ. ⊥) (λ φ v q. q)
  way_listing gs (build f t e ∷ hs) l i x = listing_none variables (OccursIn P) (λ φ. ⊥) (λ φ v q. q)

  -- the ways that are left
  abbrev pub Over : (ℕ → Predicate) → ℕ → ℕ → Predicate
  Over Q i n φ = (j : ℕ) × (i ≤ j) × (j < n) × Q j φ

  listing_left : (gs hs : List Goal) (l : Line) (m i n : ℕ) → n ≤ i + m → State k P W s a gs hs l
      → Listing variables (OccursIn P) (Over (λ j. Way j gs hs l) i n)
  listing_left gs hs l zero i n h x = listing_none variables (OccursIn P) (Over (λ j. Way j gs hs l) i n) (λ φ v (j, p, q, r). omega arith)
  listing_left gs hs l (suc m) i n h x =
      by_dec (λ _. Listing variables (OccursIn P) (Over (λ j. Way j gs hs l) i n)) (dec_lt i n)
      (λ g. listing_same variables (OccursIn P) (Over (λ j. Way j gs hs l) i n)
      (λ φ. Way i gs hs l φ ⊎ Over (λ j. Way j gs hs l) (suc i) n φ)
      (λ φ v. (to φ, from φ g))
      (listing_or variables (OccursIn P) (Way i gs hs l) (Over (λ j. Way j gs hs l) (suc i) n)
      (λ φ v p (j, u, w, q). omega (arith, ways_apart gs hs l i j x φ p q))
      (way_listing gs hs l i x) (listing_left gs hs l m (suc i) n (omega arith) x)))
      (λ g. listing_none variables (OccursIn P) (Over (λ j. Way j gs hs l) i n) (λ φ v (j, p, q, r). omega arith))
    where
      to : (φ : ℕ → Term) → Over (λ j. Way j gs hs l) i n φ → Way i gs hs l φ ⊎ Over (λ j. Way j gs hs l) (suc i) n φ
      to φ (j, p, q, r) =
          by_dec (λ _. Way i gs hs l φ ⊎ Over (λ j. Way j gs hs l) (suc i) n φ) (dec_lt i j) (λ u. inr (j, omega arith, q, r))
          (λ u. let e : j ≡ i = omega arith in inl (subst (λ z. Way z gs hs l φ) e r))

      from : (φ : ℕ → Term) → i < n → Way i gs hs l φ ⊎ Over (λ j. Way j gs hs l) (suc i) n φ → Over (λ j. Way j gs hs l) i n φ
      from φ g (inl p) = (i, omega arith, g, p)
      from φ g (inr (j, p, q, r)) = (j, omega arith, q, r)

  pub listing_over : (gs hs : List Goal) (l : Line) (i n : ℕ) → State k P W s a gs hs l
      → Listing variables (OccursIn P) (Over (λ j. Way j gs hs l) i n)
  listing_over gs hs l i n x = listing_left gs hs l n i n (omega arith) x

  pub under_over :
      (gs hs : List Goal) (l : Line) (i n : ℕ) → i ≤ n → (φ : ℕ → Term)
      → Under (λ j. Way j gs hs l) n φ ↔ (Under (λ j. Way j gs hs l) i φ ⊎ Over (λ j. Way j gs hs l) i n φ)
  under_over gs hs l i n h φ = (to, from)
    where
      to : Under (λ j. Way j gs hs l) n φ → Under (λ j. Way j gs hs l) i φ ⊎ Over (λ j. Way j gs hs l) i n φ
      to (j, p, q) = by_dec (λ _. Under (λ j. Way j gs hs l) i φ ⊎ Over (λ j. Way j gs hs l) i n φ) (dec_lt j i) (λ u. inl (j, u, q))
          (λ u. inr (j, omega arith, p, q))

      from : Under (λ j. Way j gs hs l) i φ ⊎ Over (λ j. Way j gs hs l) i n φ → Under (λ j. Way j gs hs l) n φ
      from (inl (j, p, q)) = (j, omega arith, q)
      from (inr (j, p, q, r)) = (j, q, r)

  -- the choices of a goal to build
  pub choices_all : (gs hs : List Goal) (l : Line) (n : ℕ) (c : List ℕ) → CopiesAre n hs → (φ : ℕ → Term)
      → Sat gs hs l φ ↔ Choices c 0 gs hs l φ
  choices_all gs [] l n c w φ = absurd w
  choices_all gs (match p t ∷ hs) l n c w φ = absurd w
  choices_all gs (build f t e ∷ hs) l n c w φ =
      let r = chosen_none φ f t e (chosen_in c) in
      (λ q. (q.0, (r.0 q.1.0, q.1.1), q.2), λ q. (q.0, (r.1 q.1.0, q.1.1), q.2))

  pub choices_last : (gs hs : List Goal) (l : Line) (n j : ℕ) (c : List ℕ) → CopiesAre n hs → n ≤ j → (φ : ℕ → Term)
      → Choices c j gs hs l φ ↔ ChosenBody c gs hs l φ
  choices_last gs [] l n j c w h φ = absurd w
  choices_last gs (match p t ∷ hs) l n j c w h φ = absurd w
  choices_last gs (build f t e ∷ hs) l n j c w h φ =
      let r = chosen_all φ f t e (chosen_in c) j (omega arith) in
      (λ q. (q.0, (r.0 q.1.0, q.1.1), q.2), λ q. (q.0, (r.1 q.1.0, q.1.1), q.2))

  module _ (c : List ℕ) (j : ℕ) (h : j < length c) where
    same_below : (v i : ℕ) → i < j → chosen_in (set c j v) i ≡ chosen_in c i
    same_below v i g = ap (λ z. ltb 0 z) (get_or-set_other c j i v 0 (omega arith))

    kept_here : chosen_in (set c j 0) j ≡ false
    kept_here = ap (λ z. ltb 0 z) (get_or-set_same c j 0 0 h)

    replaced_here : chosen_in (set c j 1) j ≡ true
    replaced_here = ap (λ z. ltb 0 z) (get_or-set_same c j 1 0 h)

    pub choices_next :
        (gs hs : List Goal) (l : Line) (n : ℕ) → CopiesAre n hs → (φ : ℕ → Term)
        → Choices c j gs hs l φ ↔ (Choices (set c j 1) (j + 1) gs hs l φ ⊎ Choices (set c j 0) (j + 1) gs hs l φ)
    choices_next gs [] l n w φ = absurd w
    choices_next gs (match p t ∷ hs) l n w φ = absurd w
    choices_next gs (build f t e ∷ hs) l n w φ =
        let r = chosen_next φ f t e (chosen_in c) (chosen_in (set c j 0)) (chosen_in (set c j 1)) j (same_below 0) (same_below 1)
        kept_here replaced_here in (
          λ q. ⊎_elim (λ u. inr (q.0, (more (set c j 0) u, q.1.1), q.2))
              (λ u. inl (q.0, (more (set c j 1) u, q.1.1), q.2)) (r.0 q.1.0),
          ⊎_elim (λ q. (q.0, (r.1 (inr (less (set c j 1) q.1.0)), q.1.1), q.2))
              (λ q. (q.0, (r.1 (inl (less (set c j 0) q.1.0)), q.1.1), q.2)),
        )
      where
        more : (d : List ℕ) → ChosenSoFar f t e (chosen_in d) (suc j) φ → ChosenSoFar f t e (chosen_in d) (j + 1) φ
        more d u = subst (λ z. ChosenSoFar f t e (chosen_in d) z φ) (omega arith) u

        less : (d : List ℕ) → ChosenSoFar f t e (chosen_in d) (j + 1) φ → ChosenSoFar f t e (chosen_in d) (suc j) φ
        less d u = subst (λ z. ChosenSoFar f t e (chosen_in d) z φ) (omega arith) u

    pub choices_apart :
        (gs hs : List Goal) (l : Line) (n : ℕ) → CopiesAre n hs → j < n → (φ : ℕ → Term)
        → Choices (set c j 1) (j + 1) gs hs l φ → Choices (set c j 0) (j + 1) gs hs l φ → ⊥
    choices_apart gs [] l n w g φ q p = absurd w
    choices_apart gs (match u t ∷ hs) l n w g φ q p = absurd w
    choices_apart gs (build f t e ∷ hs) l n w g φ q p =
        chosen_apart φ f t e (chosen_in c) (chosen_in (set c j 0)) (chosen_in (set c j 1)) j (same_below 0) (same_below 1)
        kept_here replaced_here (omega arith)
        (subst (λ z. ChosenSoFar f t e (chosen_in (set c j 0)) z φ) (omega arith) p.1.0)
        (subst (λ z. ChosenSoFar f t e (chosen_in (set c j 1)) z φ) (omega arith) q.1.0)

  pub choices_listing : (gs hs : List Goal) (l : Line) (j : ℕ) (c : List ℕ) → State k P W s a gs hs l
      → Listing variables (OccursIn P) (Choices c j gs hs l)
  choices_listing gs [] l j c x = listing_none variables (OccursIn P) (λ φ. ⊥) (λ φ v q. q)
  choices_listing gs (match p t ∷ hs) l j c x = listing_none variables (OccursIn P) (λ φ. ⊥) (λ φ v q. q)
  choices_listing gs (build f t e ∷ hs) l j c x =
      listing_beside gs hs _ l _ _ (ChosenSoFar f t e (chosen_in c) j) x x.deferred.1
      (listing_chosen variables (OccursIn P) f t e x.deferred.0.goal.suits (chosen_in c) j)
