-- The goals of a search, and that lines which list their assignments exist, whatever a search has done of them. A goal that builds a head
-- is one of several matches, one for each body; goals are met together. Assumes nothing.
--   Searches gs l φ   φ satisfies the goals gs and extends the line l
use mathlib.Core.Path.{◌≡◌, refl, sym, ◌∙◌}
use mathlib.Core.List.{List, [], ◌∷◌, ◌++◌}
use mathlib.Core.Logic.{◌⊎◌, inl, inr, ◌↔◌}
use Prim.Native.Nat.{ℕ}
use lib.ListN.{length}
use Rattle.terms.specs.Term.{Term, lam, Normal, Occurs}
use Rattle.terms.specs.Sweep.{fill}
use Rattle.terms.specs.Assignment.{Assigns}
use Rattle.terms.specs.Listing.{In, Line}
use Rattle.terms.proofs.Contracted.{contracted_sweep}
use Rattle.terms.proofs.Table.{lam_inj}
use Rattle.matching.specs.Goals.{Goal, Meets, All, Suits, Listable, Goal.match, Goal.build, Sweeps, Build}
use Rattle.matching.specs.Lists.{Values, Extends, Predicate, Lists}
use Rattle.matching.proofs.Members.{flat_map}
use Rattle.matching.proofs.Step.{lam_normal_of}
use Rattle.matching.proofs.Splits.{buildable, buildable_in, in_buildable, buildable_distinct}
use Rattle.matching.proofs.Lines.{open_line, length_blank, extends_blank, assigns_blank}
use Rattle.matching.proofs.Lists.{lists_same, lists_more, lists_none, lists_one, lists_or, lists_some, lists_and}
use Rattle.matching.proofs.Lister.{solve, lists_solve}

module _ (n : ℕ) (S : ℕ → Type 0) where
  lists_match : (p t : Term) → Suits n S p → Normal t → Lists n S (Sweeps p t) (solve n p t)
  lists_match p t s h = lists_more n S (λ i. Occurs i p) (Sweeps p t) (solve n p t) s.1 (lists_solve n p t s.0 h)

  lists_build : (f t e : Term) → Suits n S f → Normal t → Lists n S (Build f t e) (flat_map (λ b. solve n f (lam b)) (buildable t e))
  lists_build f t e s h =
      lists_same n S (Build f t e) (λ φ. (b : Term) × In b (buildable t e) × Sweeps f (lam b) φ)
      (flat_map (λ b. solve n f (lam b)) (buildable t e))
      (λ φ v. (
        λ x. (x.0, in_buildable t e x.0 x.2 x.3 (normal φ x), x.1),
        λ x. let k = buildable_in t e x.0 x.1 in (x.0, x.2, k.0, k.1),
      ))
      (lists_some n S (λ b. Sweeps f (lam b)) (λ b. solve n f (lam b)) (buildable t e) (buildable_distinct t e)
      (λ φ v b c i j p q. lam_inj b c (sym p ∙ q)) (λ b i. lists_match f (lam b) s (buildable_in t e b i).2))
    where
      normal : (φ : ℕ → Term) (x : Build f t e φ) → Normal (lam x.0)
      normal φ x = lam_normal_of x.0 e t h (rw x.1 at (contracted_sweep (fill φ f))) x.2

  -- there are lines for any goals
  pub record Listing (Q : Predicate) : Type 0 where
    pub lines : List Line
    pub lists : Lists n S Q lines

  pub listing_goal : (g : Goal) → Listable n S g → Listing (Meets g)
  listing_goal (match p t) x = record { lines = solve n p t; lists = lists_match p t x.0 x.1 }
  listing_goal (build f t e) x = record {
    lines = flat_map (λ b. solve n f (lam b)) (buildable t e);
    lists = lists_build f t e x.0 x.1;
  }

  pub listing_same : (Q R : Predicate) → ((φ : ℕ → Term) → Values φ → Q φ ↔ R φ) → Listing R → Listing Q
  listing_same Q R e x = record { lines = x.lines; lists = lists_same n S Q R x.lines e x.lists }

  pub listing_none : (Q : Predicate) → ((φ : ℕ → Term) → Values φ → ¬ Q φ) → Listing Q
  listing_none Q g = record { lines = []; lists = lists_none n S Q g }

  pub listing_or : (Q R : Predicate) → ((φ : ℕ → Term) → Values φ → Q φ → R φ → ⊥) → Listing Q → Listing R → Listing (λ φ. Q φ ⊎ R φ)
  listing_or Q R apart x y = record {
    lines = x.lines ++ y.lines;
    lists = lists_or n S Q R x.lines y.lines apart x.lists y.lists;
  }

  pub listing_both : (Q R : Predicate) → Listing Q → Listing R → Listing (λ φ. Q φ × R φ)
  listing_both Q R x y = record { lines = _; lists = lists_and n S Q R x.lines y.lines x.lists y.lists }

  pub listing_line : (l : Line) → length l ≡ n → Assigns S l → Listing (λ φ. Extends φ l)
  listing_line l e a = record { lines = l ∷ []; lists = lists_one n S (λ φ. Extends φ l) l e a (λ φ v. (λ x. x, λ x. x)) }

  pub listing_goals : (gs : List Goal) → ((g : Goal) → In g gs → Listable n S g) → Listing (All gs)
  listing_goals [] x = record {
    lines = open_line n ∷ [];
    lists = lists_one n S (λ φ. Unit {0}) (open_line n) (length_blank n) (assigns_blank S n) (λ φ v. (λ _. extends_blank φ n, λ _. tt));
  }
  listing_goals (g ∷ gs) x = listing_both (Meets g) (All gs) (listing_goal g (x g (inl refl))) (listing_goals gs (λ h i. x h (inr i)))
