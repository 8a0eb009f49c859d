-- What the search gives is the recipe, all pairs having been passed over; or it is the first normal form of the whole in which the part of
-- one pair, the first that isn't passed over, was rewritten and nothing else was changed. The number that is reported is that of all pairs,
-- or of those up to and with that one. By induction on the pairs. Assumes nothing.
--   PassedOver b xs             each pair of xs is passed over
--   NoneUsed b s xs c form      no rule was used: the form is the recipe s, and c counts the pairs xs
--   RuleUsed b r xs c form      pair c of xs, counted from 1, was used on the recipe of the table r, and the form comes of it
use mathlib.Core.Path.{◌≡◌, refl, sym, ap, subst}
use mathlib.Core.List.{List, [], ◌∷◌, ◌++◌}
use mathlib.Core.Logic.{◌⊎◌, inl, inr, ⊎_elim}
use Prim.Native.Nat.{ℕ, suc, ◌+◌, ◌*◌}
use native.Mathlib.Omega.{arith}
use lib.ListN.{length}
use Rattle.terms.specs.Figures.{most_sweeps}
use Rattle.terms.specs.Term.{Term, size, Closed}
use Rattle.terms.specs.Table.{IsTable}
use Rattle.terms.specs.Normalization.{FirstNormal}
use Rattle.terms.specs.Listing.{In}
use Rattle.records.specs.Parts.{Part}
use Rattle.rules.specs.Rules.{left_table, right_table, places}
use Rattle.replacing.specs.Replacing.{replaced}
use Rattle.attempts.specs.Pairs.{next, Tried}
use Rattle.attempts.proofs.Forms.{FormMade, form_made}
use Rattle.rules.specs.Pairs.{Pair, pairs}
use Rattle.rules.proofs.Pairs.{parts_stand, pairs_in}
use Rattle.scanning.specs.Search.{given, SearchEnds, Found}

abbrev pub PassedOver : List ℕ → List Pair → Type 0
PassedOver b xs = (x : Pair) → In x xs → Tried (left_table b x.1) (right_table b x.1) x.0.1 next

pub record NoneUsed (b : List ℕ) (s : Term) (xs : List Pair) (c : ℕ) (form : Term) : Type 0 where
  pub same : form ≡ s
  pub count : c ≡ length xs
  pub passed : PassedOver b xs

pub record RuleUsed (b r : List ℕ) (xs : List Pair) (c : ℕ) (form : Term) : Type 0 where
  -- the pair: a closed part, by its first record, and the place of a rule
  pub at : ℕ
  pub part : Term
  pub place : ℕ
  pub stands : Part r (4 * at) part
  pub closed : Closed 0 part
  -- the first that isn't passed over, with the number c
  pub before : List Pair
  pub behind : List Pair
  pub split : xs ≡ before ++ (((at, part), place) ∷ behind)
  pub count : c ≡ suc (length before)
  pub passed : PassedOver b before
  -- what rewrite gives, by line 0
  pub put : Term
  pub made : FormMade (left_table b place) (right_table b place) part put
  -- the whole, and its first normal form
  pub whole : Term
  pub table : IsTable (replaced r at part put) whole
  pub first : FirstNormal most_sweeps 0 whole form

abbrev Standing : List ℕ → List Pair → Type 0
Standing r xs = (x : Pair) → In x xs → Part r (4 * x.0.0) x.0.1 × Closed 0 x.0.1

-- one pair more that is passed over
module _ (b : List ℕ) (x : Pair) (h : Tried (left_table b x.1) (right_table b x.1) x.0.1 next) where
  passed_more : (xs : List Pair) → PassedOver b xs → PassedOver b (x ∷ xs)
  passed_more xs g y (inl e) = subst (λ (z : Pair). Tried (left_table b z.1) (right_table b z.1) z.0.1 next) (sym e) h
  passed_more xs g y (inr i) = g y i

  none_more : (s : Term) (xs : List Pair) (c : ℕ) (form : Term) → NoneUsed b s xs c form → NoneUsed b s (x ∷ xs) (suc c) form
  none_more s xs c form y = record { same = y.same; count = ap suc y.count; passed = passed_more xs y.passed }

  used_more : (r : List ℕ) (xs : List Pair) (c : ℕ) (form : Term) → RuleUsed b r xs c form → RuleUsed b r (x ∷ xs) (suc c) form
  used_more r xs c form y = record {
    at = y.at;
    part = y.part;
    place = y.place;
    stands = y.stands;
    closed = y.closed;
    before = x ∷ y.before;
    behind = y.behind;
    split = ap (x ∷◌) y.split;
    count = ap suc y.count;
    passed = passed_more y.before y.passed;
    put = y.put;
    made = y.made;
    whole = y.whole;
    table = y.table;
    first = y.first;
  }

-- n pairs having been passed over before
searched_used : (b r : List ℕ) (s : Term) (xs : List Pair) (n : ℕ) (form : Term) (c : ℕ) → Standing r xs
    → SearchEnds b r s xs n (given form c) → (m : ℕ) × (c ≡ n + m) × (NoneUsed b s xs m form ⊎ RuleUsed b r xs m form)
searched_used b r s [] n form c h e =
    let d : c ≡ n = cc in (0, omega (arith, d), inl (record { same = cc; count = refl; passed = λ x i. absurd i }))
searched_used b r s (((k, t), i) ∷ xs) n form c h (inl (x, y)) =
    let z = searched_used b r s xs (suc n) form c (λ d m. h d (inr m)) y in (
      suc z.0,
      omega (arith, z.1),
      ⊎_elim (λ d. inl (none_more b ((k, t), i) x s xs z.0 form d)) (λ d. inr (used_more b ((k, t), i) x r xs z.0 form d)) z.2,
    )
searched_used b r s (((k, t), i) ∷ xs) n form c h (inr (inl (m, y, e))) = absurd (let z : ◌≡◌ {A = ℕ} 0 1 = cc in omega arith)
searched_used b r s (((k, t), i) ∷ xs) n form c h (inr (inr (u, w, y, j, inl (m, z, e)))) =
    absurd (let z : ◌≡◌ {A = ℕ} 0 1 = cc in omega arith)
searched_used b r s (((k, t), i) ∷ xs) n form c h (inr (inr (u, w, y, j, inr (p, (v, f, e))))) =
    let d : c ≡ suc n = cc in
    let g : v ≡ form = cc in
    let q = h ((k, t), i) (inl refl) in (
      1,
      omega (arith, d),
      inr (record {
        at = k;
        part = t;
        place = i;
        stands = q.0;
        closed = q.1;
        before = [];
        behind = xs;
        split = refl;
        count = refl;
        passed = λ x m. absurd m;
        put = u;
        made = form_made (left_table b i) (right_table b i) t u y;
        whole = w;
        table = j;
        first = subst (FirstNormal most_sweeps 0 w) g f;
      }),
    )

module _ (b r : List ℕ) (form : Term) (c : ℕ) (x : Found b r (given form c)) where
  abbrev all : List Pair
  all = pairs x.parts (places b)

  pub found_used : NoneUsed b x.term all c form ⊎ RuleUsed b r all c form
  found_used =
      let y = searched_used b r x.term all 0 form c
      (λ d m. parts_stand r 0 (size x.term) x.parts x.closed d.0 (pairs_in x.parts (places b) d m).0) x.searched in
      let e : y.0 ≡ c = omega (arith, y.1) in
      subst (λ (m : ℕ). NoneUsed b x.term all m form ⊎ RuleUsed b r all m form) e y.2
