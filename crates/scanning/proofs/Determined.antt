-- A book whose rules pass has one outcome for a recipe: two that the search could end with are equal. One term stands at a record, so the
-- closed parts are known, and with them the pairs; one outcome comes of each pair; and the whole has one first normal form. By induction on
-- the pairs. Assumes nothing.
use mathlib.Core.Path.{◌≡◌, refl, sym, ap, ◌∙◌, subst}
use mathlib.Core.List.{List, [], ◌∷◌, append-nil}
use mathlib.Core.Logic.{inl, inr}
use Prim.Native.Nat.{ℕ, zero, suc, ◌*◌}
use native.Mathlib.Omega.{arith}
use Rattle.terms.specs.Figures.{variables, most_sweeps}
use Rattle.terms.specs.Term.{Term, size, Closed}
use Rattle.terms.specs.Table.{encode, good_records}
use Rattle.terms.specs.Listing.{In}
use Rattle.terms.specs.Refusal.{Passed, normal_form_rows}
use Rattle.terms.proofs.Table.{encode_one, good_below}
use Rattle.terms.proofs.Refusal.{passed_later}
use Rattle.terms.proofs.Normalization.{first_normal_one}
use Rattle.records.proofs.Parts.{part_one}
use Rattle.records.proofs.Tests.{not_false_true}
use Rattle.rules.specs.Rules.{left_table, right_table, places, rule_rows, rules_rows}
use Rattle.replacing.specs.Replacing.{replaced}
use Rattle.attempts.specs.Pairs.{next, form, stop, Tried}
use Rattle.attempts.proofs.Determined.{Lower, unless_one, tried_one}
use Rattle.rules.specs.Pairs.{Parts, Pair, pairs}
use Rattle.scanning.specs.Search.{BookOutcome, given, refused, WholeSwept, PairEnds, SearchEnds, Found}
use Rattle.rules.proofs.Pairs.{pairs_in}

whole_one : (w : Term) (c : ℕ) (o z : BookOutcome) → WholeSwept w c o → WholeSwept w c z → o ≡ z
whole_one w c o z =
    unless_one (normal_form_rows (λ t. t ≡ w) 0) refused o z _ _
    (λ x y. x.2 ∙ ap (λ (v : Term). given v c) (first_normal_one most_sweeps 0 w x.0 y.0 x.1 y.1) ∙ sym y.2)

-- one pair
module _ (p q : List ℕ) (t : Term) (h : Lower p) (r : List ℕ) (k c : ℕ) where
  next_ends : (o : BookOutcome) → Tried p q t next → PairEnds p q r k t c o → ⊥
  next_ends o x (inl (n, y, e)) =
      let d = tried_one p q t h next (stop n) x y in let z : ◌≡◌ {A = ℕ} 0 1 = cc in omega arith
  next_ends o x (inr (u, w, y, i, e)) =
      let d = tried_one p q t h next (form u) x y in let z : ◌≡◌ {A = ℕ} 0 1 = cc in omega arith

  stop_form : (n : ℕ) (u : Term) → Tried p q t (stop n) → Tried p q t (form u) → ⊥
  stop_form n u x y = let d = tried_one p q t h (stop n) (form u) x y in let z : ◌≡◌ {A = ℕ} 0 1 = cc in omega arith

  ends_one : (o z : BookOutcome) → PairEnds p q r k t c o → PairEnds p q r k t c z → o ≡ z
  ends_one o z (inl (m, x, e)) (inl (n, y, f)) =
      let d = tried_one p q t h (stop m) (stop n) x y in let g : m ≡ n = cc in e ∙ ap refused g ∙ sym f
  ends_one o z (inl (m, x, e)) (inr (v, s, y, j, f)) = absurd (stop_form m v x y)
  ends_one o z (inr (u, w, x, i, e)) (inl (n, y, f)) = absurd (stop_form n u y x)
  ends_one o z (inr (u, w, x, i, e)) (inr (v, s, y, j, f)) =
      let d = tried_one p q t h (form u) (form v) x y in
      let g : u ≡ v = cc in
      let a : w ≡ s = encode_one w s (sym i.0 ∙ ap (replaced r k t) g ∙ j.0) in
      whole_one s c o z (subst (λ (l : Term). WholeSwept l c o) a e) f

-- all pairs
searched_one : (b r : List ℕ) (s : Term) (xs : List Pair) (c : ℕ) (o z : BookOutcome) → ((x : Pair) → In x xs → Lower (left_table b x.1))
    → SearchEnds b r s xs c o → SearchEnds b r s xs c z → o ≡ z
searched_one b r s [] c o z h x y = x ∙ sym y
searched_one b r s (((k, t), i) ∷ xs) c o z h (inl (p, x)) (inl (q, y)) = searched_one b r s xs (suc c) o z (λ d m. h d (inr m)) x y
searched_one b r s (((k, t), i) ∷ xs) c o z h (inl (p, x)) (inr y) =
    absurd (next_ends (left_table b i) (right_table b i) t (h ((k, t), i) (inl refl)) r k (suc c) z p y)
searched_one b r s (((k, t), i) ∷ xs) c o z h (inr x) (inl (q, y)) =
    absurd (next_ends (left_table b i) (right_table b i) t (h ((k, t), i) (inl refl)) r k (suc c) o q x)
searched_one b r s (((k, t), i) ∷ xs) c o z h (inr x) (inr y) =
    ends_one (left_table b i) (right_table b i) t (h ((k, t), i) (inl refl)) r k (suc c) o z x y

parts_one : (r : List ℕ) (k n : ℕ) (ps qs : List (ℕ × Term)) → Parts r k n ps → Parts r k n qs → ps ≡ qs
parts_one r k zero ps qs x y = x ∙ sym y
parts_one r k (suc n) ps qs (t, a, inl (c, (us, e, x))) (u, b, inl (d, (vs, f, y))) =
    let g : t ≡ u = part_one r (4 * k) t u a b in
    e ∙ ap (λ (w : Term). (k, w) ∷ us) g ∙ ap (λ (l : List (ℕ × Term)). (k, u) ∷ l) (parts_one r (suc k) n us vs x y) ∙ sym f
parts_one r k (suc n) ps qs (t, a, inl (c, x)) (u, b, inr (d, y)) = absurd (d (subst (Closed 0) (part_one r (4 * k) t u a b) c))
parts_one r k (suc n) ps qs (t, a, inr (c, x)) (u, b, inl (d, y)) = absurd (c (subst (Closed 0) (part_one r (4 * k) u t b a) d))
parts_one r k (suc n) ps qs (t, a, inr (c, x)) (u, b, inr (d, y)) = parts_one r (suc k) n ps qs x y

-- what row 2 of each rule leaves
rules_lower : (b is : List ℕ) → Passed (rules_rows b is) → (i : ℕ) → In i is → Lower (left_table b i)
rules_lower b (j ∷ is) h i (inr m) = rules_lower b is (passed_later (rule_rows b j) (rules_rows b is) h) i m
rules_lower b (j ∷ is) h i (inl e) = subst (λ (k : ℕ). Lower (left_table b k)) (sym e) left
  where
    left : Lower (left_table b j)
    left u t =
        let g = not_false_true (good_records variables (left_table b j)) h.1.1.0 in
        (good_below variables u [] (ap (good_records variables) (append-nil (encode u) ∙ sym t.0) ∙ sym g)).0
rules_lower b [] h i x'' = elim x'' [ ]

pub found_one : (b r : List ℕ) → Passed (rules_rows b (places b)) → (o z : BookOutcome) → Found b r o → Found b r z → o ≡ z
found_one b r h o z x y =
    let e : x.term ≡ y.term = encode_one x.term y.term (sym x.table.0 ∙ y.table.0) in
    let f : x.parts ≡ y.parts =
    parts_one r 0 (size y.term) x.parts y.parts (subst (λ (t : Term). Parts r 0 (size t) x.parts) e x.closed) y.closed in
    searched_one b r y.term (pairs y.parts (places b)) 0 o z
    (λ d m. rules_lower b (places b) h d.1 (pairs_in y.parts (places b) d m).1)
    (subst (λ (ps : List (ℕ × Term)). SearchEnds b r y.term (pairs ps (places b)) 0 o) f
    (subst (λ (t : Term). SearchEnds b r t (pairs x.parts (places b)) 0 o) e x.searched)) y.searched
