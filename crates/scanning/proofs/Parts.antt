-- The search from one record on, from what is found at that record and from the search behind it. A part begins at each record, so that the
-- closed parts from a record on can be listed. Assumes nothing.
--   PartsLeft b r c k   what is sought from record k on, where c pairs were passed over before, is sought in the whole recipe
use mathlib.Core.Path.{◌≡◌, refl, sym, ap, ◌∙◌, subst}
use mathlib.Core.Bool.{Bool, true, false}
use mathlib.Core.List.{List, [], ◌∷◌}
use mathlib.Core.Logic.{◌⊎◌, inl, inr}
use Prim.Native.Nat.{ℕ, zero, suc, ◌+◌, ◌*◌, ◌-◌, ◌/◌, ◌≤◌, ◌<◌}
use native.Mathlib.Decide.{dec_lt}
use native.Mathlib.Omega.{arith}
use lib.ListN.{length, take, drop}
use Rattle.std.specs.declared.result.Result.{Result}
use Rattle.std.specs.declared.result.Result.TheVariants.{Ok, Err}
use Rattle.terms.specs.Figures.{recipe_records, table_bytes, place_bytes, most_places}
use Rattle.terms.specs.Term.{Term, app, lam, loc, con, var, size, Closed}
use Rattle.terms.specs.Table.{encode}
use Rattle.terms.proofs.Table.{encode_length}
use Rattle.records.specs.Parts.{Part, Tree, Ends}
use Rattle.records.specs.Tests.{Says, Tells}
use Rattle.records.specs.Checks.{Recipe}
use Rattle.records.proofs.Parts.{part_one, part_bytes, tree}
use Rattle.refusals.specs.declared.Refusal.{Refusal}
use Rattle.rules.specs.Rules.{places}
use Rattle.rules.specs.Pairs.{Parts, pairs}
use Rattle.replacing.proofs.Holes.{Hole, hole, hole_part}
use Rattle.replacing.proofs.Wholes.{recipe_length, recipe_hole, recipe_part}
use Rattle.scanning.specs.declared.Scan.{Scan}
use Rattle.scanning.specs.declared.SearchEnd.{SearchEnd}
use Rattle.scanning.specs.Search.{SearchEnds}
use Rattle.scanning.specs.Steps.{RuleTables, RuleScan, PartScan, Sought}
use Rattle.scanning.proofs.Rules.{scan_most, pairs_next, pairs_refused, scan_table, pairs_form}

-- the part that begins at record k
module _ (r : List ℕ) (x : Recipe r) (k : ℕ) (h : 4 * k < length r) where
  abbrev here : Hole x.tree k
  here = recipe_hole r x k h

  here_part : Part r (4 * k) here.here
  here_part = recipe_part r x k h

  module _ (end : ℕ) (y : Ends r (4 * k) end) where
    here_ends : end ≡ 4 * k + 4 * size here.here
    here_ends = y.exact here.here here_part

    here_bytes : take (end - 4 * k) (drop (4 * k) r) ≡ encode here.here
    here_bytes = part_bytes r (4 * k) (end - 4 * k) here.here here_part (omega (arith, here_ends))

    pub here_tree : Tree (take (end - 4 * k) (drop (4 * k) r)) × (0 + length (take (end - 4 * k) (drop (4 * k) r)) ≤ table_bytes)
    here_tree = (
      tree (take (end - 4 * k) (drop (4 * k) r)) here.here here_bytes,
      omega (arith, ap length here_bytes, encode_length here.here, here_ends, y.within, recipe_length r x, x.most),
    )

    module _ (b : Bool) (w : Tells (take (end - 4 * k) (drop (4 * k) r)) (Closed 0) b) where
      here_closed : b ≡ true → Closed 0 here.here
      here_closed e = subst (λ (z : Bool). Says z (Closed 0 here.here)) e (w here.here here_bytes)

      pub here_recipe : b ≡ true → Recipe (take (end - 4 * k) (drop (4 * k) r))
      here_recipe e = record {
        tree = here.here;
        table = (here_bytes, here_closed e);
        normal = here.normal x.normal;
        ground = here.ground x.ground;
        most = omega (arith, here_ends, y.within, recipe_length r x, x.most);
      }

      pub part_open : b ≡ false → (d : List ℕ) (c : ℕ) (f : List ℕ) → PartScan d r k c (Ok (Scan.PassedOver c)) f
      part_open e d c f t p =
          let q = part_one r (4 * k) here.here t here_part p in
          let o = subst (λ (z : Bool). Says z (Closed 0 here.here)) e (w here.here here_bytes) in
          inr (subst (λ (u : Term). ¬ Closed 0 u) q o, refl)

      pub part_closed : b ≡ true → (d : List ℕ) (c : ℕ) (a : Result Scan Refusal) (f : List ℕ)
          → ((t : Term) → take (end - 4 * k) (drop (4 * k) r) ≡ encode t → RuleScan d t (places d) c a f)
          → PartScan d r k c a f
      part_closed e d c a f s t p =
          let q = part_one r (4 * k) here.here t here_part p in
          inl (subst (Closed 0) q (here_closed e), s t (here_bytes ∙ ap encode q))

-- how many pairs are passed over before a part, and with it
pub pairs_most : (r : List ℕ) → Recipe r → (k : ℕ) → 4 * k < length r → (c : ℕ) → c ≤ most_places * k → c ≤ most_places * recipe_records
pairs_most r x k h c g = omega (arith, recipe_length r x, x.most)

pub part_most : (b r lines values work : List ℕ) → RuleTables b lines values work → Recipe r → (k : ℕ) → 4 * k < length r → (c : ℕ)
    → c ≤ most_places * k → (a : Result Scan Refusal) (f : List ℕ) → PartScan b r k c a f → (m : ℕ) → a ≡ Ok (Scan.PassedOver m)
    → m ≤ most_places * (k + 1)
part_most b r lines values work x y k h c g a f s m e = go (s (here r y k h).here (here_part r y k h))
  where
    go : (Closed 0 (here r y k h).here × RuleScan b (here r y k h).here (places b) c a f)
        ⊎ (¬ Closed 0 (here r y k h).here × (a ≡ Ok (Scan.PassedOver c))) → m ≤ most_places * (k + 1)
    go (inl z) = omega (arith, scan_most b (here r y k h).here 0 (length b / place_bytes) c a f z.1 m e, x.few)
    go (inr z) = let q : m ≡ c = cc in omega (arith, q)

-- the closed parts from a record on
closed? : (d : ℕ) (t : Term) → Dec (Closed d t)
closed? d (app f a) = elim (closed? d f) [
  | yes x ↦ elim (closed? d a) [ yes y ↦ yes (x, y) | no y ↦ no (λ p. y p.1) ]
  | no x ↦ no (λ p. x p.0)
]
closed? d (lam b) = closed? (suc d) b
closed? d (loc n) = dec_lt n d
closed? d (con n) = yes tt
closed? d (var n) = yes tt

record AllParts (r : List ℕ) (k n : ℕ) : Type 0 where
  pub parts : List (ℕ × Term)
  pub closed : Parts r k n parts

more_parts : (r : List ℕ) (k n : ℕ) (t : Term) → Part r (4 * k) t → Dec (Closed 0 t) → AllParts r (suc k) n → AllParts r k (suc n)
more_parts r k n t p (yes c) x = record { parts = (k, t) ∷ x.parts; closed = (t, p, inl (c, (x.parts, refl, x.closed))) }
more_parts r k n t p (no c) x = record { parts = x.parts; closed = (t, p, inr (c, x.closed)) }

all_parts_lem : (r : List ℕ) (s : Term) → r ≡ encode s → (k n : ℕ) → k + n ≡ size s → AllParts r k n
all_parts_lem r s e k zero h = record { parts = []; closed = refl }
all_parts_lem r s e k (suc n) h =
    let x = hole s k (omega arith) in
    more_parts r k n x.here (hole_part r s k e x) (closed? 0 x.here) (all_parts_lem r s e (suc k) n (omega arith))

-- no record is left
pub sought_end : (b r : List ℕ) (k c : ℕ) (f : List ℕ) → k ≡ length r / 4
    → Sought b r k (length r / 4 - k) c (Ok (SearchEnd.Nothing c)) f
sought_end b r k c f e =
    let n : length r / 4 - k ≡ 0 = omega arith in
    record { form_of = tt; parts = []; closed = subst (λ (m : ℕ). Parts r k m []) (sym n) refl; reaches = λ s o z. z }

-- what is found at record k
module _ (b r : List ℕ) (x : Recipe r) (k : ℕ) (h : 4 * k < length r) (c : ℕ) (a : Result Scan Refusal) (f : List ℕ)
    (y : PartScan b r k c a f) where
  abbrev t : Term
  t = (here r x k h).here

  stands : Part r (4 * k) t
  stands = here_part r x k h

  abbrev rest : ℕ
  rest = length r / 4 - (k + 1)

  left_is : length r / 4 - k ≡ suc rest
  left_is = omega (arith, recipe_length r x)

  scan_as : (d : Result Scan Refusal) → a ≡ d → (Closed 0 t × RuleScan b t (places b) c d f) ⊎ (¬ Closed 0 t × (d ≡ Ok (Scan.PassedOver c)))
  scan_as d e =
      subst (λ (v : Result Scan Refusal). (Closed 0 t × RuleScan b t (places b) c v f) ⊎ (¬ Closed 0 t × (v ≡ Ok (Scan.PassedOver c)))) e
      (y t stands)

  behind : AllParts r (suc k) rest
  behind = all_parts_lem r x.tree x.table.0 (suc k) rest (omega (arith, recipe_length r x))

  parts_here : Closed 0 t → (ps : List (ℕ × Term)) → Parts r (suc k) rest ps → Parts r k (length r / 4 - k) ((k, t) ∷ ps)
  parts_here o ps z = subst (λ (i : ℕ). Parts r k i ((k, t) ∷ ps)) (sym left_is) (t, stands, inl (o, (ps, refl, z)))

  parts_open : ¬ Closed 0 t → (ps : List (ℕ × Term)) → Parts r (suc k) rest ps → Parts r k (length r / 4 - k) ps
  parts_open o ps z = subst (λ (i : ℕ). Parts r k i ps) (sym left_is) (t, stands, inr (o, z))

  sought_refused : (e : Refusal) → a ≡ Err e → Sought b r k (length r / 4 - k) c (Err e) f
  sought_refused e q = go (scan_as (Err e) q)
    where
      go : (Closed 0 t × RuleScan b t (places b) c (Err e) f) ⊎ (¬ Closed 0 t × (Err e ≡ Ok (Scan.PassedOver c)))
          → Sought b r k (length r / 4 - k) c (Err e) f
      go (inl (o, z)) = record {
        form_of = tt;
        parts = (k, t) ∷ behind.parts;
        closed = parts_here o behind.parts behind.closed;
        reaches = λ s d g.
            rw g (pairs_refused b r s k t (pairs behind.parts (places b)) (places b) c e f z);
      }
      go (inr (o, z)) = absurd (let g : ◌≡◌ {A = ℕ} 0 1 = cc in omega arith)

  sought_form : (n m : ℕ) → a ≡ Ok (Scan.Form n m) → Sought b r k (length r / 4 - k) c (Ok (SearchEnd.Form k n m)) f
  sought_form n m q = go (scan_as (Ok (Scan.Form n m)) q)
    where
      go : (Closed 0 t × RuleScan b t (places b) c (Ok (Scan.Form n m)) f)
          ⊎ (¬ Closed 0 t × (◌≡◌ {A = Result Scan Refusal} (Ok (Scan.Form n m)) (Ok (Scan.PassedOver c))))
          → Sought b r k (length r / 4 - k) c (Ok (SearchEnd.Form k n m)) f
      go (inl (o, z)) =
          let u = scan_table b t (places b) c n m f z in
          record {
            form_of = record { part = t; stands = stands; term = u.0; table = u.1 };
            parts = (k, t) ∷ behind.parts;
            closed = parts_here o behind.parts behind.closed;
            reaches = λ s d g.
                pairs_form b r s k t (pairs behind.parts (places b)) (places b) c n m f z u.0 u.1 g.0 g.1 d g.2;
          }
      go (inr (o, z)) = absurd (let g : ◌≡◌ {A = ℕ} 0 1 = cc in omega arith)

  sought_next : (m : ℕ) → a ≡ Ok (Scan.PassedOver m) → (d : Result SearchEnd Refusal) (w : List ℕ) → Sought b r (k + 1) rest m d w
      → Sought b r k (length r / 4 - k) c d w
  sought_next m q d w z = go (scan_as (Ok (Scan.PassedOver m)) q)
    where
      from : Parts r (suc k) rest z.parts
      from = let e : k + 1 ≡ suc k = omega arith in subst (λ (i : ℕ). Parts r i rest z.parts) e z.closed

      go : (Closed 0 t × RuleScan b t (places b) c (Ok (Scan.PassedOver m)) f)
          ⊎ (¬ Closed 0 t × (◌≡◌ {A = Result Scan Refusal} (Ok (Scan.PassedOver m)) (Ok (Scan.PassedOver c))))
          → Sought b r k (length r / 4 - k) c d w
      go (inl (o, v)) = record {
        form_of = z.form_of;
        parts = (k, t) ∷ z.parts;
        closed = parts_here o z.parts from;
        reaches = λ s u g. pairs_next b r s k t (pairs z.parts (places b)) (places b) c m f u v (z.reaches s u g);
      }
      go (inr (o, v)) =
          let e : m ≡ c = cc in
          record {
            form_of = z.form_of;
            parts = z.parts;
            closed = parts_open o z.parts from;
            reaches = λ s u g. subst (λ (i : ℕ). SearchEnds b r s (pairs z.parts (places b)) i u) e (z.reaches s u g);
          }

-- the search goes on from record k, c pairs having been passed over
pub record PartsLeft (b r : List ℕ) (c k : ℕ) : Type 0 where
  pub all : (a : Result SearchEnd Refusal) (f : List ℕ) → Sought b r k (length r / 4 - k) c a f → Sought b r 0 (length r / 4) 0 a f

module _ (b r : List ℕ) (x : Recipe r) (c k : ℕ) (l : PartsLeft b r c k) where
  module _ (h : k < length r / 4) (a : Result Scan Refusal) (f : List ℕ) (y : PartScan b r k c a f) where
    pub parts_refused : (e : Refusal) → a ≡ Err e → Sought b r 0 (length r / 4) 0 (Err e) f
    parts_refused e q = l.all _ f (sought_refused b r x k (omega arith) c a f y e q)

    pub parts_form : (n m : ℕ) → a ≡ Ok (Scan.Form n m) → Sought b r 0 (length r / 4) 0 (Ok (SearchEnd.Form k n m)) f
    parts_form n m q = l.all _ f (sought_form b r x k (omega arith) c a f y n m q)

    pub parts_next : (m : ℕ) → a ≡ Ok (Scan.PassedOver m) → PartsLeft b r m (k + 1)
    parts_next m q = record { all = λ d w z. l.all d w (sought_next b r x k (omega arith) c a f y m q d w z) }
