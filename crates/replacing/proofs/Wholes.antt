-- A recipe with a closed term without variables in the place of a part is such a term again, and what sweeping it until normal comes to.
-- One term stands at a record, so what holds of the part found there holds of each. Assumes nothing.
--   WholeTerm l    l is the table of a closed term without variables, which is short enough to be swept
use mathlib.Core.Path.{◌≡◌, sym, ap, ap₂, ◌∙◌, subst}
use mathlib.Core.List.{List}
use Prim.Native.Nat.{ℕ, ◌*◌, ◌/◌, ◌≤◌, ◌<◌}
use native.Mathlib.Omega.{arith}
use lib.ListN.{length}
use lib.Seq.{sets, length-sets}
use Rattle.std.specs.declared.result.Result.{Result}
use Rattle.normalizing.specs.declared.NormalFault.{NormalFault}
use Rattle.terms.specs.Figures.{swept_records, most_sweeps}
use Rattle.terms.specs.Term.{Term, size, Closed, Below}
use Rattle.terms.specs.Table.{encode, IsTable}
use Rattle.terms.proofs.Table.{encode_length, encode_one}
use Rattle.terms.proofs.Variables.{ground_below}
use Rattle.records.specs.Checks.{Recipe}
use Rattle.records.specs.Parts.{Part, Whole, Ends}
use Rattle.records.proofs.Parts.{part_one, whole}
use Rattle.copying.proofs.Stores.{stored}
use Rattle.sweeping.specs.Swept.{sweep_records}
use Rattle.normalizing.specs.Normalized.{Begins, Normalizable, Normalized}
use Rattle.replacing.specs.Replacing.{splice, replaced, SpliceRoom, SpliceWritten}
use Rattle.replacing.specs.Wholes.{WholeTables, WholeNormalized}
use Rattle.replacing.proofs.Holes.{Hole, hole, hole_part, hole_put}

pub record WholeTerm (l : List ℕ) : Type 0 where
  pub term : Term
  pub table : IsTable l term
  pub below : Below 0 term
  pub few : size term ≤ sweep_records

-- a part begins at each record of a recipe
module _ (r : List ℕ) (x : Recipe r) where
  pub recipe_length : length r ≡ 4 * size x.tree
  recipe_length = ap length x.table.0 ∙ encode_length x.tree

  module _ (k : ℕ) (h : 4 * k < length r) where
    pub recipe_hole : Hole x.tree k
    recipe_hole = hole x.tree k (omega (arith, recipe_length))

    pub recipe_part : Part r (4 * k) recipe_hole.here
    recipe_part = hole_part r x.tree k x.table.0 recipe_hole

    pub recipe_whole : Whole r (4 * k)
    recipe_whole = whole r (4 * k) recipe_hole.here recipe_part

-- another term in the part's place, in any term's table
pub replaced_put : (r : List ℕ) (s : Term) → r ≡ encode s → (k : ℕ) (x : Hole s k) (t u : Term) → Part r (4 * k) t
    → replaced r k t u ≡ encode (x.put u)
replaced_put r s e k x t u p =
    subst (λ (v : Term). replaced r k v u ≡ encode (x.put u)) (part_one r (4 * k) x.here t (hole_part r s k e x) p)
    (hole_put r s k e x u)

-- and in a recipe
pub replaced_term : (r : List ℕ) → Recipe r → (k : ℕ) (t u : Term) → Part r (4 * k) t → Closed 0 u → Below 0 u → size u ≤ swept_records
    → WholeTerm (replaced r k t u)
replaced_term r x k t u p c b n =
    let y = recipe_hole r x k (omega (arith, p.some, p.within)) in
    record {
      term = y.put u;
      table = (replaced_put r x.tree x.table.0 k y t u p, y.put_closed 0 u c x.table.1);
      below = y.put_below u b (ground_below x.tree x.ground);
      few = omega (arith, y.put_size u, x.most);
    }

-- the whole, written and swept
module _ (r : List ℕ) (k : ℕ) (f w : List ℕ) (x : WholeTables r k f w) where
  whole_term : (t : Term) → Part r (4 * k) t → WholeTerm (replaced r k t x.0.term)
  whole_term t p = replaced_term r x.0.checked k t x.0.term p x.0.closed x.0.below x.0.few

  module _ (end : ℕ) (y : Ends r (4 * k) end) where
    pub whole_room : SpliceRoom r (4 * k) end f w
    whole_room =
        let l : length f ≡ 4 * size x.0.term = ap length x.0.bytes ∙ encode_length x.0.term in
        record {
          from = omega (arith, y.more);
          within = y.within;
          enough = omega (arith, l, x.0.few, recipe_length r x.0.checked, x.0.checked.most, y.more, y.within, x.1);
        }

    module _ (n : ℕ) (v : List ℕ) (z : SpliceWritten r (4 * k) end f w n v) where
      same_room : length v ≡ length w
      same_room = ap length z.bytes ∙ length-sets w 0 (splice r (4 * k) end f)

      whole_begins : (t : Term) (p : Part r (4 * k) t) → Begins v (n / 4) (whole_term t p).term
      whole_begins t p =
          let u = whole_term t p in
          let e : splice r (4 * k) end f ≡ encode u.term = ap₂ (splice r (4 * k)) (y.exact t p) x.0.bytes ∙ u.table.0 in
          let m : n ≡ 4 * size u.term = z.count ∙ ap length e ∙ encode_length u.term in
          record {
            records = omega (arith, m);
            few = omega (arith, m, u.few);
            within = omega (arith, m, u.few, x.1, same_room);
            bytes = stored w v (encode u.term) (n / 4 * 4) (z.bytes ∙ ap (sets w 0) e) (omega (arith, m, encode_length u.term))
                (omega (arith, m, u.few, x.1));
          }

      pub whole_start : Normalizable v (n / 4)
      whole_start =
          let p = recipe_part r x.0.checked k x.0.within in
          let t = (recipe_hole r x.0.checked k x.0.within).here in
          record {
            tree = (whole_term t p).term;
            begins = whole_begins t p;
            room = omega (arith, x.1, same_room);
            closed = (whole_term t p).table.1;
            below = (whole_term t p).below;
          }

      pub whole_rest : (a : Result ℕ NormalFault) (q : List ℕ) → ((t : Term) → Begins v (n / 4) t → Normalized most_sweeps 0 t a q)
          → WholeNormalized r k f a q
      whole_rest a q g t u p e =
          let i : x.0.term ≡ u = encode_one x.0.term u (sym x.0.bytes ∙ e) in
          let h = whole_term t p in (
            h.term,
            subst (λ (s : Term). IsTable (replaced r k t s) h.term) i h.table,
            g h.term (whole_begins t p),
          )
