-- A variable's value: it stands in the value table where the entry says, and is its own swept form, being normal. By the entry, and by
-- induction on the value. Assumes nothing.
use mathlib.Core.Path.{◌≡◌, refl, ap, ◌∙◌, subst}
use mathlib.Core.List.{List}
use Prim.Native.Nat.{ℕ, ◌+◌, ◌*◌, ◌≤◌, ◌<◌}
use native.Mathlib.Omega.{arith}
use native.Mathlib.Decide.{dec_lt}
use lib.ListN.{length, get_or, take, drop, length-take, length-drop, get_or-eq_default}
use lib.Seq.{sets}
use Rattle.std.specs.declared.option.Option.TheVariants.{Some}
use Rattle.terms.specs.Figures.{swept_records}
use Rattle.terms.specs.Term.{Term, app, lam, loc, con, var, size, Normal}
use Rattle.terms.specs.Sweep.{largest}
use Rattle.terms.specs.Table.{encode}
use Rattle.terms.proofs.Sweep.{sweep_normal}
use Rattle.assignments.specs.Entries.{Given}
use Rattle.assignments.specs.declared.Span.{Span}
use Rattle.assignments.specs.declared.Entry.{Entry}
use Rattle.assignments.specs.declared.Entry.TheVariants.{Open, Assigned}
use Rattle.sweeping.specs.Swept.{WrittenForm}
use Rattle.sweeping.proofs.Contraction.{form_written, table_length}

-- what the value table holds for the span of an entry
pub record ValueBytes (s : List ℕ) (x : Span) (v : Term) : Type 0 where
  pub most : x.count ≤ swept_records
  pub within : 4 * (x.first + x.count) ≤ length s
  pub exact : x.count ≡ size v
  pub bytes : take (4 * x.count) (drop (4 * x.first) s) ≡ encode v

pub given_bytes : (s : List ℕ) (a : List Entry) (i : ℕ) (v : Term) → Given s a i v → (x : Span) → get_or a i Open ≡ Assigned x
    → ValueBytes s x v
given_bytes s a i v g x e =
    let q : g.span ≡ x = cc g.is in
    subst (λ (y : Span). ValueBytes s y v) q (record {
      most = omega (arith, g.most);
      within = g.within;
      exact = omega (
        arith,
        g.within,
        table_length _ v g.bytes,
        length-take (4 * g.span.count) (drop (4 * g.span.first) s),
        length-drop (4 * g.span.first) s,
      );
      bytes = g.bytes;
    })

pub value_written : (s : List ℕ) (x : Span) (v : Term) (out b after : List ℕ) → ValueBytes s x v
    → b ≡ take (4 * x.count) (drop (4 * x.first) s)
    → after ≡ sets out 0 b → WrittenForm v out (Some x.count) after
value_written s x v out b after h e q =
    form_written v out after x.count (omega (arith, h.exact)) h.most (q ∙ ap (sets out 0) (e ∙ h.bytes))

-- the parts of a normal term sweep to themselves, and it is the largest
pub largest_normal : (t : Term) → Normal t → largest t ≡ size t
largest_normal (app f a) h = omega (arith, ap size (sweep_normal (app f a) h), largest_normal f h.1, largest_normal a h.2)
largest_normal (lam b) h = omega (arith, ap size (sweep_normal (lam b) h), largest_normal b h.1)
largest_normal (loc n) h = refl
largest_normal (con n) h = refl
largest_normal (var n) h = refl
