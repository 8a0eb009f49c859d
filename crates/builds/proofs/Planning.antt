-- What a goal to build comes to before its bodies are gone through: a head that lacks a local of the argument has one body. From the law of
-- matching for it, applied in every state that stands there. Assumes nothing.
use mathlib.Core.Path.{◌≡◌, refl, sym, ap, ◌∙◌, subst}
use mathlib.Core.Bool.{Bool, true, false}
use mathlib.Core.Logic.{◌↔◌}
use mathlib.Core.List.{List}
use Prim.Native.Nat.{ℕ, suc, ◌-◌, ◌<◌, ◌≤◌}
use native.Mathlib.Omega.{arith}
use borrow.Author.Tests.{lt-ltb}
use lib.ListN.{get_or}
use Rattle.std.specs.Option.{MatchOption}
use Rattle.std.specs.declared.option.Option.{Option}
use Rattle.std.specs.declared.option.Option.TheVariants.{Some, None}
use Rattle.terms.specs.Figures.{pattern_records, value_records}
use Rattle.terms.specs.Term.{Term, lam, size, uses}
use Rattle.terms.specs.Listing.{Line}
use Rattle.matching.specs.Lists.{Values}
use Rattle.matching.specs.Goals.{Sweeps, Build, Goal}
use Rattle.matching.specs.Bodies.{body}
use Rattle.matching.proofs.Cuts.{replace_all, one_body}
use Rattle.matching.proofs.Bodies.{body_all, body_same, body_substitute, copies_size}
use Rattle.records.specs.Parts.{slice}
use Rattle.records.proofs.Parts.{whole}
use Rattle.assignments.specs.declared.Entry.{Entry}
use Rattle.abstractions.specs.Bodies.{Counting, CopiesCounted, chosen_in}
use Rattle.abstractions.proofs.Bodies.{counting_at, counted_at}
use Rattle.agenda.specs.declared.Agenda.{Agenda}
use Rattle.agenda.specs.declared.StoredGoal.{StoredGoal}
use Rattle.agenda.specs.declared.Plan.{Plan}
use Rattle.agenda.specs.Stored.{StoredAt}
use Rattle.agenda.specs.State.{State, Sat, Ready, relinking}
use Rattle.agenda.specs.Moves.{Move, Failed, Branched}
use Rattle.builds.specs.Choices.{ChosenBody, CopiesAre, Planned}
use Rattle.builds.specs.Builds.{Builds}
use Rattle.agenda.specs.Locals.{Locals, Lacks}
use Rattle.agenda.proofs.Lacking.{all_marks_at, locals_at, lacks_at}
use Rattle.builds.proofs.Building.{BuildSite, build_site, build_opened, from_build}

module _ (P W : List ℕ) (s : Agenda) (a : List Entry) (ready : Ready relinking P W s a) (x : Builds W s) (r : StoredGoal)
    (y : StoredAt W s.deferred r) where
  -- the head leaves one body
  pub build_locals : Locals (slice P r.part) (slice W r.argument)
  build_locals = from_build P W s a ready x (Locals (slice P r.part) (slice W r.argument)) (λ gs hs l f t e z.
      let v = build_site P W s a r gs hs l f t e y z in
      let u = v.argument in
      locals_at P r.part W r.argument (whole P r.part f v.part) ready.bounds.short
      (all_marks_at W r.argument (pattern_records - suc (size f)) e u.part (omega arith) u.closed (omega (arith, u.short))))

  module _ (b : Bool) (h : Lacks (slice P r.part) (slice W r.argument) b) (yes : b ≡ true) (m : List ℕ)
      (all : (i : ℕ) → i < value_records → get_or m i 0 ≡ 1) where
    forced_local : (f t e : Term) → BuildSite P W s r f t e → (j : ℕ) × (uses j e ≡ true) × (uses j f ≡ false)
    forced_local f t e v =
        let k = lacks_at P r.part W r.argument b yes h in
        let q = k.1 f e v.part v.argument.part in
        (k.0, q.1, q.0)

    every_copy : (f t e : Term) → BuildSite P W s r f t e → body e 0 t (chosen_in m) 0 ≡ replace_all e 0 t
    every_copy f t e v =
        body_same e 0 t (chosen_in m) (λ _. true) 0
        (λ i l u. lt-ltb 0 (get_or m i 0) (omega (arith, all i (omega (arith, copies_size e 0 t, v.target.short))))) ∙ body_all e 0 t 0

    forced_body :
        (φ : ℕ → Term) → Values φ → (f t e : Term) → BuildSite P W s r f t e
        → Build f t e φ ↔ (Sweeps f (lam (body e 0 t (chosen_in m) 0)) φ × (uses 0 (body e 0 t (chosen_in m) 0) ≡ true))
    forced_body φ v f t e z = (
      λ u.
          let j = forced_local f t e z in
          let q : u.0 ≡ body e 0 t (chosen_in m) 0 = one_body φ v f t e j.0 j.1 j.2 u ∙ sym (every_copy f t e z) in
          (u.1 ∙ ap lam q, ap (uses 0) (sym q) ∙ u.3),
      λ u. (body e 0 t (chosen_in m) 0, u.0, body_substitute e 0 t (chosen_in m) 0, u.1),
    )

    question : (gs hs : List Goal) (l : Line) → State relinking P W s a gs hs l → (φ : ℕ → Term) → Values φ
        → Sat gs hs l φ ↔ ChosenBody m gs hs l φ
    question gs hs l = build_opened P W s a ready x gs l (λ us. (φ : ℕ → Term) → Values φ
        → Sat gs us l φ ↔ ChosenBody m gs us l φ) (λ f t e us z φ v.
        let q = forced_body φ v f t e (build_site P W s a r gs us l f t e y z) in
        (λ p. (p.0, (q.0 p.1.0, p.1.1), p.2), λ p. (p.0, (q.1 p.1.0, p.1.1), p.2))) hs

    module _ (X : List ℕ) (c : Option Agenda) (g : Branched P W s a (ChosenBody m) X c) where
      forced_body_failed : c ≡ None → Planned P W s a X Plan.Failed
      unfolding Planned Branched
      forced_body_failed n =
          let d : Failed relinking P W s a (ChosenBody m) X = subst (Branched P W s a (ChosenBody m) X) n g in
          record { none = λ gs hs l z φ v p. d.none gs hs l z φ v ((question gs hs l z φ v).0 p); kept = d.kept }

      forced_body_next : (s' : Agenda) → c ≡ Some s' → Planned P W s a X (Plan.Next s')
      unfolding Planned Branched
      forced_body_next s' n =
          let d : Move relinking P W s a (ChosenBody m) X s' a = subst (Branched P W s a (ChosenBody m) X) n g in
          record {
            go = λ gs hs l z.
                let k = d.go gs hs l z in
                record {
                  gs = k.gs;
                  hs = k.hs;
                  line = k.line;
                  state = k.state;
                  same = λ φ v. let i = question gs hs l z φ v in let j = k.same φ v in (λ p. j.0 (i.0 p), λ p. i.1 (j.1 p));
                };
            kept = d.kept;
            higher = d.higher;
            falls = d.falls;
            bounds = d.bounds;
          }

    -- either way
    pub forced_planned : (X : List ℕ) (c : Option Agenda) → Branched P W s a (ChosenBody m) X c → (p : Plan)
        → MatchOption c (p ≡ Plan.Failed) (λ s'. p ≡ Plan.Next s') → Planned P W s a X p
    forced_planned X None g p e = rw e (forced_body_failed X None g refl)
    forced_planned X (Some s') g p e = rw e (forced_body_next X (Some s') g s' refl)

  -- the bodies are to be gone through
  pub counting : Counting (slice W r.target) 0 (slice W r.argument)
  counting = from_build P W s a ready x (Counting (slice W r.target) 0 (slice W r.argument)) (λ gs hs l f t e z.
      let v = build_site P W s a r gs hs l f t e y z in
      counting_at W W r.target r.argument 0 (whole W r.target t v.target.part) (whole W r.argument e v.argument.part)
      (omega (arith, ready.bounds.whole)))

  pub bodies_planned : (W' : List ℕ) (end n : ℕ) → W' ≡ W → CopiesCounted (slice W r.target) 0 (slice W r.argument) end n
      → Planned P W s a W' (Plan.Bodies n)
  unfolding Planned
  bodies_planned W' end n same c = (
    same,
    from_build P W s a ready x (n ≤ value_records) (λ gs hs l f t e z.
        let v = build_site P W s a r gs hs l f t e y z in
        omega (
          arith,
          counted_at W W r.target r.argument 0 end n c t e v.target.part v.argument.part,
          copies_size e 0 t,
          v.target.short,
        )),
    λ gs hs l z.
        build_opened P W s a ready x gs l (λ us. CopiesAre n us) (λ f t e us u.
        let v = build_site P W s a r gs us l f t e y u in
        counted_at W W r.target r.argument 0 end n c t e v.target.part v.argument.part) hs z,
  )
