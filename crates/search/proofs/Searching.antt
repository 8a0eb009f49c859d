-- One step of the search after another: a search from the next state answers for the state before, and searches for parts of a question
-- answer for the whole of it. By the laws of moves and of tallies; what stands below `top` stays for the next search. Assumes nothing.
--   SearchingOn ..   what is known while the ways of a goal are gone through
use mathlib.Core.Path.{◌≡◌, refl, sym, ap, ap₂, ◌∙◌, subst}
use mathlib.Core.List.{List, [], ◌∷◌}
use mathlib.Core.Logic.{◌⊎◌, inl, inr, ◌↔◌}
use Prim.Native.Nat.{ℕ, suc, ◌+◌, ◌*◌, ◌<◌, ◌≤◌}
use native.Mathlib.Omega.{arith}
use native.Mathlib.Decide.{dec_lt}
use lib.ListN.{length, take, set, length-set}
use lib.Seq.{take-take}
use Rattle.terms.specs.Figures.{value_records}
use Rattle.terms.specs.Term.{Term}
use Rattle.terms.specs.Listing.{Line}
use Rattle.matching.specs.Goals.{Goal, All}
use Rattle.matching.proofs.Decide.{by_dec}
use Rattle.matching.proofs.Lists.{Under}
use Rattle.records.specs.Parts.{Ends}
use Rattle.assignments.specs.declared.Entry.{Entry}
use Rattle.listing.specs.declared.Tally.{Tally}
use Rattle.assignments.specs.Held.{Holds}
use Rattle.listing.specs.Outcome.{line_records, outcome, Storable, LineStored}
use Rattle.listing.proofs.Stores.{found_tally}
use Rattle.agenda.specs.declared.Agenda.{Agenda}
use Rattle.agenda.specs.declared.Ways.{Ways}
use Rattle.agenda.specs.declared.StoredGoal.{StoredGoal}
use Rattle.agenda.specs.Stored.{StoredAt}
use Rattle.agenda.specs.State.{argument_at, IsMatch, Easy, Deferred, Chain, State, Sat, Bounds, Ready, relinking}
use Rattle.agenda.specs.Moves.{Question, Move, Failed}
use Rattle.arguments.specs.Ways.{Way, HasWays}
use Rattle.builds.specs.Choices.{Choices, CopiesAre, ChosenBody}
use Rattle.ordering.specs.Forwarding.{Forwarded}
use Rattle.arguments.specs.Applications.{ApplicationDeferred, WaysCounted}
use Rattle.builds.specs.Builds.{Builds}
use Rattle.agenda.proofs.Frame.{byte_below, Kept, state_kept}
use Rattle.search.specs.Collected.{Tallied}
use Rattle.search.specs.Searched.{Begins, Searched}
use Rattle.search.specs.Choosing.{Choosing}
use Rattle.search.proofs.Tallies.{tallied_same, tallied_none, tallied_one, tallied_or, tallied_stop}
use Rattle.search.proofs.Questions.{ways_all, ways_apart, Over, listing_over, under_over, choices_all, choices_last, choices_next}
use Rattle.search.proofs.Questions.{choices_apart, choices_listing}

kept_below : (W X Y : List ℕ) (top higher : ℕ) → top ≤ higher → take higher Y ≡ take higher X → take top X ≡ take top W
    → take top Y ≡ take top W
kept_below W X Y top higher h p q = sym (take-take top higher Y h) ∙ ap (take top) p ∙ take-take top higher X h ∙ q

module _ (k : ℕ) (P W : List ℕ) (s : Agenda) (a : List Entry) (Q : Question) (limit : ℕ) (L X : List ℕ) (done : Tally) where
  -- a step, and the search from there
  pub begins_move : (W₁ : List ℕ) (s₁ : Agenda) (a₁ : List Entry) → Move k P W s a Q W₁ s₁ a₁ → Begins k P W s a limit L X done
      → Begins 0 P W₁ s₁ a₁ limit L X done
  begins_move W₁ s₁ a₁ m b =
      let r = b.ready in
      let d = m.go r.gs r.hs r.line r.state in
      record { ready = record { gs = d.gs; hs = d.hs; line = d.line; state = d.state; bounds = m.bounds }; counts = b.counts }

  pub searched_move :
      (W₁ : List ℕ) (s₁ : Agenda) (a₁ : List Entry) (W₂ L₂ X₂ : List ℕ) (r : Tally) → Move k P W s a Q W₁ s₁ a₁
      → Searched 0 Sat P W₁ s₁ a₁ limit L X done W₂ L₂ X₂ r → Searched k Q P W s a limit L X done W₂ L₂ X₂ r
  searched_move W₁ s₁ a₁ W₂ L₂ X₂ r m y = record {
    kept = kept_below W W₁ W₂ s.top s₁.top m.higher y.kept m.kept;
    upto = y.upto;
    records = y.records;
    answer = λ gs hs l x.
        let d = m.go gs hs l x in
        tallied_same P limit (Q gs hs l) (Sat d.gs d.hs d.line) (outcome L X done) (outcome L₂ X₂ r) d.same
        (y.answer d.gs d.hs d.line d.state);
  }

  pub searched_failed : (W₁ : List ℕ) → Failed k P W s a Q W₁ → Begins k P W s a limit L X done
      → Searched k Q P W s a limit L X done W₁ L X done
  searched_failed W₁ d b = record {
    kept = d.kept;
    upto = omega (arith, b.counts.upto);
    records = b.counts.records;
    answer = λ gs hs l x. tallied_none P limit (Q gs hs l) (outcome L X done) b.counts.upto (d.none gs hs l x);
  }

-- an answer that leaves the work area as it was
module _ (k : ℕ) (P W : List ℕ) (s : Agenda) (a : List Entry) (limit : ℕ) (L X : List ℕ) (done : Tally) (W₁ : List ℕ) (e : W₁ ≡ W) where
  pub begins_open : Begins k P W s a limit L X done → Begins k P W₁ s a limit L X done
  begins_open b = subst (λ (Y : List ℕ). Begins k P Y s a limit L X done) (sym e) b

  pub searched_open : (Q : Question) (W₂ L₂ X₂ : List ℕ) (r : Tally) → Searched k Q P W₁ s a limit L X done W₂ L₂ X₂ r
      → Searched k Q P W s a limit L X done W₂ L₂ X₂ r
  searched_open Q W₂ L₂ X₂ r y = subst (λ (Y : List ℕ). Searched k Q P Y s a limit L X done W₂ L₂ X₂ r) e y

-- no goal is left
none_left : (K : Goal → Type 0) (P W : List ℕ) (top : ℕ) (gs : List Goal) → Chain K P W top 0 gs → gs ≡ []
none_left K P W top [] c = refl
none_left K P W top (g ∷ gs) c = absurd (omega (arith, c.0.low))

holds_length : (W : List ℕ) (top : ℕ) (a : List Entry) (l : Line) → Holds W top a l → length a ≡ length l
holds_length W top [] [] x = refl
holds_length W top [] (o ∷ l) x = absurd x
holds_length W top (e ∷ a) [] x = absurd x
holds_length W top (e ∷ a) (o ∷ l) x = ap suc (holds_length W top a l x.1)

module _ (P W : List ℕ) (s : Agenda) (a : List Entry) (limit : ℕ) (L X : List ℕ) (done : Tally) (b : Begins 0 P W s a limit L X done) where
  pub finds : Storable W a L X done
  finds = record {
    line = b.ready.line;
    top = s.top;
    holds = b.ready.state.entries;
    area = omega (arith, b.ready.bounds.whole);
    lines_most = b.counts.lines;
    values_most = b.counts.values;
    few = omega (arith, b.counts.upto, b.counts.limited);
    records_few = b.counts.records;
  }

  pub searched_found : (L₁ X₁ : List ℕ) (r : Tally) → s.easy ≡ 0 → s.deferred ≡ 0 → LineStored W a L X done L₁ X₁ r
      → Searched 0 Sat P W s a limit L X done W L₁ X₁ r
  searched_found L₁ X₁ r e h f = record {
    kept = refl;
    upto = omega (arith, tally.0, b.counts.upto);
    records = tally.1;
    answer = λ gs hs l x.
        let g : gs ≡ [] = none_left Easy P W s.top gs (subst (λ (i : ℕ). Chain Easy P W s.top i gs) e x.easy) in
        let k : hs ≡ [] = none_left Deferred P W s.top hs (subst (λ (i : ℕ). Chain Deferred P W s.top i hs) h x.deferred) in
        tallied_one P limit (Sat gs hs l) (outcome L X done) (outcome L₁ X₁ r) l (f.stored s.top l x.entries) x.line x.assigns
        (λ φ v. (λ q. q.2, λ q. (subst (λ js. All js φ) (sym g) tt, subst (λ js. All js φ) (sym k) tt, q)));
  }
    where
      tally : (r.lines ≡ done.lines + 1) × (r.records ≤ line_records * r.lines)
      tally = found_tally W a L X done L₁ X₁ r finds
          (holds_length W s.top a b.ready.line b.ready.state.entries ∙ b.ready.state.line) f

-- a search may begin where what stands below `top` was kept
pub begins_kept :
    (k : ℕ) (P W : List ℕ) (s : Agenda) (a : List Entry) (limit : ℕ) (L X : List ℕ) (done : Tally) (W₁ L₁ X₁ : List ℕ) (r : Tally)
    → take s.top W₁ ≡ take s.top W → length W₁ ≡ length W → length L₁ ≡ length L → length X₁ ≡ length X → r.lines ≤ limit
    → r.records ≤ line_records * r.lines
    → Begins k P W s a limit L X done → Begins k P W₁ s a limit L₁ X₁ r
begins_kept k P W s a limit L X done W₁ L₁ X₁ r e n m o u w b =
    let y = b.ready.bounds in
    record {
      ready = record {
        gs = b.ready.gs;
        hs = b.ready.hs;
        line = b.ready.line;
        state = state_kept k P W W₁ s a b.ready.gs b.ready.hs b.ready.line
            (record { same = e; from = omega (arith, y.whole, y.top); to = omega (arith, y.whole, y.top, n) }) b.ready.state;
        bounds = record {
          whole = n ∙ y.whole;
          short = y.short;
          top = y.top;
          start = y.start;
          even = y.even;
          easy_room = y.easy_room;
          easy_even = y.easy_even;
          deferred_room = y.deferred_room;
          deferred_even = y.deferred_even;
        };
      };
      counts = record {
        lines = omega (arith, b.counts.lines);
        values = omega (arith, b.counts.values);
        limited = b.counts.limited;
        upto = u;
        records = w;
      };
    }

-- and it is kept
argument_kept : (P W : List ℕ) (s : Agenda) (W₁ : List ℕ) → Bounds P W s → take s.top W₁ ≡ take s.top W
    → argument_at W₁ s.deferred ≡ argument_at W s.deferred
argument_kept P W s W₁ b e =
    let room = b.deferred_room in
    ap₂ (λ (x y : ℕ). 4 * (x * 256 + y)) (byte_below W W₁ s.top (s.deferred + 6) (omega arith) e)
    (byte_below W W₁ s.top (s.deferred + 6 + 1) (omega arith) e)

pub matches_kept : (P W : List ℕ) (s : Agenda) (a : List Entry) (W₁ : List ℕ) → take s.top W₁ ≡ take s.top W
    → Ready relinking P W₁ s a → ApplicationDeferred P W s a → ApplicationDeferred P W₁ s a
matches_kept P W s a W₁ e r x = record {
  ready = r;
  some_deferred = x.some_deferred;
  kind = argument_kept P W s W₁ x.ready.bounds e ∙ x.kind;
}

pub counted_kept :
    (P W : List ℕ) (s : Agenda) (a : List Entry) (W₁ : List ℕ) (w : Ways) → take s.top W₁ ≡ take s.top W
    → length W₁ ≡ length W → Bounds P W s
    → WaysCounted P W s a w → WaysCounted P W₁ s a w
counted_kept P W s a W₁ w e n b c = record {
  ways = λ gs hs l x. c.ways gs hs l (back gs hs l x);
  argument =
      subst (λ (i : ℕ). Ends P (4 * i + 4) w.argument) (sym (byte_below W W₁ s.top s.deferred (omega (arith, b.deferred_room)) e))
      c.argument;
  rigid_argument = c.rigid_argument;
  depths_are = λ gs hs l x. c.depths_are gs hs l (back gs hs l x);
  skeleton_table = c.skeleton_table;
  skeleton_fits = λ gs hs l x. c.skeleton_fits gs hs l (back gs hs l x);
  lacking_head = λ q gs hs l x. c.lacking_head q gs hs l (back gs hs l x);
}
  where
    back : (gs hs : List Goal) (l : Line) → State relinking P W₁ s a gs hs l → State relinking P W s a gs hs l
    back gs hs l = state_kept relinking P W₁ W s a gs hs l
        (record { same = sym e; from = omega (arith, b.whole, b.top, n); to = omega (arith, b.whole, b.top) })

pub builds_kept : (P W : List ℕ) (s : Agenda) (W₁ : List ℕ) → Bounds P W s → take s.top W₁ ≡ take s.top W → Builds W s → Builds W₁ s
builds_kept P W s W₁ b e x = record {
  none_easy = x.none_easy;
  some_deferred = x.some_deferred;
  kind = λ q. x.kind (sym (argument_kept P W s W₁ b e) ∙ q);
}

-- one way after another
pub record SearchingOn
    (P W : List ℕ) (s : Agenda) (a : List Entry) (limit : ℕ) (L X : List ℕ) (done : Tally) (n i : ℕ) (W₁ L₁ X₁ : List ℕ)
    (r : Tally) : Type 0 where
  pub within : i ≤ n
  pub area : length W₁ ≡ length W
  pub lines : length L₁ ≡ length L
  pub values : length X₁ ≡ length X
  pub kept : take s.top W₁ ≡ take s.top W
  pub upto : r.lines ≤ suc limit
  pub records : r.records ≤ line_records * r.lines
  pub answer : (gs hs : List Goal) (l : Line) → State relinking P W s a gs hs l
      → Tallied P (Under (λ j. Way j gs hs l) i) limit (outcome L X done) (outcome L₁ X₁ r)

module _ (P W : List ℕ) (s : Agenda) (a : List Entry) (limit : ℕ) (L X : List ℕ) (done : Tally) (n : ℕ)
    (b : Begins relinking P W s a limit L X done) where
  kept_of : (W₁ : List ℕ) → take s.top W₁ ≡ take s.top W → length W₁ ≡ length W → Kept W W₁ s.top
  kept_of W₁ e h =
      let y = b.ready.bounds in
      record { same = e; from = omega (arith, y.whole, y.top); to = omega (arith, y.whole, y.top) }

  module _ (i : ℕ) (W₁ L₁ X₁ : List ℕ) (r : Tally) (g : SearchingOn P W s a limit L X done n i W₁ L₁ X₁ r) where
    pub begins_going : r.lines ≤ limit → Begins relinking P W₁ s a limit L₁ X₁ r
    begins_going h = begins_kept relinking P W s a limit L X done W₁ L₁ X₁ r g.kept g.area g.lines g.values h g.records b

    pub going_next :
        (W₂ L₂ X₂ : List ℕ) (r₂ : Tally) → r.lines ≤ limit → i < n → length W₂ ≡ length W₁ → length L₂ ≡ length L₁ → length X₂ ≡ length X₁
        → Searched relinking (Way i) P W₁ s a limit L₁ X₁ r W₂ L₂ X₂ r₂ → SearchingOn P W s a limit L X done n (i + 1) W₂ L₂ X₂ r₂
    going_next W₂ L₂ X₂ r₂ h m p q o y = record {
      within = omega arith;
      area = p ∙ g.area;
      lines = q ∙ g.lines;
      values = o ∙ g.values;
      kept = y.kept ∙ g.kept;
      upto = y.upto;
      records = y.records;
      answer = λ gs hs l x.
          tallied_same P limit (Under (λ j. Way j gs hs l) (i + 1)) (λ φ. Under (λ j. Way j gs hs l) i φ ⊎ Way i gs hs l φ)
          (outcome L X done) (outcome L₂ X₂ r₂)
          (λ φ v. (to gs hs l φ, from gs hs l φ))
          (tallied_or P limit (Under (λ j. Way j gs hs l) i) (Way i gs hs l) (outcome L X done) (outcome L₁ X₁ r) (outcome L₂ X₂ r₂)
          (λ φ v (j, u, w) z. omega (arith, ways_apart relinking P W s a gs hs l j i x φ w z)) h (g.answer gs hs l x)
          (y.answer gs hs l (state_kept relinking P W W₁ s a gs hs l (kept_of W₁ g.kept g.area) x)));
    }
      where
        to : (gs hs : List Goal) (l : Line) (φ : ℕ → Term) → Under (λ j. Way j gs hs l) (i + 1) φ
            → Under (λ j. Way j gs hs l) i φ ⊎ Way i gs hs l φ
        to gs hs l φ (j, u, w) =
            by_dec (λ _. Under (λ j. Way j gs hs l) i φ ⊎ Way i gs hs l φ) (dec_lt j i) (λ z. inl (j, z, w))
            (λ z. let e : j ≡ i = omega arith in inr (subst (λ z. Way z gs hs l φ) e w))

        from : (gs hs : List Goal) (l : Line) (φ : ℕ → Term) → Under (λ j. Way j gs hs l) i φ ⊎ Way i gs hs l φ
            → Under (λ j. Way j gs hs l) (i + 1) φ
        from gs hs l φ (inl (j, u, w)) = (j, omega arith, w)
        from gs hs l φ (inr w) = (i, omega arith, w)

    module _ (w : (gs hs : List Goal) (l : Line) → State relinking P W s a gs hs l → HasWays n hs) where
      -- all ways were gone through
      pub searching_end : n ≤ i → Searched relinking Sat P W s a limit L X done W₁ L₁ X₁ r
      searching_end h = record {
        kept = g.kept;
        upto = g.upto;
        records = g.records;
        answer = λ gs hs l x.
            let e : i ≡ n = omega (arith, g.within) in
            tallied_same P limit (Sat gs hs l) (Under (λ j. Way j gs hs l) i) (outcome L X done) (outcome L₁ X₁ r)
            (λ φ v. subst (λ z. Sat gs hs l φ ↔ Under (λ j. Way j gs hs l) z φ) (sym e)
            (ways_all relinking P W s a gs hs l n x (w gs hs l x) φ v)) (g.answer gs hs l x);
      }

      -- the limit is passed
      pub going_stop : limit < r.lines → Searched relinking Sat P W s a limit L X done W₁ L₁ X₁ r
      going_stop h = record {
        kept = g.kept;
        upto = g.upto;
        records = g.records;
        answer = λ gs hs l x.
            tallied_same P limit (Sat gs hs l) (λ φ. Under (λ j. Way j gs hs l) i φ ⊎ Over relinking P W s a (λ j. Way j gs hs l) i n φ)
            (outcome L X done) (outcome L₁ X₁ r)
            (λ φ v.
            let p = ways_all relinking P W s a gs hs l n x (w gs hs l x) φ v in
            let q = under_over relinking P W s a gs hs l i n g.within φ in
            (λ u. q.0 (p.0 u), λ u. p.1 (q.1 u)))
            (tallied_stop P limit (Under (λ j. Way j gs hs l) i) (Over relinking P W s a (λ j. Way j gs hs l) i n)
            (outcome L X done) (outcome L₁ X₁ r)
            (λ φ v (j, u, y) (m, c, d, z). omega (arith, ways_apart relinking P W s a gs hs l j m x φ y z)) h (g.answer gs hs l x)
            (listing_over relinking P W s a gs hs l i n x));
      }

-- one choice after another
module _ (P W : List ℕ) (s : Agenda) (a : List Entry) (limit : ℕ) (L X : List ℕ) (done : Tally) (c : List ℕ) (j n : ℕ)
    (z : Choosing P W s a c j n) where
  pub searched_last : (W₁ L₁ X₁ : List ℕ) (r : Tally) → n ≤ j → Searched relinking (ChosenBody c) P W s a limit L X done W₁ L₁ X₁ r
      → Searched relinking (Choices c j) P W s a limit L X done W₁ L₁ X₁ r
  searched_last W₁ L₁ X₁ r h y = record {
    kept = y.kept;
    upto = y.upto;
    records = y.records;
    answer = λ gs hs l x.
        tallied_same P limit (Choices c j gs hs l) (ChosenBody c gs hs l) (outcome L X done) (outcome L₁ X₁ r)
        (λ φ v. choices_last relinking P W s a gs hs l n j c (z.are gs hs l x) h φ) (y.answer gs hs l x);
  }

  module _ (h : j < n) where
    inside : j < length c
    inside = omega (arith, z.most, z.sized)

    module _ (W₁ L₁ X₁ : List ℕ) (r : Tally) (y : Searched relinking (Choices (set c j 1) (j + 1)) P W s a limit L X done W₁ L₁ X₁ r) where
      pub searched_stop : limit < r.lines → Searched relinking (Choices c j) P W s a limit L X done W₁ L₁ X₁ r
      searched_stop g = record {
        kept = y.kept;
        upto = y.upto;
        records = y.records;
        answer = λ gs hs l x.
            tallied_same P limit (Choices c j gs hs l) (λ φ. Choices (set c j 1) (j + 1) gs hs l φ ⊎ Choices (set c j 0) (j + 1) gs hs l φ)
            (outcome L X done) (outcome L₁ X₁ r)
            (λ φ v. choices_next relinking P W s a c j inside gs hs l n (z.are gs hs l x) φ)
            (tallied_stop P limit (Choices (set c j 1) (j + 1) gs hs l) (Choices (set c j 0) (j + 1) gs hs l)
            (outcome L X done) (outcome L₁ X₁ r)
            (λ φ v. choices_apart relinking P W s a c j inside gs hs l n (z.are gs hs l x) h φ) g (y.answer gs hs l x)
            (choices_listing relinking P W s a gs hs l (j + 1) (set c j 0) x));
      }

      module _ (b : Begins relinking P W s a limit L X done) (e : length W₁ ≡ length W) (g : r.lines ≤ limit) where
        back : Kept W W₁ s.top
        back =
            let y₁ = b.ready.bounds in
            record { same = y.kept; from = omega (arith, y₁.whole, y₁.top); to = omega (arith, y₁.whole, y₁.top) }

        pub choosing_next : Choosing P W₁ s a (set c j 0) (j + 1) n
        choosing_next = record {
          upto = omega arith;
          most = z.most;
          sized = length-set c j 0 ∙ z.sized;
          are = λ gs hs l x.
              let y₁ = b.ready.bounds in
              z.are gs hs l (state_kept relinking P W₁ W s a gs hs l
              (record { same = sym y.kept; from = omega (arith, y₁.whole, y₁.top); to = omega (arith, y₁.whole, y₁.top) }) x);
        }

        pub searched_both :
            (W₂ L₂ X₂ : List ℕ) (r₂ : Tally) → Searched relinking (Choices (set c j 0) (j + 1)) P W₁ s a limit L₁ X₁ r W₂ L₂ X₂ r₂
            → Searched relinking (Choices c j) P W s a limit L X done W₂ L₂ X₂ r₂
        searched_both W₂ L₂ X₂ r₂ u = record {
          kept = u.kept ∙ y.kept;
          upto = u.upto;
          records = u.records;
          answer = λ gs hs l x.
              tallied_same P limit (Choices c j gs hs l)
              (λ φ. Choices (set c j 1) (j + 1) gs hs l φ ⊎ Choices (set c j 0) (j + 1) gs hs l φ) (outcome L X done) (outcome L₂ X₂ r₂)
              (λ φ v. choices_next relinking P W s a c j inside gs hs l n (z.are gs hs l x) φ)
              (tallied_or P limit (Choices (set c j 1) (j + 1) gs hs l) (Choices (set c j 0) (j + 1) gs hs l) (outcome L X done)
              (outcome L₁ X₁ r) (outcome L₂ X₂ r₂)
              (λ φ v. choices_apart relinking P W s a c j inside gs hs l n (z.are gs hs l x) h φ) g (y.answer gs hs l x)
              (u.answer gs hs l (state_kept relinking P W W₁ s a gs hs l back x)));
        }

-- all bodies
searched_bodies :
    (P W : List ℕ) (s : Agenda) (a : List Entry) (limit : ℕ) (L X : List ℕ) (done : Tally) (c : List ℕ) (n : ℕ)
    (W₁ L₁ X₁ : List ℕ) (r : Tally)
    → ((gs hs : List Goal) (l : Line) → State relinking P W s a gs hs l → CopiesAre n hs)
    → Searched relinking (Choices c 0) P W s a limit L X done W₁ L₁ X₁ r → Searched relinking Sat P W s a limit L X done W₁ L₁ X₁ r
searched_bodies P W s a limit L X done c n W₁ L₁ X₁ r w y = record {
  kept = y.kept;
  upto = y.upto;
  records = y.records;
  answer = λ gs hs l x.
      tallied_same P limit (Sat gs hs l) (Choices c 0 gs hs l) (outcome L X done) (outcome L₁ X₁ r)
      (λ φ v. choices_all relinking P W s a gs hs l n c (w gs hs l x) φ) (y.answer gs hs l x);
}

-- a plan that leaves the work area as it was
pub planned_begins :
    (P W : List ℕ) (s : Agenda) (a : List Entry) (limit : ℕ) (L X : List ℕ) (done : Tally) (n : ℕ) (W₁ c : List ℕ) → W₁ ≡ W
    → Begins relinking P W s a limit L X done → Builds W s
    → n ≤ value_records → length c ≡ value_records
    → ((gs hs : List Goal) (l : Line) → State relinking P W s a gs hs l → CopiesAre n hs)
    → Begins relinking P W₁ s a limit L X done × Builds W₁ s × Choosing P W₁ s a c 0 n
planned_begins P W s a limit L X done n W₁ c e b x m q w =
    subst (λ (Y : List ℕ). Begins relinking P Y s a limit L X done × Builds Y s × Choosing P Y s a c 0 n) (sym e)
    (b, x, record { upto = omega arith; most = m; sized = q; are = w })

pub planned_searched :
    (P W : List ℕ) (s : Agenda) (a : List Entry) (limit : ℕ) (L X : List ℕ) (done : Tally) (c : List ℕ) (n : ℕ) (W₁ W₂ L₂ X₂ : List ℕ)
    (r : Tally) → W₁ ≡ W
    → ((gs hs : List Goal) (l : Line) → State relinking P W s a gs hs l → CopiesAre n hs)
    → Searched relinking (Choices c 0) P W₁ s a limit L X done W₂ L₂ X₂ r → Searched relinking Sat P W s a limit L X done W₂ L₂ X₂ r
planned_searched P W s a limit L X done c n W₁ W₂ L₂ X₂ r e w y =
    searched_bodies P W s a limit L X done c n W₂ L₂ X₂ r w (searched_open relinking P W s a limit L X done W₁ e (Choices c 0) W₂ L₂ X₂ r y)

-- another goal first
module _ (P W : List ℕ) (s : Agenda) (a : List Entry) (limit : ℕ) (L X : List ℕ) (done : Tally) (W₁ : List ℕ) (s₁ : Agenda)
    (f : Forwarded P W s a W₁ s₁) where
  pub begins_forwarded : Begins 0 P W s a limit L X done → Begins relinking P W₁ s₁ a limit L X done
  begins_forwarded b =
      let r = b.ready in
      let d = f.go r.gs r.hs r.line r.state in
      record { ready = record { gs = d.gs; hs = d.hs; line = d.line; state = d.state; bounds = f.bounds }; counts = b.counts }

  pub searched_forwarded :
      (W₂ L₂ X₂ : List ℕ) (r : Tally) → Searched relinking Sat P W₁ s₁ a limit L X done W₂ L₂ X₂ r
      → Searched 0 Sat P W s a limit L X done W₂ L₂ X₂ r
  searched_forwarded W₂ L₂ X₂ r y = record {
    kept = kept_below W W₁ W₂ s.top s₁.top f.higher y.kept f.kept;
    upto = y.upto;
    records = y.records;
    answer = λ gs hs l x.
        let d = f.go gs hs l x in
        tallied_same P limit (Sat gs hs l) (Sat d.gs d.hs d.line) (outcome L X done) (outcome L₂ X₂ r) d.same
        (y.answer d.gs d.hs d.line d.state);
  }
