-- `scanning::search_parts` meets its contract. The loop's invariant: what is sought in the parts that are left is sought in all. Assumes
-- nothing.
use Prim.Native.Nat.{◌*◌, ◌≤◌}
use Rattle.terms.specs.Figures.{most_places}
use Rattle.scanning.proofs.Parts.{PartsLeft}
use Rattle.scanning.specs.Steps.{RuleTables}
use Rattle.scanning.proofs.search_parts.Given as goal

abbrev pub invariant-loop-k : goal.invariant-loop-k
invariant-loop-k l =
    RuleTables l.book l.lines l.values l.work × (l.pairs ≤ most_places * l.k) × PartsLeft l.book l.recipe l.pairs l.k
