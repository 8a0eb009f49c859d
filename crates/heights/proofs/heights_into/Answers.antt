-- `heights::heights_into` meets its contract. Assumes nothing.
use borrow.Author.Rules.{rules}
use Rattle.heights.proofs.Rows.{passed_start, passed_behind, passed_room, passed_step, passed_all}
use Rattle.heights.proofs.heights_into.Goals as goal

pub loop-i-init : goal.loop-i-init
loop-i-init c = search (rules, passed_start)

pub height_at-front-requires : goal.height_at-front-requires
height_at-front-requires c = search (rules, passed_behind)

pub bounds-row-first : goal.bounds-row-first
bounds-row-first c = search (rules, passed_room)

pub loop-i-preserved : goal.loop-i-preserved
loop-i-preserved c = search (rules, passed_step)

pub returns : goal.returns
returns c = search (rules, passed_all)
