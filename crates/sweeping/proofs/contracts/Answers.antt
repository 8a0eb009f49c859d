-- `sweeping::contracts` meets its contract: each test is one of the conditions of the sweep's second rule. Assumes nothing.
use native.Mathlib.Omega.{arith}
use Rattle.records.proofs.Slices.{slice_length}
use Rattle.sweeping.proofs.Contraction.{body_whole, body_argument_whole, argument_no_local}
use Rattle.sweeping.proofs.Contraction.{argument_outer, counted_uses}
use borrow.Author.Rules.{rules}
use Rattle.sweeping.proofs.contracts.Goals as goal

pub count_uses-uses-requires : goal.count_uses-uses-requires
count_uses-uses-requires c =
    let n = slice_length c.args.body.now 4 in
    search (rules, body_whole)

pub bounds-argument-0 : goal.bounds-argument-0
bounds-argument-0 c =
    omega (arith, (body_argument_whole _ c.if-body.false _ _ c.count_uses-uses.ensures c.requires).least)

pub returns-then-argument : goal.returns-then-argument
returns-then-argument c = search (rules, argument_no_local)

pub number_at-requires : goal.number_at-requires
number_at-requires c =
    omega (arith, (body_argument_whole _ c.if-body.false _ _ c.count_uses-uses.ensures c.requires).least)

pub returns-then-number_at-ne0 : goal.returns-then-number_at-ne0
returns-then-number_at-ne0 c = search (rules, argument_outer)

pub returns : goal.returns
returns c = search (rules, counted_uses)
