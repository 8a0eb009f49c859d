-- `sweeping::contract_abstraction` meets its contract, by whether the abstraction contracts. Assumes nothing.
use Rattle.sweeping.proofs.Contraction.{eta_substitution, eta_written, abstracted_too_long, abstracted_written}
use borrow.Author.Rules.{rules}
use Rattle.sweeping.proofs.contract_abstraction.Goals as goal

pub substitute_into-m-requires : goal.substitute_into-m-requires
substitute_into-m-requires c = search (rules, eta_substitution)

pub returns-then-contracts : goal.returns-then-contracts
returns-then-contracts c =
    eta_written _ _ c.contracts.ensures c.if-contracts.true _ _ _ _ c.requires.most c.substitute_into-m.ensures

pub returns-then-n-gt-SWEPT_BYTES : goal.returns-then-n-gt-SWEPT_BYTES
returns-then-n-gt-SWEPT_BYTES c = search (rules, abstracted_too_long)

pub returns : goal.returns
returns c = search (rules, abstracted_written)
