-- `rewriting::write_form` meets its contract: the bytes are copied where they have room, and nothing is written elsewhere. Assumes nothing.
use Rattle.rewriting.proofs.Forms.{form_left, form_written}
use borrow.Author.Rules.{rules}
use Rattle.rewriting.proofs.write_form.Goals as goal

pub returns-then-out-form : goal.returns-then-out-form
returns-then-out-form c = search (rules, form_left)

pub returns : goal.returns
returns c = search (rules, form_written)
