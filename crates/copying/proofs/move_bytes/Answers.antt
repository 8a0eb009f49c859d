-- `copying::move_bytes` meets its contract. Assumes nothing.
use Rattle.std.proofs.Common.{drop, length-drop, ◌∙◌, arith}
use Rattle.copying.proofs.Stores.{pasted}
use Rattle.copying.proofs.move_bytes.Goals as goal

pub returns : goal.returns
returns c =
    let t = c.args.t.now in
    let d = length-drop c.args.from t in
    c.copy_within.ensures.after ∙ pasted t (drop c.args.from t) c.args.to _ c.args.n (omega arith) (omega arith) (omega arith)
