-- `labels_known` meets its contract, by the law of `PassLaw`. Assumes nothing.
use borrow.Author.Rules.{rules}
use Rattle.std.proofs.Common.{tests}
use native.Mathlib.Omega.{arith}
use Rattle.std.proofs.lemmas.Iterator.{YieldsList-from_slice}
use Rattle.std.proofs.lemmas.Iterator.Search.{all_from_yields_List}
use Rattle.formula.specs.Pass.{Labels, passed}
use Rattle.formula.proofs.PassLaw.{all_tell}
use Rattle.formula.proofs.nodes.Nodes.labels_known.Goals as goal

pub returns : goal.returns
returns c =
    all_tell (Labels c.args.names) _ _ _ _ c.own.ensures (omega arith)
    (all_from_yields_List (passed (Labels c.args.names)) _ _ _ c.all.ensures.ran (YieldsList-from_slice c.own.result.now cc) λ x b q k. search (rules, tests))
