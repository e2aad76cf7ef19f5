-- `report` meets its contract. Assumes nothing.
use Rattle.std.proofs.Common.{rules}
use Rattle.decide.proofs.NodeLaw.{node_laws}
use Rattle.decide.proofs.node.report.Goals as goal

pub returns-in-Always : goal.returns-in-Always
returns-in-Always c = search (rules, node_laws)

pub returns-in-Label : goal.returns-in-Label
returns-in-Label c = search (rules, node_laws)

pub returns-in-Negated : goal.returns-in-Negated
returns-in-Negated c = search (rules, node_laws)

pub returns-in-Both : goal.returns-in-Both
returns-in-Both c = search (rules, node_laws)

pub returns-in-Chance : goal.returns-in-Chance
returns-in-Chance c = search (rules, node_laws)
