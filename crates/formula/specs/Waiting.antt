-- The places that wait for their nodes. Assumes nothing.
use Rattle.std.specs.Prelude.{ℕ, ◌-◌, List, drop, set, replicate}
use Rattle.formula.specs.Operands.{operands_of}
use Rattle.formula.specs.declared.nodes.Kind.{Kind}
use Rattle.formula.specs.declared.operands.Operands.{Operands}
use Rattle.formula.specs.declared.operands.Operands.TheVariants.{None, One, Two}
use Rattle.formula.specs.declared.waiting.Waiting.{Waiting}

-- twice the most nodes
abbrev pub waiting_room : ℕ
waiting_room = 128

-- the places, the next first
abbrev pub waits : Waiting → List ℕ
waits w = drop w.from w.places

abbrev pub nothing_waits : Waiting
nothing_waits = record { places = replicate waiting_room 0; from = 65 }

-- one place more
abbrev pub wait_for : ℕ → Waiting → Waiting
wait_for p w = record { places = set w.places (w.from - 1) p; from = w.from - 1 }

-- the places of operands, the first before the second, and so those of a node
abbrev pub wait_for_all : Operands → Waiting → Waiting
wait_for_all None w = w
wait_for_all (One a) w = wait_for a w
wait_for_all (Two a b) w = wait_for a (wait_for b w)

abbrev pub wait_over : Kind → Waiting → Waiting
wait_over k w = wait_for_all (operands_of k) w
