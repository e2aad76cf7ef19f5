-- The same row of nodes, from the tokens one by one: each token that begins a state formula is a node. Assumes nothing.
use Rattle.std.specs.Prelude.{ℕ, zero, suc, ◌-◌, set, replicate}
use mathlib.Core.List.{List, [], ◌∷◌, head_d, tail}
use Rattle.csl.specs.Text.{Text}
use Rattle.csl.specs.Limits.{most_nodes}
use Rattle.csl.specs.Labels.{place_of}
use Rattle.csl.specs.Formula.{PathOf, until_of, next_of, between_of, always, nodes}
use Rattle.csl.specs.Grammar.{Found, nothing, found, Reader, Head, truth, name, bang, ampersand, chances, other, head_of, state}
use Rattle.grammar.specs.Fixed.{read}
use Rattle.formula.specs.declared.nodes.Kind.{Kind}
use Rattle.formula.specs.declared.nodes.Kind.TheVariants as kind
use Rattle.formula.specs.Operands.{operands_of}
use Rattle.formula.specs.declared.operands.Operands.{Operands}
use Rattle.formula.specs.declared.operands.Operands.TheVariants.{None, One, Two}
use Rattle.formula.specs.declared.nodes.Nodes.{Nodes}
use Rattle.formula.specs.Nodes.{blank, path_meant}
use Rattle.formula.specs.Listed.{kind_held}
use Rattle.formula.specs.Waiting.{waits, nothing_waits, wait_for}

-- how many nodes the state formula at the head of the tokens has
abbrev pub nodes_found : Found → ℕ
nodes_found nothing = 0
nodes_found (found f rest) = nodes f

abbrev pub nodes_at : List Text → ℕ
nodes_at ts = nodes_found (read ts)

-- and the one behind it
abbrev pub nodes_behind : Found → ℕ
nodes_behind nothing = 0
nodes_behind (found f rest) = nodes_at rest

abbrev pub nodes_second : List Text → ℕ
nodes_second ts = nodes_behind (read ts)

-- a reader that takes no token for an operand: with it csl reads a node without its operands
abbrev pub hollow : Reader
hollow ts = found always ts

-- the tokens behind the first two
abbrev pub behind_two : List Text → List Text
behind_two ts = tail (tail ts)

-- the node of a `P` at place i, from what csl reads without its operands, which begin what is left
abbrev pub kind_found : ℕ → Found → Kind
kind_found i nothing = kind.Always
kind_found i (found f rest) = kind_held [] i (nodes_second rest) f

abbrev pub chance_kind : ℕ → List Text → Kind
chance_kind i ts = kind_found i (state hollow [] chances ts)

-- the node at place i that begins with the token w
abbrev pub head_kind : List Text → ℕ → Text → Head → List Text → Kind
head_kind names i w truth ts = kind.Always
head_kind names i w name ts = kind.Label (place_of names w)
head_kind names i w bang ts = kind.Negated (i - 1)
head_kind names i w ampersand ts = kind.Both (i - suc (nodes_second ts)) (i - 1)
head_kind names i w chances ts = chance_kind i ts
head_kind names i w other ts = kind.Always

abbrev pub top_kind : List Text → ℕ → Text → List Text → Kind
top_kind names i w ts = head_kind names i w (head_of w) ts

-- the tokens behind a path's own: `U` and its hours, `X`, or `V` and its two times
abbrev pub behind_path : PathOf ℕ → List Text → List Text
behind_path (until_of t a b) ts = behind_two ts
behind_path (next_of a) ts = tail ts
behind_path (between_of t u a b) ts = tail (behind_two ts)

-- the tokens behind a node's own: a `P` has a comparison, a threshold and its path's
abbrev pub behind_own : Kind → List Text → List Text
behind_own kind.Always ts = ts
behind_own (kind.Label i) ts = ts
behind_own (kind.Negated a) ts = ts
behind_own (kind.Both a b) ts = ts
behind_own (kind.Chance c p o) ts = behind_path (path_meant o) (behind_two ts)

-- the places of operands before the others that wait, and so those of a node's
abbrev pub awaiting_all : Operands → List ℕ → List ℕ
awaiting_all None ps = ps
awaiting_all (One a) ps = a ∷ ps
awaiting_all (Two a b) ps = a ∷ b ∷ ps

abbrev pub awaiting : Kind → List ℕ → List ℕ
awaiting k ps = awaiting_all (operands_of k) ps

-- so many nodes from the tokens, each put at the place that waits for it
unfoldable pub laying : List Text → ℕ → List ℕ → List Text → List Kind → List Kind
laying names zero ps ts ns = ns
laying names (suc k) ps ts ns =
    let kd = top_kind names (head_d ps 0) (head_d ts []) (tail ts) in
    laying names k (awaiting kd (tail ps)) (behind_own kd (tail ts)) (set ns (head_d ps 0) kd)

-- a row of so many nodes: the first token's node is the last
unfoldable pub laid : List Text → ℕ → List Text → Nodes
laid names count ts =
    record { nodes = laying names count (waits (wait_for (count - 1) nothing_waits)) ts (replicate most_nodes blank); count = count }
