-- Step values, rounded down, from packed moves, a start, and which states are held. Assumes nothing.
use Rattle.std.specs.Prelude.{Bool, cond, ◌||◌, List, ℕ, zero, suc, ◌+◌, ◌*◌, ◌-◌, ◌/◌}
use Rattle.csl.specs.Phase.{Phase}
use Rattle.bounds.specs.Unit.{one}
use Rattle.rate_matrix.specs.Words.{exit_of, flow}

-- the states of a phase whose value is held at 1 or at 0
abbrev pub held_of : Phase → ℕ → Bool
held_of ph s = ph.one s || ph.nil s

-- what stays put at a state with this exit rate, of q; more than q where the value is held
abbrev pub stay_of : ℕ → ℕ → Bool → ℕ
stay_of q exit held = cond held (q + 1) (q - exit)

-- q times the value of state s one step after the values v, where it moves
unfoldable pub mixed : List ℕ → ℕ → ℕ → (ℕ → ℕ) → ℕ → ℕ
mixed mv m q v s = flow mv m v s + (q - exit_of mv m s) * v s

-- its value one step on
unfoldable pub next : List ℕ → ℕ → ℕ → (held : ℕ → Bool) (v : ℕ → ℕ) → ℕ → ℕ
next mv m q held v s = cond (held s) (v s) (mixed mv m q v s / q)

-- the value of state s at step k, from a start and the states that are held
unfoldable pub run_of : List ℕ → ℕ → ℕ → (start : ℕ → ℕ) (held : ℕ → Bool) → ℕ → ℕ → ℕ
run_of mv m q start held zero s = start s
run_of mv m q start held (suc k) s = next mv m q held (run_of mv m q start held k) s

-- that of a phase
abbrev pub start_of : Phase → ℕ → ℕ
start_of ph s = one * ph.start s

abbrev pub value_of : List ℕ → ℕ → ℕ → Phase → ℕ → ℕ → ℕ
value_of mv m q ph = run_of mv m q (start_of ph) (held_of ph)
