-- What a job whose texts are not turned back has at most, and that the program's buffers are long enough for it. Assumes nothing.
use mathlib.Core.Path.{◌≡◌}
use mathlib.Core.Bool.{true, false, and-eq-true_iff}
use Prim.Native.Nat.{ℕ, zero, suc, ◌+◌, ◌*◌, ◌-◌, ◌≤◌, ◌<◌, min}
use native.Mathlib.Omega.{arith}
use lib.ListN.{length}
use lib.Dec.{leb}
use borrow.Author.Tests.{leb-true, le-ltb}
use Rattle.csl.specs.Text.{any}
use Rattle.csl.specs.Limits.{billion, most_rate_hundredths}
use Rattle.csl.specs.Formula.{Formula, always, label, negated, both, chance, Path, until, next_move, between, path_of, Comparison, nodes, phases_pass, paths_pass}
use Rattle.csl.specs.Chain.{Chain, top_rate, load, depth}
use Rattle.csl.specs.Path.{meaning}
use Rattle.csl.specs.Backing.{PathBacked, ChanceKeeps}
use Rattle.csl.specs.Verdicts.{Verdict, No, Yes, Undecided}
use Rattle.csl.specs.Report.{Reported, PlainReport, depth_of, lower_of, upper_of}
use Rattle.csl.specs.Lent.{Buffers, rooms, is_short}
use Rattle.csl.proofs.Laws.Backing.{kept_operands}
use Rattle.csl.specs.Refusal.{Job, job_states, job_moves, job_chain, job_formula, in_load, short_buffer}
use Rattle.accepted.specs.Job.{Passed}

module _ (j : Job) (p : Passed j) where
  -- lent buffers of these lengths are long enough
  pub none_short : (lent : Buffers ℕ) → 512 ≤ lent.lower → 512 ≤ lent.upper → 512 ≤ lent.verdicts → 512 ≤ lent.order
      → 8192 ≤ lent.moves → 5632 ≤ lent.vectors → 8704 ≤ lent.marks → short_buffer j lent ≡ false
  unfolding short_buffer is_short rooms any
  none_short lent a b c d e f g =
      let n : job_states j ≤ 512 = p.sheet.sound.few_states in
      let m : length (job_moves j) ≤ 4096 = p.sheet.sound.few_moves in
      simp (
        le-ltb lent.lower (job_states j) (omega arith),
        le-ltb lent.upper (job_states j) (omega arith),
        le-ltb lent.verdicts (job_states j) (omega arith),
        le-ltb lent.order (job_states j) (omega arith),
        le-ltb lent.moves (2 * length (job_moves j)) (omega arith),
        le-ltb lent.vectors (10 * job_states j + 512) (omega arith),
        le-ltb lent.marks (min (17 * job_states j) (nodes (job_formula j) * job_states j)) (omega arith),
      )

-- the depth of a load that is not too high
depth_low : (c : Chain) (t : ℕ) → top_rate c * t ≤ most_rate_hundredths → depth c t ≤ 168
unfolding depth load
depth_low c t h = omega arith

-- that of a path: of one phase, or of two
path_within : (c : Chain) (w : Path) → phases_pass (λ t. leb (top_rate c * t) most_rate_hundredths) (path_of w) ≡ true → (meaning c (path_of w)).depth ≤ 336
path_within c (until t a b) h = omega (arith, depth_low c t (leb-true (top_rate c * t) most_rate_hundredths h))
path_within c (next_move a) h = omega arith
path_within c (between zero u a b) h = omega (arith, depth_low c u (leb-true (top_rate c * u) most_rate_hundredths h))
path_within c (between (suc t) u a b) h =
    let k = (and-eq-true_iff (leb (top_rate c * suc t) most_rate_hundredths) (leb (top_rate c * (u - suc t)) most_rate_hundredths)).0 h in
    omega (
      arith,
      depth_low c (suc t) (leb-true (top_rate c * suc t) most_rate_hundredths k.0),
      depth_low c (u - suc t) (leb-true (top_rate c * (u - suc t)) most_rate_hundredths k.1),
    )

depth_within : (c : Chain) (f : Formula) → paths_pass (in_load (top_rate c)) f ≡ true → depth_of c f ≤ 336
unfolding depth_of paths_pass
depth_within c always h = omega arith
depth_within c (label w) h = omega arith
depth_within c (negated a) h = omega arith
depth_within c (both a b) h = omega arith
depth_within c (chance r p w) h = path_within c w ((and-eq-true_iff (phases_pass (λ t. leb (top_rate c * t) most_rate_hundredths) (path_of w)) _).0 h).0

pub depth_few : (j : Job) → Passed j → depth_of (job_chain j) (job_formula j) ≤ 336
depth_few j p = depth_within (job_chain j) (job_formula j) p.formula.fitting.loads

-- "Ends lie from 0 to 1,000,000,000."
pub record InRange (lower upper : ℕ) : Type 0 where
  pub low : lower ≤ billion
  pub high : upper ≤ billion

of_verdict : (v : Verdict) → InRange (lower_of v) (upper_of v)
of_verdict No = record { low = omega arith; high = omega arith }
of_verdict Yes = record { low = omega arith; high = omega arith }
of_verdict Undecided = record { low = omega arith; high = omega arith }

module _ (c : Chain) (lower upper : ℕ → ℕ) (v : ℕ → Verdict) (s : ℕ) (b : s < c.states) where
  plain_in_range : (f : Formula) → PlainReport c f lower upper v → InRange (lower s) (upper s)
  plain_in_range f k = rw (k.lowers s b, k.uppers s b) (of_verdict (v s))

  path_in_range : (w : Path) (r : Comparison) (p : ℕ) → PathBacked c w (ChanceKeeps c r p lower upper v) → InRange (lower s) (upper s)
  path_in_range w r p k =
      let h = kept_operands c w (ChanceKeeps c r p lower upper v) k in
      record { low = (h.ends s b).lower_range; high = (h.ends s b).upper_range }

  pub ends_in_range : (f : Formula) → Reported c f lower upper v → InRange (lower s) (upper s)
  ends_in_range always k = plain_in_range always k
  ends_in_range (label w) k = plain_in_range (label w) k
  ends_in_range (negated a) k = plain_in_range (negated a) k
  ends_in_range (both a e) k = plain_in_range (both a e) k
  ends_in_range (chance r p w) k = path_in_range w r p k
