-- The ends and verdicts that the checker finds, as functions of the chain and the formula alone. That they are a backing, so that every job whose
-- loads are in range has a report, is in proofs/Found. Assumes nothing.
use Rattle.std.specs.Prelude.{Bool, false, cond, ◌&&◌, ltb, eqb}
use Prim.Native.Nat.{ℕ, zero, suc, ◌-◌}
use Rattle.csl.specs.Limits.{billion}
use Rattle.csl.specs.Formula.{Comparison, Formula, always, label, negated, both, chance, Path, until, next_move, between, PathOf, until_of, next_of, between_of}
use Rattle.csl.specs.Chain.{Chain}
use Rattle.csl.specs.Verdicts.{Verdict, Yes, marked, negation, conjunction, judged, least, most}
use Rattle.csl.specs.Until.{until_phase}
use Rattle.csl.specs.Next.{next_lower, next_upper}
use Rattle.csl.specs.Report.{lower_of as plain_lower, upper_of as plain_upper}
use Rattle.csl.specs.Laws.Decided.{all_decided}
use Rattle.csl.specs.Laws.Ruling.{ruled_verdict}
use Rattle.csl.specs.Laws.Search.{leads_in}
use Rattle.bounds.specs.Rounded.{rounded, started_rounded}
use Rattle.bounds.specs.UntilEnds.{until_lower, until_upper}
use Rattle.bounds.specs.EarlierEnds.{earlier_lower, earlier_upper}

-- the ends of an until over t hundredths of an hour at each state, where the operands have the verdicts v and w
abbrev pub lower_found : Chain → ℕ → (v w : ℕ → Verdict) → ℕ → ℕ
lower_found c t v w = until_lower c t v w (rounded c (until_phase (least v) (least w)))

abbrev pub upper_found : Chain → ℕ → (v w : ℕ → Verdict) → ℕ → ℕ
upper_found c t v w = until_upper c t v w (rounded c (until_phase (most v) (most w)))

-- the ends of an until between the times t and u, with t above 0: those of the until over the difference, through the phase before it
abbrev pub lower_between : Chain → (t u : ℕ) → (v w : ℕ → Verdict) → ℕ → ℕ
lower_between c t u v w = earlier_lower c t v (lower_found c (u - t) v w) (started_rounded c (least v) (lower_found c (u - t) v w))

abbrev pub upper_between : Chain → (t u : ℕ) → (v w : ℕ → Verdict) → ℕ → ℕ
upper_between c t u v w =
    earlier_upper c t v (lower_found c (u - t) v w) (upper_found c (u - t) v w) (started_rounded c (least v) (lower_found c (u - t) v w))
    (started_rounded c (most v) (upper_found c (u - t) v w))

-- the ends of a path at each state, where its operands have the verdicts in o; one line for each kind of path
abbrev pub lower_path : Chain → PathOf (ℕ → Verdict) → ℕ → ℕ
lower_path c (until_of t v w) s = lower_found c t v w s
lower_path c (next_of v) s = next_lower c v s
lower_path c (between_of zero u v w) s = lower_found c u v w s
lower_path c (between_of (suc t) u v w) s = lower_between c (suc t) u v w s

abbrev pub upper_path : Chain → PathOf (ℕ → Verdict) → ℕ → ℕ
upper_path c (until_of t v w) s = upper_found c t v w s
upper_path c (next_of v) s = next_upper c v s
upper_path c (between_of zero u v w) s = upper_found c u v w s
upper_path c (between_of (suc t) u v w) s = upper_between c (suc t) u v w s

-- whether the moves may decide, since no operand state is undecided and there are not two phases; what is possible and what is certain, by the
-- moves. Of a next move the ends show it.
abbrev pub decided_path : Chain → PathOf (ℕ → Verdict) → Bool
decided_path c (until_of t v w) = all_decided c.states v && all_decided c.states w
decided_path c (next_of v) = all_decided c.states v
decided_path c (between_of zero u v w) = all_decided c.states v && all_decided c.states w
decided_path c (between_of (suc t) u v w) = false

abbrev pub possible_until : Chain → ℕ → (v w : ℕ → Verdict) → ℕ → Bool
possible_until c t v w s = cond (eqb t 0) (least w s) (leads_in c (least v) (least w) c.states s)

abbrev pub possible_path : Chain → PathOf (ℕ → Verdict) → ℕ → Bool
possible_path c (until_of t v w) s = possible_until c t v w s
possible_path c (next_of v) s = ltb 0 (next_upper c v s)
possible_path c (between_of t u v w) s = possible_until c u v w s

abbrev pub certain_path : Chain → PathOf (ℕ → Verdict) → ℕ → Bool
certain_path c (until_of t v w) s = least w s
certain_path c (next_of v) s = eqb (next_lower c v s) billion
certain_path c (between_of t u v w) s = least w s

-- and the verdict that follows
abbrev pub verdict_path : Chain → Comparison → ℕ → PathOf (ℕ → Verdict) → ℕ → Verdict
verdict_path c r p o s =
    ruled_verdict (decided_path c o) r p (possible_path c o s) (certain_path c o s) (judged r p (lower_path c o s) (upper_path c o s))

-- the verdict of a formula at each state; and, of a path, those of its operands
unfoldable mutual
  pub found : Chain → Formula → ℕ → Verdict
  found c always s = Yes
  found c (label name) s = marked (c.mark name s)
  found c (negated a) s = negation (found c a s)
  found c (both a b) s = conjunction (found c a s) (found c b s)
  found c (chance r p w) s = verdict_path c r p (found_in c w) s

  pub found_in : Chain → Path → PathOf (ℕ → Verdict)
  found_in c (until t a b) = until_of t (λ s. found c a s) (λ s. found c b s)
  found_in c (next_move a) = next_of (λ s. found c a s)
  found_in c (between t u a b) = between_of t u (λ s. found c a s) (λ s. found c b s)

-- the ends of its report
unfoldable pub report_lower : Chain → Formula → ℕ → ℕ
report_lower c always s = plain_lower (found c always s)
report_lower c (label name) s = plain_lower (found c (label name) s)
report_lower c (negated a) s = plain_lower (found c (negated a) s)
report_lower c (both a b) s = plain_lower (found c (both a b) s)
report_lower c (chance r p w) s = lower_path c (found_in c w) s

unfoldable pub report_upper : Chain → Formula → ℕ → ℕ
report_upper c always s = plain_upper (found c always s)
report_upper c (label name) s = plain_upper (found c (label name) s)
report_upper c (negated a) s = plain_upper (found c (negated a) s)
report_upper c (both a b) s = plain_upper (found c (both a b) s)
report_upper c (chance r p w) s = upper_path c (found_in c w) s
