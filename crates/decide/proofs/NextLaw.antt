-- The report of a `P` over a next move: the ends that it leaves are those of the verdicts in its row, and the row is judged by them. Assumes
-- nothing.
use mathlib.Core.Path.{◌≡◌, refl}
use mathlib.Core.List.{List}
use Prim.Native.Nat.{ℕ, ◌<◌}
use native.Mathlib.Omega.{arith}
use Rattle.csl.specs.Formula.{Comparison}
use Rattle.csl.specs.Verdicts.{Verdict}
use Rattle.csl.specs.Next.{next_lower, next_upper}
use Rattle.csl.proofs.Laws.NextEnds.{ends_next}
use Rattle.numbers.specs.Filled.{at, filled_as}
use Rattle.csl.proofs.Laws.Decided.{all_decided_same}
use Rattle.verdicts.specs.Byte.{verdict_at, verdicts}
use Rattle.vectors.specs.Places.{EndsStored}
use Rattle.next_move.specs.Ends as next
use Rattle.next_move.specs.Shown.{exit_is, lower_is, upper_is}
use Rattle.verdict_rows.specs.Row.{EndsIn}
use Rattle.judgement.specs.Judged.{NextJudgeAsked, NextJudged}
use Rattle.decide.specs.Chance.{NextAsked, NextLeaves}
use Rattle.decide.proofs.RowsLaw.{ends_as}
use Rattle.decide.proofs.ReportLaw.{ends_in}

-- the ends may be found
pub may_find : {mv l marks : List ℕ} {n p : ℕ} → NextAsked mv l marks n p → next.NextAsked mv l marks n
may_find a =
    record {
      q = a.q;
      rates = a.prepared.rates;
      slow = λ s b. omega (arith, exit_is a.shows a.owns s b, a.owns.slow s b);
      room = a.held;
    }

module _ {mv l l' marks : List ℕ} {n p : ℕ} (a : NextAsked mv l marks n p)
    (u : EndsStored (next.lower_at mv l marks n) (next.upper_at mv l marks n) n l l') where
  -- a row that holds the verdicts v
  module _ (v : ℕ → Verdict) (h : (s : ℕ) → s < n → verdict_at (at marks s) ≡ v s) where
    ends_are : EndsStored (next_lower a.c v) (next_upper a.c v) n l l'
    ends_are = ends_as _ _ (λ s b. lower_is a.shows a.owns s b marks v h) (λ s b. upper_is a.shows a.owns s b marks v h) u

    ends_range : EndsIn n l'
    ends_range =
        ends_in ends_are (omega (arith, a.prepared.rates.long)) (λ s b. (ends_next a.c v s).lower_range) (λ s b. (ends_next a.c v s).upper_range)

  -- so the row may be judged
  pub may_judge_next : NextJudgeAsked l' marks n
  may_judge_next = record { ends = ends_range (λ s. verdict_at (at marks s)) (λ s b. refl); held = a.held }

-- and is, for whatever verdicts the row holds
module _ {mv l l' marks m : List ℕ} {n p d : ℕ} {r : Comparison} (u : EndsStored (next.lower_at mv l marks n) (next.upper_at mv l marks n) n l l')
    (j : NextJudged r p n l' marks m) (z : d ≡ 0) where
  pub next_left : (a : NextAsked mv l marks n p) → NextLeaves a r l' m d
  next_left a v h =
      record {
        row = filled_as _
            (λ s b. rw ((ends_are a u v h).lowers s b, (ends_are a u v h).uppers s b, all_decided_same n (verdicts marks) v h, a.shows.states) refl) j;
        report = record { ends = ends_are a u v h; range = ends_range a u v h; deep = z };
      }

pub ruleset next_laws = (may_find, may_judge_next, next_left)
