-- The report of a `P` over an until between two times, by whether the first of them is 0. Assumes nothing.
use mathlib.Core.Path.{◌≡◌}
use mathlib.Core.List.{List}
use Prim.Native.Nat.{ℕ}
use native.Mathlib.Omega.{arith}
use Rattle.csl.specs.Formula.{Comparison}
use Rattle.decide.specs.Chance.{UntilAsked, UntilLeaves, TwoPhasesAsked, TwoPhasesLeaves, BetweenAsked, BetweenLeaves}

module _ {mv ix l marks : List ℕ} {n q t u p : ℕ} (a : BetweenAsked mv ix l marks n q t u p) where
  -- "With the first time 0 it is `U` with the second."
  module _ (z : t ≡ 0) where
    abbrev pub may_until_from_0 : UntilAsked mv ix l marks n q u p
    may_until_from_0 =
        record {
          c = a.c;
          shows = a.shows;
          prepared = a.prepared;
          few_words = a.few_words;
          index = a.index z;
          load = a.load z;
          threshold = a.threshold;
          held = a.held;
        }

    pub from_0_left : {r : Comparison} {l' m : List ℕ} {d : ℕ} → ((b : UntilAsked mv ix l marks n q u p) → UntilLeaves b r l' m d) → BetweenLeaves a r l' m d
    from_0_left b v w h k =
        let i = b may_until_from_0 v w h k in
        rw z (record { rows = i.rows; report = record { ends = i.report.ends; range = i.report.range; deep = i.report.deep } })

  module _ (z : t ≡ 0 → ⊥) where
    abbrev pub may_two_phases : TwoPhasesAsked mv l marks n q t u p
    may_two_phases =
        record {
          c = a.c;
          shows = a.shows;
          prepared = a.prepared;
          some = omega arith;
          in_order = a.in_order;
          earlier_load = (a.loads z).0;
          later_load = (a.loads z).1;
          threshold = a.threshold;
          held = a.held;
        }

    pub two_phases_decided : {r : Comparison} {l' m : List ℕ} {d : ℕ} → ((b : TwoPhasesAsked mv l marks n q t u p) → TwoPhasesLeaves b r l' m d)
        → BetweenLeaves a r l' m d
    two_phases_decided b v w h k = b may_two_phases v w h k

pub ruleset between_laws = (from_0_left, two_phases_decided)
