-- The report of a `P` over an until: its row is judged by the ends that the until leaves. Assumes nothing.
use mathlib.Core.Path.{◌≡◌, refl, ap, ◌∙◌}
use mathlib.Core.List.{List}
use Prim.Native.Nat.{ℕ, ◌+◌, ◌≤◌, ◌<◌}
use native.Mathlib.Omega.{arith}
use native.Mathlib.Nat.{zero-add}
use Rattle.csl.specs.Formula.{Comparison, until_of}
use Rattle.numbers.specs.Filled.{at, Filled, filled_else}
use Rattle.numbers.specs.Part.{rest}
use Rattle.verdicts.specs.Byte.{verdict_at}
use Rattle.incoming_moves.specs.Shown.{index_kept}
use Rattle.vectors.specs.Places.{values_from, owns_from}
use Rattle.until.specs.Asked.{Until}
use Rattle.until.specs.Shown.{depth_shown}
use Rattle.judgement.specs.Judged.{JudgeAsked, Judges, JudgeLeaves}
use Rattle.decide.specs.Chance.{UntilAsked, UntilLeaves}
use Rattle.decide.proofs.UntilEndsLaw.{Ready, lower_is, upper_is, ends_are, ends_range}

abbrev pub ready : {mv ix l marks : List ℕ} {n q t p : ℕ} (a : UntilAsked mv ix l marks n q t p) → Ready a.c mv l n q t
ready a = record { shows = a.shows; prepared = a.prepared; load = a.load }

module _ {mv ix l l' marks : List ℕ} {n q t p d : ℕ} (a : UntilAsked mv ix l marks n q t p) (u : Until mv marks (rest marks n) n q t l l' d) where
  -- the row may be judged
  abbrev pub may_judge : JudgeAsked ix l' marks n t p
  may_judge =
      record {
        c = a.c;
        of = a.shows.states;
        states = a.prepared.rates.lines.states;
        few = a.few_words;
        long = omega (arith, u.ends.same, a.prepared.rates.long);
        clear = λ k b. u.ends.after (values_from n + k) (omega arith) ∙ a.prepared.clear.columns (values_from n + k) (omega arith) (omega arith);
        index = λ z d. index_kept (a.index z d) (λ s b. u.ends.after (owns_from n + s) (omega arith));
        ends = ends_range (ready a) u (λ s. verdict_at (at marks s)) (λ s. verdict_at (at marks (n + s))) (λ s b. refl) (λ s b. refl);
        held = a.held;
      }

-- what is in neither of two rows is behind them
behind_both : (n s : ℕ) → (0 ≤ s → s < 0 + n → ⊥) → (n ≤ s → s < n + n → ⊥) → n + n ≤ s
behind_both n s x y = omega arith

-- and is, for whatever verdicts the rows hold
module _ {mv ix l l' marks m₁ m₂ : List ℕ} {n q t p d : ℕ} {r : Comparison} (u : Until mv marks (rest marks n) n q t l l' d)
    (j : (b : JudgeAsked ix l' marks n t p) → JudgeLeaves b r m₁) (z : Filled (λ s. 0) n n m₁ m₂) where
  until_left : (a : UntilAsked mv ix l marks n q t p) → UntilLeaves a r l' m₂ d
  until_left a v w h k =
      let g : Judges a.c r p (until_of t v w) n l' marks m₁ = j (may_judge a u) v w (record { first = h; second = k }) in
      record {
        rows = record {
          same = z.same ∙ g.same;
          first = λ s b. z.before (0 + s) (omega arith) ∙ ap (at m₁) (zero-add s) ∙ g.row s b ∙ rw (lower_is (ready a) u v w h k s b, upper_is (ready a) u v w h k s b) refl;
          second = z.filled;
          else = λ s x y. filled_else z s y ∙ g.beyond s (behind_both n s x y);
        };
        report = record {
          ends = ends_are (ready a) u v w h k;
          range = ends_range (ready a) u v w h k;
          deep = depth_shown a.shows a.prepared.rates.top u;
        };
      }

  -- also where the words are called otherwise
  pub until_left_in : (l₂ : List ℕ) → l₂ ≡ l' → (a : UntilAsked mv ix l marks n q t p) → UntilLeaves a r l₂ m₂ d
  until_left_in l₂ e a = rw e (until_left a)
