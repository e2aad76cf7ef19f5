-- Ends from sums: a lower and an upper bound of each of the two readings. Assumes nothing.
use Rattle.std.specs.Prelude.{◌≡◌, Bool, ℕ, ◌+◌, ◌*◌, ◌≤◌}
use Rattle.csl.specs.Limits.{billion}
use Rattle.csl.specs.Formula.{until_of}
use Rattle.csl.specs.Fraction.{Below, billionths}
use Rattle.csl.specs.Chain.{Chain, top_rate, depth}
use Rattle.csl.specs.Verdicts.{Verdict, No, Yes, least, most}
use Rattle.csl.specs.Until.{until_quotient, until_slack}
use Rattle.csl.specs.Path.{AllDecided}
use Rattle.csl.specs.Ends.{EndsAt}
use Rattle.csl.proofs.Laws.Fraction.{wider, more_room}

-- from D on the quotients lie from `low` to `high` billionths, and these are at most 4 × D apart
pub record Bounds (c : Chain) (t : ℕ) (x y : ℕ → Bool) (s low high : ℕ) : Type 0 where
  pub below : (n : ℕ) → depth c t ≤ n → Below (billionths low) (until_quotient c t x y s n)
  pub above : (n : ℕ) → depth c t ≤ n → Below (until_quotient c t x y s n) (billionths high)
  pub near : high ≤ low + until_slack c t

module _ (c : Chain) (t : ℕ) (v w : ℕ → Verdict) (s low high low' high' : ℕ)
    (b : Bounds c t (least v) (least w) s low high) (b' : Bounds c t (most v) (most w) s low' high')
    (narrow : AllDecided c v → AllDecided c w → high' ≤ low + until_slack c t)
    (low-range : low ≤ billion) (high-range : high' ≤ billion)
    (moving : top_rate c * t ≡ 0 → ⊥) (not-certain : w s ≡ Yes → ⊥) (not-impossible : v s ≡ No → w s ≡ No → ⊥) where
  pub ends_summed : EndsAt c (until_of t v w) s low high'
  ends_summed =
      record {
        lower_side = b.below;
        lower_near = λ n d. wider _ high (low + until_slack c t) b.near (b.above n d);
        upper_side = b'.above;
        upper_near = λ n d. more_room _ low' high' (until_slack c t) b'.near (b'.below n d);
        width = λ h. narrow h.0 h.1;
        lower_range = low-range;
        upper_range = high-range;
        points = record {
          certain = λ h. absurd (not-certain h);
          impossible = λ h k. absurd (not-impossible h k);
          lower_exact = λ z. absurd (moving z);
          upper_exact = λ z. absurd (moving z);
        };
      }
