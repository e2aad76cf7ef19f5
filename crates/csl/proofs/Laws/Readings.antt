-- Readings of verdicts that are marks, and quotients that they share. Assumes nothing.
use Rattle.std.specs.Prelude.{◌≡◌, Bool, ℕ, ◌<◌}
use Rattle.std.proofs.Common.{ap, ◌∙◌}
use Rattle.csl.specs.Fraction.{Fraction, Below}
use Rattle.csl.specs.Chain.{Chain}
use Rattle.csl.specs.Verdicts.{Verdict, marked, as_no, as_yes, least, most}
use Rattle.csl.specs.Until.{until_quotient, low_quotient, high_quotient}
use Rattle.csl.specs.Path.{AllDecided}
use Rattle.csl.specs.Backing.{AtEach}
use Rattle.csl.proofs.Laws.Verdicts.{as_no_mark, as_yes_mark, mark_decided}
use Rattle.csl.proofs.Laws.Quotient.{until_same}

-- verdicts that are marks are decided
pub marks_decided : (c : Chain) (v : ℕ → Verdict) (x : ℕ → Bool) → AtEach c (λ s. v s ≡ marked (x s)) → AllDecided c v
marks_decided c v x h s l = rw (h s l) (mark_decided (x s))

-- what is said of a fraction is said of one with the same parts
pub below_same : (z x y : Fraction) → (x.top ≡ y.top) × (x.bottom ≡ y.bottom) → Below z y → Below z x
below_same z x y e h = rw (e.0, e.1) h

pub same_below : (z x y : Fraction) → (x.top ≡ y.top) × (x.bottom ≡ y.bottom) → Below y z → Below x z
same_below z x y e h = rw (e.0, e.1) h

-- where both operands are marks, the quotients of either end's reading are those of the marks
module _ (c : Chain) (t : ℕ) (v w : ℕ → Verdict) (x y : ℕ → Bool) (h : AtEach c (λ s. v s ≡ marked (x s))) (k : AtEach c (λ s. w s ≡ marked (y s)))
    (s n : ℕ) (l : s < c.states) where
  pub low_marks : ((low_quotient c t v w s n).top ≡ (until_quotient c t x y s n).top)
      × ((low_quotient c t v w s n).bottom ≡ (until_quotient c t x y s n).bottom)
  low_marks =
      until_same c t (least v) (least w) x y (λ u m. ap as_no (h u m) ∙ as_no_mark (x u)) (λ u m. ap as_no (k u m) ∙ as_no_mark (y u)) s n l

  pub high_marks : ((high_quotient c t v w s n).top ≡ (until_quotient c t x y s n).top)
      × ((high_quotient c t v w s n).bottom ≡ (until_quotient c t x y s n).bottom)
  high_marks =
      until_same c t (most v) (most w) x y (λ u m. ap as_yes (h u m) ∙ as_yes_mark (x u)) (λ u m. ap as_yes (k u m) ∙ as_yes_mark (y u)) s n l
