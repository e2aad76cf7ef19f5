-- Rates by pairs of states and rates by lines, in a sheet whose moves name its states: the exit rate of a state is the sum of the rates on
-- its lines to other states, and for the next move that on all its lines. Assumes nothing.
use Rattle.std.specs.Prelude.{◌≡◌, Bool, ◌&&◌, ◌||◌, List, [], ◌∷◌, ℕ, zero, suc, ◌+◌, ◌≤◌, ◌<◌, ◌⊎◌, leb, ltb}
use Rattle.std.proofs.Math.Path.{refl}
use Rattle.std.proofs.Common.{ap, sym, ◌∙◌, inl, inr, ⊎_elim, arith}
use Rattle.std.proofs.Math.Bool.{true, false, cond}
use Rattle.std.proofs.Math.Dec.{eqb}
use borrow.Author.Tests.{eqb-true, eqb-false, ne_eqb, leb-false, ltb-false}
use Rattle.csl.specs.Text.{any}
use Rattle.csl.specs.Limits.{most_rate}
use Rattle.csl.specs.Moves.{Move, rate_in, rates_out}
use Rattle.csl.specs.Sheet.{Sheet}
use Rattle.csl.specs.Chain.{chain_of, sum_to, away, exit_rate}
use Rattle.csl.specs.Next.{next_exit_rate}
use Rattle.numbers.specs.Sum.{sum_cong, sum_add, sum_none}
use Rattle.csl.specs.Refusal.{strange_state, wrong_rate}
use Rattle.accepted.specs.Order.{neither}

-- each line names states below n
unfoldable pub Within : ℕ → List Move → Type 0
Within n [] = Unit {0}
Within n (m ∷ ms) = (m.from < n) × (m.to < n) × Within n ms

-- as the tests have it
pub within_tested : (n : ℕ) (ms : List Move) → strange_state n ms ≡ false → Within n ms
unfolding any Within
within_tested n [] h = tt
within_tested n (m ∷ ms) h =
    let a = neither (leb n m.from || leb n m.to) _ h in
    let b = neither (leb n m.from) _ a.0 in
    (leb-false _ _ b.0, leb-false _ _ b.1, within_tested n ms a.1)

-- each line has a rate above 0, as the tests have it too
unfoldable pub Moving : List Move → Type 0
Moving [] = Unit {0}
Moving (m ∷ ms) = (0 < m.rate) × Moving ms

above_0 : (f : Move → Bool) (ms : List Move) → any (λ m. eqb m.rate 0 || f m) ms ≡ false → Moving ms
unfolding any Moving
above_0 f [] h = tt
above_0 f (m ∷ ms) h =
    let a = neither (eqb m.rate 0 || f m) _ h in
    let b : m.rate ≡ 0 → ⊥ = eqb-false m.rate 0 (neither (eqb m.rate 0) (f m) a.0).0 in
    (omega arith, above_0 f ms a.1)

pub moving_tested : (ms : List Move) → wrong_rate ms ≡ false → Moving ms
moving_tested ms h = above_0 (λ m. ltb most_rate (rates_out ms m.from)) ms h

-- the share of one line in the sum over all targets
pub line_share : (b : Bool) (r to n : ℕ) → to < n → sum_to (λ t. cond (b && eqb to t) r 0) n ≡ cond b r 0
unfolding sum_to
line_share false r to n l = sum_none _ n (λ k i. refl)
line_share true r to zero l = absurd (omega arith)
line_share true r to (suc n) l = go (λ k. line_share true r to n k) (eqb to n) refl
  where
    before : (e : to ≡ n) → sum_to (λ t. cond (eqb to t) r 0) n ≡ 0
    before e = sum_none _ n λ k i. rw (ne_eqb to k (λ z. omega arith)) refl

    go : (to < n → sum_to (λ t. cond (eqb to t) r 0) n ≡ r) → (x : Bool) → eqb to n ≡ x
        → sum_to (λ t. cond (eqb to t) r 0) n + cond (eqb to n) r 0 ≡ r
    go h true e = rw e (omega (arith, before (eqb-true _ _ e)))
    go h false e =
        let d : to ≡ n → ⊥ = eqb-false _ _ e in
        rw e (omega (arith, h (omega arith)))

-- the rates from s, added over all targets, are the rates on its lines
pub rates_by_lines : (ms : List Move) (s n : ℕ) → Within n ms → sum_to (rate_in ms s) n ≡ rates_out ms s
unfolding Within rate_in rates_out
rates_by_lines [] s n h = sum_none _ n (λ k i. refl)
rates_by_lines (m ∷ ms) s n h =
    sum_add (λ t. cond (eqb m.from s && eqb m.to t) m.rate 0) (rate_in ms s) n
    ∙ omega (arith, line_share (eqb m.from s) m.rate m.to n h.1, rates_by_lines ms s n h.2)

-- the lines that do not go to their own state
unfoldable pub others : List Move → List Move
others [] = []
others (m ∷ ms) = cond (eqb m.from m.to) (others ms) (m ∷ others ms)

others_within : (n : ℕ) (ms : List Move) → Within n ms → Within n (others ms)
unfolding Within others
others_within n [] h = tt
others_within n (m ∷ ms) h = go (eqb m.from m.to) (others_within n ms h.2)
  where
    go : (x : Bool) → Within n (others ms) → Within n (cond x (others ms) (m ∷ others ms))
    go true k = k
    go false k = (h.0, h.1, k)

-- the share of one line in the rate from s to t, where it is known whether it leaves s: none from s to s by a line to another state, and none
-- from s to another state by a line to its own
other_own : (b : Bool) (from to r s : ℕ) → (from ≡ to → ⊥) → eqb from s ≡ b → cond (b && eqb to s) r 0 ≡ 0
other_own false from to r s d e = refl
other_own true from to r s d e = rw (ne_eqb to s (λ z. d (eqb-true _ _ e ∙ sym z))) refl

own_other : (b : Bool) (from to r s t : ℕ) → from ≡ to → (s ≡ t → ⊥) → eqb from s ≡ b → cond (b && eqb to t) r 0 ≡ 0
own_other false from to r s t e d h = refl
own_other true from to r s t e d h = rw (ne_eqb to t (λ z. d (sym (eqb-true _ _ h) ∙ e ∙ z))) refl

others_own : (ms : List Move) (s : ℕ) → rate_in (others ms) s s ≡ 0
unfolding rate_in others
others_own [] s = refl
others_own (m ∷ ms) s = go (eqb m.from m.to) refl (others_own ms s)
  where
    go : (x : Bool) → eqb m.from m.to ≡ x → rate_in (others ms) s s ≡ 0 → rate_in (cond x (others ms) (m ∷ others ms)) s s ≡ 0
    go true e k = k
    go false e k = omega (arith, other_own (eqb m.from s) m.from m.to m.rate s (eqb-false _ _ e) refl, k)

others_rate : (ms : List Move) (s t : ℕ) → (s ≡ t → ⊥) → rate_in ms s t ≡ rate_in (others ms) s t
unfolding rate_in others
others_rate [] s t d = refl
others_rate (m ∷ ms) s t d = go (eqb m.from m.to) refl (others_rate ms s t d)
  where
    go : (x : Bool) → eqb m.from m.to ≡ x → rate_in ms s t ≡ rate_in (others ms) s t
        → cond (eqb m.from s && eqb m.to t) m.rate 0 + rate_in ms s t ≡ rate_in (cond x (others ms) (m ∷ others ms)) s t
    go true e k = omega (arith, own_other (eqb m.from s) m.from m.to m.rate s t (eqb-true _ _ e) d refl, k)
    go false e k = omega (arith, k)

-- so for the chain of a sheet
module _ (sheet : Sheet) (within : Within sheet.states sheet.moves) where
  pub away_by_lines : (s t : ℕ) → away (chain_of sheet) s t ≡ rate_in (others sheet.moves) s t
  unfolding away chain_of
  away_by_lines s t = go (eqb s t) refl
    where
      go : (x : Bool) → eqb s t ≡ x → cond x 0 (rate_in sheet.moves s t) ≡ rate_in (others sheet.moves) s t
      go true e = let z : s ≡ t = eqb-true _ _ e in rw (← z) (sym (others_own sheet.moves s))
      go false e = others_rate sheet.moves s t (eqb-false _ _ e)

  pub exit_by_lines : (s : ℕ) → exit_rate (chain_of sheet) s ≡ rates_out (others sheet.moves) s
  unfolding exit_rate chain_of
  exit_by_lines s =
      sum_cong (away (chain_of sheet) s) (rate_in (others sheet.moves) s) sheet.states (λ t l. away_by_lines s t)
      ∙ rates_by_lines (others sheet.moves) s sheet.states (others_within _ sheet.moves within)

  pub next_exit_by_lines : (s : ℕ) → next_exit_rate (chain_of sheet) s ≡ rates_out sheet.moves s
  unfolding next_exit_rate chain_of
  next_exit_by_lines s = rates_by_lines sheet.moves s sheet.states within

-- what goes to other states is not more than all
pub others_slower : (ms : List Move) (s : ℕ) → rates_out (others ms) s ≤ rates_out ms s
unfolding rates_out others
others_slower [] s = omega arith
others_slower (m ∷ ms) s = go (eqb m.from m.to) (others_slower ms s)
  where
    go : (x : Bool) → rates_out (others ms) s ≤ rates_out ms s
        → rates_out (cond x (others ms) (m ∷ others ms)) s ≤ cond (eqb m.from s) m.rate 0 + rates_out ms s
    go true k = omega arith
    go false k = omega arith

-- a state that a line leaves keeps the limit of rates; one that none leaves has no rate
left_within : (b : ℕ) (f : ℕ → ℕ) (s : ℕ) (ms : List Move) → any (λ m. eqb m.rate 0 || ltb b (f m.from)) ms ≡ false
    → f s ≤ b ⊎ rates_out ms s ≡ 0
unfolding any rates_out
left_within b f s [] h = inr refl
left_within b f s (m ∷ ms) h =
    let p = neither (eqb m.rate 0 || ltb b (f m.from)) _ h in
    go (eqb m.from s) refl (ltb-false _ _ (neither (eqb m.rate 0) _ p.0).1) (left_within b f s ms p.1)
  where
    go : (x : Bool) → eqb m.from s ≡ x → f m.from ≤ b → f s ≤ b ⊎ rates_out ms s ≡ 0
        → f s ≤ b ⊎ cond (eqb m.from s) m.rate 0 + rates_out ms s ≡ 0
    go true e k r = let z : m.from ≡ s = eqb-true _ _ e in inl (omega (arith, ap f z))
    go false e k (inl r) = inl r
    go false e k (inr r) = inr (rw e (omega arith))

pub rates_tested : (ms : List Move) → wrong_rate ms ≡ false → (s : ℕ) → rates_out ms s ≤ most_rate
rates_tested ms h s = ⊎_elim (λ l. l) (λ e. omega arith) (left_within most_rate (rates_out ms) s ms h)
