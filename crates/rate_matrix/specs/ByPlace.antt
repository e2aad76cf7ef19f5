-- What holds of a list of moves, place by place: sums, states in range, rates above 0. Assumes nothing.
use Rattle.std.specs.Prelude.{◌≡◌, refl, cond, ◌&&◌, List, [], ◌∷◌, ℕ, zero, suc, ◌+◌, ◌<◌, length, get_or, eqb}
use Rattle.std.proofs.Common.{ap, sym, ◌∙◌, arith}
use Rattle.csl.specs.Moves.{Move, rate_in, rates_out}
use Rattle.csl.specs.Chain.{sum_to}
use Rattle.accepted.specs.Rates.{Within, Moving}

-- what a place past the last move shows
abbrev pub no_move : Move
no_move = record { from = 0; to = 0; rate = 0 }

-- the move at a place
abbrev pub move_at : List Move → ℕ → Move
move_at ms j = get_or ms j no_move

-- a sum from the first term on
sum_first : (f : ℕ → ℕ) (n : ℕ) → sum_to f (suc n) ≡ f 0 + sum_to (λ k. f (suc k)) n
unfolding sum_to
sum_first f zero = omega arith
sum_first f (suc n) = omega (arith, sum_first f n)

pub rate_by_place : (ms : List Move) (s g : ℕ)
    → rate_in ms s g ≡ sum_to (λ j. cond (eqb (move_at ms j).from s && eqb (move_at ms j).to g) (move_at ms j).rate 0) (length ms)
unfolding rate_in sum_to
rate_by_place [] s g = refl
rate_by_place (m ∷ ms) s g =
    ap (λ (x : ℕ). cond (eqb m.from s && eqb m.to g) m.rate 0 + x) (rate_by_place ms s g) ∙ sym (sum_first _ (length ms))

pub out_by_place : (ms : List Move) (s : ℕ)
    → rates_out ms s ≡ sum_to (λ j. cond (eqb (move_at ms j).from s) (move_at ms j).rate 0) (length ms)
unfolding rates_out sum_to
out_by_place [] s = refl
out_by_place (m ∷ ms) s =
    ap (λ (x : ℕ). cond (eqb m.from s) m.rate 0 + x) (out_by_place ms s) ∙ sym (sum_first _ (length ms))

pub within_place : (n : ℕ) (ms : List Move) → Within n ms → (j : ℕ) → j < length ms → ((move_at ms j).from < n) × ((move_at ms j).to < n)
unfolding Within
within_place n [] w j l = absurd (omega arith)
within_place n (m ∷ ms) w zero l = (w.0, w.1)
within_place n (m ∷ ms) w (suc j) l = within_place n ms w.2 j (omega arith)

pub moving_place : (ms : List Move) → Moving ms → (j : ℕ) → j < length ms → 0 < (move_at ms j).rate
unfolding Moving
moving_place [] w j l = absurd (omega arith)
moving_place (m ∷ ms) w zero l = w.0
moving_place (m ∷ ms) w (suc j) l = moving_place ms w.1 j (omega arith)
