-- Moves texts over the same labels that have the same rates say the same chain. Assumes nothing.
use Rattle.std.specs.Prelude.{◌≡◌, refl, Bool, true, false, ◌&&◌, List, [], ◌∷◌, ◌⊎◌, ℕ, ◌≤◌, ◌<◌, eqb, ltb}
use Rattle.std.proofs.Common.{ap, sym, ◌∙◌, inl, inr, ⊎_elim, arith, ne_eqb, ltb-true, ltb-false}
use Rattle.std.proofs.Math.Path.{fun_ext}
use Rattle.csl.specs.Text.{Text}
use Rattle.csl.specs.Labels.{names_of, states_of, place_of, mark_at}
use Rattle.csl.specs.Moves.{Move, moves_of, rate_in}
use Rattle.csl.specs.Sheet.{sheet_of}
use Rattle.csl.specs.Chain.{Chain, chain_of}
use Rattle.accepted.specs.Rates.{Within}

-- the chain of a sheet's two texts
abbrev pub chain_in : (moves labels : Text) → Chain
chain_in moves labels = chain_of (sheet_of moves labels)

-- with rates given
abbrev with_rates : (labels : Text) → (ℕ → ℕ → ℕ) → Chain
with_rates labels rate = record { states = states_of labels; rate = rate; mark = λ w s. mark_at labels s (place_of (names_of labels) w) }

pub same_everywhere : (a b labels : Text) → ((s t : ℕ) → rate_in (moves_of a) s t ≡ rate_in (moves_of b) s t) → chain_in a labels ≡ chain_in b labels
unfolding chain_of
same_everywhere a b labels h = ap (with_rates labels) (fun_ext (λ s. fun_ext (λ t. h s t)))

-- moves that name states below n have no rate beyond them
and_no : (b : Bool) → (b && false) ≡ false
and_no true = refl
and_no false = refl

none_beyond : (n : ℕ) (ms : List Move) (s t : ℕ) → Within n ms → (n ≤ s) ⊎ (n ≤ t) → rate_in ms s t ≡ 0
unfolding Within rate_in
none_beyond n [] s t w h = refl
none_beyond n (m ∷ ms) s t w h =
    let e : (eqb m.from s && eqb m.to t) ≡ false
    = ⊎_elim (λ (l : n ≤ s). rw (ne_eqb m.from s (λ z. omega (arith, w.0))) refl)
    (λ (l : n ≤ t). rw (ne_eqb m.to t (λ z. omega (arith, w.1))) (and_no (eqb m.from s))) h in
    rw (e, none_beyond n ms s t w.2 h) refl

-- so rates that are the same below n are the same everywhere
pub same_below : (n : ℕ) (l k : List Move) → Within n l → Within n k → ((s t : ℕ) → s < n → t < n → rate_in l s t ≡ rate_in k s t)
    → (s t : ℕ) → rate_in l s t ≡ rate_in k s t
same_below n l k v w h s t = go (ltb s n) (ltb t n) refl refl
  where
    beyond : (n ≤ s) ⊎ (n ≤ t) → rate_in l s t ≡ rate_in k s t
    beyond b = none_beyond n l s t v b ∙ sym (none_beyond n k s t w b)

    go : (x y : Bool) → ltb s n ≡ x → ltb t n ≡ y → rate_in l s t ≡ rate_in k s t
    go false y e f = beyond (inl (ltb-false s n e))
    go true false e f = beyond (inr (ltb-false t n f))
    go true true e f = h s t (ltb-true s n e) (ltb-true t n f)
