-- Decimals, and hours as a number and decimals that a point sets apart. Assumes nothing.
use mathlib.Core.Path.{◌≡◌, refl, ◌∙◌}
use Prim.Native.Nat.{ℕ, suc, ◌+◌, ◌*◌, ◌-◌, ◌≤◌}
use native.Mathlib.Omega.{arith}
use mathlib.Core.Bool.{Bool, true, false, cond, not, ◌&&◌, false≢true, and-false}
use mathlib.Core.List.{[], ◌∷◌, head_d}
use Rattle.std.specs.Prelude.{Option, Some, None, option_map}
use Rattle.std.proofs.lemmas.Bool.Decides.{nat_tests}
use lib.ListN.{length, take, drop, get_or}
use lib.Dec.{eqb, leb}
use borrow.Author.Tests.{leb-true, leb-false, ne_eqb}
use Rattle.csl.specs.Text.{Text}
use Rattle.csl.specs.Number.{is_digit, is_number, value_of, value_from}
use Rattle.csl.specs.Limits.{formula_digits, hour}
use Rattle.csl.specs.Line.{ahead, parts}
use Rattle.csl.specs.Hours.{point, is_decimals, decimals_of, hundredths_in, hundredths_of}
use Rattle.csl.specs.Grammar.{number_of}
use Rattle.texts.specs.Span.{span_of}
use Rattle.texts.specs.Behind.{parts_behind, behind_first, parts_first}
use Rattle.texts.specs.Cut.{rest_is, parts_cut, parts_whole}
use Rattle.grammar.specs.Hours.{decimals_in}

-- what decimals stand for, by how many bytes there are
pub decimals_one : (s : Text) → length s ≡ 1
    → decimals_in s ≡ cond (is_digit (get_or s 0 0) && not (eqb (get_or s 0 0) 48)) (Some ((get_or s 0 0 - 48) * 10)) None
unfolding is_decimals decimals_of value_from
decimals_one [] h = absurd (omega arith)
decimals_one (d ∷ []) h = let v : 0 + (d - 48) ≡ d - 48 = omega arith in rw v
decimals_one (d ∷ e ∷ s) h = absurd (omega arith)

pub decimals_two : (s : Text) → length s ≡ 2
    → decimals_in s
    ≡ cond (is_digit (get_or s 0 0) && is_digit (get_or s 1 0) && not (eqb (get_or s 1 0) 48))
    (Some ((get_or s 0 0 - 48) * 10 + (get_or s 1 0 - 48))) None
unfolding is_decimals decimals_of value_from
decimals_two [] h = absurd (omega arith)
decimals_two (d ∷ []) h = absurd (omega arith)
decimals_two (d ∷ e ∷ []) h = let v : 0 + (d - 48) ≡ d - 48 = omega arith in rw v
decimals_two (d ∷ e ∷ f ∷ s) h = absurd (omega arith)

pub decimals_other : (s : Text) → (length s ≡ 1 → ⊥) → (length s ≡ 2 → ⊥) → decimals_in s ≡ None
unfolding is_decimals
decimals_other [] h k = refl
decimals_other (d ∷ []) h k = absurd (h refl)
decimals_other (d ∷ e ∷ []) h k = absurd (k refl)
decimals_other (d ∷ e ∷ f ∷ s) h k = refl

pub ruleset decimal_laws = (decimals_one, decimals_two, decimals_other, nat_tests)

-- decimals have no point among them
decimals_part : (s : Text) → is_decimals s ≡ true → parts point s ≡ s ∷ []
unfolding is_decimals parts ahead
decimals_part [] h = absurd (false≢true h)
decimals_part (d ∷ []) h = grind (arith, nat_tests)
decimals_part (d ∷ e ∷ []) h = grind (arith, nat_tests)
decimals_part (d ∷ e ∷ f ∷ s) h = absurd (false≢true h)

-- hours of which f stands before the first point and x behind it
module _ (f x : Text) where
  no_decimals : is_decimals x ≡ false → hundredths_in (f ∷ parts point x) ≡ None
  unfolding hundredths_in
  no_decimals h = go (leb (length x) (span_of point x)) refl
    where
      go : (p : Bool) → leb (length x) (span_of point x) ≡ p → hundredths_in (f ∷ parts point x) ≡ None
      go true e = rw (parts_whole point x (leb-true _ _ e), h, and-false)
      go false e = rw (parts_cut point x (leb-false _ _ e), parts_first)

-- hours by what was read before the point, if it is a number, and the rest behind that
abbrev hours_by : Option ℕ → Text → Option ℕ
hours_by None r = None
hours_by (Some n) r = cond (eqb (length r) 0) (Some (n * hour)) (option_map (λ d. n * hour + d) (decimals_in (drop 1 r)))

hours_parted : (f r : Text) → hundredths_in (f ∷ parts_behind point r) ≡ hours_by (number_of f) r
unfolding hundredths_in parts_behind number_of
hours_parted f [] = go (is_number formula_digits f)
  where
    go : (p : Bool) → cond p (Some (value_of f * hour)) None ≡ hours_by (cond p (Some (value_of f)) None) []
    go true = refl
    go false = refl
hours_parted f (c ∷ x) = go (is_decimals x) refl (is_number formula_digits f) refl
  where
    some : eqb (suc (length x)) 0 ≡ false
    some = ne_eqb (suc (length x)) 0 (λ e. omega arith)

    go : (p : Bool) → is_decimals x ≡ p → (q : Bool) → is_number formula_digits f ≡ q
        → hundredths_in (f ∷ parts point x) ≡ hours_by (cond q (Some (value_of f)) None) (c ∷ x)
    go true e true k = rw (decimals_part x e, e, k, some)
    go true e false k = rw (decimals_part x e, e, k)
    go false e true k = rw (no_decimals f x e, e, some)
    go false e false k = no_decimals f x e

pub hours_read : (w : Text) → hundredths_of w ≡ hours_by (number_of (head_d (parts point w) [])) (behind_first point w)
unfolding hundredths_of head_d
hours_read w = rw parts_first (hours_parted (take (span_of point w) w) (behind_first point w))

-- n was read before the point, and the rest behind that is not empty
module _ (w rest : Text) (o : Option ℕ) (n : ℕ) (number : o ≡ number_of (head_d (parts point w) [])) (is : o ≡ Some n)
    (behind : rest ≡ behind_first point w) (some : 1 ≤ length rest) (q : Option ℕ)
    (read : q ≡ decimals_in (take (length rest - 1) (drop 1 rest))) where
  more : hundredths_of w ≡ option_map (λ d. n * hour + d) q
  more = hours_read w ∙ rw (← number, is, ← behind, ne_eqb (length rest) 0 (λ e. omega arith), read, rest_is)

  pub hours_broken : q ≡ None → None ≡ hundredths_of w
  hours_broken e = rw (more, e)

  pub hours_decimal : (d : ℕ) → q ≡ Some d → Some (n * hour + d) ≡ hundredths_of w
  hours_decimal d e = rw (more, e)

pub ruleset hour_laws = (hours_read, hours_broken, hours_decimal, nat_tests)
