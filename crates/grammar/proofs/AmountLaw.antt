-- A token is a number where the digits at its start are one and nothing follows them. Assumes nothing.
use mathlib.Core.Path.{◌≡◌, refl, sym, ◌∙◌}
use Prim.Native.Nat.{ℕ, suc}
use native.Mathlib.Omega.{arith}
use mathlib.Core.Bool.{Bool, true, false, cond, ◌&&◌, true≢false, and-eq-true_iff}
use mathlib.Core.List.{[], ◌∷◌}
use Rattle.std.specs.Prelude.{Option, None, Some}
use Rattle.std.proofs.lemmas.Bool.Decides.{nat_tests}
use lib.ListN.{length}
use lib.Dec.{eqb}
use borrow.Author.Tests.{eqb-true}
use Rattle.csl.specs.Text.{Text, every}
use Rattle.csl.specs.Number.{is_digit, is_number, value_of}
use Rattle.texts.specs.Digits.{digit_run, number_at, read}
use Rattle.texts.specs.declared.digits.Numeral.{Numeral}
use Rattle.csl.specs.Grammar.{number_of}

-- all of it are digits
run_whole : (w : Text) → every is_digit w ≡ true → digit_run w ≡ w
unfolding every digit_run
run_whole [] e = refl
run_whole (b ∷ w) e = go (is_digit b) e (run_whole w)
  where
    go : (p : Bool) → (p && every is_digit w) ≡ true → (every is_digit w ≡ true → digit_run w ≡ w) → cond p (b ∷ digit_run w) [] ≡ b ∷ w
    go true e ih = rw (ih e)
    go false e ih = let z : ◌≡◌ {A = ℕ} 0 1 = cc in absurd (omega arith)

run_long : (w : Text) → length (digit_run w) ≡ length w → digit_run w ≡ w
unfolding digit_run
run_long [] e = refl
run_long (b ∷ w) e = go (is_digit b) e (run_long w)
  where
    go : (p : Bool) → length (cond p (b ∷ digit_run w) []) ≡ suc (length w) → (length (digit_run w) ≡ length w → digit_run w ≡ w)
        → cond p (b ∷ digit_run w) [] ≡ b ∷ w
    go true e ih = rw (ih (omega arith))
    go false e ih = absurd (omega arith)

number_digits : (w : Text) → is_number 10 w ≡ true → every is_digit w ≡ true
unfolding is_number
number_digits w e = ((and-eq-true_iff _ _).0 ((and-eq-true_iff _ _).0 ((and-eq-true_iff _ _).0 e).0).0).0

-- a number as a whole token is read whole
number_read : (w : Text) → is_number 10 w ≡ true → number_at 10 w ≡ read (value_of w) (length w)
unfolding number_at
number_read w e = rw (run_whole w (number_digits w e), e)

-- a token spells a number where one is read of it whole
abbrev whole_number : Option Numeral → ℕ → Option ℕ
whole_number None n = None
whole_number (Some r) n = cond (eqb r.used n) (Some r.value) None

pub amount_read : (w : Text) → number_of w ≡ whole_number (number_at 10 w) (length w)
unfolding number_of number_at
amount_read w = go (is_number 10 w) refl
  where
    none : is_number 10 w ≡ false → (p : Bool) → is_number 10 (digit_run w) ≡ p → (q : Bool) → eqb (length (digit_run w)) (length w) ≡ q
        → None ≡ whole_number (cond p (read (value_of (digit_run w)) (length (digit_run w))) None) (length w)
    none e true h true k = let d = run_long w (eqb-true _ _ k) in absurd (true≢false (sym (rw d at h) ∙ e))
    none e true h false k = rw k
    none e false h q k = refl

    go : (p : Bool) → is_number 10 w ≡ p → cond p (Some (value_of w)) None ≡ whole_number (number_at 10 w) (length w)
    go true e = rw number_read (grind (arith, nat_tests))
    go false e = none e (is_number 10 (digit_run w)) refl (eqb (length (digit_run w)) (length w)) refl

pub ruleset amount_laws = (amount_read, nat_tests)
