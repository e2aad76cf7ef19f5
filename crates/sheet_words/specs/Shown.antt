-- What the words of a stored sheet say of its chain. Assumes nothing.
use Rattle.std.specs.Prelude.{◌≡◌, refl, Bool, true, false, cond, not, ◌||◌, List, [], ◌∷◌, ℕ, zero, suc, ◌+◌, ◌/◌, ◌%◌, ◌^◌, ◌<◌, eqb, length, get_or}
use Rattle.std.proofs.Common.{sym, arith, eq-eqb}
use Rattle.std.proofs.lemmas.Bool.{false≢true}
use Rattle.std.proofs.Math.Bool.{and-eq-true_iff}
use Rattle.csl.specs.Text.{Text, same, among}
use Rattle.csl.specs.Labels.{no_repeat, names_of, states_of, place_of, mark_at}
use Rattle.csl.specs.Sheet.{sheet_of}
use Rattle.csl.specs.Chain.{chain_of}
use Rattle.csl.proofs.Laws.Grammar.{same_true}
use Rattle.accepted.specs.Rates.{next_exit_by_lines}
use Rattle.accepted.specs.Sheet.{SheetPassed}
use Rattle.numbers.specs.Filled.{at}
use Rattle.labels.specs.Words.{mark_bit_lem}
use Rattle.vectors.specs.Places.{marks_from}
use Rattle.vectors.specs.Owns.{Owns}
use Rattle.sheet_words.specs.Stored.{Stored}

same_self : (t : Text) → same t t ≡ true
unfolding same
same_self [] = refl
same_self (b ∷ t) = rw (eq-eqb b b refl) (same_self t)

or_true : (x : Bool) → (x || true) ≡ true
or_true true = refl
or_true false = refl

-- a text that stands among names is one of them
among_at : (names : List Text) (x : Text) (i : ℕ) → i < length names → get_or names i [] ≡ x → among names x ≡ true
unfolding among
among_at [] x i l e = absurd (omega arith)
among_at (y ∷ names) x zero l e = rw (e, same_self x)
among_at (y ∷ names) x (suc i) l e = rw (among_at names x i (omega arith) e) (or_true (same y x))

-- a name that does not repeat stands at its own place
place_at : (names : List Text) → no_repeat names ≡ true → (i : ℕ) → i < length names → place_of names (get_or names i []) ≡ i
unfolding no_repeat place_of
place_at [] h i l = absurd (omega arith)
place_at (x ∷ names) h zero l = rw (same_self x)
place_at (x ∷ names) h (suc i) l =
    let p = (and-eq-true_iff (not (among names x)) (no_repeat names)).0 h in
    go (same x (get_or names i [])) refl p.0 (place_at names p.1 i (omega arith))
  where
    go : (b : Bool) → same x (get_or names i []) ≡ b → not (among names x) ≡ true → place_of names (get_or names i []) ≡ i
        → cond (same x (get_or names i [])) 0 (suc (place_of names (get_or names i []))) ≡ suc i
    go true e k r = absurd (false≢true (rw (among_at names x i (omega arith) (sym (same_true x (get_or names i []) e))) at k))
    go false e k r = rw (e, r)

-- a bit is 1 where its mark holds
bit_one : (b : Bool) → eqb (cond b 1 0) 1 ≡ b
bit_one true = refl
bit_one false = refl

module _ {wanted : Bool} {moves labels : Text} {words₀ words vectors₀ vectors : List ℕ} (p : SheetPassed moves labels)
    (k : Stored wanted moves labels words₀ words vectors₀ vectors) where
  -- the rates to the own state, in their place
  pub sheet_owns : Owns (chain_of (sheet_of moves labels)) vectors (states_of labels)
  unfolding chain_of
  sheet_owns =
      record {
        owns = λ s l. k.owns s l;
        slow = λ s l. omega (arith, next_exit_by_lines (sheet_of moves labels) p.sound.within s, p.sound.slow s);
      }

  -- the marks of the labels: in the word of each state, the bit of a name's place
  pub marks_shown : (place : ℕ) → place < length (names_of labels) → (s : ℕ) → s < states_of labels
      → eqb (at vectors (marks_from (states_of labels) + s) / 2 ^ place % 2) 1 ≡ (chain_of (sheet_of moves labels)).mark (get_or (names_of labels) place []) s
  unfolding chain_of
  marks_shown place h s l =
      rw (k.marks s l, mark_bit_lem labels s place, place_at (names_of labels) p.sound.no_repeat_lem place h) (bit_one (mark_at labels s place))
