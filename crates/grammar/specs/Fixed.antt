-- The number of steps: more of them than tokens change nothing. So csl's reader is a reader of its own parts, with no word of steps.
-- Assumes nothing.
use Rattle.std.specs.Prelude.{◌≡◌, ℕ, zero, suc, ◌≤◌, length, Option, None, Some}
use Rattle.std.proofs.Math.Path.{refl}
use Rattle.std.proofs.Common.{sym, arith}
use mathlib.Core.List.{List, [], ◌∷◌, head_d, tail}
use Rattle.csl.specs.Text.{Text, same, every}
use Rattle.csl.specs.Labels.{is_word}
use Rattle.csl.specs.Hours.{hundredths_of}
use Rattle.csl.specs.Formula.{Formula, negated, both, chance, until, next_move, between, Comparison}
use Rattle.csl.specs.Grammar.{Found, nothing, found, Reader, and_then, comparison_of, number_of, on_token, single, pair, PathHead, untils, nexts, betweens, no_path, path_head_of, path_behind, path, Head, truth, name, bang, ampersand, chances, other, head_of, state, read_state}
use Rattle.grammar.specs.Left.{Leaves, none_read, left, Steady, steps_leave, last_length}

-- a state formula at the head of the tokens, as csl reads it
unfoldable pub read : Reader
read ts = read_state (length ts) ts

-- the same on all tokens of at most that number
abbrev Agree : ℕ → Reader → Reader → Type 0
Agree n r s = (ts : List Text) → length ts ≤ n → r ts ≡ s ts

-- what reads on after a token that spells something may be put for what does the same on all shorter tokens
token_agrees : {A : Type 0} (spelled : Text → Option A) (ts : List Text) (f g : A → List Text → Found)
    → ((a : A) → (more : List Text) → length more ≤ length ts → f a more ≡ g a more) → on_token spelled ts f ≡ on_token spelled ts g
unfolding on_token
token_agrees spelled [] f g h = refl
token_agrees {A} spelled (w ∷ ts) f g h = go (spelled w)
  where
    go : (o : Option A) → ◌≡◌ {A = Found} (elim o [ None ↦ nothing | Some a ↦ f a ts ]) (elim o [ None ↦ nothing | Some a ↦ g a ts ])
    go None = refl
    go (Some a) = h a ts (omega arith)

module _ (n : ℕ) (r s : Reader) (agree : Agree n r s) (steady : Steady s) where
  single_agrees : (make : Formula → Formula) → Agree n (single r make) (single s make)
  unfolding single
  single_agrees make ts h = rw (agree ts h)

  pair_agrees : (make : Formula → Formula → Formula) → Agree n (pair r make) (pair s make)
  unfolding pair and_then
  pair_agrees make ts h = rw (agree ts h) (go (steady ts))
    where
      go : {fd : Found} → Leaves ts fd
          → and_then fd (λ a more. and_then (r more) λ b rest. found (make a b) rest) ≡ and_then fd (λ a more. and_then (s more) λ b rest. found (make a b) rest)
      go none_read = refl
      go (left {rest = more} l) = rw (agree more (omega (arith, last_length l)))

  path_behind_agrees : (c : Comparison) (p : ℕ) (h : PathHead) → Agree n (path_behind r c p h) (path_behind s c p h)
  unfolding path_behind
  path_behind_agrees c p untils ts l =
      token_agrees hundredths_of ts _ _ λ t rest k. pair_agrees (λ a b. chance c p (until t a b)) rest (omega arith)
  path_behind_agrees c p nexts ts l = single_agrees (λ a. chance c p (next_move a)) ts l
  path_behind_agrees c p betweens ts l =
      token_agrees hundredths_of ts _ _ λ t more k. token_agrees hundredths_of more _ _ λ u rest m.
      pair_agrees (λ a b. chance c p (between t u a b)) rest (omega arith)
  path_behind_agrees c p no_path ts l = refl

  path_agrees : (c : Comparison) (p : ℕ) → Agree n (path r c p) (path s c p)
  unfolding path
  path_agrees c p [] l = refl
  path_agrees c p (w ∷ ts) l = path_behind_agrees c p (path_head_of w) ts (omega arith)

  state_agrees : (w : Text) (h : Head) → Agree n (state r w h) (state s w h)
  unfolding state
  state_agrees w truth ts l = refl
  state_agrees w name ts l = refl
  state_agrees w bang ts l = single_agrees negated ts l
  state_agrees w ampersand ts l = pair_agrees both ts l
  state_agrees w chances ts l =
      token_agrees comparison_of ts _ _ λ c more k. token_agrees number_of more _ _ λ p rest m. path_agrees c p rest (omega arith)
  state_agrees w other ts l = refl

steps_empty : (k : ℕ) → read_state k [] ≡ nothing
unfolding read_state
steps_empty zero = refl
steps_empty (suc k) = refl

-- as many steps as tokens, or more
steps_agree : (k m : ℕ) (ts : List Text) → length ts ≤ k → length ts ≤ m → read_state k ts ≡ read_state m ts
unfolding read_state
steps_agree zero m [] h l = sym (steps_empty m)
steps_agree zero m (w ∷ ts) h l = absurd (omega arith)
steps_agree (suc k) m [] h l = sym (steps_empty m)
steps_agree (suc k) zero (w ∷ ts) h l = absurd (omega arith)
steps_agree (suc k) (suc m) (w ∷ ts) h l =
    state_agrees (length ts) (read_state k) (read_state m) (λ us b. steps_agree k m us (omega arith) (omega arith)) (steps_leave m) w (head_of w) ts
    (omega arith)

pub steps_enough : (k : ℕ) (ts : List Text) → length ts ≤ k → read_state k ts ≡ read ts
unfolding read
steps_enough k ts h = steps_agree k (length ts) ts h (omega arith)

pub read_leaves : Steady read
unfolding read
read_leaves ts = steps_leave (length ts) ts

-- what begins no state formula
pub no_head : head_of [] ≡ other
unfolding head_of same is_word every
no_head = refl

-- csl's reader, from the head of the tokens on; where there is none it is taken for an empty one, which is no head of a formula either
pub read_next : (ts : List Text) → read ts ≡ state read (head_d ts []) (head_of (head_d ts [])) (tail ts)
unfolding read read_state state head_d
read_next [] = rw no_head
read_next (w ∷ ts) =
    state_agrees (length ts) (read_state (length ts)) read (λ us h. steps_enough (length ts) us h) read_leaves w (head_of w) ts (omega arith)
