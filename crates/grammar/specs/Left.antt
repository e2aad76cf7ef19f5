-- What a reader leaves: the last of the tokens before it. Assumes nothing.
use Rattle.std.specs.Prelude.{◌≡◌, refl, ℕ, zero, suc, ◌+◌, ◌≤◌, length, drop, Option, None, Some}
use Rattle.std.proofs.Common.{◌∙◌, arith, length-drop, drop-drop}
use mathlib.Core.List.{List, [], ◌∷◌}
use Rattle.csl.specs.Text.{Text}
use Rattle.csl.specs.Hours.{hundredths_of}
use Rattle.csl.specs.Formula.{Formula, negated, both, chance, until, next_move, between, Comparison}
use Rattle.csl.specs.Grammar.{Found, nothing, found, Reader, and_then, comparison_of, number_of, on_token, single, pair, PathHead, untils, nexts, betweens, no_path, path_head_of, path_behind, path, Head, truth, name, bang, ampersand, chances, other, head_of, state, read_state}

-- the last of the tokens ts
pub record Last (ts rest : List Text) : Type 0 where
  pub cut : ℕ
  pub is : rest ≡ drop cut ts

-- a reader that was given ts left the last of them
pub data Leaves : List Text → Found → Type 0 where
  none_read : {ts : List Text} → Leaves ts nothing
  left : {ts rest : List Text} {f : Formula} → Last ts rest → Leaves ts (found f rest)

-- a reader that does so on all tokens
abbrev pub Steady : Reader → Type 0
Steady read = (ts : List Text) → Leaves ts (read ts)

pub last_all : (ts : List Text) → Last ts ts
last_all ts = record { cut = 0; is = refl }

pub last_more : {w : Text} {ts rest : List Text} → Last ts rest → Last (w ∷ ts) rest
last_more l = record { cut = suc l.cut; is = l.is }

pub last_last : {ts us rest : List Text} → Last ts us → Last us rest → Last ts rest
last_last {ts} {us} {rest} a b =
    record { cut = a.cut + b.cut; is = b.is ∙ rw a.is (drop-drop b.cut a.cut ts) }

pub last_length : {ts rest : List Text} → Last ts rest → length rest ≤ length ts
last_length {ts} {rest} l = rw l.is (omega (arith, length-drop l.cut ts))

then_leaves : {ts : List Text} {fd : Found} (next : Formula → List Text → Found) → Leaves ts fd
    → ((a : Formula) (more : List Text) → Last ts more → Leaves ts (next a more)) → Leaves ts (and_then fd next)
unfolding and_then
then_leaves next none_read h = none_read
then_leaves next (left l) h = h _ _ l

within : {ts us : List Text} {fd : Found} → Last ts us → Leaves us fd → Leaves ts fd
within l none_read = none_read
within l (left m) = left (last_last l m)

token_leaves : {A : Type 0} (spelled : Text → Option A) (ts : List Text) (next : A → List Text → Found)
    → ((a : A) → (more : List Text) → Leaves more (next a more)) → Leaves ts (on_token spelled ts next)
unfolding on_token
token_leaves spelled [] next h = none_read
token_leaves {A} spelled (w ∷ ts) next h = go (spelled w)
  where
    go : (o : Option A) → Leaves (w ∷ ts) (elim o [ None ↦ nothing | Some a ↦ next a ts ])
    go None = none_read
    go (Some a) = within (last_more (last_all ts)) (h a ts)

module _ (read : Reader) (steady : Steady read) where
  single_leaves : (make : Formula → Formula) → Steady (single read make)
  unfolding single
  single_leaves make ts = then_leaves _ (steady ts) λ a rest l. left l

  pub pair_leaves : (make : Formula → Formula → Formula) → Steady (pair read make)
  unfolding pair
  pair_leaves make ts =
      then_leaves _ (steady ts) λ a more l. within l (then_leaves _ (steady more) λ b rest m. left m)

  path_behind_leaves : (r : Comparison) (p : ℕ) (h : PathHead) → Steady (path_behind read r p h)
  unfolding path_behind
  path_behind_leaves r p untils ts = token_leaves hundredths_of ts _ λ t rest. pair_leaves (λ a b. chance r p (until t a b)) rest
  path_behind_leaves r p nexts ts = single_leaves (λ a. chance r p (next_move a)) ts
  path_behind_leaves r p betweens ts =
      token_leaves hundredths_of ts _ λ t more. token_leaves hundredths_of more _ λ u rest. pair_leaves (λ a b. chance r p (between t u a b)) rest
  path_behind_leaves r p no_path ts = none_read

  pub path_leaves : (r : Comparison) (p : ℕ) → Steady (path read r p)
  unfolding path
  path_leaves r p [] = none_read
  path_leaves r p (w ∷ ts) = within (last_more (last_all ts)) (path_behind_leaves r p (path_head_of w) ts)

  pub state_leaves : (w : Text) (h : Head) → Steady (state read w h)
  unfolding state
  state_leaves w truth ts = left (last_all ts)
  state_leaves w name ts = left (last_all ts)
  state_leaves w bang ts = single_leaves negated ts
  state_leaves w ampersand ts = pair_leaves both ts
  state_leaves w chances ts = token_leaves comparison_of ts _ λ r more. token_leaves number_of more _ λ p rest. path_leaves r p rest
  state_leaves w other ts = none_read

pub steps_leave : (k : ℕ) → Steady (read_state k)
unfolding read_state
steps_leave zero ts = none_read
steps_leave (suc k) [] = none_read
steps_leave (suc k) (w ∷ ts) = within (last_more (last_all ts)) (state_leaves (read_state k) (steps_leave k) w (head_of w) ts)
