-- How csl's reader goes on behind a token that spells something, and in a path formula: by the first token, an empty one where there is none,
-- which spells nothing. Assumes nothing.
use Rattle.std.specs.Prelude.{◌≡◌, refl, ℕ, Option, None, Some}
use Rattle.std.proofs.Common.{◌∙◌}
use mathlib.Core.List.{List, [], ◌∷◌, head_d, tail}
use Rattle.csl.specs.Text.{Text, same, every}
use Rattle.csl.specs.Number.{is_number}
use Rattle.csl.specs.Line.{parts}
use Rattle.csl.specs.Hours.{hundredths_in, hundredths_of}
use Rattle.csl.specs.Formula.{Comparison}
use Rattle.csl.specs.Grammar.{Found, nothing, Reader, comparison_of, number_of, on_token, path_head_of, path_behind, path}

abbrev pub token_then : {A : Type 0} → Option A → (A → List Text → Found) → List Text → Found
token_then None next ts = nothing
token_then (Some a) next ts = next a ts

token_then_lem : {A : Type 0} (spelled : Text → Option A) → spelled [] ≡ None → (ts : List Text) (next : A → List Text → Found)
    → on_token spelled ts next ≡ token_then (spelled (head_d ts [])) next (tail ts)
unfolding on_token head_d
token_then_lem spelled empty [] next = rw empty refl
token_then_lem {A} spelled empty (w ∷ ts) next = go (spelled w)
  where
    go : (o : Option A) → ◌≡◌ {A = Found} (elim o [ None ↦ nothing | Some a ↦ next a ts ]) (token_then o next ts)
    go None = refl
    go (Some a) = refl

-- a comparison, a number, hours
pub comparison_then : (ts : List Text) (next : Comparison → List Text → Found)
    → on_token comparison_of ts next ≡ token_then (comparison_of (head_d ts [])) next (tail ts)
unfolding comparison_of same
comparison_then = token_then_lem comparison_of refl

pub number_then : (ts : List Text) (next : ℕ → List Text → Found) → on_token number_of ts next ≡ token_then (number_of (head_d ts [])) next (tail ts)
unfolding number_of is_number every
number_then = token_then_lem number_of refl

hours_then : (ts : List Text) (next : ℕ → List Text → Found)
    → on_token hundredths_of ts next ≡ token_then (hundredths_of (head_d ts [])) next (tail ts)
unfolding hundredths_of hundredths_in parts is_number every
hours_then = token_then_lem hundredths_of refl

-- behind hours, where `goal` says what comes of them and what where there are none
pub hours_by : (ts : List Text) (next : ℕ → List Text → Found) (goal : Option ℕ → Found) → nothing ≡ goal None
    → ((t : ℕ) → next t (tail ts) ≡ goal (Some t)) → on_token hundredths_of ts next ≡ goal (hundredths_of (head_d ts []))
hours_by ts next goal a b = hours_then ts next ∙ go (hundredths_of (head_d ts []))
  where
    go : (o : Option ℕ) → token_then o next (tail ts) ≡ goal o
    go None = a
    go (Some t) = b t

-- a path formula, by its first token
pub path_then : (read : Reader) (r : Comparison) (p : ℕ) (ts : List Text)
    → path read r p ts ≡ path_behind read r p (path_head_of (head_d ts [])) (tail ts)
unfolding path path_behind path_head_of head_d same
path_then read r p [] = refl
path_then read r p (w ∷ ts) = refl
