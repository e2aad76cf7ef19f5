-- What a path formula begins with, and how csl's reader goes on behind it. Assumes nothing.
use Rattle.std.specs.Prelude.{◌≡◌, refl, ℕ, Option, None, Some}
use Rattle.std.proofs.Common.{◌∙◌}
use mathlib.Core.List.{List, [], head_d, tail}
use Rattle.csl.specs.Text.{Text}
use Rattle.csl.specs.Hours.{hundredths_of}
use Rattle.csl.specs.Formula.{chance, until, next_move, between, Comparison}
use Rattle.csl.specs.Grammar.{Found, nothing, Reader, single, pair, PathHead, untils, nexts, betweens, no_path, path_head_of, path_behind, path}
use Rattle.grammar.specs.Then.{hours_by, path_then}
use Rattle.grammar.specs.declared.path_start.PathStart.{PathStart}
use Rattle.grammar.specs.declared.path_start.PathStart.TheVariants.{Until, Next, Between}

-- the hours that the first token spells
abbrev pub hours_at : List Text → Option ℕ
hours_at ts = hundredths_of (head_d ts [])

-- behind `U`, by its hours
abbrev pub hours_start : Option ℕ → Option PathStart
hours_start (Some t) = Some (Until t)
hours_start None = None

abbrev pub until_start : List Text → Option PathStart
until_start ts = hours_start (hours_at ts)

-- behind `V`, by its two times
abbrev pub times_start : Option ℕ → Option ℕ → Option PathStart
times_start (Some t) (Some u) = Some (Between t u)
times_start (Some t) None = None
times_start None o = None

abbrev pub between_start : List Text → Option PathStart
between_start ts = times_start (hours_at ts) (hours_at (tail ts))

-- what tokens begin with: by the first of them, and those behind it
abbrev head_start : PathHead → List Text → Option PathStart
head_start untils ts = until_start ts
head_start nexts ts = Some Next
head_start betweens ts = between_start ts
head_start no_path ts = None

unfoldable pub path_start_of : List Text → Option PathStart
path_start_of ts = head_start (path_head_of (head_d ts [])) (tail ts)

-- the tokens behind it: `U` and its hours are two, `X` is one, `V` and its two times are three
abbrev pub behind_start : Option PathStart → List Text → List Text
behind_start (Some (Until t)) ts = tail (tail ts)
behind_start (Some Next) ts = tail ts
behind_start (Some (Between t u)) ts = tail (tail (tail ts))
behind_start None ts = ts

-- what csl's reader finds there: two state formulas, or one
abbrev pub start_then : Option PathStart → Reader → Comparison → ℕ → Reader
start_then (Some (Until t)) read r p ts = pair read (λ a b. chance r p (until t a b)) ts
start_then (Some Next) read r p ts = single read (λ a. chance r p (next_move a)) ts
start_then (Some (Between t u)) read r p ts = pair read (λ a b. chance r p (between t u a b)) ts
start_then None read r p ts = nothing

pub path_by_start : (read : Reader) (r : Comparison) (p : ℕ) (ts : List Text)
    → path read r p ts ≡ start_then (path_start_of ts) read r p (behind_start (path_start_of ts) ts)
unfolding path_start_of path_behind
path_by_start read r p ts = path_then read r p ts ∙ by_head (path_head_of (head_d ts []))
  where
    after : Option PathStart → Found
    after h = start_then h read r p (behind_start h ts)

    by_head : (h : PathHead) → path_behind read r p h (tail ts) ≡ after (head_start h (tail ts))
    by_head untils = hours_by (tail ts) _ (λ o. after (hours_start o)) refl (λ t. refl)
    by_head nexts = refl
    by_head betweens =
        hours_by (tail ts) _ (λ o. after (times_start o (hours_at (tail (tail ts))))) refl
        λ t. hours_by (tail (tail ts)) _ (λ o. after (times_start (Some t) o)) refl (λ u. refl)
    by_head no_path = refl
