-- The formula text: "One line, at most 512 bytes, tokens set apart by one space." Assumes nothing.
use Rattle.std.specs.Prelude.{ℕ, zero, suc, ◌≡◌, true, false, cond, ◌&&◌, List, [], ◌∷◌, ◌++◌, length, eqb, Option, None, Some}
use Rattle.csl.specs.Text.{Text, bytes, same}
use Rattle.csl.specs.Limits.{formula_digits}
use Rattle.csl.specs.Number.{is_number, value_of}
use Rattle.csl.specs.Line.{space, parts, lines_of, first_line, is_ended}
use Rattle.csl.specs.Labels.{is_word}
use Rattle.csl.specs.Hours.{hundredths_of}
use Rattle.csl.specs.Formula.{Formula, always, label, negated, both, chance, until, next_move, between, Comparison, Less, AtMost, AtLeast, More}

unfoldable pub tokens_of : Text → List Text
tokens_of text = parts space (first_line text)

-- what a reader makes of the tokens before it: a formula and the tokens after it, or nothing
pub data Found : Type 0 where
  nothing : Found
  found : Formula → List Text → Found

abbrev pub Reader : Type 0
Reader = List Text → Found

unfoldable pub and_then : Found → (Formula → List Text → Found) → Found
and_then nothing next = nothing
and_then (found a rest) next = next a rest

-- the four comparisons
unfoldable pub comparison_of : Text → Option Comparison
comparison_of w =
    cond (same w (bytes "<")) (Some Less)
    (cond (same w (bytes "<=")) (Some AtMost)
    (cond (same w (bytes ">=")) (Some AtLeast) (cond (same w (bytes ">")) (Some More) None)))

-- a number in the formula
unfoldable pub number_of : Text → Option ℕ
number_of w = cond (is_number formula_digits w) (Some (value_of w)) None

-- one token that spells something: a comparison, a threshold, or hours
unfoldable pub on_token : {A : Type 0} → (Text → Option A) → List Text → (A → List Text → Found) → Found
on_token spelled [] next = nothing
on_token spelled (w ∷ ts) next = elim (spelled w) [ None ↦ nothing | Some a ↦ next a ts ]

-- one state formula, and two
unfoldable pub single : Reader → (Formula → Formula) → Reader
single read make ts = and_then (read ts) λ a rest. found (make a) rest

unfoldable pub pair : Reader → (Formula → Formula → Formula) → Reader
pair read make ts = and_then (read ts) λ a more. and_then (read more) λ b rest. found (make a b) rest

-- how a path formula begins
pub data PathHead : Type 0 where
  untils nexts betweens no_path : PathHead

unfoldable pub path_head_of : Text → PathHead
path_head_of w = cond (same w (bytes "U")) untils (cond (same w (bytes "X")) nexts (cond (same w (bytes "V")) betweens no_path))

-- "A path formula is `U`, .. hours and two state formulas"; "a path formula may also be `X` and a state formula"; "a path formula may be `V` with
-- two times and two state formulas".
unfoldable pub path_behind : Reader → Comparison → ℕ → PathHead → Reader
path_behind read r p untils ts = on_token hundredths_of ts λ t rest. pair read (λ a b. chance r p (until t a b)) rest
path_behind read r p nexts ts = single read (λ a. chance r p (next_move a)) ts
path_behind read r p betweens ts =
    on_token hundredths_of ts λ t more. on_token hundredths_of more λ u rest. pair read (λ a b. chance r p (between t u a b)) rest
path_behind read r p no_path ts = nothing

unfoldable pub path : Reader → Comparison → ℕ → Reader
path read r p [] = nothing
path read r p (w ∷ ts) = path_behind read r p (path_head_of w) ts

-- how a state formula begins
pub data Head : Type 0 where
  truth name bang ampersand chances other : Head

-- "A word of 1 to 12 letters a to z other than `tt` counts as a label name here."
unfoldable pub head_of : Text → Head
head_of w =
    cond (same w (bytes "tt")) truth
    (cond (is_word w) name
    (cond (same w (bytes "!")) bang (cond (same w (bytes "&")) ampersand (cond (same w (bytes "P")) chances other))))

-- "A state formula is `tt`, a label name, `!` and a state formula, `&` and two state formulas, or `P`, a comparison, a threshold and a
-- path formula."
unfoldable pub state : Reader → Text → Head → Reader
state read w truth ts = found always ts
state read w name ts = found (label w) ts
state read w bang ts = single read negated ts
state read w ampersand ts = pair read both ts
state read w chances ts = on_token comparison_of ts λ r more. on_token number_of more λ p rest. path read r p rest
state read w other ts = nothing

-- a state formula at the head of the tokens; each reader within it has fewer tokens, so their number is steps enough
unfoldable pub read_state : ℕ → Reader
read_state zero ts = nothing
read_state (suc k) [] = nothing
read_state (suc k) (w ∷ ts) = state (read_state k) w (head_of w) ts

-- nothing may stand after it
unfoldable pub whole : Found → Option Formula
whole nothing = None
whole (found f []) = Some f
whole (found f (w ∷ ts)) = None

-- the formula that a text of one line spells, if it spells one
unfoldable pub read_formula : Text → Option Formula
read_formula text =
    cond (is_ended text && eqb (length (lines_of text)) 1) (whole (read_state (length (tokens_of text)) (tokens_of text))) None

-- The same grammar once more, as the paper lists it: which tokens spell a formula. `Theorems` shows that the reader finds a formula exactly
-- where the tokens spell one.
pub data Spells : Formula → List Text → Type 0 where
  spells_truth : Spells always (bytes "tt" ∷ [])
  spells_name : (w : Text) → is_word w ≡ true → same w (bytes "tt") ≡ false → Spells (label w) (w ∷ [])
  spells_not : {a : Formula} {s : List Text} → Spells a s → Spells (negated a) (bytes "!" ∷ s)
  spells_both : {a b : Formula} {s t : List Text} → Spells a s → Spells b t → Spells (both a b) (bytes "&" ∷ s ++ t)
  spells_until : {a b : Formula} {s t : List Text} (sign threshold hours : Text) (r : Comparison) (p u : ℕ)
      → comparison_of sign ≡ Some r → number_of threshold ≡ Some p → hundredths_of hours ≡ Some u
      → Spells a s → Spells b t
      → Spells (chance r p (until u a b)) (bytes "P" ∷ sign ∷ threshold ∷ bytes "U" ∷ hours ∷ s ++ t)
  spells_next : {a : Formula} {s : List Text} (sign threshold : Text) (r : Comparison) (p : ℕ)
      → comparison_of sign ≡ Some r → number_of threshold ≡ Some p → Spells a s
      → Spells (chance r p (next_move a)) (bytes "P" ∷ sign ∷ threshold ∷ bytes "X" ∷ s)
  spells_between : {a b : Formula} {s t : List Text} (sign threshold earlier later : Text) (r : Comparison) (p u v : ℕ)
      → comparison_of sign ≡ Some r → number_of threshold ≡ Some p → hundredths_of earlier ≡ Some u → hundredths_of later ≡ Some v
      → Spells a s → Spells b t
      → Spells (chance r p (between u v a b)) (bytes "P" ∷ sign ∷ threshold ∷ bytes "V" ∷ earlier ∷ later ∷ s ++ t)
