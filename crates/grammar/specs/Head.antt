-- What the code's kinds of first token stand for. Assumes nothing.
use Rattle.std.specs.Prelude.{ℕ, ◌≤◌, Option, None, Some}
use Rattle.csl.specs.Grammar as csl
use Rattle.grammar.specs.declared.head.Head.{Head}
use Rattle.grammar.specs.declared.head.Head.TheVariants.{Truth, Name, Bang, Ampersand, Chance}

abbrev pub head_meant : Option Head → csl.Head
head_meant (Some Truth) = csl.truth
head_meant (Some Name) = csl.name
head_meant (Some Bang) = csl.bang
head_meant (Some Ampersand) = csl.ampersand
head_meant (Some Chance) = csl.chances
head_meant None = csl.other

-- a token of n bytes that begins a state formula is not empty
abbrev pub HeadFits : Option Head → ℕ → Type 0
HeadFits (Some h) n = 1 ≤ n
HeadFits None n = 0 ≤ n
