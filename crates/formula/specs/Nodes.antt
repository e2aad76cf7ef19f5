-- The nodes of a row, by their places. Assumes nothing.
use Rattle.std.specs.Prelude.{◌≡◌, refl, ℕ, zero, suc, ◌<◌, List, [], length, get_or, replicate}
use Rattle.csl.specs.Text.{Text}
use Rattle.csl.specs.Labels.{place_of}
use Rattle.csl.specs.Formula.{PathOf, until_of, next_of, between_of}
use Rattle.formula.specs.declared.nodes.Path.{Path}
use Rattle.formula.specs.declared.nodes.Path.TheVariants as path
use Rattle.formula.specs.declared.nodes.Kind.{Kind}
use Rattle.formula.specs.declared.nodes.Kind.TheVariants as kind

-- what stands where nothing was laid
abbrev pub blank : Kind
blank = kind.Always

abbrev pub kind_at : List Kind → ℕ → Kind
kind_at nodes k = get_or nodes k blank

-- of one value over and over each place has it, and so has what is past the end
pub same_throughout : {A : Type 0} (n i : ℕ) (x : A) → get_or (replicate n x) i x ≡ x
same_throughout zero i x = refl
same_throughout (suc n) zero x = refl
same_throughout (suc n) (suc i) x = same_throughout n i x

-- the paper's path formula over places
abbrev pub path_meant : Path → PathOf ℕ
path_meant (path.Until t a b) = until_of t a b
path_meant (path.Next a) = next_of a
path_meant (path.Between t u a b) = between_of t u a b

-- a label's place is that of a name
abbrev pub LabelKnown : List Text → Kind → Type 0
LabelKnown names kind.Always = Unit {0}
LabelKnown names (kind.Label p) = (p < length names) × (place_of names (get_or names p []) ≡ p)
LabelKnown names (kind.Negated a) = Unit {0}
LabelKnown names (kind.Both a b) = Unit {0}
LabelKnown names (kind.Chance c p o) = Unit {0}
