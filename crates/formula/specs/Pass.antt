-- The tests that are put to each node. Assumes nothing.
use Rattle.std.specs.Prelude.{ℕ, zero, suc, ◌*◌, List, Bool, true, not, ◌&&◌, ◌||◌, leb, ltb, eqb}
use Rattle.csl.specs.Limits.{most_threshold, most_hundredths, most_rate_hundredths}
use Rattle.csl.specs.Formula.{PathOf, times_pass, two_phases, phases_pass, times_in_order}
use Rattle.formula.specs.declared.nodes.Kind.{Kind}
use Rattle.formula.specs.declared.nodes.Kind.TheVariants as kind
use Rattle.formula.specs.declared.nodes.Nodes.{Nodes}
use Rattle.formula.specs.Nodes.{kind_at, path_meant}

-- a rate times hundredths of an hour within the limit
abbrev pub light_of : ℕ → ℕ → Bool
light_of q t = leb (q * t) most_rate_hundredths

-- no search along the moves may decide a `P` over this path: it may with the threshold 0, where an until of one phase has time
abbrev pub unsearched : {A : Type 0} → ℕ → PathOf A → Bool
unsearched p o = not (eqb p 0) || two_phases o || times_pass (λ t. eqb t 0) o

-- What is asked of every node: a label's place below a number of names; thresholds and hours within their limits; two times in order; a rate
-- times the hours of each phase, in hundredths, within its limit; or that no search along the moves may decide it.
pub data Test : Type 0 where
  Labels : ℕ → Test
  Limits Order : Test
  Load : ℕ → Test
  NoSearch : Test

-- what a label's place, and the threshold and the path formula of a `P`, have to pass
abbrev pub place_passes : Test → ℕ → Bool
place_passes (Labels names) i = ltb i names
place_passes Limits i = true
place_passes Order i = true
place_passes (Load q) i = true
place_passes NoSearch i = true

abbrev pub path_passes : {A : Type 0} → Test → ℕ → PathOf A → Bool
path_passes (Labels names) p o = true
path_passes Limits p o = leb p most_threshold && times_pass (λ t. leb t most_hundredths) o
path_passes Order p o = times_in_order o
path_passes (Load q) p o = phases_pass (light_of q) o
path_passes NoSearch p o = unsearched p o

abbrev pub passed : Test → Kind → Bool
passed test kind.Always = true
passed test (kind.Label i) = place_passes test i
passed test (kind.Negated a) = true
passed test (kind.Both a b) = true
passed test (kind.Chance c p o) = path_passes test p (path_meant o)

-- p 0 to p (n - 1) are all true
unfoldable pub all_below : (ℕ → Bool) → ℕ → Bool
all_below p zero = true
all_below p (suc n) = all_below p n && p n

-- a node of a list passes, by its place
abbrev pub place_passed : Test → List Kind → ℕ → Bool
place_passed test nodes k = passed test (kind_at nodes k)

-- every node of a formula passes
abbrev pub all_passed : Test → Nodes → Bool
all_passed test row = all_below (place_passed test row.nodes) row.count
