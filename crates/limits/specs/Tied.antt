-- The constants of the code are the numbers of document 01, under the names of the definition. Assumes nothing.
use Rattle.std.specs.Prelude.{◌≡◌, refl}
use Rattle.csl.specs.Limits as csl
use Rattle.limits.specs.declared.TheConstants as code

pub record Tied : Type 0 where
  pub billion : code.BILLION ≡ csl.billion
  pub numbers : code.FORMULA_DIGITS ≡ csl.formula_digits
  pub fields : code.SHEET_DIGITS ≡ csl.sheet_digits
  pub names : code.MOST_NAMES ≡ csl.most_names
  pub letters : code.MOST_LETTERS ≡ csl.most_letters
  pub states : code.MOST_STATES ≡ csl.most_states
  pub moves : code.MOST_MOVES ≡ csl.most_moves
  pub rate : code.MOST_RATE ≡ csl.most_rate
  pub formula : code.FORMULA_BYTES ≡ csl.formula_bytes
  pub sheet : code.SHEET_BYTES ≡ csl.sheet_bytes
  pub nodes : code.MOST_NODES ≡ csl.most_nodes
  pub levels : code.MOST_LEVELS ≡ csl.most_levels
  pub threshold : code.MOST_THRESHOLD ≡ csl.most_threshold
  pub hour : code.HOUR ≡ csl.hour
  pub time : code.MOST_HUNDREDTHS ≡ csl.most_hundredths
  pub load : code.MOST_RATE_HUNDREDTHS ≡ csl.most_rate_hundredths
  pub unit : code.RATE_HUNDREDTHS ≡ csl.rate_hundredths
  pub spare : code.SPARE_STEPS ≡ csl.spare_steps
  pub words : code.MOVE_PLACES ≡ csl.move_places
  pub places : code.VECTOR_PLACES ≡ csl.vector_places
  pub besides : code.VECTOR_SPARE ≡ csl.vector_spare
  pub rows : code.MOST_ROWS ≡ csl.most_rows

pub tied : Tied
tied =
    record {
      billion = refl;
      numbers = refl;
      fields = refl;
      names = refl;
      letters = refl;
      states = refl;
      moves = refl;
      rate = refl;
      formula = refl;
      sheet = refl;
      nodes = refl;
      levels = refl;
      threshold = refl;
      hour = refl;
      time = refl;
      load = refl;
      unit = refl;
      spare = refl;
      words = refl;
      places = refl;
      besides = refl;
      rows = refl;
    }
