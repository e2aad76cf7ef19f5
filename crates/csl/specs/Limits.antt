-- The limits of document 01, with what the requests of document 02 make of them, each under its own name. Assumes nothing.
use Rattle.std.specs.Prelude.{ℕ, ◌*◌}

-- "A billionth is 1/1,000,000,000; thresholds and interval ends are whole billionths."
abbrev pub billion : ℕ
billion = 1000000000

-- "of at most 10 digits in the formula and 9 elsewhere"
abbrev pub formula_digits : ℕ
formula_digits = 10

abbrev pub sheet_digits : ℕ
sheet_digits = 9

-- "up to 16 label names"; "A name is 1 to 12 letters"
abbrev pub most_names : ℕ
most_names = 16

abbrev pub most_letters : ℕ
most_letters = 12

-- "There are 1 to 512 states"; "0 to 4,096 lines"
abbrev pub most_states : ℕ
most_states = 512

abbrev pub most_moves : ℕ
most_moves = 4096

-- "The rates out of one state add to at most 64,000,000."
abbrev pub most_rate : ℕ
most_rate = 64000000

-- "at most 512 bytes"; "Moves and labels have at most 61,440 bytes each."
abbrev pub formula_bytes : ℕ
formula_bytes = 512

abbrev pub sheet_bytes : ℕ
sheet_bytes = 61440

-- "at most 64, nested at most 16 deep"
abbrev pub most_nodes : ℕ
most_nodes = 64

abbrev pub most_levels : ℕ
most_levels = 16

-- "threshold over 1,000,000,000"
abbrev pub most_threshold : ℕ
most_threshold = 1000000000

-- "The reader of hours .. hands back hundredths": an hour, in these
abbrev pub hour : ℕ
hour = 100

-- "the top is 8,760 hours as before"; "14 compares q × hundredths with 6,400,000,000"
abbrev pub most_hundredths : ℕ
most_hundredths = 8760 * hour

abbrev pub most_rate_hundredths : ℕ
most_rate_hundredths = 64000000 * hour

-- rates count moves per million hours: "The load is q × hundredths / 100,000,000"
abbrev pub rate_hundredths : ℕ
rate_hundredths = 1000000 * hour

-- "The depth D is 2 × (L rounded up to a whole number) + 40."
abbrev pub spare_steps : ℕ
spare_steps = 40

-- "at most 4 × D from each of them"; "the two ends differ by at most 4 × D"
abbrev pub width_factor : ℕ
width_factor = 4

-- for `X` "the width is at most 1, which here takes the place of 4 × D; .. depth is 0"
abbrev pub next_width : ℕ
next_width = 1

abbrev pub next_depth : ℕ
next_depth = 0

-- "the move words lent grow to 2 × m"
abbrev pub move_places : ℕ
move_places = 2

-- "vector words (64 bits) of 10 × n + 512"
abbrev pub vector_places : ℕ
vector_places = 10

abbrev pub vector_spare : ℕ
vector_spare = 512

-- "mark bytes of 17 × n, or nodes × n where that is less": rows of n bytes, at most so many
abbrev pub most_rows : ℕ
most_rows = 17
