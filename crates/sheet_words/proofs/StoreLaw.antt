-- The words of a sheet, stored one after the other. Assumes nothing.
use mathlib.Core.Path.{◌≡◌, refl, sym, ap, ◌∙◌}
use mathlib.Core.Bool.{Bool, true, false, true≢false}
use mathlib.Core.List.{List}
use Prim.Native.Nat.{ℕ, ◌+◌, ◌≤◌, ◌<◌}
use native.Mathlib.Omega.{arith}
use lib.ListN.{length, take, drop, length-drop}
use lib.Seq.{get_or-take, get_or-drop, length-take-le, ext_get_or}
use Rattle.csl.specs.Text.{Text}
use Rattle.csl.specs.Labels.{states_of}
use Rattle.csl.specs.Moves.{moves_layout, moves_of}
use Rattle.csl.specs.Sheet.{sheet_of}
use Rattle.csl.specs.Chain.{chain_of}
use Rattle.accepted.specs.Sheet.{SheetPassed}
use Rattle.refusals.specs.Sheet.{dimensions_of}
use Rattle.numbers.specs.Filled.{at, Filled, Table}
use Rattle.numbers.specs.Part.{rest, rest_length, back, part_filled}
use Rattle.moves.specs.Words.{move_word}
use Rattle.labels.specs.Words.{state_word}
use Rattle.rate_matrix.specs.Halves.{half, own_rate}
use Rattle.rate_matrix.specs.Words.{from_of, to_of, rate_of, Lines}
use Rattle.rate_matrix.specs.Laid.{own_slower, rows_lines}
use Rattle.rate_matrix.specs.Shown.{Shows, top_shown}
use Rattle.rate_matrix.specs.Stored.{Holds, holds_behind, sheet_lines, owns_stored, shows_stored, moving_stored}
use Rattle.incoming_moves.specs.Indexed.{IndexAsked, Indexed}
use Rattle.incoming_moves.specs.Shown.{IndexShows, may_index, own_kept, else_kept, index_shows, index_kept}
use Rattle.vectors.specs.Places.{owns_from, marks_from, vector_length}
use Rattle.vectors.specs.Prepared.{PrepareAsked, Laid, prepared_kept}
use Rattle.refusals.specs.declared.sheet_tests.Dimensions.{Dimensions}
use Rattle.sheet_words.specs.Stored.{MarksAsked, IndexStored, StoreAsked, Stored}

-- the index, where it is wanted; where it is not, nothing is changed
module _ {mv l : List ℕ} {m n : ℕ} (a : IndexAsked mv m l (owns_from n) n) where
  pub index_stored : {wanted : Bool} {mv' l' : List ℕ} → Indexed mv mv' m (owns_from n) n l l' → IndexStored wanted mv mv' m n l l'
  index_stored x =
      record {
        same = x.placed.same;
        moves = x.placed.before;
        after = x.placed.after;
        long = x.ends.same;
        owns = own_kept a x;
        else = else_kept a x;
        index = λ e. x;
      }

  pub none_stored : {wanted : Bool} → wanted ≡ false → IndexStored wanted mv mv m n l l
  none_stored e =
      record {
        same = refl;
        moves = λ j b. refl;
        after = λ k b. refl;
        long = refl;
        owns = λ s b. omega (arith, a.small s b);
        else = λ k b. refl;
        index = λ h. absurd (true≢false (sym h ∙ e));
      }

-- the moves of a sheet that passed, as words behind the place of the rows
module _ {m₀ labels : Text} (p : SheetPassed m₀ labels) {words₀ words₁ : List ℕ} (wide : length (moves_of m₀) + length (moves_of m₀) ≤ length words₀)
    (t : Filled (move_word m₀) (length (moves_of m₀)) (length (moves_of m₀)) words₀ words₁) where
  abbrev m : ℕ
  m = length (moves_of m₀)

  holds : Holds (drop m words₁) (moves_of m₀)
  holds = holds_behind words₁ m (moves_of m₀) t.filled

  lines : Lines (drop m words₁) m (states_of labels)
  lines = sheet_lines (drop m words₁) (sheet_of m₀ labels) p.sound holds

  -- laid in rows
  module _ {words₂ vectors₀ vectors₁ : List ℕ} (l : Laid words₁ words₂ m (states_of labels) vectors₀ vectors₁)
      (long : vector_length (states_of labels) ≤ length vectors₀) where
    abbrev rows : List ℕ
    rows = take m words₂

    shows : Shows (chain_of (sheet_of m₀ labels)) rows m (states_of labels)
    shows = shows_stored (drop m words₁) (sheet_of m₀ labels) p.sound holds l.laid.rows

    row_at : (j : ℕ) → j < m → at rows j ≡ at words₂ j
    row_at j b = get_or-take m words₂ j 0 b

    words_long : length words₂ ≡ length words₀
    words_long = l.laid.same ∙ t.same

    -- the rates to the own state are below the half that the ends of the index's rows stand above
    own_small : (s : ℕ) → s < states_of labels → at vectors₁ (owns_from (states_of labels) + s) < half
    own_small s b = omega (arith, l.owns s b, own_slower (drop m words₁) m s, lines.limit s b)

    index_asked : IndexAsked words₂ m vectors₁ (owns_from (states_of labels)) (states_of labels)
    index_asked =
        may_index rows words₂ vectors₁ (rows_lines l.laid.rows lines) row_at (omega (arith, words_long)) (omega (arith, l.same)) own_small

    moving : (j : ℕ) → j < m → (from_of words₂ j ≡ to_of words₂ j → ⊥) → 0 < rate_of words₂ j
    moving j b = rw (← row_at j b) (moving_stored (drop m words₁) (sheet_of m₀ labels) p.sound holds l.laid.rows j b)

    -- indexed, and then marked
    module _ {wanted : Bool} {words vectors₂ : List ℕ} (x : IndexStored wanted words₂ words m (states_of labels) vectors₁ vectors₂) where
      words_same : length words ≡ length words₀
      words_same = x.same ∙ words_long

      many : length (take m words) ≡ m
      many = length-take-le m words (omega (arith, words_same))

      -- the first words are still those that were laid
      still : take m words ≡ rows
      still =
          ext_get_or 0 (take m words) rows (many ∙ sym l.laid.rows.many)
          (λ k b. let i : k < m = omega (arith, many) in get_or-take m words k 0 i ∙ x.moves k i ∙ sym (row_at k i))

      abbrev behind : List ℕ
      behind = take m (drop m words)

      shown : wanted ≡ true → IndexShows (chain_of (sheet_of m₀ labels)) behind vectors₂ (owns_from (states_of labels)) (states_of labels)
      shown e =
          index_shows behind index_asked (x.index e) shows row_at moving
          (length-take-le m (drop m words) (omega (arith, words_same, length-drop m words)))
          (λ k b. get_or-take m (drop m words) k 0 b ∙ get_or-drop m words k 0)

      all_stored : {vectors : List ℕ} → Filled (state_word labels) (marks_from (states_of labels)) (states_of labels) vectors₂ vectors
          → Stored wanted m₀ labels words₀ words vectors₀ vectors
      all_stored {vectors} f =
          record {
            lines = drop m words₁;
            holds = holds;
            rows = rw still l.laid.rows;
            shows = rw (many, still) shows;
            index = λ e. index_kept (shown e) (λ s b. f.before _ (omega arith));
            words_same = words_same;
            words_beyond = λ k b. x.after k b ∙ l.laid.behind k (omega arith) ∙ t.after k b;
            taken = many;
            prepared = rw (still, top_shown shows)
                (prepared_kept l.prepared (f.same ∙ x.long)
                (λ k a b o. f.before k b ∙ x.else k (λ c d. o c (omega arith))));
            owns = λ s b. ap own_rate (f.before _ (omega arith)) ∙ x.owns s b ∙ l.owns s b
                ∙ owns_stored (drop m words₁) (sheet_of m₀ labels) p.sound holds s;
            ends = λ k b. f.before k (omega arith) ∙ x.else k (λ c d. omega arith) ∙ l.ends k b;
            marks = f.filled;
            same = f.same ∙ x.long ∙ l.same;
            beyond = λ k b. f.after k (omega arith) ∙ x.else k (λ c d. omega arith) ∙ l.beyond k (omega arith);
          }

-- a sheet that passed its tests
module _ {m₀ labels : Text} {d : Dimensions} (is : d ≡ dimensions_of m₀ labels)
    {words₀ vectors₀ : List ℕ} (p : StoreAsked m₀ labels words₀ vectors₀) where
  good : SheetPassed m₀ labels
  good = p.passed

  pub moves_room : (moves_layout m₀ ≡ true) × (length (moves_of m₀) ≤ length (rest words₀ d.moves))
  moves_room = (good.moves_layout_lem, omega (arith, rest_length words₀ d.moves, ap (λ (x : Dimensions). x.moves) is, p.room))

  module _ {ys : List ℕ} (y : Table (move_word m₀) (rest words₀ d.moves) ys (length (moves_of m₀))) where
    moved : Filled (move_word m₀) (length (moves_of m₀)) (length (moves_of m₀)) words₀ (back words₀ (length (moves_of m₀)) ys)
    moved = part_filled words₀ (length (moves_of m₀)) (omega (arith, p.room)) (rw is at y)

    pub prepare_asked : PrepareAsked (back words₀ d.moves ys) d.moves vectors₀ d.states
    prepare_asked = rw is (record { lines = lines good p.room moved; behind = omega (arith, moved.same, p.room); long = p.long })

    module _ {words₂ vectors₁ : List ℕ} (l : Laid (back words₀ d.moves ys) words₂ d.moves d.states vectors₀ vectors₁) where
      pub may_index_words : IndexAsked words₂ d.moves vectors₁ (owns_from d.states) d.states
      may_index_words = rw is (index_asked good p.room moved (rw is at l) p.long)

      module _ {wanted : Bool} {words vectors₂ : List ℕ} (x : IndexStored wanted words₂ words d.moves d.states vectors₁ vectors₂) where
        pub marks_asked : MarksAsked labels d.names vectors₂ d.states
        marks_asked =
            rw is
            (record {
              layout = good.labels_layout_lem;
              count = refl;
              few = good.sound.few_names;
              states = refl;
              small = good.sound.few_states;
              long = omega (arith, x.long, l.same, p.long);
            })

        pub stored : {vectors : List ℕ} → Filled (state_word labels) (marks_from d.states) d.states vectors₂ vectors
            → Stored wanted m₀ labels words₀ words vectors₀ vectors
        stored f = all_stored good p.room moved (rw is at l) p.long (rw is at x) (rw is at f)
