-- The report of a job that passed all tests, from step to step. Assumes nothing.
use mathlib.Core.Path.{◌≡◌, refl, sym, ap, ◌∙◌}
use mathlib.Core.Bool.{Bool, true, false, not, true≢false}
use mathlib.Core.List.{List, ◌++◌}
use Prim.Native.Nat.{ℕ, ◌+◌, ◌-◌, ◌*◌, ◌≤◌, ◌<◌}
use native.Mathlib.Omega.{arith}
use native.Mathlib.Nat.{mul-le-mul_right}
use lib.ListN.{length, take, drop, replicate, length-drop, length-replicate, get_or-eq_default}
use lib.Seq.{length-take-le, get_or-take, get_or-drop, ext_get_or}
use lib.Dec.{ltb}
use borrow.Author.Tests.{ltb-true, ltb-false}
use Rattle.csl.specs.Text.{Text}
use Rattle.csl.specs.Limits.{most_states, most_moves, most_levels, move_places}
use Rattle.csl.specs.Labels.{names_of, states_of}
use Rattle.csl.specs.Moves.{moves_of}
use Rattle.csl.specs.Formula.{nodes}
use Rattle.csl.specs.Chain.{top_rate}
use Rattle.csl.specs.Order.{worst_first}
use Rattle.csl.specs.Lent.{Buffers, column, written}
use Rattle.accepted.specs.Sheet.{SheetPassed}
use Rattle.refusals.specs.Sheet.{dimensions_of}
use Rattle.csl.proofs.Laws.Order.{order_same}
use Rattle.numbers.specs.Filled.{at, Table, table_at, table_rest, zeros_written, zeros_at}
use Rattle.numbers.specs.Part.{front_length, front_at, front_beyond}
use Rattle.bounds.specs.Found.{report_lower, report_upper}
use Rattle.formula.specs.Each.{nodes_some}
use Rattle.formula.specs.Nodes.{kind_at}
use Rattle.formula.specs.Pass.{passed, place_passed, all_passed, NoSearch}
use Rattle.formula.specs.declared.nodes.Nodes.{Nodes}
use Rattle.vectors.specs.Places.{vector_length}
use Rattle.verdict_rows.specs.Row.{EndsIn, rows_length}
use Rattle.results.specs.Column.{column_length, column_as, written_length, written_at_lem}
use Rattle.worst_first.specs.Asked.{SortAsked}
use Rattle.refusals.specs.declared.sheet_tests.Dimensions.{Dimensions}
use Rattle.sheet_words.specs.Stored.{Stored}
use Rattle.sheet_words.specs.Shown.{sheet_owns, marks_shown}
use Rattle.decide.specs.Asked.{DecideAsked, Decides, formula_of}
use Rattle.decide.specs.Fits.{each_below}
use Rattle.decide.specs.Enough.{rows_fit}
use Rattle.checker.specs.Job.{buffers}
use Rattle.checker.specs.Report.{chain_in, formula_in, Ready, DecideAll, Decided, ClearAsked, Cleared, ReportAsked, ReportLeft}

pub some_node : {labels : Text} {m₀ : Text} {x : Nodes} → Ready m₀ labels x → 1 ≤ x.count
some_node {labels = labels} {x = x} r = omega (arith, r.counted, nodes_some (formula_in labels x))

-- 0 in all places of a front that is cleared, and beyond its end
pub front_zero : (l₀ l : List ℕ) (n : ℕ) → n ≤ length l → Table (λ _. 0) l₀ l n → (k : ℕ) → at (take n l) k ≡ 0
front_zero l₀ l n h t k = go (ltb k n) refl
  where
    go : (b : Bool) → ltb k n ≡ b → at (take n l) k ≡ 0
    go true e = get_or-take n l k 0 (ltb-true k n e) ∙ table_at t k (ltb-true k n e)
    go false e = get_or-eq_default (take n l) 0 (omega (arith, length-take-le n l h, ltb-false k n e))

-- the words behind the first m, and as many, as the code takes them
abbrev pub behind : ℕ → List ℕ → List ℕ
behind m words = take (m + m - m) (drop m words)

pub behind_is : (m : ℕ) (words : List ℕ) → behind m words ≡ take m (drop m words)
behind_is m words = let e : m + m - m ≡ m = omega arith in ap (λ (k : ℕ). take k (drop m words)) e

drop_beyond : (n : ℕ) (l l₀ : List ℕ) → length l ≡ length l₀ → ((k : ℕ) → n ≤ k → at l k ≡ at l₀ k) → drop n l ≡ drop n l₀
drop_beyond n l l₀ e h =
    ext_get_or 0 (drop n l) (drop n l₀) (length-drop n l ∙ ap (λ (k : ℕ). k - n) e ∙ sym (length-drop n l₀))
    λ i b. get_or-drop n l i 0 ∙ h (n + i) (omega arith) ∙ sym (get_or-drop n l₀ i 0)

-- zeros in the first n places, where all beyond is as it was
cleared_beyond : (n : ℕ) (l l₀ : List ℕ) {l' : List ℕ} → length l ≡ length l₀ → ((k : ℕ) → n ≤ k → at l k ≡ at l₀ k)
    → l' ≡ written (replicate n 0) l → l' ≡ written (replicate n 0) l₀
unfolding written
cleared_beyond n l l₀ e h z =
    z ∙ ap (λ (t : List ℕ). replicate {A = ℕ} n 0 ++ t) (drop_beyond (length (replicate {A = ℕ} n 0)) l l₀ e λ k b. h k (omega (arith, length-replicate {A = ℕ} n 0)))

-- a sheet that passed its tests: what it has is what its texts have
module _ (m₀ labels : Text) {d : Dimensions} (good : SheetPassed m₀ labels) (is : d ≡ dimensions_of m₀ labels) where
  pub states_are : d.states ≡ states_of labels
  states_are = ap (λ (y : Dimensions). y.states) is

  pub moves_are : d.moves ≡ length (moves_of m₀)
  moves_are = ap (λ (y : Dimensions). y.moves) is

  pub q_is : d.q ≡ top_rate (chain_in m₀ labels)
  q_is = ap (λ (y : Dimensions). y.q) is

  pub few_states : d.states ≤ most_states
  few_states = omega (arith, states_are, good.sound.few_states)

  -- storing and deciding
  module _ {x : Nodes} {words₀ vectors₀ marks₀ : List ℕ} (r : DecideAll m₀ labels d x words₀ vectors₀ marks₀) where
    pub some : 1 ≤ x.count
    some = some_node r.ready

    pub few_moves : d.moves ≤ most_moves
    few_moves = omega (arith, moves_are, good.sound.few_moves)

    -- where a node may need a search, not all do without
    pub searched : {passes wanted : Bool} → passes ≡ all_passed NoSearch x → wanted ≡ not passes → (k : ℕ) → k < x.count
        → passed NoSearch (kind_at x.nodes k) ≡ false → wanted ≡ true
    searched {passes} {wanted} e w k b h = go passes refl
      where
        go : (p : Bool) → passes ≡ p → wanted ≡ true
        go true i = absurd (true≢false (sym (each_below (place_passed NoSearch x.nodes) x.count (sym e ∙ i) k b) ∙ h))
        go false i = w ∙ ap not i

    module _ {passes wanted : Bool} (all : passes ≡ all_passed NoSearch x) (want : wanted ≡ not passes) {words vectors marks : List ℕ}
        (s : Stored wanted m₀ labels words₀ words vectors₀ vectors)
        {b : ℕ} (measured : b ≡ rows_length d.states x.count) (z : Table (λ _. 0) marks₀ marks b) where
      -- the index behind them
      pub index_long : d.moves + d.moves ≤ length words
      index_long = omega (arith, r.in_words, s.words_same)

      pub index_counted : length (behind d.moves words) ≡ d.moves
      index_counted = rw (behind_is d.moves words) (length-take-le d.moves (drop d.moves words) (omega (arith, index_long, length-drop d.moves words)))

      pub marks_long : b ≤ length marks
      marks_long = omega (arith, r.in_marks, z.same)

      pub marks_counted : b ≡ length (take b marks)
      marks_counted = sym (length-take-le b marks marks_long)

      pub rows_counted : b ≡ rows_length d.states (nodes (formula_in labels x))
      rows_counted = measured ∙ ap (rows_length d.states) r.ready.counted

      abbrev pub decide_asked : DecideAsked (take d.moves words) (behind d.moves words) vectors (take b marks) x.nodes
          (x.count - 1) most_levels d.states d.q
      decide_asked =
          record {
            c = chain_in m₀ labels;
            names = names_of labels;
            few = good.sound.few_names;
            shows = rw (moves_are, states_are) s.shows;
            prepared = rw (moves_are, states_are, q_is) s.prepared;
            owns = rw (states_are) (sheet_owns good s);
            few_words = omega (arith, index_counted, few_moves);
            index = λ k i h. rw (behind_is d.moves words, moves_are, states_are) (s.index (searched all want k (omega (arith, some)) h));
            marked = rw (states_are) (marks_shown good s);
            inside = omega (arith, some, r.ready.few_nodes);
            fits = rw (q_is) (λ k h. r.ready.fits k (omega (arith, some)));
            deep = r.ready.few_levels;
            room = omega (arith, marks_counted, rows_counted, rows_fit (formula_in labels x) d.states r.ready.few_levels);
            clear = λ k h. front_zero marks₀ marks b marks_long z k;
          }

      module _ {vectors' part : List ℕ} {depth : ℕ}
          (e : (a : DecideAsked (take d.moves words) (behind d.moves words) vectors (take b marks) x.nodes
          (x.count - 1) most_levels d.states d.q)
          → Decides a.c (formula_of a) d.states vectors vectors' (take b marks) part depth) where
        decides : Decides (chain_in m₀ labels) (formula_in labels x) d.states vectors vectors' (take b marks) part depth
        decides = e decide_asked

        one_row : d.states ≤ b
        one_row = omega (arith, mul-le-mul_right d.states some)

        pub all_decided_lem : Decided m₀ labels x words₀ words vectors₀ vectors' marks₀ (part ++ drop b marks) depth
        all_decided_lem =
            record {
              deep = decides.deep;
              lowers = λ i h. decides.ends.lowers i (omega (arith, states_are));
              uppers = λ i h.
                  ap (λ (n : ℕ). at vectors' (n + i)) (sym (states_are)) ∙ decides.ends.uppers i (omega (arith, states_are));
              range = rw (← states_are) decides.range;
              bytes = λ i h.
                  front_at marks part b marks_long decides.row.same i (omega (arith, states_are, one_row))
                  ∙ table_at decides.row i (omega (arith, states_are));
              words_same = s.words_same;
              words_beyond = λ i h. s.words_beyond i (omega arith);
              vectors_same = decides.ends.same ∙ s.same;
              vectors_beyond = λ i h. decides.ends.after i (omega (arith, states_are)) ∙ s.beyond i h;
              marks_same = front_length marks part b marks_long decides.row.same ∙ z.same;
              marks_beyond = rw (← states_are) λ i h.
                  let j : b ≤ i = omega (arith, measured) in front_beyond marks part b marks_long decides.row.same i j ∙ table_rest z i j;
            }

  -- the report from what was decided, and zeros
  module _ {x : Nodes} {before : Buffers (List ℕ)} (r : ReportAsked m₀ labels d x before) where
    module _ {words vectors marks : List ℕ} {depth : ℕ} (k : Decided m₀ labels x before.moves words before.vectors vectors before.marks marks depth) where
      pub write_asked : EndsIn d.states vectors × (d.states ≤ length marks)
      write_asked =
          (rw (states_are) k.range, omega (arith, mul-le-mul_right d.states (some_node r.ready), r.room.marks, k.marks_same))

      pub clear_all_asked : ClearAsked d.states d.moves x.count words vectors marks
      clear_all_asked =
          record {
            states = few_states;
            moves = omega (arith, moves_are, good.sound.few_moves);
            nodes = r.ready.few_nodes;
            in_words = omega (arith, r.room.moves, k.words_same);
            in_vectors = omega (arith, r.room.vectors, k.vectors_same);
            in_marks = omega (arith, r.room.marks, k.marks_same);
          }

      module _ {lower upper words' vectors' marks' : List ℕ} (lo : lower ≡ written (column (λ s. at vectors s) d.states) before.lower)
          (up : upper ≡ written (column (λ s. at vectors (d.states + s)) d.states) before.upper)
          (z : Cleared d.states d.moves x.count words words' vectors vectors' marks marks') where
        long_column : (f : ℕ → ℕ) (l : List ℕ) {new : List ℕ} → new ≡ written (column f d.states) l → d.states ≤ length l → d.states ≤ length new
        long_column f l e h =
            omega (arith, ap length e, written_length (column f d.states) l (omega (arith, column_length f d.states)))

        long_vectors : length vectors' ≡ length vectors
        long_vectors =
            ap length z.in_vectors
            ∙ written_length (replicate (vector_length d.states) 0) vectors
            (omega (arith, length-replicate {A = ℕ} (vector_length d.states) 0, r.room.vectors, k.vectors_same))

        pub sort_asked : SortAsked d.states lower upper before.order vectors'
        sort_asked =
            record {
              few = few_states;
              lowers = long_column _ before.lower lo r.room.lower;
              uppers = long_column _ before.upper up r.room.upper;
              room = r.room.order;
              lent = omega (arith, long_vectors, k.vectors_same, r.room.vectors);
              zeros = λ i b. ap (λ (l : List ℕ). at l i) z.in_vectors ∙ zeros_at (vector_length d.states) vectors i (omega arith);
            }

        -- the ends in the result buffers are those that were decided, and so is their order
        lower_at : (s : ℕ) → s < d.states → at lower s ≡ report_lower (chain_in m₀ labels) (formula_in labels x) s
        lower_at s b =
            ap (λ (l : List ℕ). at l s) lo ∙ written_at_lem (λ i. at vectors i) d.states before.lower s b ∙ k.lowers s (omega (arith, states_are))

        upper_at : (s : ℕ) → s < d.states → at upper s ≡ report_upper (chain_in m₀ labels) (formula_in labels x) s
        upper_at s b =
            ap (λ (l : List ℕ). at l s) up
            ∙ written_at_lem (λ i. at vectors (d.states + i)) d.states before.upper s b
            ∙ ap (λ (n : ℕ). at vectors (n + s)) (states_are)
            ∙ k.uppers s (omega (arith, states_are))

        pub left : {verdicts order spare : List ℕ} → verdicts ≡ written (column (λ s. at marks s) d.states) before.verdicts
            → order ≡ written (worst_first (at lower) (at upper) d.states) before.order → spare ≡ vectors'
            → ReportLeft m₀ labels x before (buffers lower upper verdicts order words' spare marks') depth
        left by o e =
            record {
              deep = k.deep;
              each = record {
                lowers = column_as _ _ (states_of labels) before.lower k.lowers (rw (states_are) at lo);
                uppers = column_as _ _ (states_of labels) before.upper k.uppers (rw (states_are) at up);
                bytes = column_as _ _ (states_of labels) before.verdicts k.bytes (rw (states_are) at by);
                order = rw (states_are) at (o ∙ ap (λ (l : List ℕ). written l before.order) (order_same _ _ _ _ d.states lower_at upper_at));
                moves = cleared_beyond _ words before.moves k.words_same k.words_beyond (rw (moves_are) at z.in_words);
                vectors = cleared_beyond _ vectors before.vectors k.vectors_same k.vectors_beyond (rw (states_are) at (e ∙ z.in_vectors));
                marks = cleared_beyond _ marks before.marks k.marks_same k.marks_beyond (rw (states_are) at z.in_marks);
              };
            }

-- zeros in all that was worked in
pub all_cleared : {n m k : ℕ} {words words' vectors vectors' marks marks' : List ℕ} {v b : ℕ} → ClearAsked n m k words vectors marks
    → v ≡ vector_length n → b ≡ rows_length n k
    → words' ≡ written (replicate (move_places * m) 0) words → vectors' ≡ written (replicate v 0) vectors → Table (λ _. 0) marks marks' b
    → Cleared n m k words words' vectors vectors' marks marks'
all_cleared {vectors = vectors} a e f ws vs ms =
    record {
      in_words = ws;
      in_vectors = vs ∙ ap (λ (i : ℕ). written (replicate i 0) vectors) e;
      in_marks = zeros_written a.in_marks (rw f at ms);
    }
