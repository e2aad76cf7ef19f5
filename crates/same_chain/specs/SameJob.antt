-- Jobs that differ in the order of their move lines alone: the tests, the outcome and what is finished are the same. Assumes nothing.
use Rattle.std.specs.Prelude.{◌≡◌, true, ◌||◌, ℕ, ◌+◌, length, eqb, ltb, leb, Option, None, Some}
use Rattle.std.proofs.Math.Path.{refl, ap, sym}
use Rattle.std.proofs.Common.{subst, ◌∙◌, arith, length-append}
use mathlib.Core.List.{List, [], ◌∷◌, head_d}
use Rattle.csl.specs.Text.{Text}
use Rattle.csl.specs.Limits.{most_rate}
use Rattle.csl.specs.Line.{line_feed, lines_of, first_line, later_lines, is_ended}
use Rattle.csl.specs.Labels.{states_of}
use Rattle.csl.specs.Moves.{moves_head, move_line, moves_layout, move_of, moves_of, rates_out}
use Rattle.csl.specs.Chain.{Chain}
use Rattle.csl.specs.Report.{Reported, depth_of}
use Rattle.csl.specs.Lent.{Buffers, lengths}
use Rattle.csl.specs.Refusal.{Job, job_chain, job_formula, broken_layout, wrong_first_line, many_moves, strange_state, wrong_rate, sheet_tests, text_tests, short_buffer, refusal, outcome_by, outcome}
use Rattle.csl.specs.Finished.{Answer, Accepted, Finished, FinishedBy}
use Rattle.same_chain.specs.Joined.{joined, joined_more, ended, lines_written}
use Rattle.same_chain.specs.Shuffled.{Shuffled, shuffled_same, shuffled_map, shuffled_every, shuffled_any, shuffled_length, any_cong, shuffled_rates, shuffled_totals}
use Rattle.same_chain.specs.Chains.{chain_in, same_everywhere}

-- two texts with the same first line, and then the same lines in another order
pub record SameLines (a b : Text) : Type 0 where
  pub first : Text
  pub lines : List Text
  pub others : List Text
  pub a_is : lines_of a ≡ first ∷ lines
  pub b_is : lines_of b ≡ first ∷ others
  pub a_ended : is_ended a ≡ true
  pub b_ended : is_ended b ≡ true
  pub shuffled : Shuffled lines others

-- the bytes of lines, each ended
unfoldable bytes_in : List Text → ℕ
bytes_in [] = 0
bytes_in (l ∷ ls) = length l + 1 + bytes_in ls

ended_bytes : (ls : List Text) → length (joined line_feed (ended ls)) ≡ bytes_in ls
unfolding joined bytes_in
ended_bytes [] = refl
ended_bytes (l ∷ ls) =
    ap length (joined_more line_feed l (ended ls) (omega (arith, length-append ls ([] ∷ []))))
    ∙ omega (arith, length-append l (line_feed ∷ joined line_feed (ended ls)), ended_bytes ls)

text_bytes : (t : Text) → is_ended t ≡ true → length t ≡ bytes_in (lines_of t)
text_bytes t h = ap length (sym (lines_written t h)) ∙ ended_bytes (lines_of t)

shuffled_bytes : {l k : List Text} → Shuffled l k → bytes_in l ≡ bytes_in k
unfolding bytes_in
shuffled_bytes h = shuffled_same bytes_in (λ x n. length x + 1 + n) (λ x l. refl) (λ x y n. omega arith) h

module _ (a b : Text) (h : SameLines a b) where
  same_bytes : length a ≡ length b
  unfolding bytes_in
  same_bytes =
      text_bytes a h.a_ended ∙ ap bytes_in h.a_is ∙ omega (arith, shuffled_bytes h.shuffled) ∙ ap bytes_in (sym h.b_is)
      ∙ sym (text_bytes b h.b_ended)

  later_shuffled : Shuffled (later_lines a) (later_lines b)
  unfolding later_lines
  later_shuffled = rw (h.a_is, h.b_is) h.shuffled

  same_first : first_line a ≡ first_line b
  unfolding first_line head_d
  same_first = rw (h.a_is, h.b_is) refl

  moves_shuffled : Shuffled (moves_of a) (moves_of b)
  unfolding moves_of
  moves_shuffled = shuffled_map move_of later_shuffled

  pub same_count : length (moves_of a) ≡ length (moves_of b)
  same_count = shuffled_length moves_shuffled

  same_layout : moves_layout a ≡ moves_layout b
  unfolding moves_layout
  same_layout = rw (h.a_ended, h.b_ended) (shuffled_every later_shuffled move_line)

  same_strange : (n : ℕ) → strange_state n (moves_of a) ≡ strange_state n (moves_of b)
  same_strange n = shuffled_any moves_shuffled (λ m. leb n m.from || leb n m.to)

  same_rate : wrong_rate (moves_of a) ≡ wrong_rate (moves_of b)
  same_rate =
      any_cong (λ m. eqb m.rate 0 || ltb most_rate (rates_out (moves_of a) m.from)) (λ m. eqb m.rate 0 || ltb most_rate (rates_out (moves_of b) m.from))
      (λ m. rw (shuffled_totals moves_shuffled m.from) refl) (moves_of a)
      ∙ shuffled_any moves_shuffled (λ m. eqb m.rate 0 || ltb most_rate (rates_out (moves_of b) m.from))

  pub same_sheet_tests : (labels : Text) → sheet_tests a labels ≡ sheet_tests b labels
  unfolding sheet_tests broken_layout wrong_first_line many_moves moves_head
  same_sheet_tests labels =
      rw (same_bytes, same_layout, same_first, same_count, same_strange (states_of labels), same_rate) refl

  pub same_chain : (labels : Text) → chain_in a labels ≡ chain_in b labels
  same_chain labels = same_everywhere a b labels (shuffled_rates moves_shuffled)

  -- a job over each
  module _ (labels formula : Text) where
    abbrev one : Job
    one = record { moves = a; labels = labels; formula = formula }

    abbrev other : Job
    other = record { moves = b; labels = labels; formula = formula }

    same_tests : text_tests one ≡ text_tests other
    unfolding text_tests
    same_tests = rw (same_sheet_tests labels, same_chain labels) refl

    same_short : (lent : Buffers ℕ) → short_buffer one lent ≡ short_buffer other lent
    unfolding short_buffer
    same_short lent = rw same_count refl

    pub same_refusal : (lent : Buffers ℕ) → refusal one lent ≡ refusal other lent
    unfolding refusal
    same_refusal lent = rw (same_tests, same_short lent) refl

    same_by : (o : Option ℕ) → outcome_by one o ≡ outcome_by other o
    unfolding outcome_by
    same_by None = rw (same_chain labels) refl
    same_by (Some number) = refl

    pub same_outcome : (lent : Buffers ℕ) → outcome one lent ≡ outcome other lent
    unfolding outcome
    same_outcome lent = rw (same_refusal lent) (same_by (refusal other lent))

    -- what one leaves the other may leave
    module _ (before : Buffers (List ℕ)) (x : Answer) (after : Buffers (List ℕ)) where
      moved : (c d : Chain) → c ≡ d → Accepted one c (job_formula one) (depth_of c (job_formula one)) before x after
          → Accepted other d (job_formula other) (depth_of d (job_formula other)) before x after
      moved c d e k =
          record {
            lower = k.lower;
            upper = k.upper;
            verdict = k.verdict;
            answer = k.answer ∙ rw e refl;
            reported = subst (λ (z : Chain). Reported z (job_formula one) k.lower k.upper k.verdict) e k.reported;
            buffers = k.buffers ∙ rw same_count refl;
          }

      finished_by : (o : Option ℕ) → FinishedBy one (outcome_by one o) before x after → FinishedBy other (outcome_by other o) before x after
      unfolding outcome_by FinishedBy
      finished_by None k = moved (job_chain one) (job_chain other) (same_chain labels) k
      finished_by (Some number) k = k

      pub same_finished : Finished one before x after → Finished other before x after
      unfolding Finished outcome
      same_finished k = finished_by (refusal other (lengths before)) (rw (same_refusal (lengths before)) at k)
