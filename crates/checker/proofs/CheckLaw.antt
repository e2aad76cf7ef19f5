-- A finished job, by which way it ended. Assumes nothing.
use mathlib.Core.Path.{◌≡◌, refl, sym, ap, subst, ◌∙◌}
use mathlib.Core.Bool.{Bool, true, false}
use mathlib.Core.List.{List}
use Rattle.std.specs.Prelude.{None, Some, option_map, Result, Ok, Err, IfOk}
use Prim.Native.Nat.{ℕ, ◌≤◌, ◌<◌}
use native.Mathlib.Omega.{arith}
use lib.ListN.{length}
use Rattle.csl.specs.Text.{Text}
use Rattle.csl.specs.Limits.{formula_bytes, most_states, most_moves, most_nodes}
use Rattle.csl.specs.Line.{line_feed}
use Rattle.csl.specs.Labels.{names_of, labels_head}
use Rattle.csl.specs.Formula.{nodes}
use Rattle.csl.specs.Grammar.{read_formula}
use Rattle.csl.specs.Chain.{chain_of, top_rate}
use Rattle.csl.specs.Lent.{Buffers, lengths, needed, is_short}
use Rattle.csl.specs.Refusal.{Job, job_states, job_moves, job_chain, job_formula, Outcome, outcome, text_refusal, out_of_bytes, sheet_tests, formula_tests, short_buffer, first_of}
use Rattle.csl.specs.Finished.{Answer, refused_with, accepted_with, Finished, FinishedBy}
use Rattle.accepted.specs.Sheet.{SheetPassed, sheet_passed}
use Rattle.accepted.specs.Formula.{FormulaPassed, formula_passed}
use Rattle.accepted.specs.Job.{refused_by_texts, refused_by_lengths, accepted_by_all, formula_too_long, refused_by_sheet, left_to_formula}
use Rattle.bounds.specs.Found.{report_lower, report_upper, found}
use Rattle.bounds.proofs.Found.{report_found}
use Rattle.verdicts.specs.Answer.{answer_of, reported_states}
use Rattle.verdicts.specs.Refusal.{number_of, refusal_in}
use Rattle.verdicts.specs.declared.answer.Accepted.{Accepted}
use Rattle.verdicts.specs.declared.refusal.Refusal.{Refusal}
use Rattle.texts.specs.Span.{span_of}
use Rattle.formula.specs.Listed.{stored}
use Rattle.formula.specs.Nodes.{kind_at}
use Rattle.formula.specs.Stored.{formula_stored, ordered_stored, labels_tested, limits_tested, order_tested, load_tested}
use Rattle.decide.specs.Asked.{NodeFits}
use Rattle.decide.specs.Fits.{nodes_fit}
use Rattle.formula.specs.declared.nodes.Nodes.{Nodes}
use Rattle.results.specs.Report.{report_filled}
use Rattle.refusals.specs.Sheet.{dimensions_of}
use Rattle.refusals.specs.declared.sheet_tests.Dimensions.{Dimensions}
use Rattle.checker.specs.Job.{states_in}
use Rattle.checker.specs.Leaves.{left_by, leaves}
use Rattle.checker.specs.Checked.{Ended}
use Rattle.checker.specs.Room.{has_room}
use Rattle.checker.specs.Report.{formula_in, ReportAsked, ReportLeft}

-- an answer with a number
refused_as : {k : ℕ} (x : Result Accepted Refusal) → refusal_in x ≡ Some k → (answer_of x ≡ refused_with k) × (reported_states x ≡ 0)
refused_as (Ok a) e = absurd cc
refused_as (Err r) e = (cc, refl)

module _ (j : Job) (before : Buffers (List ℕ)) where
  by : {o : Outcome} (x : Answer) (after : Buffers (List ℕ)) → outcome j (lengths before) ≡ o → FinishedBy j o before x after → Finished j before x after
  unfolding Finished
  by x after e f = subst (λ (o : Outcome). FinishedBy j o before x after) (sym e) f

  -- the buffers, by the outcome
  left : {o : Outcome} {after : Buffers (List ℕ)} → outcome j (lengths before) ≡ o → after ≡ left_by (job_states j) (length (job_moves j)) o before
      → after ≡ leaves j before
  unfolding leaves
  left e h = h ∙ ap (λ (o : Outcome). left_by (job_states j) (length (job_moves j)) o before) (sym e)

  turned : (k : ℕ) → outcome j (lengths before) ≡ Outcome.refused k → {x : Result Accepted Refusal} → refusal_in x ≡ Some k → Ended j before x before
  unfolding FinishedBy left_by
  turned k e {x} i =
      let told = refused_as x i in
      record {
        finished = by (answer_of x) before e (record { answer = told.0; untouched = refl });
        found = left e refl;
        counted = told.1 ∙ ap states_in (sym e);
      }

  turned_by_texts : {k : ℕ} → text_refusal j ≡ Some k → (x : Result Accepted Refusal) → refusal_in x ≡ Some k → Ended j before x before
  turned_by_texts {k} h x e = turned k (refused_by_texts j (lengths before) k h) e

-- before the formula
module _ (j : Job) {out : Bool} (by_bytes : out ≡ out_of_bytes formula_bytes j.formula) where
  pub too_long : out ≡ true → (before : Buffers (List ℕ)) (x : Result Accepted Refusal) → refusal_in x ≡ Some 1 → Ended j before x before
  too_long h before x e = turned_by_texts j before (formula_too_long j (sym by_bytes ∙ h)) x e

  module _ (p : out ≡ false) where
    pub sheet_turned : {k : ℕ} → Some k ≡ first_of (sheet_tests j.moves j.labels) → (before : Buffers (List ℕ)) (x : Result Accepted Refusal)
        → refusal_in x ≡ Some k → Ended j before x before
    sheet_turned {k} h before x e = turned_by_texts j before (refused_by_sheet j (sym by_bytes ∙ p) k (sym h)) x e

-- the formula over a sheet that passed
module _ (j : Job) (d : Dimensions) (bytes : out_of_bytes formula_bytes j.formula ≡ false) (passed : first_of (sheet_tests j.moves j.labels) ≡ None)
    (is : d ≡ dimensions_of j.moves j.labels) where
  sheet_is_good : SheetPassed j.moves j.labels
  sheet_is_good = sheet_passed j.moves j.labels passed

  pub line_right : (labels_head j.labels ≡ true) × (d.first ≡ span_of line_feed j.labels)
  line_right = (sheet_is_good.labels_head_lem, ap (λ (x : Dimensions). x.first) is)

  module _ {names : List Text} (behind : names ≡ names_of j.labels) where
    pub names_counted : d.names ≡ length names
    names_counted = ap (λ (x : Dimensions). x.names) is ∙ sym (ap length behind)

    told : text_refusal j ≡ first_of (formula_tests names d.q (read_formula j.formula))
    told =
        left_to_formula j bytes passed
        ∙ ap (λ (q : ℕ). first_of (formula_tests (names_of j.labels) q (read_formula j.formula))) (sym (ap (λ (y : Dimensions). y.q) is))
        ∙ ap (λ (ns : List Text). first_of (formula_tests ns d.q (read_formula j.formula))) (sym behind)

    pub formula_turned : {A : Type 0} {r : Result A Refusal} {k : Refusal} → r ≡ Err k
        → refusal_in r ≡ first_of (formula_tests names d.q (read_formula j.formula)) → (before : Buffers (List ℕ))
        (x : Result Accepted Refusal) → refusal_in x ≡ Some (number_of k) → Ended j before x before
    formula_turned e h before x g = turned_by_texts j before (told ∙ sym h ∙ ap refusal_in e) x g

    -- the tests pass, and what passes was laid
    module _ {A : Type 0} {r : Result A Refusal} {y : A} (e : r ≡ Ok y) (h : refusal_in r ≡ first_of (formula_tests names d.q (read_formula j.formula)))
        (x : Nodes) (kept : IfOk r (λ _. option_map (stored names) (read_formula j.formula) ≡ Some x)) where
      passes : text_refusal j ≡ None
      passes = told ∙ sym h ∙ ap refusal_in e

      laid : option_map (stored names) (read_formula j.formula) ≡ Some x
      laid = rw e at kept

      good : FormulaPassed (names_of j.labels) (top_rate (job_chain j)) (read_formula j.formula)
      good = formula_passed _ _ _ (sym (left_to_formula j bytes passed) ∙ passes)

      nodes_are : x ≡ stored (names_of j.labels) (job_formula j)
      nodes_are =
          let e : option_map (stored (names_of j.labels)) (Some (job_formula j)) ≡ Some x = rw (behind, good.spelled) at laid in
          cc

      formula_is : formula_in j.labels x ≡ job_formula j
      formula_is =
          ap (formula_in j.labels) nodes_are
          ∙ formula_stored (names_of j.labels) (job_formula j) good.fitting.known_labels good.fitting.few_levels

      count_is : x.count ≡ nodes (job_formula j)
      unfolding stored
      count_is = ap (λ (y : Nodes). y.count) nodes_are

      pub may_measure : (d.states ≤ most_states) × (d.moves ≤ most_moves) × (x.count ≤ most_nodes)
      may_measure = (
        omega (arith, ap (λ (y : Dimensions). y.states) is, sheet_is_good.sound.few_states),
        omega (arith, ap (λ (y : Dimensions). y.moves) is, sheet_is_good.sound.few_moves),
        omega (arith, count_is, good.fitting.few_nodes),
      )

      fits : (k : ℕ) → k < x.count → NodeFits (names_of j.labels) (top_rate (job_chain j)) k (kind_at x.nodes k)
      fits =
          rw nodes_are
          (nodes_fit (names_of j.labels) (top_rate (job_chain j)) (stored (names_of j.labels) (job_formula j))
          (ordered_stored (names_of j.labels) (job_formula j) good.fitting.known_labels)
          (labels_tested (names_of j.labels) (job_formula j) ∙ good.fitting.known_labels)
          (limits_tested (names_of j.labels) (job_formula j) ∙ good.fitting.bounds)
          (order_tested (names_of j.labels) (job_formula j) ∙ good.fitting.times_in_order_lem)
          (load_tested (names_of j.labels) (job_formula j) (top_rate (job_chain j)) ∙ good.fitting.loads))

      module _ (before : Buffers (List ℕ)) {b : Bool} (s : b ≡ is_short (lengths before) (needed d.states d.moves x.count)) where
        short_is : b ≡ short_buffer j (lengths before)
        unfolding short_buffer
        short_is = s ∙ rw (is, count_is)

        pub short_turned : b ≡ true → (y : Result Accepted Refusal) → refusal_in y ≡ Some 15 → Ended j before y before
        short_turned g y e = turned j before 15 (refused_by_lengths j (lengths before) passes (sym short_is ∙ g)) e

        module _ (g : b ≡ false) where
          pub report_asked : ReportAsked j.moves j.labels d x before
          report_asked =
              record {
                ready = record {
                  passed = sheet_is_good;
                  fits = fits;
                  few_levels = rw formula_is good.fitting.few_levels;
                  few_nodes = may_measure.2;
                  counted = rw formula_is count_is;
                };
                room = has_room (lengths before) d.states d.moves x.count (sym s ∙ g);
              }

          pub job_reported : {after : Buffers (List ℕ)} {depth : ℕ} → ReportLeft j.moves j.labels x before after depth
              → Ended j before (Ok (record { depth = depth; states = d.states })) after
          unfolding FinishedBy chain_of left_by
          job_reported {after = after} {depth = depth} f =
              let e = accepted_by_all j (lengths before) passes (sym short_is ∙ g) in
              let l : ReportLeft j.moves j.labels x before after depth = f in
              record {
                finished = by j before (accepted_with depth) after e
                    (record {
                      lower = report_lower (job_chain j) (job_formula j);
                      upper = report_upper (job_chain j) (job_formula j);
                      verdict = found (job_chain j) (job_formula j);
                      answer = ap accepted_with (rw formula_is at l.deep);
                      reported = report_found (job_chain j) (job_formula j) good.fitting.loads;
                      buffers = rw (← count_is) (report_filled (rw formula_is at l.each));
                    });
                found = left j before e (rw (← count_is) (report_filled (rw formula_is at l.each)));
                counted = ap (λ (y : Dimensions). y.states) is ∙ ap states_in (sym e);
              }
