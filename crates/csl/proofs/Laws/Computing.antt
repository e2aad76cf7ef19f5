-- One name that opens every definition that a closed job computes with: a law under `unfolding computing` may be shown by `refl`. Assumes nothing.
use mathlib.Core.List.{head_d}
use Rattle.csl.specs.Text.{same, among, every, any}
use Rattle.csl.specs.Number.{zero_led, is_number, value_from}
use Rattle.csl.specs.Line.{ahead, parts, ended_parts, no_remnant, lines_of, is_ended, first_line, later_lines, fields_of}
use Rattle.csl.specs.Labels.{is_word, is_name, no_repeat, names_of, labels_head, is_mark, state_line, labels_layout, in_turn, states_of, place_of, mark_at}
use Rattle.csl.specs.Moves.{moves_head, move_line, moves_layout, field_value, move_of, moves_of, rate_in, rates_out}
use Rattle.csl.specs.Hours.{is_decimals, decimals_of, hundredths_in, hundredths_of}
use Rattle.csl.specs.Formula.{nodes, levels, labels_pass, paths_pass, nodes_in, levels_in, labels_pass_in, paths_pass_in}
use Rattle.csl.specs.Grammar.{tokens_of, and_then, comparison_of, number_of, on_token, single, pair, path_head_of, path_behind, path, head_of, state, read_state, whole, read_formula}
use Rattle.csl.specs.Fraction.{sum_up}
use Rattle.csl.specs.Chain.{chain_of, sum_to, greatest, away, exit_rate, top_rate, load, depth}
use Rattle.csl.specs.Next.{next_exit_rate, entering_rate, next_fraction}
use Rattle.csl.specs.Phase.{moved, divisor, step_top, weight, quotient}
use Rattle.csl.specs.Order.{is_above, placed, ordered, by_number}
use Rattle.csl.specs.Report.{depth_of, decimal_in, decimal, row_text, rows_text, listing_text, report_text, refusal_text}
use Rattle.csl.specs.Lent.{rooms, is_short, column, written, filled}
use Rattle.csl.specs.Refusal.{formula_from, broken_layout, wrong_first_line, wrong_states, many_moves, is_missing, large_formula, strange_label, wrong_bound, wrong_times, high_load, short_buffer, sheet_tests, formula_tests, text_tests, first_of, text_refusal, refusal, outcome_by, outcome}
use Rattle.csl.specs.Copy.{lines_text, moves_text, is_rising, pairs_from, pairs_below, copy_of, copy_refusal}
use Rattle.csl.specs.Import.{numbers_line, transitions_layout, states_counted, transitions_counted, transition_of, transitions_of, name_number, numbered_from, quoted_in, quoted_names, label_line_of, label_lines, is_state_key, rising_from, label_line, label_file_layout, holds_at, ended_text, fields_text, state_text, labels_text, imported_moves, imported_labels, miscounts, file_tests, result_tests, import_refusal}

unfoldable pub computing : Unit {0}
unfolding same among every any zero_led is_number value_from ahead parts ended_parts no_remnant lines_of is_ended first_line later_lines fields_of is_word is_name no_repeat names_of labels_head is_mark state_line labels_layout in_turn states_of place_of mark_at moves_head move_line moves_layout field_value move_of moves_of rate_in rates_out is_decimals decimals_of hundredths_in hundredths_of nodes levels labels_pass paths_pass nodes_in levels_in labels_pass_in paths_pass_in tokens_of and_then comparison_of number_of on_token single pair path_head_of path_behind path head_of state read_state whole read_formula sum_up chain_of sum_to greatest away exit_rate top_rate load depth next_exit_rate entering_rate next_fraction moved divisor step_top weight quotient is_above placed ordered by_number depth_of decimal_in decimal row_text rows_text listing_text report_text refusal_text rooms is_short column written filled formula_from broken_layout wrong_first_line wrong_states many_moves is_missing large_formula strange_label wrong_bound wrong_times high_load short_buffer sheet_tests formula_tests text_tests first_of text_refusal refusal outcome_by outcome lines_text moves_text is_rising pairs_from pairs_below copy_of copy_refusal numbers_line transitions_layout states_counted transitions_counted transition_of transitions_of name_number numbered_from quoted_in quoted_names label_line_of label_lines is_state_key rising_from label_line label_file_layout holds_at ended_text fields_text state_text labels_text imported_moves imported_labels miscounts file_tests result_tests import_refusal head_d
computing = tt
