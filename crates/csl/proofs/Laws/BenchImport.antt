-- The bench values of imports hold. Assumes nothing.
use Rattle.std.specs.Prelude.{refl}
use Rattle.csl.specs.Import.{ImportedBy, Imported}
use Rattle.csl.specs.Bench.{PrismFiles}
use Rattle.csl.proofs.Laws.Computing.{computing}

pub prism_files : PrismFiles
unfolding computing ImportedBy Imported
prism_files =
    record {
      in_the_file's_order = (refl, refl, refl);
      nothing_holds = (refl, refl, refl);
      empty_file = refl;
      other_file_broken = refl;
      no_rate = refl;
      rate_with_a_point = refl;
      ten_digits = refl;
      two_spaces = refl;
      one_count = refl;
      no_last_line_feed = refl;
      from_1 = refl;
      one_left_out = refl;
      names_not_apart = refl;
      no_name = refl;
      quote_missing = refl;
      lines_fall = refl;
      state_twice = refl;
      labels_fall = refl;
      label_twice = refl;
      label_unnamed = refl;
      no_label = refl;
      no_colon = refl;
      too_few_counted = refl;
      too_many_counted = refl;
      strange_from = refl;
      strange_to = refl;
      strange_label_line = refl;
      two_before_18 = refl;
      capital = refl;
      empty_name = refl;
      other_bytes = refl;
      thirteen_letters = refl;
      eighteen_before_19 = refl;
      nineteen_before_3 = refl;
      always_as_name = refl;
      name_twice = refl;
      three_before_4 = refl;
      no_state = refl;
      no_moves_per_hour = refl;
      total_over = refl;
      long_enough = refl;
      moves_short = refl;
      labels_short = refl;
      nine_before_15 = refl;
      beyond = (refl, refl);
    }
