-- The quotients of a sheet of three states, with exit rates 500, 100 and 50, are what a second reckoning in big fractions found. Assumes nothing.
use Rattle.std.specs.Prelude.{refl}
use Rattle.csl.specs.Bench.{TrialQuotients}
use Rattle.csl.proofs.Laws.Computing.{computing}

pub trial_quotients : TrialQuotients
unfolding computing
trial_quotients =
    record {
      state_0 = refl;
      state_1 = refl;
      state_2 = refl;
      pair_0 = refl;
      pair_1 = refl;
      pair_2 = refl;
      pair_tt_0 = refl;
      pair_tt_1 = refl;
      pair_tt_2 = refl;
    }
