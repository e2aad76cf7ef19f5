-- The ends and verdicts that the checker finds, as functions of the chain and the formula alone; and that they are a backing. So every
-- job whose loads are in range has a report: the rules nowhere contradict each other. Assumes nothing.
use Rattle.std.specs.Prelude.{◌≡◌, Bool, true, false, cond, ◌&&◌, leb, eqb}
use Rattle.std.proofs.Math.Path.{refl}
use Rattle.std.proofs.Common.{ap, sym, ◌∙◌, arith, leb-true, ne_eqb}
use Rattle.std.proofs.lemmas.Bool.{false≢true, eqb-false}
use Rattle.std.proofs.Math.Bool.{and-eq-true_iff}
use Prim.Native.Nat.{ℕ, zero, suc, ◌+◌, ◌*◌, ◌-◌, ◌/◌, ◌≤◌, ◌<◌}
use Rattle.csl.specs.Limits.{billion, rate_hundredths, most_rate_hundredths}
use Rattle.csl.specs.Formula.{Comparison, Formula, always, label, negated, both, chance, Path, until, next_move, between, PathOf, until_of, next_of, between_of, path_of}
use Rattle.csl.specs.Formula.{phases_pass, paths_pass, paths_pass_in}
use Rattle.csl.specs.Chain.{Chain, top_rate, load, depth}
use Rattle.csl.specs.Phase.{Phase}
use Rattle.csl.specs.Verdicts.{Verdict, No, marked, judged, as_no, as_yes, least, most}
use Rattle.csl.specs.Graph.{UntilPossible, UntilCertain, Enters, EntersOnly, AllDecided, Tells, Ruled}
use Rattle.csl.specs.Until.{until_phase}
use Rattle.csl.specs.Path.{meaning, FollowsAt}
use Rattle.csl.specs.Ends.{EndsAt}
use Rattle.csl.specs.Backing.{Backed, AtEach, PathBacked, ChanceKeeps}
use Rattle.csl.specs.Report.{Reported}
use Rattle.csl.specs.Refusal.{in_load}
use Rattle.csl.proofs.Laws.NextEnds.{ends_next}
use Rattle.csl.proofs.Laws.BetweenEnds.{until_between}
use Rattle.csl.specs.Laws.Decided.{all_decided}
use Rattle.csl.proofs.Laws.Decided.{all_decided_lem, decided_all, all_decided_same}
use Rattle.csl.proofs.Laws.Sum.{greatest_cong}
use Rattle.csl.proofs.Laws.Ruled.{tells_itself}
use Rattle.csl.specs.Laws.Ruling.{ruled_verdict}
use Rattle.csl.proofs.Laws.Ruling.{verdict_ruled}
use Rattle.csl.specs.Laws.Search.{leads_in}
use Rattle.csl.proofs.Laws.Search.{leads_told}
use Rattle.csl.proofs.Laws.NextGraph.{upper_tells, lower_tells}
use Rattle.bounds.specs.Unit.{unit}
use Rattle.bounds.proofs.Ends.{end_same}
use Rattle.bounds.specs.Upper.{upper_end}
use Rattle.bounds.proofs.Upper.{left_same}
use Rattle.bounds.specs.Width.{most_depth}
use Rattle.bounds.specs.StepValues.{RoundsFrom, Rounds, StartedRounds, pointed, most_gap, gap_of, earlier_gap}
use Rattle.bounds.specs.Rounded.{rounded_from, rounded, started_rounded, rounded_from_lem, rounds_same}
use Rattle.bounds.specs.Reading.{summed_lower, summed_upper}
use Rattle.bounds.specs.UntilEnds.{until_lower, until_upper}
use Rattle.bounds.proofs.UntilEnds.{until_ends}
use Rattle.bounds.specs.TwoPhases.{near_end}
use Rattle.bounds.specs.EarlierEnds.{earlier_lower, earlier_upper}
use Rattle.bounds.proofs.EarlierEnds.{earlier_ends}
use Rattle.bounds.specs.Found.{found, found_in, decided_path, lower_between, lower_found, lower_path, possible_path, report_lower, report_upper, upper_between, upper_found, upper_path, verdict_path}

-- whatever rounded values are at hand, the ends are these
cond_same : (a x y z : ℕ) (b : Bool) → eqb a 0 ≡ b → (0 < a → y ≡ z) → cond b x y ≡ cond b x z
cond_same a x y z true e h = refl
cond_same a x y z false e h = let n : a ≡ 0 → ⊥ = eqb-false a 0 e in h (omega arith)

module _ (c : Chain) (t : ℕ) (ph : Phase) (x : ℕ → ℕ) (val : ℕ → ℕ → ℕ) (s : ℕ) (in_range : s < c.states) (r : RoundsFrom c ph x val) where
  summed_lower_same : summed_lower c t val s ≡ summed_lower c t (rounded_from c ph x) s
  summed_lower_same =
      end_same (top_rate c * t) rate_hundredths (top_rate c * t / rate_hundredths) (depth c t) (λ k. val k s) (λ k. rounded_from c ph x k s)
      (λ k i. rounds_same c ph x val r k s in_range)

  -- whatever the error of the start is
  summed_upper_same : (e : ℕ) → upper_end (top_rate c * t) rate_hundredths (top_rate c * t / rate_hundredths) (depth c t) e (λ k. val k s)
      ≡ upper_end (top_rate c * t) rate_hundredths (top_rate c * t / rate_hundredths) (depth c t) e (λ k. rounded_from c ph x k s)
  summed_upper_same e =
      ap (λ (y : ℕ). billion - y)
      (left_same (top_rate c * t) rate_hundredths (top_rate c * t / rate_hundredths) (depth c t) e (λ k. val k s) (λ k. rounded_from c ph x k s)
      (λ k i. rounds_same c ph x val r k s in_range))

module _ (c : Chain) (t : ℕ) (v w : ℕ → Verdict) (val : ℕ → ℕ → ℕ) (s : ℕ) (in_range : s < c.states) where
  pub lower_found_lem : (0 < top_rate c * t → Rounds c (until_phase (least v) (least w)) val) → until_lower c t v w val s ≡ lower_found c t v w s
  lower_found_lem r =
      ap (pointed (v s) (w s)) (cond_same (top_rate c * t) _ _ _ (eqb (top_rate c * t) 0) refl (λ p. summed_lower_same c t _ _ val s in_range (r p)))

  pub upper_found_lem : (0 < top_rate c * t → Rounds c (until_phase (most v) (most w)) val) → until_upper c t v w val s ≡ upper_found c t v w s
  upper_found_lem r =
      ap (pointed (v s) (w s)) (cond_same (top_rate c * t) _ _ _ (eqb (top_rate c * t) 0) refl (λ p. summed_upper_same c t _ _ val s in_range (r p) 0))

pub ends_found : (c : Chain) (t : ℕ) (v w : ℕ → Verdict) → depth c t ≤ most_depth
    → AtEach c λ s. EndsAt c (until_of t v w) s (lower_found c t v w s) (upper_found c t v w s)
ends_found c t v w small s l =
    until_ends c t s v w l (rounded c (until_phase (least v) (least w))) (rounded c (until_phase (most v) (most w))) small
    (λ p. rounded_from_lem c _ _) (λ p. rounded_from_lem c _ _)

-- values that start from ends that are these at each state
started_same : (c : Chain) (first : ℕ → Bool) (x y : ℕ → ℕ) (val : ℕ → ℕ → ℕ) → ((i : ℕ) → i < c.states → x i ≡ y i)
    → StartedRounds c first x val → StartedRounds c first y val
started_same c first x y val e r =
    record { start = λ s l. r.start s l ∙ ap (λ (z : ℕ). unit * cond (first s) z 0) (e s l); next = r.next }

module _ (c : Chain) (t : ℕ) (v : ℕ → Verdict) (x y : ℕ → ℕ) (same : (i : ℕ) → i < c.states → x i ≡ y i) (val : ℕ → ℕ → ℕ)
    (s : ℕ) (in_range : s < c.states) where
  pub earlier_lower_found : (0 < top_rate c * t → StartedRounds c (least v) x val)
      → earlier_lower c t v x val s ≡ earlier_lower c t v y (started_rounded c (least v) y) s
  earlier_lower_found r =
      ap (λ (z : ℕ). cond (eqb (top_rate c * t) 0) (cond (least v s) z 0) (pointed (v s) No (summed_lower c t val s))) (same s in_range)
      ∙ cond_same (top_rate c * t) _ _ _ (eqb (top_rate c * t) 0) refl
      (λ p. ap (pointed (v s) No) (summed_lower_same c t _ _ val s in_range (started_same c (least v) x y val same (r p))))

-- and so are starts of both readings as far apart
pub gap_same : (n : ℕ) (v v' : ℕ → Verdict) (x x' y y' : ℕ → ℕ) → ((i : ℕ) → i < n → v i ≡ v' i) → ((i : ℕ) → i < n → x i ≡ x' i)
    → ((i : ℕ) → i < n → y i ≡ y' i) → earlier_gap n v x y ≡ earlier_gap n v' x' y'
unfolding gap_of
gap_same n v v' x x' y y' h k m =
    rw (
      all_decided_same n v v' h,
      greatest_cong (λ i. cond (as_yes (v i)) (y i) 0 - cond (as_no (v i)) (x i) 0) (λ i. cond (as_yes (v' i)) (y' i) 0 - cond (as_no (v' i)) (x' i) 0) n
          (λ i l. rw (h i l, k i l, m i l) refl),
    ) refl

module _ (c : Chain) (t : ℕ) (v : ℕ → Verdict) (x x' y y' : ℕ → ℕ) (same : (i : ℕ) → i < c.states → x i ≡ x' i)
    (same' : (i : ℕ) → i < c.states → y i ≡ y' i) (val high : ℕ → ℕ → ℕ) (s : ℕ) (in_range : s < c.states) where
  near_same : (g : ℕ) (z : Bool) → StartedRounds c (least v) x val → StartedRounds c (most v) y high
      → cond z (near_end c t g val s) (summed_upper c t high s)
      ≡ cond z (near_end c t g (started_rounded c (least v) x') s) (summed_upper c t (started_rounded c (most v) y') s)
  near_same g true r r' = summed_upper_same c t _ _ val s in_range (started_same c (least v) x x' val same r) (unit * g)
  near_same g false r r' = summed_upper_same c t _ _ high s in_range (started_same c (most v) y y' high same' r') 0

  pub earlier_upper_found : (0 < top_rate c * t → StartedRounds c (least v) x val) → (0 < top_rate c * t → StartedRounds c (most v) y high)
      → earlier_upper c t v x y val high s ≡ earlier_upper c t v x' y' (started_rounded c (least v) x') (started_rounded c (most v) y') s
  earlier_upper_found r r' =
      ap (λ (z : ℕ). cond (eqb (top_rate c * t) 0) (cond (most v s) z 0) (pointed (v s) No (nearest (earlier_gap c.states v x y)))) (same' s in_range)
      ∙ ap (λ (g : ℕ). cond (eqb (top_rate c * t) 0) (cond (most v s) (y' s) 0) (pointed (v s) No (nearest g)))
      (gap_same c.states v v x x' y y' (λ i l. refl) same same')
      ∙ cond_same (top_rate c * t) _ _ _ (eqb (top_rate c * t) 0) refl
      (λ p. ap (pointed (v s) No) (near_same _ (leb (earlier_gap c.states v x' y') most_gap) (r p) (r' p)))
    where
      nearest : ℕ → ℕ
      nearest g = cond (leb g most_gap) (near_end c t g val s) (summed_upper c t high s)

-- of an until between two times, with the first above 0: its ends, that they lie in their range, its verdict, and its depth
module _ (c : Chain) (u : ℕ) (v w : ℕ → Verdict) (s : ℕ) where
  pub pair_lower : (t : ℕ) → 0 < t → lower_between c t u v w s ≡ lower_path c (between_of t u v w) s
  pair_lower zero h = absurd (omega arith)
  pair_lower (suc t) h = refl

  pub pair_upper : (t : ℕ) → 0 < t → upper_between c t u v w s ≡ upper_path c (between_of t u v w) s
  pair_upper zero h = absurd (omega arith)
  pair_upper (suc t) h = refl

  pub pair_range : (t : ℕ) → 0 < t → s < c.states → depth c t ≤ most_depth → depth c (u - t) ≤ most_depth
      → (lower_between c t u v w s ≤ billion) × (upper_between c t u v w s ≤ billion)
  pair_range zero h l i j = absurd (omega arith)
  pair_range (suc t) h l i j =
      let e = earlier_ends c t u v w _ _ (ends_found c (u - suc t) v w j) s l _ _ i (λ p. rounded_from_lem c _ _) (λ p. rounded_from_lem c _ _) in
      (e.lower_range, e.upper_range)

  pub pair_verdict : (t : ℕ) → 0 < t → (r : Comparison) (p : ℕ)
      → judged r p (lower_between c t u v w s) (upper_between c t u v w s) ≡ verdict_path c r p (between_of t u v w) s
  pair_verdict zero h r p = absurd (omega arith)
  pair_verdict (suc t) h r p = refl

  pub pair_depth : (t : ℕ) → 0 < t → depth c t + depth c (u - t) ≡ (meaning c (between_of t u v w)).depth
  pair_depth zero h = absurd (omega arith)
  pair_depth (suc t) h = refl

-- of an until, the Booleans tell what the moves say
until_told : (c : Chain) (t : ℕ) (x y : ℕ → Bool) (s : ℕ) → s < c.states
    → Tells (marked (cond (eqb t 0) (y s) (leads_in c x y c.states s))) (UntilPossible c t x y s)
until_told c zero x y s l = tells_itself (y s)
until_told c (suc t) x y s l = rw (ne_eqb (suc t) 0 (λ e. omega arith)) (leads_told c x y s l)

both_decided : (c : Chain) (v w : ℕ → Verdict) → (all_decided c.states v && all_decided c.states w) ≡ true → AllDecided c v × AllDecided c w
both_decided c v w e =
    let k = (and-eq-true_iff (all_decided c.states v) (all_decided c.states w)).0 e in
    (all_decided_lem c.states v k.0, all_decided_lem c.states w k.1)

not_both_decided : (c : Chain) (v w : ℕ → Verdict) → (all_decided c.states v && all_decided c.states w) ≡ false → AllDecided c v × AllDecided c w → ⊥
not_both_decided c v w e h =
    false≢true (sym e ∙ (and-eq-true_iff (all_decided c.states v) (all_decided c.states w)).1 (decided_all c.states v h.0, decided_all c.states w h.1))

-- a test of phases that bounds their depths
module _ (c : Chain) (test : ℕ → Bool) (small : (t : ℕ) → test t ≡ true → depth c t ≤ most_depth) where
  -- each kind of path: the ends keep the rules, and the verdict follows
  path_ends : (o : PathOf (ℕ → Verdict)) → phases_pass test o ≡ true → AtEach c λ s. EndsAt c o s (lower_path c o s) (upper_path c o s)
  path_ends (until_of t v w) h = ends_found c t v w (small t h)
  path_ends (next_of v) h = λ s l. ends_next c v s
  path_ends (between_of zero u v w) h = λ s l. until_between c u v w s _ _ (ends_found c u v w (small u h) s l)
  path_ends (between_of (suc t) u v w) h = λ s l.
      let k : (test (suc t) ≡ true) × (test (u - suc t) ≡ true) = (and-eq-true_iff _ _).0 h in
      earlier_ends c t u v w _ _ (ends_found c (u - suc t) v w (small (u - suc t) k.1)) s l _ _ (small (suc t) k.0) (λ p. rounded_from_lem c _ _)
      (λ p. rounded_from_lem c _ _)

  until_follows : (r : Comparison) (p t : ℕ) (v w : ℕ → Verdict) (s : ℕ) → s < c.states → (judgement : Verdict)
      → Ruled (AllDecided c v × AllDecided c w) r p (UntilPossible c t (least v) (least w) s) (UntilCertain (least w) s)
      (ruled_verdict (decided_path c (until_of t v w)) r p (possible_path c (until_of t v w) s) (least w s) judgement)
      (ruled_verdict (decided_path c (until_of t v w)) r p (possible_path c (until_of t v w) s) (least w s) judgement ≡ judgement)
  until_follows r p t v w s l judgement =
      verdict_ruled (AllDecided c v × AllDecided c w) (UntilPossible c t (least v) (least w) s) (UntilCertain (least w) s)
      (decided_path c (until_of t v w)) (both_decided c v w) (not_both_decided c v w) r p _ _ _
      (λ d. until_told c t (least v) (least w) s l) (λ d. tells_itself (least w s))

  path_follows : (r : Comparison) (p : ℕ) (o : PathOf (ℕ → Verdict)) (s : ℕ) → s < c.states
      → FollowsAt c o r p s (lower_path c o s) (upper_path c o s) (verdict_path c r p o s)
  path_follows r p (until_of t v w) s l = until_follows r p t v w s l _
  path_follows r p (next_of v) s l =
      verdict_ruled (AllDecided c v) (Enters c (least v) s) (EntersOnly c (least v) s) (decided_path c (next_of v))
      (λ e. all_decided_lem c.states v e) (λ e h. false≢true (sym e ∙ decided_all c.states v h)) r p _ _ _
      (λ d. upper_tells c v s d) (λ d. lower_tells c v s)
  path_follows r p (between_of zero u v w) s l = until_follows r p u v w s l _
  path_follows r p (between_of (suc t) u v w) s l = refl

  chance_keeps : (r : Comparison) (p : ℕ) (o : PathOf (ℕ → Verdict)) → phases_pass test o ≡ true
      → ChanceKeeps c r p (lower_path c o) (upper_path c o) (verdict_path c r p o) o
  chance_keeps r p o h = record { ends = path_ends o h; verdict = λ s l. path_follows r p o s l }

  -- the test sees the hours of a path alone
  same_phases : (w : Path) → phases_pass test (path_of w) ≡ true → phases_pass test (found_in c w) ≡ true
  unfolding found_in
  same_phases (until t a b) h = h
  same_phases (next_move a) h = h
  same_phases (between zero u a b) h = h
  same_phases (between (suc t) u a b) h = h

  abbrev Passes : Formula → Type 0
  Passes f = paths_pass (λ p o. phases_pass test o) f ≡ true

  abbrev PassesIn : Path → Type 0
  PassesIn w = paths_pass_in (λ p o. phases_pass test o) w ≡ true

  mutual
    unfolding found found_in paths_pass paths_pass_in

    pub found_backed : (f : Formula) → Passes f → Backed c f (λ s. found c f s)
    found_backed always h = λ s l. refl
    found_backed (label name) h = λ s l. refl
    found_backed (negated a) h = record { first = λ s. found c a s; first_backed = found_backed a h; verdict = λ s l. refl }
    found_backed (both a b) h =
        let k : Passes a × Passes b = (and-eq-true_iff _ _).0 h in
        record {
          first = λ s. found c a s;
          first_backed = found_backed a k.0;
          second = λ s. found c b s;
          second_backed = found_backed b k.1;
          verdict = λ s l. refl;
        }
    found_backed (chance r p w) h =
        let k : (phases_pass test (path_of w) ≡ true) × PassesIn w = (and-eq-true_iff _ _).0 h in
        record {
          lower = lower_path c (found_in c w);
          upper = upper_path c (found_in c w);
          keeps = path_backed w r p _ _ _ (chance_keeps r p (found_in c w) (same_phases w k.0)) k.1;
        }

    pub path_backed : (w : Path) (r : Comparison) (p : ℕ) (lower upper : ℕ → ℕ) (v : ℕ → Verdict)
        → ChanceKeeps c r p lower upper v (found_in c w) → PassesIn w → PathBacked c w (ChanceKeeps c r p lower upper v)
    path_backed (until t a b) r p lower upper v k h =
        let i : Passes a × Passes b = (and-eq-true_iff _ _).0 h in
        record {
          first = λ s. found c a s;
          first_backed = found_backed a i.0;
          second = λ s. found c b s;
          second_backed = found_backed b i.1;
          keeps = k;
        }
    path_backed (next_move a) r p lower upper v k h = record { first = λ s. found c a s; first_backed = found_backed a h; keeps = k }
    path_backed (between t u a b) r p lower upper v k h =
        let i : Passes a × Passes b = (and-eq-true_iff _ _).0 h in
        record {
          first = λ s. found c a s;
          first_backed = found_backed a i.0;
          second = λ s. found c b s;
          second_backed = found_backed b i.1;
          keeps = k;
        }

  pub found_reported : (f : Formula) → Passes f → Reported c f (report_lower c f) (report_upper c f) (found c f)
  unfolding report_lower report_upper paths_pass found
  found_reported always h = record { backed = found_backed always h; lowers = λ s l. refl; uppers = λ s l. refl }
  found_reported (label name) h = record { backed = found_backed (label name) h; lowers = λ s l. refl; uppers = λ s l. refl }
  found_reported (negated a) h = record { backed = found_backed (negated a) h; lowers = λ s l. refl; uppers = λ s l. refl }
  found_reported (both a b) h = record { backed = found_backed (both a b) h; lowers = λ s l. refl; uppers = λ s l. refl }
  found_reported (chance r p w) h =
      let k : (phases_pass test (path_of w) ≡ true) × PassesIn w = (and-eq-true_iff _ _).0 h in
      path_backed w r p _ _ _ (chance_keeps r p (found_in c w) (same_phases w k.0)) k.1

-- "q × t over 64,000,000 for some until" is turned back
load_small : (c : Chain) (t : ℕ) → leb (top_rate c * t) most_rate_hundredths ≡ true → depth c t ≤ most_depth
unfolding depth load
load_small c t h = omega (arith, leb-true (top_rate c * t) most_rate_hundredths h)

pub report_found : (c : Chain) (f : Formula) → paths_pass (in_load (top_rate c)) f ≡ true → Reported c f (report_lower c f) (report_upper c f) (found c f)
report_found c f h = found_reported c (λ t. leb (top_rate c * t) most_rate_hundredths) (load_small c) f h
