-- What the moves decide on a sheet of three states, of every report. Assumes nothing.
use Rattle.std.specs.Prelude.{◌≡◌, refl, true, ℕ, zero, suc, ◌<◌, eqb, ltb}
use Rattle.std.proofs.Common.{ap, ◌∙◌, arith}
use Rattle.csl.specs.Text.{Text, bytes}
use Rattle.csl.specs.Limits.{billion}
use Rattle.csl.specs.Formula.{label, chance, until, next_move, Less, AtMost, AtLeast, More}
use Rattle.csl.specs.Chain.{Chain}
use Rattle.csl.specs.Verdicts.{Verdict, No, Yes, Undecided, marked, negation, as_no, least}
use Rattle.csl.specs.Graph.{Leads, UntilPossible, Enters, EntersOnly, Tells, AllDecided}
use Rattle.csl.specs.Next.{next_lower, next_upper}
use Rattle.csl.specs.Backing.{AtEach}
use Rattle.csl.specs.Report.{Reported}
use Rattle.csl.specs.Refusal.{job_chain}
use Rattle.csl.specs.Bench.{in_turn, PossibleAndCertain}
use Rattle.csl.proofs.Laws.Computing.{computing}
use Rattle.csl.proofs.Laws.Verdicts.{as_no_mark}
use Rattle.csl.proofs.Laws.Readings.{marks_decided}
use Rattle.csl.proofs.Laws.Graph.{SameOn, same_back, possible_same, enters_same, only_same}
use Rattle.csl.proofs.Laws.Ruled.{tells_itself, tells_same, tells_one}
use Rattle.csl.specs.Laws.Search.{any_below, grown, leads_in}
use Rattle.csl.proofs.Laws.Search.{leads_told}
use Rattle.csl.proofs.Laws.NextGraph.{upper_tells, lower_tells}

-- what tells the opposite is the opposite
opposite_told : (A : Type 0) (v w : Verdict) → Tells (negation v) A → Tells w A → v ≡ negation w
opposite_told A v w h k = rw (← tells_one A (negation v) w h k) (twice v)
  where
    twice : (z : Verdict) → z ≡ negation (negation z)
    twice No = refl
    twice Yes = refl
    twice Undecided = refl

-- the verdicts of a label are its marks
least_marks : (c : Chain) (x : Text) (v : ℕ → Verdict) → AtEach c (λ s. v s ≡ marked (c.mark x s)) → SameOn c (least v) (c.mark x)
least_marks c x v h s l = ap as_no (h s l) ∙ as_no_mark (c.mark x s)

module _ (c : Chain) (x y : Text) (lower upper : ℕ → ℕ) (v : ℕ → Verdict) (s : ℕ) (l : s < c.states) where
  -- `> 0` of an until over labels
  module _ (t : ℕ) (k : Reported c (chance More 0 (until t (label x) (label y))) lower upper v) where
    possible : Tells (v s) (UntilPossible c t (c.mark x) (c.mark y) s)
    possible =
        let first = least_marks c x k.first k.first_backed in
        let second = least_marks c y k.second k.second_backed in
        tells_same (UntilPossible c t (least k.first) (least k.second) s) (UntilPossible c t (c.mark x) (c.mark y) s) (v s)
        (possible_same c (least k.first) (least k.second) (c.mark x) (c.mark y) first second t s l)
        (possible_same c (c.mark x) (c.mark y) (least k.first) (least k.second) (same_back c _ _ first) (same_back c _ _ second) t s l)
        ((k.keeps.verdict s l).at_0 (marks_decided c k.first (c.mark x) k.first_backed, marks_decided c k.second (c.mark y) k.second_backed) refl)

  in_time : (t : ℕ) → Reported c (chance More 0 (until (suc t) (label x) (label y))) lower upper v
      → v s ≡ marked (leads_in c (c.mark x) (c.mark y) c.states s)
  in_time t k = tells_one (Leads c (c.mark x) (c.mark y) s) _ _ (possible (suc t) k) (leads_told c (c.mark x) (c.mark y) s l)

  at_once : Reported c (chance More 0 (until 0 (label x) (label y))) lower upper v → v s ≡ marked (c.mark y s)
  at_once k = tells_one (c.mark y s ≡ true) _ _ (possible 0 k) (tells_itself (c.mark y s))

  -- `>= 1000000000` of one
  certain : (t : ℕ) → Reported c (chance AtLeast billion (until t (label x) (label y))) lower upper v → v s ≡ marked (c.mark y s)
  certain t k =
      let second = least_marks c y k.second k.second_backed in
      tells_one (least k.second s ≡ true) _ _
      ((k.keeps.verdict s l).at_1 (marks_decided c k.first (c.mark x) k.first_backed, marks_decided c k.second (c.mark y) k.second_backed) refl)
      (rw (second s l) (tells_itself (c.mark y s)))

  -- `<= 0` and `< 1000000000` of a next move over a label
  abbrev marks : ℕ → Verdict
  marks u = marked (c.mark x u)

  marks_are_decided : AllDecided c marks
  marks_are_decided = marks_decided c marks (c.mark x) (λ u m. refl)

  not_entering : Reported c (chance AtMost 0 (next_move (label x))) lower upper v → v s ≡ negation (marked (ltb 0 (next_upper c marks s)))
  not_entering k =
      let same : SameOn c (least k.first) (least marks) = λ u m. ap as_no (k.first_backed u m) in
      opposite_told (Enters c (least marks) s) (v s) (marked (ltb 0 (next_upper c marks s)))
      (tells_same (Enters c (least k.first) s) (Enters c (least marks) s) (negation (v s)) (enters_same c (least k.first) (least marks) same s)
      (enters_same c (least marks) (least k.first) (same_back c (least k.first) (least marks) same) s)
      ((k.keeps.verdict s l).at_0 (marks_decided c k.first (c.mark x) k.first_backed) refl))
      (upper_tells c marks s marks_are_decided)

  not_all_entering : Reported c (chance Less billion (next_move (label x))) lower upper v → v s ≡ negation (marked (eqb (next_lower c marks s) billion))
  not_all_entering k =
      let same : SameOn c (least k.first) (least marks) = λ u m. ap as_no (k.first_backed u m) in
      opposite_told (EntersOnly c (least marks) s) (v s) (marked (eqb (next_lower c marks s) billion))
      (tells_same (EntersOnly c (least k.first) s) (EntersOnly c (least marks) s) (negation (v s)) (only_same c (least k.first) (least marks) same s)
      (only_same c (least marks) (least k.first) (same_back c (least k.first) (least marks) same) s)
      ((k.keeps.verdict s l).at_1 (marks_decided c k.first (c.mark x) k.first_backed) refl))
      (lower_tells c marks s)

-- verdicts f that are those of g at three states
at_three : (v f g : ℕ → Verdict) → ((s : ℕ) → s < 3 → v s ≡ f s) → f 0 ≡ g 0 → f 1 ≡ g 1 → f 2 ≡ g 2 → (s : ℕ) → s < 3 → v s ≡ g s
at_three v f g h a b d zero l = h 0 l ∙ a
at_three v f g h a b d (suc zero) l = h 1 l ∙ b
at_three v f g h a b d (suc (suc zero)) l = h 2 l ∙ d
at_three v f g h a b d (suc (suc (suc s))) l = absurd (omega arith)

pub possible_and_certain : PossibleAndCertain
unfolding computing leads_in grown any_below
possible_and_certain =
    record {
      under_a_billionth = λ lower upper v k.
          at_three v _ _ (λ s l. in_time (job_chain (in_turn "1" "P > 0 U 0.01 up dead\n")) (bytes "up") (bytes "dead") lower upper v s l 0 k) refl refl refl;
      first_operand_fails = λ lower upper v k.
          at_three v _ _ (λ s l. in_time (job_chain (in_turn "0" "P > 0 U 8760 up dead\n")) (bytes "up") (bytes "dead") lower upper v s l 875999 k) refl refl refl;
      no_time = λ lower upper v k.
          at_three v _ _ (λ s l. at_once (job_chain (in_turn "1" "P > 0 U 0 up dead\n")) (bytes "up") (bytes "dead") lower upper v s l k) refl refl refl;
      not_at_once = λ lower upper v k.
          at_three v _ _ (λ s l. certain (job_chain (in_turn "1" "P >= 1000000000 U 8760 up dead\n")) (bytes "up") (bytes "dead") lower upper v s l 876000 k) refl refl refl;
      no_move_enters = λ lower upper v k.
          at_three v _ _ (λ s l. not_entering (job_chain (in_turn "1" "P <= 0 X dead\n")) (bytes "dead") (bytes "dead") lower upper v s l k) refl refl refl;
      all_moves_enter = λ lower upper v k.
          at_three v _ _ (λ s l. not_all_entering (job_chain (in_turn "1" "P < 1000000000 X up\n")) (bytes "up") (bytes "dead") lower upper v s l k) refl refl refl;
      words_short = refl;
      words_long = refl;
      words_zero = refl;
    }
