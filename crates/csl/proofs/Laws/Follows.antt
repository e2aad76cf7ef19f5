-- What the rule of the verdict gives, one line for each kind of path: it says of the probability what the verdict says, it is the rule of
-- sides where the interval decides, and it leaves no choice. Assumes nothing.
use Rattle.std.specs.Prelude.{◌≡◌, refl, Bool, false, ◌⊎◌, ℕ, zero, suc, ◌≤◌, ◌<◌}
use Rattle.std.proofs.Common.{◌∙◌, true≢false, arith}
use Rattle.csl.specs.Limits.{billion}
use Rattle.csl.specs.Formula.{Comparison, PathOf, until_of, next_of, between_of, two_phases}
use Rattle.csl.specs.Chain.{Chain, depth}
use Rattle.csl.specs.Limit.{Holds, limit}
use Rattle.csl.specs.Verdicts.{Verdict, Reading, Decided, judged, least, Sides}
use Rattle.csl.specs.Graph.{UntilPossible, UntilCertain, Enters, EntersOnly, AllDecided}
use Rattle.csl.specs.Until.{until_quotient}
use Rattle.csl.specs.Path.{Reads, reads_until, reads_next, reads_between, value_at, FollowsAt, SidesAt, DecidedIn}
use Rattle.csl.proofs.Laws.Next.{next_le}
use Rattle.csl.proofs.Laws.Enclosure.{Encloses, value_is}
use Rattle.csl.proofs.Laws.Sides.{judged_sides, one_verdict}
use Rattle.csl.specs.Laws.Decided.{Either}
use Rattle.csl.proofs.Laws.Decided.{decided_or_not, both_or_not, one_reading}
use Rattle.csl.proofs.Laws.Judging.{Settles, settles}
use Rattle.csl.proofs.Laws.Graph.{limit_low, until_some, until_none, until_full, until_part, until_within, next_some, next_none, next_full, next_part}
use Rattle.csl.proofs.Laws.Graph.{SameOn, same_back, possible_same, enters_same, only_same}
use Rattle.csl.proofs.Laws.Ruled.{which, ruled_says, ruled_as, ruled_one, ruled_decided}

-- whether no operand state is undecided
pub decided_in : (c : Chain) (o : PathOf (ℕ → Verdict)) → Either (DecidedIn c o)
decided_in c (until_of t v w) = both_or_not (decided_or_not c v) (decided_or_not c w)
decided_in c (next_of v) = decided_or_not c v
decided_in c (between_of t u v w) = both_or_not (decided_or_not c v) (decided_or_not c w)

module _ (c : Chain) (r : Comparison) (p s lower upper : ℕ) (v : Verdict) where
  judgement : (x : PathOf (ℕ → Bool)) → Encloses c lower upper x s → v ≡ judged r p lower upper → Settles v r p (value_at c x s)
  judgement x i e = rw e (settles (value_at c x s) (value_is c x s) lower upper i.below i.above r p)

  -- of an until, for a reading of its operands of which the interval says i
  until_settles : (t : ℕ) (a b : ℕ → Verdict) (x y : ℕ → Bool) → Reading c.states a x → Reading c.states b y → s < c.states
      → FollowsAt c (until_of t a b) r p s lower upper v
      → (v ≡ judged r p lower upper → Settles v r p (limit (depth c t) (until_quotient c t x y s)))
      → Settles v r p (limit (depth c t) (until_quotient c t x y s))
  until_settles t a b x y h k l e i =
      let same : AllDecided c a × AllDecided c b → SameOn c (least a) x × SameOn c (least b) y
      = λ d. (same_back c x (least a) (one_reading c a x d.0 h), same_back c y (least b) (one_reading c b y d.1 k)) in
      let back : AllDecided c a × AllDecided c b → SameOn c x (least a) × SameOn c y (least b)
      = λ d. (one_reading c a x d.0 h, one_reading c b y d.1 k) in
      ruled_says (λ p r. Holds r p (limit (depth c t) (until_quotient c t x y s))) (AllDecided c a × AllDecided c b)
      (UntilPossible c t (least a) (least b) s) (UntilCertain (least b) s) (limit_low _) (until_within c x y s l t)
      (λ d j. until_some c x y s l t (possible_same c (least a) (least b) x y (same d).0 (same d).1 t s l j))
      (λ d n. until_none c x y s l t (λ j. n (possible_same c x y (least a) (least b) (back d).0 (back d).1 t s l j)))
      (λ d j. until_full c x y s l t ((back d).1 s l ∙ j))
      (λ d n. until_part c x y s l t (λ j. n ((same d).1 s l ∙ j)))
      r p v (which (decided_in c (until_of t a b)) p) e i

  -- of the probability, for every reading of the operands that the ends enclose
  pub follows_settles : (o : PathOf (ℕ → Verdict)) (x : PathOf (ℕ → Bool)) → Reads c.states o x → s < c.states → FollowsAt c o r p s lower upper v
      → Encloses c lower upper x s → Settles v r p (value_at c x s)
  follows_settles _ _ (reads_until t a b x y h k) l e i = until_settles t a b x y h k l e (judgement (until_of t x y) i)
  follows_settles _ _ (reads_next a x h) l e i =
      let same : AllDecided c a → SameOn c (least a) x = λ d. same_back c x (least a) (one_reading c a x d h) in
      let back : AllDecided c a → SameOn c x (least a) = λ d. one_reading c a x d h in
      ruled_says (λ p r. Holds r p (value_at c (next_of x) s)) (AllDecided c a) (Enters c (least a) s) (EntersOnly c (least a) s)
      (omega arith) (omega (arith, next_le c x s))
      (λ d j. omega (arith, next_some c x s (enters_same c (least a) x (same d) s j)))
      (λ d n. omega (arith, next_none c x s (λ j. n (enters_same c x (least a) (back d) s j))))
      (λ d j. omega (arith, next_full c x s (only_same c (least a) x (same d) s j)))
      (λ d n. omega (arith, next_part c x s (λ j. n (only_same c x (least a) (back d) s j))))
      r p v (which (decided_in c (next_of a)) p) e (judgement (next_of x) i)
  follows_settles _ _ (reads_between zero u a b x y h k) l e i = until_settles u a b x y h k l e (judgement (between_of zero u x y) i)
  follows_settles _ _ (reads_between (suc t) u a b x y h k) l e i = judgement (between_of (suc t) u x y) i e

  follows_judged : lower ≤ upper → v ≡ judged r p lower upper → Sides v r p lower upper
  follows_judged l e = rw e (judged_sides p lower upper l r)

  pub follows_sides : (o : PathOf (ℕ → Verdict)) → FollowsAt c o r p s lower upper v → lower ≤ upper → SidesAt c o r p s lower upper v
  follows_sides (until_of t a b) e l = ruled_as (follows_judged l) e
  follows_sides (next_of a) e l = ruled_as (follows_judged l) e
  follows_sides (between_of zero u a b) e l = ruled_as (follows_judged l) e
  follows_sides (between_of (suc t) u a b) e l = follows_judged l e

  -- one verdict follows
  pub sides_one : (o : PathOf (ℕ → Verdict)) (w : Verdict) → lower ≤ upper → SidesAt c o r p s lower upper v → SidesAt c o r p s lower upper w → v ≡ w
  sides_one (until_of t a b) w l h k = ruled_one v w (which (decided_in c (until_of t a b)) p) (one_verdict p lower upper l r v w) h k
  sides_one (next_of a) w l h k = ruled_one v w (which (decided_in c (next_of a)) p) (one_verdict p lower upper l r v w) h k
  sides_one (between_of zero u a b) w l h k = ruled_one v w (which (decided_in c (until_of u a b)) p) (one_verdict p lower upper l r v w) h k
  sides_one (between_of (suc t) u a b) w l h k = one_verdict p lower upper l r v w h k

  -- "never undecided"
  pub moves_decide_lem : (o : PathOf (ℕ → Verdict)) → two_phases o ≡ false → DecidedIn c o → (p ≡ 0) ⊎ (p ≡ billion)
      → FollowsAt c o r p s lower upper v → Decided v
  moves_decide_lem (until_of t a b) i d h e = ruled_decided v d h e
  moves_decide_lem (next_of a) i d h e = ruled_decided v d h e
  moves_decide_lem (between_of zero u a b) i d h e = ruled_decided v d h e
  moves_decide_lem (between_of (suc t) u a b) i d h e = absurd (true≢false i)

  -- elsewhere the interval rule stands
  pub interval_stands : (o : PathOf (ℕ → Verdict)) → (two_phases o ≡ false → DecidedIn c o → (p ≡ 0) ⊎ (p ≡ billion) → ⊥)
      → SidesAt c o r p s lower upper v → Sides v r p lower upper
  interval_stands (until_of t a b) n e = e.elsewhere (n refl)
  interval_stands (next_of a) n e = e.elsewhere (n refl)
  interval_stands (between_of zero u a b) n e = e.elsewhere (n refl)
  interval_stands (between_of (suc t) u a b) n e = e
