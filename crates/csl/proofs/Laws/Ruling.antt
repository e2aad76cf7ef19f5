-- The verdict of a `P`, computed: by the moves where they decide, else by the interval; and that it is the one that follows. Assumes nothing.
use Rattle.std.specs.Prelude.{◌≡◌, refl, Bool, true, false, cond, ℕ, eqb}
use Rattle.std.proofs.Common.{inl, inr, arith, eqb-true}
use Rattle.std.proofs.lemmas.Bool.{eqb-false}
use Rattle.csl.specs.Limits.{billion}
use Rattle.csl.specs.Formula.{Comparison, Less, AtMost, AtLeast, More}
use Rattle.csl.specs.Verdicts.{Verdict, marked, negation}
use Rattle.csl.specs.Graph.{Tells, ByPossible, ByCertain, Ruled}
use Rattle.csl.specs.Laws.Ruling.{certain_verdict, possible_verdict, ruled_verdict}

negated_tells : (A : Type 0) (b : Bool) → Tells (marked b) A → Tells (negation (negation (marked b))) A
negated_tells A true h = h
negated_tells A false h = h

possible_tells : (A : Type 0) (r : Comparison) (b : Bool) → Tells (marked b) A → ByPossible r A (possible_verdict r b)
possible_tells A More b h = h
possible_tells A AtMost b h = negated_tells A b h
possible_tells A AtLeast b h = refl
possible_tells A Less b h = refl

certain_tells : (A : Type 0) (r : Comparison) (b : Bool) → Tells (marked b) A → ByCertain r A (certain_verdict r b)
certain_tells A AtLeast b h = h
certain_tells A Less b h = negated_tells A b h
certain_tells A AtMost b h = refl
certain_tells A More b h = refl

-- it keeps the rule, where Booleans tell what the moves say
pub verdict_ruled : (decided possible certain : Type 0) (d : Bool) → (d ≡ true → decided) → (d ≡ false → decided → ⊥)
    → (r : Comparison) (p : ℕ) (a b : Bool) (interval : Verdict) → (decided → Tells (marked a) possible) → (decided → Tells (marked b) certain)
    → Ruled decided r p possible certain (ruled_verdict d r p a b interval) (ruled_verdict d r p a b interval ≡ interval)
verdict_ruled decided possible certain d all some r p a b interval h k = go d refl (eqb p 0) refl (eqb p billion) refl
  where
    go : (d' : Bool) → d ≡ d' → (z : Bool) → eqb p 0 ≡ z → (o : Bool) → eqb p billion ≡ o
        → let v : Verdict = cond (cond d' (cond z true o) false) (cond z (possible_verdict r a) (certain_verdict r b)) interval in
        Ruled decided r p possible certain v (v ≡ interval)
    go false i z e o f =
        record { at_0 = λ x. absurd (some i x); at_1 = λ x. absurd (some i x); elsewhere = λ n. refl }
    go true i true e o f =
        record {
          at_0 = λ x w. possible_tells possible r a (h x);
          at_1 = λ x w. absurd (omega (arith, eqb-true p 0 e));
          elsewhere = λ n. absurd (n (all i) (inl (eqb-true p 0 e)));
        }
    go true i false e true f =
        record {
          at_0 = λ x w. absurd (eqb-false p 0 e w);
          at_1 = λ x w. certain_tells certain r b (k x);
          elsewhere = λ n. absurd (n (all i) (inr (eqb-true p billion f)));
        }
    go true i false e false f =
        record { at_0 = λ x w. absurd (eqb-false p 0 e w); at_1 = λ x w. absurd (eqb-false p billion f w); elsewhere = λ n. refl }
