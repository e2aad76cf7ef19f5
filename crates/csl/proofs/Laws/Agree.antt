-- Every truth table that obeys CSL's rules agrees with every backing, given that for one `P`. Assumes nothing.
use Rattle.std.specs.Prelude.{◌≡◌, refl, Bool, true, false, not, ◌&&◌, ℕ}
use Rattle.std.proofs.Math.Bool.{and-false}
use Rattle.csl.specs.Formula.{Comparison, Formula, always, label, negated, both, chance, Path, until, next_move, between, PathOf}
use Rattle.csl.specs.Chain.{Chain}
use Rattle.csl.specs.Verdicts.{Verdict, No, Yes, Undecided, marked, negation, conjunction, Agrees, Reading}
use Rattle.csl.specs.Path.{Reads, reads_until, reads_next, reads_between}
use Rattle.csl.specs.Backing.{Backed, PathBacked, ChanceKeeps}
use Rattle.csl.specs.Truth.{Obeys, PathObeys, ChanceObeys}

pub agrees_yes : {b : Bool} → b ≡ true → Agrees Yes b
unfolding Agrees
agrees_yes h = h

pub agrees_mark : (b : Bool) → Agrees (marked b) b
unfolding Agrees
agrees_mark true = refl
agrees_mark false = refl

pub agrees_not : (v : Verdict) (b : Bool) → Agrees v b → Agrees (negation v) (not b)
unfolding Agrees
agrees_not No b h = rw h
agrees_not Yes b h = rw h
agrees_not Undecided b h = tt

pub agrees_and : (v w : Verdict) (a b : Bool) → Agrees v a → Agrees w b → Agrees (conjunction v w) (a && b)
unfolding Agrees
agrees_and No w a b h k = rw h
agrees_and Yes w a b h k = rw h k
agrees_and Undecided No a b h k = rw k (and-false a)
agrees_and Undecided Yes a b h k = tt
agrees_and Undecided Undecided a b h k = tt

-- what of one `P` the induction rests on
abbrev pub ChanceAgrees : Chain → Type 0
ChanceAgrees c = (r : Comparison) (p : ℕ) (lower upper : ℕ → ℕ) (v : ℕ → Verdict) (b : ℕ → Bool) (o : PathOf (ℕ → Verdict)) (x : PathOf (ℕ → Bool))
    → ChanceKeeps c r p lower upper v o → ChanceObeys c r p b x → Reads c.states o x → Reading c.states v b

-- operands that keep K and L, the one's verdicts read by the other's entries
pub record Met (c : Chain) (K : PathOf (ℕ → Verdict) → Type 0) (L : PathOf (ℕ → Bool) → Type 0) : Type 0 where
  pub verdicts : PathOf (ℕ → Verdict)
  pub entries : PathOf (ℕ → Bool)
  pub reads : Reads c.states verdicts entries
  pub kept : K verdicts
  pub obeyed : L entries

module _ (c : Chain) (one : ChanceAgrees c) where
  mutual
    pub agrees : (f : Formula) (v : ℕ → Verdict) (b : ℕ → Bool) → Backed c f v → Obeys c f b → Reading c.states v b
    agrees always v b k o = λ s h. rw (k s h) (agrees_yes (o s h))
    agrees (label name) v b k o = λ s h. rw (k s h, o s h) (agrees_mark (c.mark name s))
    agrees (negated a) v b k o = λ s h.
        rw (k.verdict s h, o.entry s h) (agrees_not _ _ (agrees a _ _ k.first_backed o.first_obeys s h))
    agrees (both a e) v b k o = λ s h.
        rw (k.verdict s h, o.entry s h)
        (agrees_and _ _ _ _ (agrees a _ _ k.first_backed o.first_obeys s h)
        (agrees e _ _ k.second_backed o.second_obeys s h))
    agrees (chance r p w) v b k o =
        let m : Met c (ChanceKeeps c r p k.lower k.upper v) (ChanceObeys c r p b)
        = met w r p k.lower k.upper v b k.keeps o in
        one r p k.lower k.upper v b m.verdicts m.entries m.kept m.obeyed m.reads

    pub met : (w : Path) (r : Comparison) (p : ℕ) (lower upper : ℕ → ℕ) (v : ℕ → Verdict) (b : ℕ → Bool)
        → PathBacked c w (ChanceKeeps c r p lower upper v) → PathObeys c w (ChanceObeys c r p b)
        → Met c (ChanceKeeps c r p lower upper v) (ChanceObeys c r p b)
    met (until t a e) r p lower upper v b k o =
        record {
          verdicts = _;
          entries = _;
          reads = reads_until t k.first k.second o.first o.second (agrees a _ _ k.first_backed o.first_obeys)
              (agrees e _ _ k.second_backed o.second_obeys);
          kept = k.keeps;
          obeyed = o.entry;
        }
    met (next_move a) r p lower upper v b k o =
        record {
          verdicts = _;
          entries = _;
          reads = reads_next k.first o.first (agrees a _ _ k.first_backed o.first_obeys);
          kept = k.keeps;
          obeyed = o.entry;
        }
    met (between t u a e) r p lower upper v b k o =
        record {
          verdicts = _;
          entries = _;
          reads = reads_between t u k.first k.second o.first o.second (agrees a _ _ k.first_backed o.first_obeys)
              (agrees e _ _ k.second_backed o.second_obeys);
          kept = k.keeps;
          obeyed = o.entry;
        }
