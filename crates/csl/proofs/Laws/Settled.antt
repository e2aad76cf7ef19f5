-- Every truth table that obeys CSL's rules agrees with every backing, and a backing with nothing undecided is such a table. Assumes nothing.
use Rattle.std.specs.Prelude.{Bool, ℕ, ◌<◌}
use Rattle.csl.specs.Formula.{Comparison, Formula, always, label, negated, both, chance, Path, until, next_move, between, PathOf, until_of, next_of, between_of, mapped}
use Rattle.csl.specs.Chain.{Chain}
use Rattle.csl.specs.Verdicts.{Verdict, Reading, as_no, least}
use Rattle.csl.specs.Path.{AllDecided, value_at, Reads}
use Rattle.csl.specs.Backing.{NothingUndecided, NothingUndecidedIn, Backed, PathBacked, ChanceKeeps}
use Rattle.csl.specs.Truth.{Obeys, PathObeys, ChanceObeys}
use Rattle.csl.proofs.Laws.Verdicts.{as_no_mark, as_no_not, as_no_and}
use Rattle.csl.proofs.Laws.Value.{reads_least}
use Rattle.csl.proofs.Laws.Enclosure.{Encloses, encloses, value_is}
use Rattle.csl.proofs.Laws.Judging.{Settles, entry_agrees, entry_obeys}
use Rattle.csl.proofs.Laws.Follows.{follows_settles}
use Rattle.csl.proofs.Laws.Agree.{ChanceAgrees, agrees}

-- what the verdict of a `P` says of the value, for every reading of its operands
pub chance_settles : (c : Chain) (r : Comparison) (p : ℕ) (lower upper : ℕ → ℕ) (v : ℕ → Verdict) (o : PathOf (ℕ → Verdict)) (x : PathOf (ℕ → Bool))
    → ChanceKeeps c r p lower upper v o → Reads c.states o x → (s : ℕ) → s < c.states → Settles (v s) r p (value_at c x s)
chance_settles c r p lower upper v o x k h s l =
    let i : Encloses c (lower s) (upper s) x s = encloses c o x s (lower s) (upper s) l (k.ends s l) h in
    follows_settles c r p s (lower s) (upper s) (v s) o x h l (k.verdict s l) i

pub chance_agrees : (c : Chain) → ChanceAgrees c
chance_agrees c r p lower upper v b o x k e h s l =
    entry_agrees (value_at c x s) (value_is c x s) r p (v s) (b s) (chance_settles c r p lower upper v o x k h s l) (e s l)

pub tables_agree : (c : Chain) (f : Formula) (v : ℕ → Verdict) (b : ℕ → Bool) → Backed c f v → Obeys c f b → Reading c.states v b
tables_agree c f v b k o = agrees c (chance_agrees c) f v b k o

-- decided verdicts of a `P` are entries that obey, its operands' verdicts read as no
chance_obeys : (c : Chain) (r : Comparison) (p : ℕ) (lower upper : ℕ → ℕ) (v : ℕ → Verdict) (o : PathOf (ℕ → Verdict))
    → ChanceKeeps c r p lower upper v o → AllDecided c v → ChanceObeys c r p (λ s. as_no (v s)) (mapped least o)
chance_obeys c r p lower upper v o k d s l =
    entry_obeys (value_at c (mapped least o) s) r p (v s) (d s l)
    (chance_settles c r p lower upper v o (mapped least o) k (reads_least c.states o) s l)

root : (c : Chain) (f : Formula) (v : ℕ → Verdict) (k : Backed c f v) → NothingUndecided c f v k → AllDecided c v
unfolding NothingUndecided
root c always v k d = d
root c (label name) v k d = d
root c (negated a) v k d = d.0
root c (both a e) v k d = d.0
root c (chance r p w) v k d = d.0

mutual
  unfolding NothingUndecided NothingUndecidedIn

  pub verdicts_obey : (c : Chain) (f : Formula) (v : ℕ → Verdict) (k : Backed c f v) → NothingUndecided c f v k → Obeys c f (λ s. as_no (v s))
  verdicts_obey c always v k d = λ s l. rw (k s l)
  verdicts_obey c (label name) v k d = λ s l. rw (k s l) (as_no_mark (c.mark name s))
  verdicts_obey c (negated a) v k d =
      record {
        first = λ s. as_no (k.first s);
        first_obeys = verdicts_obey c a _ k.first_backed d.1;
        entry = λ s l. rw (k.verdict s l) (as_no_not (k.first s) (root c a _ k.first_backed d.1 s l));
      }
  verdicts_obey c (both a e) v k d =
      record {
        first = λ s. as_no (k.first s);
        first_obeys = verdicts_obey c a _ k.first_backed d.1;
        second = λ s. as_no (k.second s);
        second_obeys = verdicts_obey c e _ k.second_backed d.2;
        entry = λ s l. rw (k.verdict s l)
            (as_no_and (k.first s) (k.second s) (root c a _ k.first_backed d.1 s l) (root c e _ k.second_backed d.2 s l));
      }
  verdicts_obey c (chance r p w) v k d =
      path_obeys c w r p k.lower k.upper v k.keeps d.0 d.1

  pub path_obeys : (c : Chain) (w : Path) (r : Comparison) (p : ℕ) (lower upper : ℕ → ℕ) (v : ℕ → Verdict)
      (k : PathBacked c w (ChanceKeeps c r p lower upper v)) → AllDecided c v → NothingUndecidedIn c w (ChanceKeeps c r p lower upper v) k
      → PathObeys c w (ChanceObeys c r p (λ s. as_no (v s)))
  path_obeys c (until t a e) r p lower upper v k i d =
      record {
        first = λ s. as_no (k.first s);
        first_obeys = verdicts_obey c a _ k.first_backed d.0;
        second = λ s. as_no (k.second s);
        second_obeys = verdicts_obey c e _ k.second_backed d.1;
        entry = chance_obeys c r p lower upper v (until_of t k.first k.second) k.keeps i;
      }
  path_obeys c (next_move a) r p lower upper v k i d =
      record {
        first = λ s. as_no (k.first s);
        first_obeys = verdicts_obey c a _ k.first_backed d;
        entry = chance_obeys c r p lower upper v (next_of k.first) k.keeps i;
      }
  path_obeys c (between t u a e) r p lower upper v k i d =
      record {
        first = λ s. as_no (k.first s);
        first_obeys = verdicts_obey c a _ k.first_backed d.0;
        second = λ s. as_no (k.second s);
        second_obeys = verdicts_obey c e _ k.second_backed d.1;
        entry = chance_obeys c r p lower upper v (between_of t u k.first k.second) k.keeps i;
      }
