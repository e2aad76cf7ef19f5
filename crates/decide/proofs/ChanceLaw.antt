-- The report of a `P`, by the kind of its path. Assumes nothing.
use mathlib.Core.Path.{◌≡◌, refl}
use mathlib.Core.Bool.{true, and-eq-true_iff}
use mathlib.Core.List.{List}
use Prim.Native.Nat.{ℕ, zero, suc, ◌*◌, ◌-◌, ◌≤◌}
use native.Mathlib.Omega.{arith}
use lib.ListN.{length}
use borrow.Author.Tests.{leb-true, ne_eqb}
use Rattle.csl.specs.Limits.{most_rate_hundredths}
use Rattle.csl.specs.Formula.{Comparison, between_of, phases_pass}
use Rattle.formula.specs.Nodes.{path_meant}
use Rattle.formula.specs.Operands.{operands_in}
use Rattle.formula.specs.Pass.{light_of}
use Rattle.formula.specs.declared.nodes.Path.{Path}
use Rattle.formula.specs.declared.nodes.Path.TheVariants as path
use Rattle.decide.specs.Rows.{RowsHold}
use Rattle.decide.specs.Chance.{UntilAsked, UntilLeaves, NextAsked, NextLeaves, BetweenAsked, BetweenLeaves, ChanceAsked, ChanceLeaves}

-- the loads of two phases
pub two_loads : (q t u x y : ℕ) → (t ≡ 0 → ⊥) → phases_pass (light_of q) (between_of t u x y) ≡ true
    → (q * t ≤ most_rate_hundredths) × (q * (u - t) ≤ most_rate_hundredths)
two_loads q zero u x y n h = absurd (n refl)
two_loads q (suc t) u x y n h =
    let k : (light_of q (suc t) ≡ true) × (light_of q (u - suc t) ≡ true) = (and-eq-true_iff _ _).0 h in
    (leb-true (q * suc t) most_rate_hundredths k.0, leb-true (q * (u - suc t)) most_rate_hundredths k.1)

module _ {mv ix l marks : List ℕ} {o : Path} {p n q : ℕ} (a : ChanceAsked mv ix l marks o p n q) where
  module _ {t x y : ℕ} (e : o ≡ path.Until t x y) where
    abbrev pub may_until : UntilAsked mv ix l marks n q t p
    may_until =
        record {
          c = a.c;
          shows = a.shows;
          prepared = a.prepared;
          few_words = a.few_words;
          index = λ z d. a.index (rw (e, z, ne_eqb t 0 d) refl);
          load = leb-true (q * t) most_rate_hundredths (rw e at a.load);
          threshold = a.threshold;
          held = let h : 2 * n ≤ length marks = rw e at a.held in omega arith;
        }

    pub until_decided : {r : Comparison} {l' m : List ℕ} {d : ℕ} → ((b : UntilAsked mv ix l marks n q t p) → UntilLeaves b r l' m d) → ChanceLeaves a r l' m d
    until_decided {r} {l'} {m} {d} u vs h =
        let rows : RowsHold (operands_in (path_meant (path.Until t x y))) vs marks n = rw e at h in
        let z = u may_until (vs x) (vs y) rows.0 rows.1 in
        rw e (record { row = z.rows; report = z.report })

  module _ {x : ℕ} (e : o ≡ path.Next x) where
    abbrev pub may_next : NextAsked mv l marks n p
    may_next =
        record {
          c = a.c;
          q = q;
          shows = a.shows;
          prepared = a.prepared;
          owns = a.owns;
          threshold = a.threshold;
          held = let h : 1 * n ≤ length marks = rw e at a.held in omega arith;
        }

    pub next_decided : {r : Comparison} {l' m : List ℕ} {d : ℕ} → ((b : NextAsked mv l marks n p) → NextLeaves b r l' m d) → ChanceLeaves a r l' m d
    next_decided {r} {l'} {m} {d} u vs h =
        let row : RowsHold (operands_in (path_meant (path.Next x))) vs marks n = rw e at h in
        let z = u may_next (vs x) row in
        rw e (record { row = z.row; report = z.report })

  module _ {t u x y : ℕ} (e : o ≡ path.Between t u x y) where
    abbrev pub may_between : BetweenAsked mv ix l marks n q t u p
    may_between =
        record {
          c = a.c;
          shows = a.shows;
          prepared = a.prepared;
          few_words = a.few_words;
          index = λ z i d. a.index (rw (e, z, i, ne_eqb u 0 d) refl);
          in_order = leb-true t u (rw e at a.in_order);
          load = λ z. leb-true (q * u) most_rate_hundredths (rw (e, z) at a.load);
          loads = λ z. two_loads q t u x y z (rw e at a.load);
          threshold = a.threshold;
          held = let h : 2 * n ≤ length marks = rw e at a.held in omega arith;
        }

    pub between_decided : {r : Comparison} {l' m : List ℕ} {d : ℕ} → ((b : BetweenAsked mv ix l marks n q t u p) → BetweenLeaves b r l' m d)
        → ChanceLeaves a r l' m d
    between_decided {r} {l'} {m} {d} b vs h =
        let rows : RowsHold (operands_in (path_meant (path.Between t u x y))) vs marks n = rw e at h in
        let i = b may_between (vs x) (vs y) rows.0 rows.1 in
        rw e (record { row = i.rows; report = i.report })

pub ruleset chance_laws = (until_decided, next_decided, between_decided)
