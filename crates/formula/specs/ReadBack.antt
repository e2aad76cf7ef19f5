-- A formula's nodes, read back, are the formula. Assumes nothing.
use Rattle.std.specs.Prelude.{◌≡◌, refl, ℕ, zero, suc, ◌+◌, ◌-◌, ◌≤◌, max, true, ◌&&◌, List, ◌++◌}
use Rattle.std.proofs.Common.{arith}
use Rattle.std.proofs.Math.Bool.{and-eq-true_iff}
use Rattle.csl.specs.Text.{Text, among}
use Rattle.csl.specs.Formula as csl
use Rattle.csl.specs.Formula.{Formula, nodes, nodes_in, levels, levels_in, labels_pass, labels_pass_in, mapped}
use Rattle.verdicts.specs.Paper.{comparison_of}
use Rattle.formula.specs.Names.{name_at}
use Rattle.formula.specs.Nodes.{path_meant}
use Rattle.formula.specs.FormulaAt.{path_over, formula_at}
use Rattle.formula.specs.Listed.{held, path_held, last_nodes, listed, listed_in}
use Rattle.formula.specs.Stands.{Stands, first_held, second_held, always_held, label_held, negated_held, both_held, chance_held}
use Rattle.formula.specs.declared.nodes.Kind.{Kind}

-- what the code holds for a comparison stands for it
held_is : (c : csl.Comparison) → comparison_of (held c) ≡ c
held_is csl.Less = refl
held_is csl.AtMost = refl
held_is csl.AtLeast = refl
held_is csl.More = refl

module _ (names : List Text) (ns : List Kind) where
  -- a formula is read back to a depth, wherever its nodes stand
  abbrev Back : Formula → ℕ → Type 0
  Back f d = (b : ℕ) → Stands ns (listed names f b) b → labels_pass (among names) f ≡ true → levels f ≤ d
      → formula_at names d ns (b + nodes f - 1) ≡ f

  -- and so are two, at the places that their node tells
  two_back : (a c : Formula) (d b : ℕ) → Back a d → Back c d → Stands ns (listed names a b ++ listed names c (b + nodes a)) b
      → labels_pass (among names) a && labels_pass (among names) c ≡ true → max (levels a) (levels c) ≤ d
      → (formula_at names d ns (b + (nodes a + nodes c) - suc (nodes c)) ≡ a) × (formula_at names d ns (b + (nodes a + nodes c) - 1) ≡ c)
  two_back a c d b x y h n l =
      let m = (and-eq-true_iff _ _).0 n in
      let i : b + (nodes a + nodes c) - suc (nodes c) ≡ b + nodes a - 1 = omega arith in
      let j : b + (nodes a + nodes c) - 1 ≡ b + nodes a + nodes c - 1 = omega arith in
      (rw i (x b (first_held names ns a c b h) m.0 (omega arith)), rw j (y (b + nodes a) (second_held names ns a c b h) m.1 (omega arith)))

  mutual
    unfolding levels levels_in nodes nodes_in labels_pass labels_pass_in formula_at listed_in

    pub read_back : (f : Formula) (d : ℕ) → Back f d
    read_back csl.always zero b h n l = absurd (omega arith)
    read_back csl.always (suc d) b h n l = let e : b + 1 - 1 ≡ b = omega arith in rw (e, always_held names ns b h)
    read_back (csl.label w) zero b h n l = absurd (omega arith)
    read_back (csl.label w) (suc d) b h n l = let e : b + 1 - 1 ≡ b = omega arith in rw (e, label_held names ns w b h, name_at names w n)
    read_back (csl.negated a) zero b h n l = absurd (omega arith)
    read_back (csl.negated a) (suc d) b h n l =
        let o = negated_held names ns a b h in
        let e : b + (1 + nodes a) - 1 ≡ b + nodes a = omega arith in
        rw (e, o.own, read_back a d b o.below n (omega arith))
    read_back (csl.both a c) zero b h n l = absurd (omega arith)
    read_back (csl.both a c) (suc d) b h n l =
        let o = both_held names ns a c b h in
        let e : b + (1 + (nodes a + nodes c)) - 1 ≡ b + (nodes a + nodes c) = omega arith in
        let t = two_back a c d b (λ k i m j. read_back a d k i m j) (λ k i m j. read_back c d k i m j) o.below n (omega arith) in
        rw (e, o.own, t.0, t.1)
    read_back (csl.chance r p w) zero b h n l = absurd (omega arith)
    read_back (csl.chance r p w) (suc d) b h n l =
        let o = chance_held names ns r p w b h in
        let e : b + (1 + nodes_in w) - 1 ≡ b + nodes_in w = omega arith in
        rw (e, o.own, held_is, path_back w d b o.below n (omega arith))

    path_back : (w : csl.Path) (d b : ℕ) → Stands ns (listed_in names w b) b → labels_pass_in (among names) w ≡ true → levels_in w ≤ d
        → path_over (mapped (formula_at names d ns) (path_meant (path_held (b + nodes_in w) (last_nodes w) w))) ≡ w
    path_back (csl.until t a c) d b h n l =
        let e = two_back a c d b (λ k i m j. read_back a d k i m j) (λ k i m j. read_back c d k i m j) h n l in rw (e.0, e.1)
    path_back (csl.next_move a) d b h n l = rw (read_back a d b h n l)
    path_back (csl.between t u a c) d b h n l =
        let e = two_back a c d b (λ k i m j. read_back a d k i m j) (λ k i m j. read_back c d k i m j) h n l in rw (e.0, e.1)
