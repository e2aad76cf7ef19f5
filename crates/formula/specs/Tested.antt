-- The tests of a formula's nodes are the tests of the formula: refusals 12, 13, 16 and 14. Assumes nothing.
use Rattle.std.specs.Prelude.{◌≡◌, refl, ℕ, zero, suc, ◌+◌, Bool, true, ◌&&◌, List, ◌++◌, leb, eqb}
use Rattle.std.proofs.Common.{◌∙◌, arith}
use Rattle.std.proofs.Math.Bool.{and-true, and_assoc, and_comm}
use Rattle.csl.specs.Text.{Text}
use Rattle.csl.specs.Labels.{place_of}
use Rattle.csl.specs.Formula as csl
use Rattle.csl.specs.Formula.{Formula, PathOf, path_of, nodes, nodes_in, labels_pass, labels_pass_in, times_pass, two_phases, phases_pass, times_in_order, paths_pass, paths_pass_in}
use Rattle.csl.specs.Limits.{most_hundredths}
use Rattle.formula.specs.Nodes.{path_meant}
use Rattle.formula.specs.Pass.{place_passes, path_passes, all_below, place_passed}
use Rattle.formula.specs.Pass.{Test, Labels, Limits, Order, Load, NoSearch}
use Rattle.formula.specs.Listed.{path_held, listed, listed_in}
use Rattle.formula.specs.Stands.{Stands, first_held, second_held, always_held, label_held, negated_held, both_held, chance_held}
use Rattle.formula.specs.declared.nodes.Kind.{Kind}

-- each label in it passes one test, and the threshold and the path of each `P` another
unfoldable mutual
  pub tree_pass : (Text → Bool) → (ℕ → PathOf Formula → Bool) → Formula → Bool
  tree_pass name bound csl.always = true
  tree_pass name bound (csl.label w) = name w
  tree_pass name bound (csl.negated a) = tree_pass name bound a
  tree_pass name bound (csl.both a c) = tree_pass name bound a && tree_pass name bound c
  tree_pass name bound (csl.chance r p w) = bound p (path_of w) && tree_pass_in name bound w

  pub tree_pass_in : (Text → Bool) → (ℕ → PathOf Formula → Bool) → csl.Path → Bool
  tree_pass_in name bound (csl.until t a c) = tree_pass name bound a && tree_pass name bound c
  tree_pass_in name bound (csl.next_move a) = tree_pass name bound a
  tree_pass_in name bound (csl.between t u a c) = tree_pass name bound a && tree_pass name bound c

mutual
  unfolding tree_pass tree_pass_in labels_pass labels_pass_in

  pub labels_tree : (name : Text → Bool) (f : Formula) → tree_pass name (λ p o. true) f ≡ labels_pass name f
  labels_tree name csl.always = refl
  labels_tree name (csl.label w) = refl
  labels_tree name (csl.negated a) = labels_tree name a
  labels_tree name (csl.both a c) = rw (labels_tree name a, labels_tree name c)
  labels_tree name (csl.chance r p w) = labels_in name w

  labels_in : (name : Text → Bool) (w : csl.Path) → tree_pass_in name (λ p o. true) w ≡ labels_pass_in name w
  labels_in name (csl.until t a c) = rw (labels_tree name a, labels_tree name c)
  labels_in name (csl.next_move a) = labels_tree name a
  labels_in name (csl.between t u a c) = rw (labels_tree name a, labels_tree name c)

mutual
  unfolding tree_pass tree_pass_in paths_pass paths_pass_in

  pub paths_tree : (bound : ℕ → PathOf Formula → Bool) (f : Formula) → tree_pass (λ w. true) bound f ≡ paths_pass bound f
  paths_tree bound csl.always = refl
  paths_tree bound (csl.label w) = refl
  paths_tree bound (csl.negated a) = paths_tree bound a
  paths_tree bound (csl.both a c) = rw (paths_tree bound a, paths_tree bound c)
  paths_tree bound (csl.chance r p w) = rw (paths_in bound w)

  paths_in : (bound : ℕ → PathOf Formula → Bool) (w : csl.Path) → tree_pass_in (λ w. true) bound w ≡ paths_pass_in bound w
  paths_in bound (csl.until t a c) = rw (paths_tree bound a, paths_tree bound c)
  paths_in bound (csl.next_move a) = paths_tree bound a
  paths_in bound (csl.between t u a c) = rw (paths_tree bound a, paths_tree bound c)

-- the test of a path looks at its hours and not at its operands
same_times : {A B : Type 0} (o : PathOf A) (x : PathOf B) (test : Test) (p : ℕ) → ((f : ℕ → Bool) → times_pass f o ≡ times_pass f x)
    → ((f : ℕ → Bool) → phases_pass f o ≡ phases_pass f x) → two_phases o ≡ two_phases x → times_in_order o ≡ times_in_order x
    → path_passes test p o ≡ path_passes test p x
same_times o x (Labels names) p h k m n = refl
same_times o x Limits p h k m n = rw (h (λ t. leb t most_hundredths))
same_times o x Order p h k m n = n
same_times o x (Load q) p h k m n = k _
same_times o x NoSearch p h k m n = rw (h (λ t. eqb t 0), m)

path_tested : (test : Test) (p i n : ℕ) (w : csl.Path) → path_passes test p (path_meant (path_held i n w)) ≡ path_passes test p (path_of w)
path_tested test p i n (csl.until t a c) = same_times _ _ test p (λ f. refl) (λ f. refl) refl refl
path_tested test p i n (csl.next_move a) = same_times _ _ test p (λ f. refl) (λ f. refl) refl refl
path_tested test p i n (csl.between zero u a c) = same_times _ _ test p (λ f. refl) (λ f. refl) refl refl
path_tested test p i n (csl.between (suc t) u a c) = same_times _ _ test p (λ f. refl) (λ f. refl) refl refl

module _ (names : List Text) (test : Test) (ns : List Kind) where
  abbrev pub upto : ℕ → Bool
  upto b = all_below (place_passed test ns) b

  abbrev pub pass : Formula → Bool
  pass f = tree_pass (λ w. place_passes test (place_of names w)) (path_passes test) f

  abbrev pass_in : csl.Path → Bool
  pass_in w = tree_pass_in (λ w. place_passes test (place_of names w)) (path_passes test) w

  -- the nodes of f stand from place b on
  abbrev Passes : Formula → Type 0
  Passes f = (b : ℕ) → Stands ns (listed names f b) b → upto (b + nodes f) ≡ upto b && pass f

  -- and those of two
  two_pass : (a c : Formula) (b : ℕ) → Passes a → Passes c → Stands ns (listed names a b ++ listed names c (b + nodes a)) b
      → upto (b + (nodes a + nodes c)) ≡ upto b && (pass a && pass c)
  two_pass a c b x y h =
      let d : b + (nodes a + nodes c) ≡ b + nodes a + nodes c = omega arith in
      rw (d, y (b + nodes a) (second_held names ns a c b h), x b (first_held names ns a c b h)) (and_assoc (upto b) (pass a) (pass c))

  mutual
    unfolding all_below tree_pass tree_pass_in nodes nodes_in listed_in

    pub tests_tree : (f : Formula) → Passes f
    tests_tree csl.always b h = let e : b + 1 ≡ suc b = omega arith in rw (e, always_held names ns b h)
    tests_tree (csl.label w) b h = let e : b + 1 ≡ suc b = omega arith in rw (e, label_held names ns w b h)
    tests_tree (csl.negated a) b h =
        let o = negated_held names ns a b h in
        let e : b + (1 + nodes a) ≡ suc (b + nodes a) = omega arith in
        rw (e, o.own, tests_tree a b o.below, and-true)
    tests_tree (csl.both a c) b h =
        let o = both_held names ns a c b h in
        let e : b + (1 + (nodes a + nodes c)) ≡ suc (b + (nodes a + nodes c)) = omega arith in
        rw (e, o.own, and-true) (two_pass a c b (λ k i. tests_tree a k i) (λ k i. tests_tree c k i) o.below)
    tests_tree (csl.chance r p w) b h =
        let o = chance_held names ns r p w b h in
        let e : b + (1 + nodes_in w) ≡ suc (b + nodes_in w) = omega arith in
        rw (e, o.own, tests_in w b o.below, path_tested) (and_assoc (upto b) (pass_in w) _ ∙ rw (and_comm (pass_in w)))

    tests_in : (w : csl.Path) (b : ℕ) → Stands ns (listed_in names w b) b → upto (b + nodes_in w) ≡ upto b && pass_in w
    tests_in (csl.until t a c) b h = two_pass a c b (λ k i. tests_tree a k i) (λ k i. tests_tree c k i) h
    tests_in (csl.next_move a) b h = tests_tree a b h
    tests_in (csl.between t u a c) b h = two_pass a c b (λ k i. tests_tree a k i) (λ k i. tests_tree c k i) h
