-- What each node of a formula keeps, by its kind and its place: operands come before it, and a label's place is that of a name. Assumes nothing.
use Rattle.std.specs.Prelude.{◌≡◌, refl, ℕ, suc, ◌+◌, ◌-◌, ◌≤◌, ◌<◌, Bool, true, false, ◌&&◌, List, ◌++◌, ltb}
use Rattle.std.proofs.Common.{ap, ◌∙◌, arith, ltb-true, ltb-false}
use Rattle.std.proofs.Math.Bool.{and-eq-true_iff}
use Rattle.csl.specs.Text.{Text, among}
use Rattle.csl.specs.Labels.{place_of}
use Rattle.csl.specs.Formula as csl
use Rattle.csl.specs.Formula.{Formula, nodes, nodes_in, labels_pass, labels_pass_in}
use Rattle.verdicts.specs.declared.comparison.Comparison.{Comparison}
use Rattle.formula.specs.Names.{name_at, among_place}
use Rattle.formula.specs.Nodes.{kind_at, LabelKnown}
use Rattle.formula.specs.Operands.{OperandsBefore}
use Rattle.formula.specs.declared.nodes.Kind.{Kind}
use Rattle.formula.specs.declared.nodes.Kind.TheVariants as kind
use Rattle.formula.specs.Listed.{held, path_held, last_nodes, listed, listed_in}
use Rattle.formula.specs.Stands.{Stands, first_held, second_held, always_held, label_held, negated_held, both_held, chance_held}

pub nodes_some : (f : Formula) → 1 ≤ nodes f
unfolding nodes
nodes_some csl.always = omega arith
nodes_some (csl.label w) = omega arith
nodes_some (csl.negated a) = omega arith
nodes_some (csl.both a c) = omega arith
nodes_some (csl.chance r p w) = omega arith

path_some : (w : csl.Path) → 1 ≤ nodes_in w
unfolding nodes_in
path_some (csl.until t a c) = omega (arith, nodes_some a)
path_some (csl.next_move a) = nodes_some a
path_some (csl.between t u a c) = omega (arith, nodes_some a)

-- what a node of each kind keeps at its place
pub record ByKind (names : List Text) (P : ℕ → Kind → Type 0) : Type 0 where
  pub on_always : (k : ℕ) → P k kind.Always
  pub on_label : (w : Text) → among names w ≡ true → (k : ℕ) → P k (kind.Label (place_of names w))
  pub on_negated : (k : ℕ) → 1 ≤ k → P k (kind.Negated (k - 1))
  pub on_both : (k n : ℕ) → 1 ≤ k → P k (kind.Both (k - suc n) (k - 1))
  pub on_chance : (c : Comparison) (p k n : ℕ) (w : csl.Path) → 1 ≤ k → P k (kind.Chance c p (path_held k n w))

module _ (names : List Text) (P : ℕ → Kind → Type 0) (h : ByKind names P) (ns : List Kind) where
  -- at each place from b on, of n
  abbrev EachFrom : ℕ → ℕ → Type 0
  EachFrom b n = (k : ℕ) → b ≤ k → k < b + n → P k (kind_at ns k)

  -- of two rows, and of a row and the node behind it
  both_rows : (b m n : ℕ) → EachFrom b m → EachFrom (b + m) n → EachFrom b (m + n)
  both_rows b m n x y k i l = go (ltb k (b + m)) refl
    where
      go : (p : Bool) → ltb k (b + m) ≡ p → P k (kind_at ns k)
      go true e = x k i (ltb-true _ _ e)
      go false e = y k (ltb-false _ _ e) (omega arith)

  one_more : (b m : ℕ) → EachFrom b m → P (b + m) (kind_at ns (b + m)) → EachFrom b (1 + m)
  one_more b m x z k i l = go (ltb k (b + m)) refl
    where
      go : (p : Bool) → ltb k (b + m) ≡ p → P k (kind_at ns k)
      go true e = x k i (ltb-true _ _ e)
      go false e =
          let g : b + m ≤ k = ltb-false _ _ e in
          let d : b + m ≡ k = omega arith in
          rw d at z

  -- of the nodes of a formula, and of two formulas
  abbrev EachOf : Formula → Type 0
  EachOf f = (b : ℕ) → Stands ns (listed names f b) b → labels_pass (among names) f ≡ true → EachFrom b (nodes f)

  each_two : (a c : Formula) (b : ℕ) → EachOf a → EachOf c → Stands ns (listed names a b ++ listed names c (b + nodes a)) b
      → labels_pass (among names) a && labels_pass (among names) c ≡ true → EachFrom b (nodes a + nodes c)
  each_two a c b x y i l =
      let m = (and-eq-true_iff _ _).0 l in
      both_rows b (nodes a) (nodes c) (x b (first_held names ns a c b i) m.0) (y (b + nodes a) (second_held names ns a c b i) m.1)

  mutual
    unfolding nodes nodes_in listed_in labels_pass labels_pass_in

    pub each : (f : Formula) → EachOf f
    each csl.always b i l = λ k m n. let e : b ≡ k = omega arith in rw (← e, always_held names ns b i) (h.on_always b)
    each (csl.label w) b i l = λ k m n. let e : b ≡ k = omega arith in rw (← e, label_held names ns w b i) (h.on_label w l b)
    each (csl.negated a) b i l =
        let o = negated_held names ns a b i in
        one_more b (nodes a) (each a b o.below l) (rw o.own (h.on_negated (b + nodes a) (omega (arith, nodes_some a))))
    each (csl.both a c) b i l =
        let o = both_held names ns a c b i in
        one_more b (nodes a + nodes c) (each_two a c b (λ k h m. each a k h m) (λ k h m. each c k h m) o.below l)
        (rw o.own (h.on_both (b + (nodes a + nodes c)) (nodes c) (omega (arith, nodes_some a))))
    each (csl.chance r p w) b i l =
        let o = chance_held names ns r p w b i in
        one_more b (nodes_in w) (each_in w b o.below l)
        (rw o.own (h.on_chance (held r) p (b + nodes_in w) (last_nodes w) w (omega (arith, path_some w))))

    each_in : (w : csl.Path) (b : ℕ) → Stands ns (listed_in names w b) b → labels_pass_in (among names) w ≡ true → EachFrom b (nodes_in w)
    each_in (csl.until t a c) b i l = each_two a c b (λ k h m. each a k h m) (λ k h m. each c k h m) i l
    each_in (csl.next_move a) b i l = each a b i l
    each_in (csl.between t u a c) b i l = each_two a c b (λ k h m. each a k h m) (λ k h m. each c k h m) i l

-- operands come before their node
path_before : (c : Comparison) (p k n : ℕ) (w : csl.Path) → 1 ≤ k → OperandsBefore k (kind.Chance c p (path_held k n w))
path_before c p k n (csl.until t x y) h = (omega arith, omega arith)
path_before c p k n (csl.next_move x) h = omega arith
path_before c p k n (csl.between t u x y) h = (omega arith, omega arith)

pub before_kept : (names : List Text) → ByKind names OperandsBefore
before_kept names =
    record {
      on_always = λ k. tt;
      on_label = λ w l k. tt;
      on_negated = λ k i. omega arith;
      on_both = λ k n i. (omega arith, omega arith);
      on_chance = path_before;
    }

-- and a label's place is that of a name
pub known_kept : (names : List Text) → ByKind names (λ k. LabelKnown names)
known_kept names =
    record {
      on_always = λ k. tt;
      on_label = λ w l k. (ltb-true _ _ (among_place names w ∙ l), ap (place_of names) (name_at names w l));
      on_negated = λ k i. tt;
      on_both = λ k n i. tt;
      on_chance = λ c p k n w i. tt;
    }
