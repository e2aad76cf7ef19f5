-- A row of nodes within a list, from a place on; and where a formula's own node and its operands' nodes stand. Assumes nothing.
use Rattle.std.specs.Prelude.{◌≡◌, refl, ℕ, ◌+◌, List, [], ◌∷◌, ◌++◌, length}
use Rattle.std.proofs.Common.{◌∙◌, ap, arith, append_assoc, length-append}
use Rattle.std.proofs.lemmas.List.{get_or_at}
use Rattle.csl.specs.Text.{Text}
use Rattle.csl.specs.Formula as csl
use Rattle.csl.specs.Formula.{Formula, nodes, nodes_in}
use Rattle.formula.specs.Nodes.{blank, kind_at}
use Rattle.formula.specs.declared.nodes.Kind.{Kind}
use Rattle.formula.specs.Listed.{kind_held, last_nodes, listed, listed_in}

-- the nodes xs stand in ns from place b on
pub record Stands (ns xs : List Kind) (b : ℕ) : Type 0 where
  pub pre : List Kind
  pub post : List Kind
  pub is : ns ≡ pre ++ (xs ++ post)
  pub at : length pre ≡ b

-- a node of the kind k stands at place i, and before it, from place b on, the nodes xs
pub record Under (ns xs : List Kind) (k : Kind) (b i : ℕ) : Type 0 where
  pub own : kind_at ns i ≡ k
  pub below : Stands ns xs b

module _ (ns : List Kind) where
  stands_left : (xs ys : List Kind) (b : ℕ) → Stands ns (xs ++ ys) b → Stands ns xs b
  stands_left xs ys b h =
      record { pre = h.pre; post = ys ++ h.post; is = h.is ∙ ap (λ (l : List Kind). h.pre ++ l) (append_assoc xs ys h.post); at = h.at }

  stands_right : (xs ys : List Kind) (b : ℕ) → Stands ns (xs ++ ys) b → Stands ns ys (b + length xs)
  stands_right xs ys b h =
      record {
        pre = h.pre ++ xs;
        post = h.post;
        is = h.is ∙ simp append_assoc;
        at = simp length-append (ap (λ (n : ℕ). n + length xs) h.at);
      }

  stands_one : (k : Kind) (b : ℕ) → Stands ns (k ∷ []) b → kind_at ns b ≡ k
  stands_one k b h = rw h.is (get_or_at h.pre k h.post blank b h.at)

  stands_under : (xs : List Kind) (k : Kind) (b n : ℕ) → length xs ≡ n → Stands ns (xs ++ (k ∷ [])) b → Under ns xs k b (b + n)
  stands_under xs k b n e h = record { own = rw e at (stands_one k (b + length xs) (stands_right xs _ b h)); below = stands_left xs _ b h }

module _ (names : List Text) where
  mutual
    unfolding nodes nodes_in listed listed_in

    pub length_listed : (f : Formula) (b : ℕ) → length (listed names f b) ≡ nodes f
    length_listed csl.always b = refl
    length_listed (csl.label w) b = refl
    length_listed (csl.negated a) b = simp (length-append, length_listed a b) (omega arith)
    length_listed (csl.both a c) b = simp (length-append, length_listed a b, length_listed c (b + nodes a)) (omega arith)
    length_listed (csl.chance r p w) b = simp (length-append, length_in w b) (omega arith)

    pub length_in : (w : csl.Path) (b : ℕ) → length (listed_in names w b) ≡ nodes_in w
    length_in (csl.until t a c) b = simp (length-append, length_listed a b, length_listed c (b + nodes a))
    length_in (csl.next_move a) b = length_listed a b
    length_in (csl.between t u a c) b = simp (length-append, length_listed a b, length_listed c (b + nodes a))

  module _ (ns : List Kind) where
    -- the nodes of two operands
    pub first_held : (a c : Formula) (b : ℕ) → Stands ns (listed names a b ++ listed names c (b + nodes a)) b → Stands ns (listed names a b) b
    first_held a c b h = stands_left ns (listed names a b) _ b h

    pub second_held : (a c : Formula) (b : ℕ) → Stands ns (listed names a b ++ listed names c (b + nodes a)) b
        → Stands ns (listed names c (b + nodes a)) (b + nodes a)
    second_held a c b h = rw length_listed at (stands_right ns (listed names a b) _ b h)

    pub always_held : (b : ℕ) → Stands ns (listed names csl.always b) b → kind_at ns b ≡ kind_held names b 0 csl.always
    unfolding listed
    always_held b h = stands_one ns _ b h

    pub label_held : (w : Text) (b : ℕ) → Stands ns (listed names (csl.label w) b) b → kind_at ns b ≡ kind_held names b 0 (csl.label w)
    unfolding listed
    label_held w b h = stands_one ns _ b h

    pub negated_held : (a : Formula) (b : ℕ) → Stands ns (listed names (csl.negated a) b) b
        → Under ns (listed names a b) (kind_held names (b + nodes a) (nodes a) (csl.negated a)) b (b + nodes a)
    unfolding listed
    negated_held a b h = stands_under ns (listed names a b) _ b (nodes a) (length_listed a b) h

    pub both_held : (a c : Formula) (b : ℕ) → Stands ns (listed names (csl.both a c) b) b
        → Under ns (listed names a b ++ listed names c (b + nodes a)) (kind_held names (b + (nodes a + nodes c)) (nodes c) (csl.both a c)) b
        (b + (nodes a + nodes c))
    unfolding listed
    both_held a c b h =
        stands_under ns (listed names a b ++ listed names c (b + nodes a)) _ b (nodes a + nodes c)
        (simp (length-append, length_listed a b, length_listed c (b + nodes a))) h

    pub chance_held : (r : csl.Comparison) (p : ℕ) (w : csl.Path) (b : ℕ) → Stands ns (listed names (csl.chance r p w) b) b
        → Under ns (listed_in names w b) (kind_held names (b + nodes_in w) (last_nodes w) (csl.chance r p w)) b (b + nodes_in w)
    unfolding listed
    chance_held r p w b h = stands_under ns (listed_in names w b) _ b (nodes_in w) (length_in w b) h
