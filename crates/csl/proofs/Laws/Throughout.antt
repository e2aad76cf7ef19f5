-- At every node: tables agree, and the rule of sides holds; and two backings never stand against each other. Assumes nothing.
use Rattle.std.specs.Prelude.{refl, Bool, true, false, not, ◌&&◌, ◌||◌, ℕ}
use Rattle.std.proofs.Common.{sym, ◌∙◌}
use Rattle.csl.specs.Formula.{Comparison, Formula, always, label, negated, both, chance, Path, until, next_move, between, PathOf, until_of, next_of, between_of}
use Rattle.csl.specs.Chain.{Chain}
use Rattle.csl.specs.Limit.{Value}
use Rattle.csl.specs.Verdicts.{Verdict, No, Yes, Undecided, Agrees, Reading, as_no}
use Rattle.csl.specs.Path.{value_at, SidesAt, Reads, reads_until, reads_next, reads_between}
use Rattle.csl.specs.Backing.{AtEach, Backed, PathBacked, ChanceKeeps, SidesThroughout, SidesThroughoutIn}
use Rattle.csl.specs.Truth.{Throughout, ThroughoutIn, Obeys, PathObeys, ChanceObeys}
use Rattle.csl.proofs.Laws.Value.{Fractions}
use Rattle.csl.proofs.Laws.Enclosure.{value_is, ordered_ends}
use Rattle.csl.proofs.Laws.Judging.{Says, Settles, apart}
use Rattle.csl.proofs.Laws.Follows.{follows_sides}
use Rattle.csl.proofs.Laws.Agree.{agrees_mark, agrees_not, agrees_and}
use Rattle.csl.proofs.Laws.Settled.{tables_agree, chance_settles}
use Rattle.csl.proofs.Laws.Backing.{kept_operands}

mutual
  unfolding Throughout ThroughoutIn

  pub throughout : (c : Chain) (f : Formula) (v : ℕ → Verdict) (b : ℕ → Bool) (k : Backed c f v) (o : Obeys c f b) → Throughout c f v b k o
  throughout c always v b k o = tables_agree c always v b k o
  throughout c (label name) v b k o = tables_agree c (label name) v b k o
  throughout c (negated a) v b k o = (tables_agree c (negated a) v b k o, throughout c a _ _ k.first_backed o.first_obeys)
  throughout c (both a e) v b k o = (
    tables_agree c (both a e) v b k o,
    throughout c a _ _ k.first_backed o.first_obeys,
    throughout c e _ _ k.second_backed o.second_obeys,
  )
  throughout c (chance r p w) v b k o =
      (tables_agree c (chance r p w) v b k o, throughout_in c w r p k.lower k.upper v b k.keeps o)

  pub throughout_in : (c : Chain) (w : Path) (r : Comparison) (p : ℕ) (lower upper : ℕ → ℕ) (v : ℕ → Verdict) (b : ℕ → Bool)
      (k : PathBacked c w (ChanceKeeps c r p lower upper v)) (o : PathObeys c w (ChanceObeys c r p b))
      → ThroughoutIn c w (ChanceKeeps c r p lower upper v) (ChanceObeys c r p b) k o
  throughout_in c (until t a e) r p lower upper v b k o =
      (throughout c a _ _ k.first_backed o.first_obeys, throughout c e _ _ k.second_backed o.second_obeys)
  throughout_in c (next_move a) r p lower upper v b k o = throughout c a _ _ k.first_backed o.first_obeys
  throughout_in c (between t u a e) r p lower upper v b k o =
      (throughout c a _ _ k.first_backed o.first_obeys, throughout c e _ _ k.second_backed o.second_obeys)

-- demand 2's rule, of one `P` and of every `P`
pub sides : (c : Chain) (r : Comparison) (p : ℕ) (lower upper : ℕ → ℕ) (v : ℕ → Verdict) (o : PathOf (ℕ → Verdict))
    → ChanceKeeps c r p lower upper v o → AtEach c λ s. SidesAt c o r p s (lower s) (upper s) (v s)
sides c r p lower upper v o k s l =
    follows_sides c r p s (lower s) (upper s) (v s) o (k.verdict s l) (ordered_ends c o s (lower s) (upper s) l (k.ends s l))

mutual
  unfolding SidesThroughout SidesThroughoutIn

  pub sides_throughout : (c : Chain) (f : Formula) (v : ℕ → Verdict) (k : Backed c f v) → SidesThroughout c f v k
  sides_throughout c always v k = tt
  sides_throughout c (label name) v k = tt
  sides_throughout c (negated a) v k = sides_throughout c a _ k.first_backed
  sides_throughout c (both a e) v k = (sides_throughout c a _ k.first_backed, sides_throughout c e _ k.second_backed)
  sides_throughout c (chance r p w) v k = (
    sides c r p k.lower k.upper v _ (kept_operands c w (ChanceKeeps c r p k.lower k.upper v) k.keeps),
    sides_throughout_in c w r p k.lower k.upper v k.keeps,
  )

  pub sides_throughout_in : (c : Chain) (w : Path) (r : Comparison) (p : ℕ) (lower upper : ℕ → ℕ) (v : ℕ → Verdict)
      (k : PathBacked c w (ChanceKeeps c r p lower upper v)) → SidesThroughoutIn c w (ChanceKeeps c r p lower upper v) k
  sides_throughout_in c (until t a e) r p lower upper v k =
      (sides_throughout c a _ k.first_backed, sides_throughout c e _ k.second_backed)
  sides_throughout_in c (next_move a) r p lower upper v k = sides_throughout c a _ k.first_backed
  sides_throughout_in c (between t u a e) r p lower upper v k =
      (sides_throughout c a _ k.first_backed, sides_throughout c e _ k.second_backed)

-- one yes or no agrees with both verdicts
pub record Together (v w : Verdict) : Type 0 where
  pub entry : Bool
  pub left : Agrees v entry
  pub right : Agrees w entry

-- yes where either says yes
abbrev either : Verdict → Verdict → Bool
either v w = as_no v || as_no w

together_left : (v w : Verdict) → Together v w → Agrees v (either v w)
unfolding Agrees
together_left No No h = refl
together_left No Yes h = sym h.right ∙ h.left
together_left No Undecided h = refl
together_left Yes w h = refl
together_left Undecided w h = tt

together_right : (v w : Verdict) → Together v w → Agrees w (either v w)
unfolding Agrees
together_right No No h = refl
together_right No Yes h = refl
together_right No Undecided h = tt
together_right Yes No h = sym h.left ∙ h.right
together_right Yes Yes h = refl
together_right Yes Undecided h = tt
together_right Undecided No h = refl
together_right Undecided Yes h = refl
together_right Undecided Undecided h = tt

-- two verdicts that both say true things of one value
settled_together : (x : Value) → Fractions x → (r : Comparison) (p : ℕ) (v w : Verdict) → Settles v r p x → Settles w r p x → Together v w
unfolding Says Agrees
settled_together x is r p No No h k = record { entry = false; left = refl; right = refl }
settled_together x is r p No Yes h k = absurd (apart x is p r k h)
settled_together x is r p No Undecided h k = record { entry = false; left = refl; right = tt }
settled_together x is r p Yes No h k = absurd (apart x is p r h k)
settled_together x is r p Yes Yes h k = record { entry = true; left = refl; right = refl }
settled_together x is r p Yes Undecided h k = record { entry = true; left = refl; right = tt }
settled_together x is r p Undecided No h k = record { entry = false; left = tt; right = refl }
settled_together x is r p Undecided Yes h k = record { entry = true; left = tt; right = refl }
settled_together x is r p Undecided Undecided h k = record { entry = true; left = tt; right = tt }

yes_yes : Together Yes Yes
unfolding Agrees
yes_yes = record { entry = true; left = refl; right = refl }

-- operands of two backings of one path, and a reading of both
pub record Shared (c : Chain) (K L : PathOf (ℕ → Verdict) → Type 0) : Type 0 where
  pub one : PathOf (ℕ → Verdict)
  pub other : PathOf (ℕ → Verdict)
  pub reading : PathOf (ℕ → Bool)
  pub one_read : Reads c.states one reading
  pub other_read : Reads c.states other reading
  pub one_kept : K one
  pub other_kept : L other

-- those of a path of two operands, whose verdicts are together: yes where either says yes
shared_two : (c : Chain) (K L : PathOf (ℕ → Verdict) → Type 0) (path : (v w : ℕ → Verdict) → PathOf (ℕ → Verdict))
    (read : (x y : ℕ → Bool) → PathOf (ℕ → Bool))
    → ((v w : ℕ → Verdict) (x y : ℕ → Bool) → Reading c.states v x → Reading c.states w y → Reads c.states (path v w) (read x y))
    → (v v' w w' : ℕ → Verdict) → AtEach c (λ s. Together (v s) (v' s)) → AtEach c (λ s. Together (w s) (w' s)) → K (path v w) → L (path v' w')
    → Shared c K L
shared_two c K L path read reads v v' w w' h j k m =
    let x : ℕ → Bool = λ s. either (v s) (v' s) in
    let y : ℕ → Bool = λ s. either (w s) (w' s) in
    record {
      one = path v w;
      other = path v' w';
      reading = read x y;
      one_read = reads v w x y (λ s l. together_left _ _ (h s l)) (λ s l. together_left _ _ (j s l));
      other_read = reads v' w' x y (λ s l. together_right _ _ (h s l)) (λ s l. together_right _ _ (j s l));
      one_kept = k;
      other_kept = m;
    }

-- where one backing has yes no other has no
mutual
  pub backings_agree : (c : Chain) (f : Formula) (v w : ℕ → Verdict) → Backed c f v → Backed c f w → AtEach c λ s. Together (v s) (w s)
  backings_agree c always v w k m = λ s l. rw (k s l, m s l) yes_yes
  backings_agree c (label name) v w k m = λ s l.
      rw (k s l, m s l) (record { entry = c.mark name s; left = agrees_mark (c.mark name s); right = agrees_mark (c.mark name s) })
  backings_agree c (negated a) v w k m = λ s l.
      let h : Together (k.first s) (m.first s) = backings_agree c a _ _ k.first_backed m.first_backed s l in
      rw (k.verdict s l, m.verdict s l)
      (record { entry = not h.entry; left = agrees_not _ _ h.left; right = agrees_not _ _ h.right })
  backings_agree c (both a e) v w k m = λ s l.
      let h : Together (k.first s) (m.first s) = backings_agree c a _ _ k.first_backed m.first_backed s l in
      let j : Together (k.second s) (m.second s) = backings_agree c e _ _ k.second_backed m.second_backed s l in
      rw (k.verdict s l, m.verdict s l)
      (record {
        entry = h.entry && j.entry;
        left = agrees_and _ _ _ _ h.left j.left;
        right = agrees_and _ _ _ _ h.right j.right;
      })
  backings_agree c (chance r p path) v w k m = λ s l.
      let h : Shared c (ChanceKeeps c r p k.lower k.upper v) (ChanceKeeps c r p m.lower m.upper w)
      = shared c path r p k.lower k.upper v m.lower m.upper w k.keeps m.keeps in
      settled_together (value_at c h.reading s) (value_is c h.reading s) r p (v s) (w s)
      (chance_settles c r p k.lower k.upper v h.one h.reading h.one_kept h.one_read s l)
      (chance_settles c r p m.lower m.upper w h.other h.reading h.other_kept h.other_read s l)

  pub shared : (c : Chain) (path : Path) (r : Comparison) (p : ℕ) (lower upper : ℕ → ℕ) (v : ℕ → Verdict) (lower' upper' : ℕ → ℕ) (w : ℕ → Verdict)
      → PathBacked c path (ChanceKeeps c r p lower upper v) → PathBacked c path (ChanceKeeps c r p lower' upper' w)
      → Shared c (ChanceKeeps c r p lower upper v) (ChanceKeeps c r p lower' upper' w)
  shared c (until t a e) r p lower upper v lower' upper' w k m =
      shared_two c _ _ (until_of t) (until_of t) (reads_until t) k.first m.first k.second m.second
      (backings_agree c a _ _ k.first_backed m.first_backed) (backings_agree c e _ _ k.second_backed m.second_backed) k.keeps m.keeps
  shared c (next_move a) r p lower upper v lower' upper' w k m =
      let h : AtEach c λ u. Together (k.first u) (m.first u) = backings_agree c a _ _ k.first_backed m.first_backed in
      let x : ℕ → Bool = λ u. either (k.first u) (m.first u) in
      record {
        one = _;
        other = _;
        reading = next_of x;
        one_read = reads_next k.first x (λ u q. together_left _ _ (h u q));
        other_read = reads_next m.first x (λ u q. together_right _ _ (h u q));
        one_kept = k.keeps;
        other_kept = m.keeps;
      }
  shared c (between t u a e) r p lower upper v lower' upper' w k m =
      shared_two c _ _ (between_of t u) (between_of t u) (reads_between t u) k.first m.first k.second m.second
      (backings_agree c a _ _ k.first_backed m.first_backed) (backings_agree c e _ _ k.second_backed m.second_backed) k.keeps m.keeps
