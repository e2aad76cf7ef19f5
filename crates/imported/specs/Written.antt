-- Lines that are ended, and fields behind commas, are read back; and so is what is written for each number below another. Assumes nothing.
use Rattle.std.specs.Prelude.{◌≡◌, Bool, true, false, cond, not, length, get_or, eqb, ltb}
use Rattle.std.proofs.Math.Path.{refl, ap}
use Rattle.std.proofs.Common.{sym, ◌∙◌, arith, ltb-true, ltb-false}
use Rattle.std.proofs.Math.Bool.{and-eq-true_iff}
use mathlib.Core.List.{List, [], ◌∷◌, ◌++◌, map, tail, append-nil, map-append}
use Prim.Native.Nat.{ℕ, zero, suc, ◌≤◌, ◌<◌}
use Rattle.std.proofs.lemmas.List.{length-map}
use Rattle.csl.specs.Text.{Text, every}
use Rattle.csl.specs.Line.{line_feed, comma, ahead, parts, ended_parts, no_remnant, lines_of, is_ended, later_lines, fields_of}
use Rattle.csl.specs.Order.{by_number}
use Rattle.csl.specs.Import.{ended_text, fields_text}
use Rattle.csl.proofs.Laws.Listing.{by_number_length}
use Rattle.same_chain.specs.Digits.{every_append}
use Rattle.same_chain.specs.Joined.{free, parts_some, before_mark, without_mark}

-- a line more
ended_more : (p : Text) (ps : List Text) → 1 ≤ length ps → ended_parts (p ∷ ps) ≡ p ∷ ended_parts ps
unfolding ended_parts
ended_more p [] h = absurd (omega arith)
ended_more p (q ∷ ps) h = refl

remnant_more : (p : Text) (ps : List Text) → 1 ≤ length ps → no_remnant (p ∷ ps) ≡ no_remnant ps
unfolding no_remnant
remnant_more p [] h = absurd (omega arith)
remnant_more [] (q ∷ ps) h = refl
remnant_more (b ∷ p) (q ∷ ps) h = refl

module _ (l t : Text) (h : free line_feed l ≡ true) where
  pub line_more : lines_of (l ++ (line_feed ∷ t)) ≡ l ∷ lines_of t
  unfolding lines_of
  line_more = ap ended_parts (before_mark line_feed l t h) ∙ ended_more l (parts line_feed t) (parts_some line_feed t)

  pub ended_behind : is_ended (l ++ (line_feed ∷ t)) ≡ is_ended t
  unfolding is_ended
  ended_behind = ap no_remnant (before_mark line_feed l t h) ∙ remnant_more l (parts line_feed t) (parts_some line_feed t)

pub lines_back : (ls : List Text) → every (free line_feed) ls ≡ true → (lines_of (ended_text ls) ≡ ls) × (is_ended (ended_text ls) ≡ true)
unfolding ended_text every lines_of is_ended parts ended_parts no_remnant
lines_back [] h = (refl, refl)
lines_back (l ∷ ls) h =
    let k = (and-eq-true_iff (free line_feed l) (every (free line_feed) ls)).0 h in
    let i = lines_back ls k.1 in
    (line_more l (ended_text ls) k.0 ∙ ap (λ (x : List Text). l ∷ x) i.0, ended_behind l (ended_text ls) k.0 ∙ i.1)

-- the lines of a text have no line feed
ahead_free : (mark b : ℕ) (ps : List Text) → eqb b mark ≡ false → every (free mark) ps ≡ true → every (free mark) (ahead b ps) ≡ true
unfolding ahead every
ahead_free mark b [] e h = rw e refl
ahead_free mark b (p ∷ ps) e h = rw e h

parts_free : (mark : ℕ) (t : Text) → every (free mark) (parts mark t) ≡ true
unfolding parts every
parts_free mark [] = refl
parts_free mark (b ∷ t) = go (eqb b mark) refl (parts_free mark t)
  where
    go : (x : Bool) → eqb b mark ≡ x → every (free mark) (parts mark t) ≡ true
        → every (free mark) (cond x ([] ∷ parts mark t) (ahead b (parts mark t))) ≡ true
    go true e h = h
    go false e h = ahead_free mark b (parts mark t) e h

ended_every : (p : Text → Bool) (ps : List Text) → every p ps ≡ true → every p (ended_parts ps) ≡ true
unfolding ended_parts every
ended_every p [] h = refl
ended_every p (x ∷ []) h = refl
ended_every p (x ∷ y ∷ ps) h =
    let k = (and-eq-true_iff (p x) (every p (y ∷ ps))).0 h in
    (and-eq-true_iff (p x) (every p (ended_parts (y ∷ ps)))).1 (k.0, ended_every p (y ∷ ps) k.1)

tail_every : (p : Text → Bool) (ls : List Text) → every p ls ≡ true → every p (tail ls) ≡ true
unfolding every
tail_every p [] h = refl
tail_every p (l ∷ ls) h = ((and-eq-true_iff (p l) (every p ls)).0 h).1

pub later_free : (t : Text) → every (free line_feed) (later_lines t) ≡ true
unfolding later_lines lines_of
later_free t = tail_every (free line_feed) _ (ended_every (free line_feed) (parts line_feed t) (parts_free line_feed t))

-- fields
pub fields_back : (w : Text) (ws : List Text) → every (free comma) (w ∷ ws) ≡ true → fields_of (w ++ fields_text ws) ≡ w ∷ ws
unfolding fields_text fields_of every
fields_back w [] h = ap (parts comma) (append-nil w) ∙ without_mark comma w ((and-eq-true_iff (free comma w) true).0 h).0
fields_back w (v ∷ ws) h =
    let k = (and-eq-true_iff (free comma w) (every (free comma) (v ∷ ws))).0 h in
    before_mark comma w (v ++ fields_text ws) k.0 ∙ ap (λ (x : List Text). w ∷ x) (fields_back v ws k.1)

-- commas between fields without line feeds are none either
pub fields_free : (ws : List Text) → every (free line_feed) ws ≡ true → free line_feed (fields_text ws) ≡ true
unfolding fields_text every
fields_free [] h = refl
fields_free (w ∷ ws) h =
    let k = (and-eq-true_iff (free line_feed w) (every (free line_feed) ws)).0 h in
    every_append (λ b. not (eqb b line_feed)) w (fields_text ws) k.0 (fields_free ws k.1)

-- what passes one test passes another
pub every_weaker : {A : Type 0} (p q : A → Bool) → ((a : A) → p a ≡ true → q a ≡ true) → (l : List A) → every p l ≡ true → every q l ≡ true
unfolding every
every_weaker p q f [] h = refl
every_weaker p q f (a ∷ l) h =
    let k = (and-eq-true_iff (p a) (every p l)).0 h in
    (and-eq-true_iff (q a) (every q l)).1 (f a k.0, every_weaker p q f l k.1)

-- one for each number below n
module _ {A : Type 0} (f : ℕ → A) where
  pub below_next : (n : ℕ) → map f (by_number (suc n)) ≡ map f (by_number n) ++ (f n ∷ [])
  unfolding by_number
  below_next n = map-append f (by_number n) (n ∷ [])

  pub below_length : (n : ℕ) → length (map f (by_number n)) ≡ n
  below_length n = length-map (by_number n) f ∙ by_number_length n

  pub below_every : (p : A → Bool) (n : ℕ) → ((s : ℕ) → s < n → p (f s) ≡ true) → every p (map f (by_number n)) ≡ true
  unfolding every by_number
  below_every p zero h = refl
  below_every p (suc n) h =
      rw (below_next n) (every_append p (map f (by_number n)) (f n ∷ []) (below_every p n (λ s l. h s (omega arith))) (rw (h n (omega arith)) refl))

  get_first : (l m : List A) (i : ℕ) (d : A) → i < length l → get_or (l ++ m) i d ≡ get_or l i d
  get_first [] m i d h = absurd (omega arith)
  get_first (a ∷ l) m zero d h = refl
  get_first (a ∷ l) m (suc i) d h = get_first l m i d (omega arith)

  get_last : (l : List A) (a : A) (i : ℕ) (d : A) → i ≡ length l → get_or (l ++ (a ∷ [])) i d ≡ a
  get_last [] a i d h = rw h refl
  get_last (b ∷ l) a zero d h = absurd (omega arith)
  get_last (b ∷ l) a (suc i) d h = get_last l a i d (omega arith)

  pub below_at : (n s : ℕ) (d : A) → s < n → get_or (map f (by_number n)) s d ≡ f s
  below_at zero s d h = absurd (omega arith)
  below_at (suc n) s d h = rw (below_next n) (go (ltb s n) refl (below_at n s d))
    where
      go : (x : Bool) → ltb s n ≡ x → (s < n → get_or (map f (by_number n)) s d ≡ f s) → get_or (map f (by_number n) ++ (f n ∷ [])) s d ≡ f s
      go true e ih =
          let l = ltb-true s n e in
          get_first (map f (by_number n)) (f n ∷ []) s d (omega (arith, below_length n)) ∙ ih l
      go false e ih =
          let i : s ≡ n = let l = ltb-false s n e in omega arith in
          get_last (map f (by_number n)) (f n) s d (i ∙ sym (below_length n)) ∙ ap f (sym i)
