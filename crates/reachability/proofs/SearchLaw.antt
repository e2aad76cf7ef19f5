-- The whole search: what it leaves tells which states lead to the second operand, and the words are as they were. Assumes nothing.
use mathlib.Core.Path.{◌≡◌, refl, sym, ◌∙◌}
use mathlib.Core.Bool.{Bool, true, false}
use mathlib.Core.List.{List}
use Prim.Native.Nat.{ℕ, ◌+◌, ◌*◌, ◌-◌, ◌≤◌, ◌<◌}
use native.Mathlib.Omega.{arith}
use lib.Dec.{eqb, ltb}
use lib.Seq.{ext_get_or}
use mir.Val.{Fits}
use mir.Syntax.{w64}
use borrow.Author.Tests.{eqb-true, eq-eqb, ltb-true, ltb-false}
use Rattle.csl.specs.Chain.{Chain, sum_to}
use Rattle.csl.specs.Graph.{Leads, Tells}
use Rattle.csl.proofs.Laws.Search.{search_tells}
use Rattle.numbers.specs.Filled.{at, Filled, filled_at}
use Rattle.verdicts.specs.Byte.{verdict_at}
use Rattle.incoming_moves.specs.Shown.{IndexShows}
use Rattle.vectors.specs.Places.{owns_from}
use Rattle.reachability.specs.Standing.{Went}
use Rattle.reachability.specs.Asked.{first_holds, second_holds, SeedAsked, Seeded, SeedLeaves, CountAsked, Spreads, SpreadAsked, Spread, SpreadLeaves}
use Rattle.reachability.specs.Searched.{SearchAsked, Searched}
use Rattle.reachability.proofs.ByteLaw.{bit_told}
use Rattle.reachability.proofs.StandsLaw.{went_on}

-- the index shows the chain by any words that hold the ends of its rows
index_kept : {c : Chain} {index l l' : List ℕ} {owns n : ℕ} → IndexShows c index l owns n → ((t : ℕ) → t < n → at l' (owns + t) ≡ at l (owns + t))
    → IndexShows c index l' owns n
index_kept p h =
    record {
      states = p.states;
      row = p.row;
      first = p.first;
      ends = λ t b. rw (h t b) (p.ends t b);
      rising = p.rising;
      within = p.within;
      sources = p.sources;
      sound = p.sound;
      place = p.place;
      place_in = p.place_in;
    }

module _ {index l₀ rows₀ : List ℕ} {n : ℕ} (a : SearchAsked index l₀ rows₀ n) where
  pub may_seed : SeedAsked l₀ rows₀ n
  may_seed = record { states = a.states; long = omega (arith, a.long); held = a.held; decided = a.decided }

  abbrev x : ℕ → Bool
  x = first_holds rows₀

  abbrev y : ℕ → Bool
  y = second_holds rows₀ n

  module _ {l₁ rows₁ : List ℕ} {tail₁ : ℕ} (d : SeedLeaves n l₀ rows₀ l₁ rows₁ tail₁) where
    seeded : Seeded a.c n l₀ rows₀ l₁ rows₁ tail₁
    seeded = d.seeded a.c

    pub may_count : CountAsked rows₁ n
    may_count =
        record {
          states = a.states;
          held = omega (arith, seeded.stands.held);
          bits = λ s h. seeded.stands.bits s (omega arith);
        }

    module _ (r : ℕ) (q : r ≡ sum_to (at rows₁) n) where
      pub most_fits : Fits w64 (tail₁ + r)
      most_fits = omega (arith, seeded.stands.few, a.states)

      spreads : Spreads a.c x y index l₁ rows₁ n tail₁ (tail₁ + r)
      spreads =
          record {
            long = omega (arith, a.long, seeded.went.words);
            shows = index_kept a.shows (λ t h. seeded.went.else (owns_from n + t) (λ o p. absurd (omega arith)));
            stands = seeded.stands;
            total = omega arith;
          }

      pub may_spread : SpreadAsked index l₁ rows₁ n tail₁ (tail₁ + r)
      may_spread = record { c = a.c; x = x; y = y; spreads = spreads }

      module _ {l₂ rows₂ : List ℕ} (f : SpreadLeaves index n (tail₁ + r) l₁ rows₁ tail₁ l₂ rows₂) where
        spread : Spread a.c x y n l₁ rows₁ tail₁ l₂ rows₂ f.tail
        spread = f.spread a.c x y spreads

        went : Went n l₀ rows₀ 0 l₂ rows₂ f.tail
        went = went_on seeded.went spread.went

        pub words_same : {l₃ : List ℕ} → Filled (λ _. 0) (2 * n) n l₂ l₃ → l₃ ≡ l₀
        words_same {l₃} z = ext_get_or 0 l₃ l₀ (z.same ∙ went.words) (λ k h. below k (ltb k (2 * n)) refl)
          where
            inside : (k : ℕ) → 2 * n ≤ k → (b : Bool) → ltb k (2 * n + n) ≡ b → at l₃ k ≡ at l₀ k
            inside k h true e =
                let m : k < 2 * n + n = ltb-true k (2 * n + n) e in
                let p : 2 * n + (k - 2 * n) ≡ k = omega arith in
                filled_at z k h m ∙ sym (rw p at (a.clear (k - 2 * n) (omega arith)))
            inside k h false e =
                let m : 2 * n + n ≤ k = ltb-false k (2 * n + n) e in
                z.after k m ∙ went.else k (λ o p. absurd (omega arith))

            below : (k : ℕ) (b : Bool) → ltb k (2 * n) ≡ b → at l₃ k ≡ at l₀ k
            below k true e = let m : k < 2 * n = ltb-true k (2 * n) e in z.before k m ∙ went.else k (λ o p. absurd (omega arith))
            below k false e = inside k (ltb-false k (2 * n) e) (ltb k (2 * n + n)) refl

        told : (s : ℕ) → s < n → Tells (verdict_at (at rows₂ (n + s))) (Leads a.c x y s)
        told s h =
            let w = spread.stands in
            let st = a.shows.states in
            rw (bit_told (at rows₂ (n + s)) (w.bits (n + s) (omega arith))) at
            (search_tells a.c x y (λ u. eqb (at rows₂ (n + u)) 1)
            (λ u i e. w.sound u (omega (arith, st)) (eqb-true (at rows₂ (n + u)) 1 e))
            (λ u i e. eq-eqb (at rows₂ (n + u)) 1 (w.second u (omega (arith, st)) e))
            (λ u t i j e r p. eq-eqb (at rows₂ (n + u)) 1
            (spread.closed u t (omega (arith, st)) (omega (arith, st)) e r (eqb-true (at rows₂ (n + t)) 1 p)))
            s (omega (arith, st)))

        searched : Searched a.c n rows₀ rows₂
        searched = record { same = went.bytes; tells = told; beyond = went.beyond }

module _ {index l₀ rows₀ : List ℕ} {n : ℕ} {l₁ rows₁ : List ℕ} {tail₁ : ℕ} (d : SeedLeaves n l₀ rows₀ l₁ rows₁ tail₁) (r : ℕ) (q : r ≡ sum_to (at rows₁) n)
    {l₂ rows₂ : List ℕ} (f : SpreadLeaves index n (tail₁ + r) l₁ rows₁ tail₁ l₂ rows₂) where
  pub all_searched : (a : SearchAsked index l₀ rows₀ n) → Searched a.c n rows₀ rows₂
  all_searched a = searched a d r q f

pub ruleset search_laws = (may_seed, may_count, most_fits, may_spread, words_same, all_searched)
