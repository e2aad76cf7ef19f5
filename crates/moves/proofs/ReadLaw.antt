-- The tally of a text, line by line. Assumes nothing.
use mathlib.Core.Path.{◌≡◌, refl, sym, ap, ◌∙◌}
use Prim.Native.Nat.{ℕ, ◌+◌, ◌-◌, ◌≤◌, ◌<◌}
use native.Mathlib.Omega.{arith}
use mathlib.Core.Bool.{Bool, true, false, cond, ◌&&◌, and-eq-true_iff}
use mathlib.Core.List.{List, [], ◌∷◌, map}
use lib.ListN.{length, take, drop, length-drop}
use Rattle.csl.specs.Text.{Text}
use Rattle.csl.specs.Limits.{billion, sheet_bytes}
use Rattle.csl.specs.Line.{line_feed, lines_of}
use Rattle.csl.specs.Moves as csl
use Rattle.texts.specs.Span.{span_of}
use Rattle.texts.specs.Cut.{rest_is}
use Rattle.texts.specs.LineAt.{line_at, is_ended_at}
use Rattle.texts.specs.Lines.{lines_pass, lines_are, lines_end, pass_more, pass_not, pass_end}
use Rattle.moves.specs.Line.{move_at, line_of, LineFits}
use Rattle.moves.specs.Totals.{rate_added, own_added, Carried}
use Rattle.moves.specs.Tally.{begun, added, Tallied}
use Rattle.moves.specs.Facts.{top_of, lines_facts}
use Rattle.moves.specs.declared.lines.Line.{Line}
use Rattle.std.specs.Prelude.{Option, Some, None, unwrap_or}
use Rattle.moves.specs.declared.tally.Tally.{Tally}
use Rattle.moves.proofs.TotalsLaw.{none}
use Rattle.moves.proofs.TallyLaw.{tallied_none, tallied_on}
use Rattle.moves.proofs.TellingLaw.{count_is, strange_is}

-- the moves of the lines of a text
abbrev moves_in : Text → List csl.Move
moves_in t = map csl.move_of (lines_of t)

-- a line that was read: the moves begin with it, and all is well if the rest is
record Told (t : Text) (r : Line) : Type 0 where
  pub first : moves_in t ≡ record { from = r.from; to = r.to; rate = r.rate } ∷ moves_in (drop r.used t)
  pub passes : lines_pass csl.move_line t ≡ lines_pass csl.move_line (drop r.used t)

told : (t : Text) (r : Line) → move_at t ≡ Some r → Told t r
unfolding move_at
told t r h = go (is_ended_at t && csl.move_line (line_at t)) refl h
  where
    go : (x : Bool) → (is_ended_at t && csl.move_line (line_at t)) ≡ x
        → cond x (line_of (csl.move_of (line_at t)) (span_of line_feed t + 1)) None ≡ Some r → Told t r
    go true e q =
        let p = (and-eq-true_iff (is_ended_at t) (csl.move_line (line_at t))).0 e in
        let l = ap (λ x. unwrap_or x r) q in
        let its-from : r.from ≡ (csl.move_of (line_at t)).from = sym (ap (λ (y : Line). y.from) l) in
        let its-to : r.to ≡ (csl.move_of (line_at t)).to = sym (ap (λ (y : Line). y.to) l) in
        let its-rate : r.rate ≡ (csl.move_of (line_at t)).rate = sym (ap (λ (y : Line). y.rate) l) in
        let its_bytes : r.used ≡ span_of line_feed t + 1 = sym (ap (λ (y : Line). y.used) l) in
        record {
          first = rw (lines_are t p.0, its-from, its-to, its-rate, its_bytes);
          passes = rw (pass_more csl.move_line t p.0 p.1, its_bytes);
        }
    go false e q = let z : ◌≡◌ {A = ℕ} 0 1 = cc in absurd (omega arith)

untold : (t : Text) → move_at t ≡ None → (is_ended_at t && csl.move_line (line_at t)) ≡ false
unfolding move_at
untold t h = go (is_ended_at t && csl.move_line (line_at t)) h
  where
    go : (x : Bool) → cond x (line_of (csl.move_of (line_at t)) (span_of line_feed t + 1)) None ≡ None → x ≡ false
    go true q = let z : ◌≡◌ {A = ℕ} 0 1 = cc in absurd (omega arith)
    go false q = refl

-- the bytes of a move line that was read
module _ {r : Option Line} {n : Line} (h : r ≡ Some n) (t : Text) (fits : LineFits (length t) r) where
  pub line_ends : n.used ≤ length t
  line_ends = let k = rw h at fits in omega arith

  pub line_falls : length (take (length t - n.used) (drop n.used t)) < length t
  line_falls = let k = rw h at fits in rw rest_is (omega (arith, length-drop n.used t))

  pub line_rate : n.rate < billion
  line_rate = let k = rw h at fits in k.2

-- the tally and the totals are of lines of s, and t is the rest
pub record Tallying (n : ℕ) (s t : Text) (a : Tally) (totals owns : List ℕ) : Type 0 where
  pub within : a.count + length t ≤ length s
  pub passes : lines_pass csl.move_line t ≡ lines_pass csl.move_line s
  pub tallied : Tallied n (moves_in s) (moves_in t) a totals owns

pub tally_none : (n : ℕ) (s : Text) {a : Tally} → a ≡ begun → Tallying n s s a none none
tally_none n s e = rw e record { within = omega arith; passes = refl; tallied = tallied_none n (moves_in s) }

module _ {n : ℕ} {s t : Text} {a : Tally} {totals owns : List ℕ} (v : Tallying n s t a totals owns) where
  pub tally_carries : Carried totals owns
  tally_carries = v.tallied.carries

  pub tally_done : length t ≤ 0 → (head : Bool) {top : Option ℕ} → ((ms : List csl.Move) → Tallied n ms [] a totals owns → top ≡ top_of n ms)
      → Some (record { head = head; count = a.count; strange = a.strange; top = top }) ≡ lines_facts n head s
  unfolding lines_facts
  tally_done h head e =
      let last = rw (lines_end t h) at v.tallied in
      rw (sym v.passes ∙ pass_end csl.move_line t h, count_is last, strange_is last, e (moves_in s) last)

  module _ {r : Option Line} (g : r ≡ move_at t) (l : 0 < length t) where
    pub tally_broken : (head : Bool) → r ≡ None → None ≡ lines_facts n head s
    unfolding lines_facts
    tally_broken head h = rw (sym v.passes ∙ pass_not csl.move_line t l (untold t (sym g ∙ h)))

    pub tally_room : length s ≤ sheet_bytes → a.count < sheet_bytes
    tally_room m = omega (arith, v.within)

    module _ {m : Line} (h : r ≡ Some m) (fits : LineFits (length t) r) where
      pub tally_on : {b : Tally} {totals' owns' : List ℕ} → b ≡ added n a m.from m.to m.rate → totals' ≡ rate_added totals m.from m.rate → owns' ≡ own_added owns m.from m.to m.rate
          → Tallying n s (take (length t - m.used) (drop m.used t)) b totals' owns'
      tally_on d e c =
          let k = rw h at fits in
          let w = told t m (sym g ∙ h) in
          let before = rw w.first at v.tallied in
          rw (d, e, c, rest_is)
          record {
            within = omega (arith, v.within, length-drop m.used t);
            passes = sym w.passes ∙ v.passes;
            tallied = tallied_on before;
          }

pub ruleset tally_laws = (line_ends, line_falls, line_rate, tally_none, tally_carries, tally_done, tally_broken, tally_room, tally_on)
