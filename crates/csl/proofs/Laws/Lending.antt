-- What the lent marks decide, and what they do not. Assumes nothing.
use Rattle.std.specs.Prelude.{◌≡◌, refl, Bool, true, false, ◌||◌, List, [], ◌∷◌, ◌++◌, ℕ, ◌*◌, ◌≤◌, ◌<◌, min, ltb, length, drop, replicate}
use Rattle.std.proofs.Common.{ap, sym, ◌∙◌, true≢false, arith, le-ltb, lt-ltb}
use Rattle.std.proofs.Math.Bool.{or-true, or-false, or_assoc}
use Rattle.std.proofs.lemmas.List.{length-replicate}
use Rattle.csl.specs.Text.{any}
use Rattle.csl.specs.Limits.{most_rows}
use Rattle.csl.specs.Formula.{nodes}
use Rattle.csl.specs.Verdicts.{Verdict}
use Rattle.csl.specs.Lent.{Buffers, lengths, needed, Room, room, rooms, is_short, written, filled}
use Rattle.csl.specs.Refusal.{Job, job_states, job_moves, test, text_tests, first_of, refusal, short_buffer, Outcome, refused, accepted, outcome, outcome_by}
use Rattle.csl.specs.Finished.{Answer, Finished, FinishedBy}
use Rattle.csl.specs.Laws.Lending.{ButForMarks, others}

-- something in a list passes if something before its last does, or the last
any_last : (p : Room → Bool) (xs : List Room) (x : Room) → any p (xs ++ (x ∷ [])) ≡ (any p xs || p x)
unfolding any
any_last p [] x = or-false (p x)
any_last p (y ∷ ys) x = rw (any_last p ys x) (sym (or_assoc (p y) (any p ys) (p x)))

others_or_marks : (l : Buffers ℕ) (n m k : ℕ) → is_short l (needed n m k) ≡ (others l n m || ltb l.marks (min (most_rows * n) (k * n)))
unfolding is_short rooms
others_or_marks l n m k = any_last (λ r. ltb r.lent r.need) _ (room l.marks (min (most_rows * n) (k * n)))

-- with no node no marks are needed
others_alone : (l : Buffers ℕ) (n m : ℕ) → is_short l (needed n m 0) ≡ others l n m
others_alone l n m =
    others_or_marks l n m 0 ∙ rw (le-ltb l.marks (min (most_rows * n) (0 * n)) (omega arith)) (or-false (others l n m))

-- where no other buffer is too short 15 is about the marks, and too few of them are too few in any case
pub marks_alone : (l : Buffers ℕ) (n m k : ℕ) → is_short l (needed n m 0) ≡ false
    → is_short l (needed n m k) ≡ ltb l.marks (min (most_rows * n) (k * n))
marks_alone l n m k h = others_or_marks l n m k ∙ rw (sym (others_alone l n m) ∙ h) refl

pub marks_short : (l : Buffers ℕ) (n m k : ℕ) → l.marks < min (most_rows * n) (k * n) → is_short l (needed n m k) ≡ true
marks_short l n m k h = others_or_marks l n m k ∙ rw (lt-ltb l.marks (min (most_rows * n) (k * n)) h) (or-true (others l n m))

-- the zeros in the marks, and what is beyond
pub marks_left_lem : (n m k : ℕ) (lower upper : ℕ → ℕ) (v : ℕ → Verdict) (old : Buffers (List ℕ))
    → (filled n m k lower upper v old).marks ≡ replicate (needed n m k).marks 0 ++ drop (needed n m k).marks old.marks
unfolding filled written
marks_left_lem n m k lower upper v old =
    ap (λ (i : ℕ). replicate (needed n m k).marks 0 ++ drop i old.marks) (length-replicate {A = ℕ} (needed n m k).marks 0)

-- no buffer is too short where none was and there are enough of the other marks
pub long_alike : (x y : Buffers (List ℕ)) → ButForMarks x y → (n m k : ℕ) → is_short (lengths x) (needed n m k) ≡ false
    → min (most_rows * n) (k * n) ≤ length y.marks → is_short (lengths y) (needed n m k) ≡ false
long_alike x y h n m k e l =
    let o : others (lengths x) n m ≡ false = neither (others (lengths x) n m) _ (sym (others_or_marks (lengths x) n m k) ∙ e) in
    let p : others (lengths y) n m ≡ false
    = rw (← h.lower, ← h.upper, ← h.verdicts, ← h.order, ← h.moves, ← h.vectors) o in
    others_or_marks (lengths y) n m k ∙ rw (p, le-ltb (length y.marks) (min (most_rows * n) (k * n)) l) refl
  where
    neither : (a b : Bool) → (a || b) ≡ false → a ≡ false
    neither true b z = absurd (true≢false z)
    neither false b z = refl

-- what is written is the same where the buffers were
pub filled_alike : (n m k : ℕ) (lower upper : ℕ → ℕ) (v : ℕ → Verdict) (x y : Buffers (List ℕ)) → ButForMarks x y
    → ButForMarks (filled n m k lower upper v x) (filled n m k lower upper v y)
unfolding filled
filled_alike n m k lower upper v x y h =
    record {
      lower = ap (written _) h.lower;
      upper = ap (written _) h.upper;
      verdicts = ap (written _) h.verdicts;
      order = ap (written _) h.order;
      moves = ap (written _) h.moves;
      vectors = ap (written _) h.vectors;
    }

-- a refusal looks at the lent lengths for 15 alone, and so does the outcome
pub refusal_alike : (j : Job) (x y : Buffers ℕ) → short_buffer j x ≡ short_buffer j y → refusal j x ≡ refusal j y
unfolding refusal
refusal_alike j x y h = ap (λ (b : Bool). first_of (text_tests j ++ (test 15 b ∷ []))) h

pub outcome_alike : (j : Job) (x y : Buffers ℕ) → short_buffer j x ≡ short_buffer j y → outcome j x ≡ outcome j y
unfolding outcome
outcome_alike j x y h = ap (outcome_by j) (refusal_alike j x y h)

-- what is finished over the one is over the other
finished_by : (j : Job) (x y : Buffers (List ℕ)) → ButForMarks x y → (a : Answer) (left : Buffers (List ℕ)) (o : Outcome) → FinishedBy j o x a left
    → (other : Buffers (List ℕ)) × FinishedBy j o y a other × ButForMarks left other
unfolding FinishedBy
finished_by j x y same a left (refused number) f = (y, record { answer = f.answer; untouched = refl }, rw f.untouched same)
finished_by j x y same a left (accepted c g q d) f = (
  filled (job_states j) (length (job_moves j)) (nodes g) f.lower f.upper f.verdict y,
  record { lower = f.lower; upper = f.upper; verdict = f.verdict; answer = f.answer; reported = f.reported; buffers = refl },
  rw f.buffers (filled_alike (job_states j) (length (job_moves j)) (nodes g) f.lower f.upper f.verdict x y same),
)

pub finished_alike : (j : Job) (x y : Buffers (List ℕ)) → ButForMarks x y → short_buffer j (lengths x) ≡ short_buffer j (lengths y)
    → (a : Answer) (left : Buffers (List ℕ)) → Finished j x a left → (other : Buffers (List ℕ)) × Finished j y a other × ButForMarks left other
unfolding Finished
finished_alike j x y same h a left f =
    finished_by j x y same a left (outcome j (lengths y)) (rw (outcome_alike j (lengths x) (lengths y) h) at f)
