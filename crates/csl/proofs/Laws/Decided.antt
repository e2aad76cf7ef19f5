-- Whether some state is undecided, computed; and that decided verdicts have one reading. Assumes nothing.
use Rattle.std.specs.Prelude.{◌≡◌, refl, Bool, true, false, ℕ, zero, suc, ◌<◌}
use Rattle.std.proofs.lemmas.Bool.{false≢true}
use Rattle.std.proofs.Math.Bool.{and-eq-true_iff}
use Rattle.std.proofs.Common.{inl, inr, ⊎_elim, arith}
use Rattle.std.proofs.Math.Nat.{le-suc_iff}
use Rattle.csl.specs.Chain.{Chain}
use Rattle.csl.specs.Verdicts.{Verdict, No, Yes, Undecided, Agrees, Reading, Decided, least}
use Rattle.csl.specs.Graph.{AllDecided}
use Rattle.csl.specs.Laws.Decided.{Either, all_decided, is_decided}

is_decided_lem : (v : Verdict) → is_decided v ≡ true → Decided v
is_decided_lem No h = tt
is_decided_lem Yes h = tt
is_decided_lem Undecided h = absurd (false≢true h)

pub decided_is : (v : Verdict) → Decided v → is_decided v ≡ true
decided_is No h = refl
decided_is Yes h = refl
decided_is Undecided h = absurd h

pub all_decided_lem : (n : ℕ) (v : ℕ → Verdict) → all_decided n v ≡ true → (s : ℕ) → s < n → Decided (v s)
unfolding all_decided
all_decided_lem zero v h s l = absurd (omega arith)
all_decided_lem (suc n) v h s l =
    let p = (and-eq-true_iff (all_decided n v) (is_decided (v n))).0 h in
    ⊎_elim (λ m. all_decided_lem n v p.0 s m) (λ (e : suc s ≡ suc n). let q : s ≡ n = omega arith in rw q (is_decided_lem (v n) p.1)) (le-suc_iff.0 l)

pub decided_all : (n : ℕ) (v : ℕ → Verdict) → ((s : ℕ) → s < n → Decided (v s)) → all_decided n v ≡ true
unfolding all_decided
decided_all zero v h = refl
decided_all (suc n) v h =
    (and-eq-true_iff (all_decided n v) (is_decided (v n))).1 (decided_all n v (λ s l. h s (omega arith)), decided_is (v n) (h n (omega arith)))

-- verdicts that are the same on n states
pub all_decided_same : (n : ℕ) (v w : ℕ → Verdict) → ((s : ℕ) → s < n → v s ≡ w s) → all_decided n v ≡ all_decided n w
unfolding all_decided
all_decided_same zero v w h = refl
all_decided_same (suc n) v w h = rw (all_decided_same n v w (λ s l. h s (omega arith)), h n (omega arith)) refl

pub decided_or_not : (c : Chain) (v : ℕ → Verdict) → Either (AllDecided c v)
decided_or_not c v = go (all_decided c.states v) refl
  where
    go : (b : Bool) → all_decided c.states v ≡ b → Either (AllDecided c v)
    go true e = inl (all_decided_lem c.states v e)
    go false e = inr λ h. false≢true (rw e at (decided_all c.states v h))

pub both_or_not : {A B : Type 0} → Either A → Either B → Either (A × B)
both_or_not (inl a) (inl b) = inl (a, b)
both_or_not (inl a) (inr n) = inr λ h. n h.1
both_or_not (inr n) k = inr λ h. n h.0

-- decided verdicts have one reading
decided_reads : (v : Verdict) (b : Bool) → Decided v → Agrees v b → b ≡ least (λ s. v) 0
unfolding Agrees
decided_reads No b d h = h
decided_reads Yes b d h = h
decided_reads Undecided b d h = absurd d

pub one_reading : (c : Chain) (v : ℕ → Verdict) (x : ℕ → Bool) → AllDecided c v → Reading c.states v x → (s : ℕ) → s < c.states → x s ≡ least v s
one_reading c v x d h s l = decided_reads (v s) (x s) (d s l) (h s l)
