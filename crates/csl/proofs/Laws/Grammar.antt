-- The reader of formulas against the grammar as document 01 lists it: it finds a formula exactly where the tokens before it spell one, so
-- each text has at most one reading. Assumes nothing.
use Rattle.std.specs.Prelude.{◌≡◌, refl, Bool, true, false, cond, List, [], ◌∷◌, ◌++◌, ℕ, zero, suc, ◌≤◌, length, eqb, Option, None, Some}
use Rattle.std.proofs.Common.{ap, sym, subst, ◌∙◌, arith, length-append, append_assoc, eqb-true}
use Rattle.std.proofs.lemmas.Bool.{false≢true}
use Rattle.std.proofs.Math.Bool.{and-eq-true_iff}
use Rattle.std.proofs.lemmas.Option.{none-some, same_Some}
use Rattle.csl.specs.Text.{Text, bytes, same}
use Rattle.csl.specs.Labels.{is_word}
use Rattle.csl.specs.Hours.{hundredths_of}
use Rattle.csl.specs.Formula.{Formula, always, label, negated, both, chance, until, next_move, between, Comparison}
use Rattle.csl.specs.Grammar.{Found, nothing, found, Reader, and_then, comparison_of, number_of, on_token, single, pair, PathHead, untils, nexts, betweens, no_path, path_head_of, path_behind, path, Head, truth, name, bang, ampersand, chances, other, head_of, state, read_state, whole, Spells, spells_truth, spells_name, spells_not, spells_both, spells_until, spells_next, spells_between}
use Rattle.csl.proofs.Laws.Computing.{computing}

-- what is found has been found before
pub record Then (x : Found) (next : Formula → List Text → Found) (f : Formula) (rest : List Text) : Type 0 where
  pub first : Formula
  pub more : List Text
  pub before : x ≡ found first more
  pub after : next first more ≡ found f rest

nothing_found : {A : Type 0} (f : Formula) (rest : List Text) → nothing ≡ found f rest → A
nothing_found f rest h = let z : ◌≡◌ {A = ℕ} 0 1 = cc in absurd (omega arith)

then_found : (x : Found) (next : Formula → List Text → Found) (f : Formula) (rest : List Text) → and_then x next ≡ found f rest → Then x next f rest
unfolding and_then
then_found nothing next f rest h = nothing_found f rest h
then_found (found a more) next f rest h = record { first = a; more = more; before = refl; after = h }

-- what stood before it: a token that spells something
pub record TokenThen {A : Type 0} (spelled : Text → Option A) (ts : List Text) (next : A → List Text → Found) (f : Formula) (rest : List Text) : Type 0 where
  pub token : Text
  pub value : A
  pub more : List Text
  pub tokens : ts ≡ token ∷ more
  pub is : spelled token ≡ Some value
  pub after : next value more ≡ found f rest

token_found : {A : Type 0} (spelled : Text → Option A) (ts : List Text) (next : A → List Text → Found) (f : Formula) (rest : List Text)
    → on_token spelled ts next ≡ found f rest → TokenThen spelled ts next f rest
unfolding on_token
token_found spelled [] next f rest h = nothing_found f rest h
token_found {A} spelled (w ∷ ts) next f rest h = go (spelled w) refl h
  where
    go : (o : Option A) → spelled w ≡ o → (elim o [ None ↦ nothing | Some a ↦ next a ts ]) ≡ found f rest
        → TokenThen spelled (w ∷ ts) next f rest
    go None e k = nothing_found f rest k
    go (Some a) e k = record { token = w; value = a; more = ts; tokens = refl; is = e; after = k }

-- bytes that are the same are equal
same_cons : (a b : ℕ) (s t : Text) → a ≡ b → s ≡ t → ◌≡◌ {A = Text} (a ∷ s) (b ∷ t)
same_cons a b s t h k = rw (h, k) refl

pub same_true : (s t : Text) → same s t ≡ true → s ≡ t
unfolding same
same_true [] [] h = refl
same_true [] (b ∷ t) h = absurd (false≢true h)
same_true (a ∷ s) [] h = absurd (false≢true h)
same_true (a ∷ s) (b ∷ t) h =
    let p : (eqb a b ≡ true) × (same s t ≡ true) = (and-eq-true_iff (eqb a b) (same s t)).0 h in
    same_cons a b s t (eqb-true a b p.0) (same_true s t p.1)

-- the token that a head stands for
unfoldable HeadIs : Text → Head → Type 0
HeadIs w truth = w ≡ bytes "tt"
HeadIs w name = (is_word w ≡ true) × (same w (bytes "tt") ≡ false)
HeadIs w bang = w ≡ bytes "!"
HeadIs w ampersand = w ≡ bytes "&"
HeadIs w chances = w ≡ bytes "P"
HeadIs w other = Unit {0}

head_is : (w : Text) → HeadIs w (head_of w)
unfolding head_of HeadIs
head_is w = go (same w (bytes "tt")) (is_word w) (same w (bytes "!")) (same w (bytes "&")) (same w (bytes "P")) refl refl refl refl refl
  where
    go : (a b c d e : Bool) → same w (bytes "tt") ≡ a → is_word w ≡ b → same w (bytes "!") ≡ c → same w (bytes "&") ≡ d → same w (bytes "P") ≡ e
        → HeadIs w (cond a truth (cond b name (cond c bang (cond d ampersand (cond e chances other)))))
    go true b c d e h i j k l = same_true _ _ h
    go false true c d e h i j k l = (i, h)
    go false false true d e h i j k l = same_true _ _ j
    go false false false true e h i j k l = same_true _ _ k
    go false false false false true h i j k l = same_true _ _ l
    go false false false false false h i j k l = tt

-- and the head of a path
unfoldable PathHeadIs : Text → PathHead → Type 0
PathHeadIs w untils = w ≡ bytes "U"
PathHeadIs w nexts = w ≡ bytes "X"
PathHeadIs w betweens = w ≡ bytes "V"
PathHeadIs w no_path = Unit {0}

path_head_is : (w : Text) → PathHeadIs w (path_head_of w)
unfolding path_head_of PathHeadIs
path_head_is w = go (same w (bytes "U")) (same w (bytes "X")) (same w (bytes "V")) refl refl refl
  where
    go : (a b c : Bool) → same w (bytes "U") ≡ a → same w (bytes "X") ≡ b → same w (bytes "V") ≡ c
        → PathHeadIs w (cond a untils (cond b nexts (cond c betweens no_path)))
    go true b c h i j = same_true _ _ h
    go false true c h i j = same_true _ _ i
    go false false true h i j = same_true _ _ j
    go false false false h i j = tt

-- tokens that spell a formula, and what stands after them
pub record Spelled (f : Formula) (ts rest : List Text) : Type 0 where
  pub tokens : List Text
  pub spells : Spells f tokens
  pub split : ts ≡ tokens ++ rest

-- a reader that finds only what is spelled
abbrev Sound : Reader → Type 0
Sound read = (ts : List Text) (f : Formula) (rest : List Text) → read ts ≡ found f rest → Spelled f ts rest

found_formula : (a b : Formula) (s t : List Text) → found a s ≡ found b t → a ≡ b
found_formula a b s t h = cc

found_rest : (a b : Formula) (s t : List Text) → found a s ≡ found b t → s ≡ t
found_rest a b s t h = cc

pub record SingleSpelled (make : Formula → Formula) (f : Formula) (ts rest : List Text) : Type 0 where
  pub a : Formula
  pub s : List Text
  pub first : Spells a s
  pub is : make a ≡ f
  pub split : ts ≡ s ++ rest

single_sound : (read : Reader) → Sound read → (make : Formula → Formula) (ts : List Text) (f : Formula) (rest : List Text)
    → single read make ts ≡ found f rest → SingleSpelled make f ts rest
unfolding single
single_sound read sound make ts f rest h =
    let p = then_found (read ts) _ f rest h in
    let x = sound ts p.first p.more p.before in
    record {
      a = p.first;
      s = x.tokens;
      first = x.spells;
      is = found_formula _ _ _ _ p.after;
      split = x.split ∙ ap (λ (l : List Text). x.tokens ++ l) (found_rest _ _ _ _ p.after);
    }

pub record PairSpelled (make : Formula → Formula → Formula) (f : Formula) (ts rest : List Text) : Type 0 where
  pub a : Formula
  pub b : Formula
  pub s : List Text
  pub t : List Text
  pub first : Spells a s
  pub second : Spells b t
  pub is : make a b ≡ f
  pub split : ts ≡ s ++ t ++ rest

pair_sound : (read : Reader) → Sound read → (make : Formula → Formula → Formula) (ts : List Text) (f : Formula) (rest : List Text)
    → pair read make ts ≡ found f rest → PairSpelled make f ts rest
unfolding pair
pair_sound read sound make ts f rest h =
    let p = then_found (read ts) _ f rest h in
    let q = then_found (read p.more) _ f rest p.after in
    let x = sound ts p.first p.more p.before in
    let y = sound p.more q.first q.more q.before in
    record {
      a = p.first;
      b = q.first;
      s = x.tokens;
      t = y.tokens;
      first = x.spells;
      second = y.spells;
      is = found_formula _ _ _ _ q.after;
      split = x.split ∙ ap (λ (l : List Text). x.tokens ++ l) (y.split ∙ ap (λ (l : List Text). y.tokens ++ l) (found_rest _ _ _ _ q.after))
          ∙ sym (append_assoc x.tokens y.tokens rest);
    }

-- what stands after the tokens of `P` and of a path's head
path_behind_sound : (read : Reader) → Sound read → (sign threshold : Text) (r : Comparison) (v : ℕ) (w : Text) (head : PathHead) → PathHeadIs w head
    → (ts : List Text) (f : Formula) (rest : List Text) → comparison_of sign ≡ Some r → number_of threshold ≡ Some v
    → path_behind read r v head ts ≡ found f rest → Spelled f (bytes "P" ∷ sign ∷ threshold ∷ w ∷ ts) rest
unfolding path_behind PathHeadIs
path_behind_sound read sound sign threshold r v w untils u ts f rest e i h =
    let n = token_found hundredths_of ts _ f rest h in
    let p = pair_sound read sound (λ a b. chance r v (until n.value a b)) n.more f rest n.after in
    record {
      tokens = bytes "P" ∷ sign ∷ threshold ∷ bytes "U" ∷ n.token ∷ p.s ++ p.t;
      spells = subst (λ x. Spells x (bytes "P" ∷ sign ∷ threshold ∷ bytes "U" ∷ n.token ∷ p.s ++ p.t)) p.is
          (spells_until sign threshold n.token r v n.value e i n.is p.first p.second);
      split = ap (λ (x : Text). bytes "P" ∷ sign ∷ threshold ∷ x ∷ ts) u
          ∙ ap (λ (l : List Text). bytes "P" ∷ sign ∷ threshold ∷ bytes "U" ∷ l) (n.tokens ∙ ap (λ (l : List Text). n.token ∷ l) p.split);
    }
path_behind_sound read sound sign threshold r v w nexts u ts f rest e i h =
    let p = single_sound read sound (λ a. chance r v (next_move a)) ts f rest h in
    record {
      tokens = bytes "P" ∷ sign ∷ threshold ∷ bytes "X" ∷ p.s;
      spells = subst (λ x. Spells x (bytes "P" ∷ sign ∷ threshold ∷ bytes "X" ∷ p.s)) p.is (spells_next sign threshold r v e i p.first);
      split = ap (λ (x : Text). bytes "P" ∷ sign ∷ threshold ∷ x ∷ ts) u
          ∙ ap (λ (l : List Text). bytes "P" ∷ sign ∷ threshold ∷ bytes "X" ∷ l) p.split;
    }
path_behind_sound read sound sign threshold r v w betweens u ts f rest e i h =
    let n = token_found hundredths_of ts _ f rest h in
    let m = token_found hundredths_of n.more _ f rest n.after in
    let p = pair_sound read sound (λ a b. chance r v (between n.value m.value a b)) m.more f rest m.after in
    record {
      tokens = bytes "P" ∷ sign ∷ threshold ∷ bytes "V" ∷ n.token ∷ m.token ∷ p.s ++ p.t;
      spells = subst (λ x. Spells x (bytes "P" ∷ sign ∷ threshold ∷ bytes "V" ∷ n.token ∷ m.token ∷ p.s ++ p.t)) p.is
          (spells_between sign threshold n.token m.token r v n.value m.value e i n.is m.is p.first p.second);
      split = ap (λ (x : Text). bytes "P" ∷ sign ∷ threshold ∷ x ∷ ts) u
          ∙ ap (λ (l : List Text). bytes "P" ∷ sign ∷ threshold ∷ bytes "V" ∷ l)
          (n.tokens ∙ ap (λ (l : List Text). n.token ∷ l) (m.tokens ∙ ap (λ (l : List Text). m.token ∷ l) p.split));
    }
path_behind_sound read sound sign threshold r v w no_path u ts f rest e i h = nothing_found f rest h

path_sound : (read : Reader) → Sound read → (sign threshold : Text) (r : Comparison) (v : ℕ) (ts : List Text) (f : Formula) (rest : List Text)
    → comparison_of sign ≡ Some r → number_of threshold ≡ Some v → path read r v ts ≡ found f rest
    → Spelled f (bytes "P" ∷ sign ∷ threshold ∷ ts) rest
unfolding path
path_sound read sound sign threshold r v [] f rest e i h = nothing_found f rest h
path_sound read sound sign threshold r v (w ∷ ts) f rest e i h =
    path_behind_sound read sound sign threshold r v w (path_head_of w) (path_head_is w) ts f rest e i h

state_sound : (read : Reader) → Sound read → (w : Text) (head : Head) → HeadIs w head → (ts : List Text) (f : Formula) (rest : List Text)
    → state read w head ts ≡ found f rest → Spelled f (w ∷ ts) rest
unfolding state HeadIs
state_sound read sound w truth i ts f rest h =
    record {
      tokens = bytes "tt" ∷ [];
      spells = subst (λ x. Spells x (bytes "tt" ∷ [])) (found_formula _ _ _ _ h) spells_truth;
      split = ap (λ (x : Text). x ∷ ts) i ∙ ap (λ (l : List Text). bytes "tt" ∷ l) (found_rest _ _ _ _ h);
    }
state_sound read sound w name i ts f rest h =
    record {
      tokens = w ∷ [];
      spells = subst (λ x. Spells x (w ∷ [])) (found_formula _ _ _ _ h) (spells_name w i.0 i.1);
      split = ap (λ (l : List Text). w ∷ l) (found_rest _ _ _ _ h);
    }
state_sound read sound w bang i ts f rest h =
    let p = single_sound read sound negated ts f rest h in
    record {
      tokens = bytes "!" ∷ p.s;
      spells = subst (λ y. Spells y (bytes "!" ∷ p.s)) p.is (spells_not p.first);
      split = ap (λ (y : Text). y ∷ ts) i ∙ ap (λ (l : List Text). bytes "!" ∷ l) p.split;
    }
state_sound read sound w ampersand i ts f rest h =
    let p = pair_sound read sound both ts f rest h in
    record {
      tokens = bytes "&" ∷ p.s ++ p.t;
      spells = subst (λ y. Spells y (bytes "&" ∷ p.s ++ p.t)) p.is (spells_both p.first p.second);
      split = ap (λ (y : Text). y ∷ ts) i ∙ ap (λ (l : List Text). bytes "&" ∷ l) p.split;
    }
state_sound read sound w chances i ts f rest h =
    let c = token_found comparison_of ts _ f rest h in
    let n = token_found number_of c.more _ f rest c.after in
    let x = path_sound read sound c.token n.token c.value n.value n.more f rest c.is n.is n.after in
    record {
      tokens = x.tokens;
      spells = x.spells;
      split = ap (λ (y : Text). y ∷ ts) i
          ∙ ap (λ (l : List Text). bytes "P" ∷ l) (c.tokens ∙ ap (λ (l : List Text). c.token ∷ l) n.tokens) ∙ x.split;
    }
state_sound read sound w other i ts f rest h = nothing_found f rest h

-- the reader finds only what the tokens spell
pub read_sound : (k : ℕ) → Sound (read_state k)
unfolding read_state
read_sound zero ts f rest h = nothing_found f rest h
read_sound (suc k) [] f rest h = nothing_found f rest h
read_sound (suc k) (w ∷ ts) f rest h = state_sound (read_state k) (read_sound k) w (head_of w) (head_is w) ts f rest h

-- and it finds all that they spell
abbrev Complete : Reader → Formula → List Text → Type 0
Complete read f s = (rest : List Text) → read (s ++ rest) ≡ found f rest

single_complete : (read : Reader) (make : Formula → Formula) (a : Formula) (s : List Text) → Complete read a s → (rest : List Text)
    → single read make (s ++ rest) ≡ found (make a) rest
unfolding single and_then
single_complete read make a s h rest = rw (h rest) refl

pair_complete : (read : Reader) (make : Formula → Formula → Formula) (a b : Formula) (s t : List Text)
    → Complete read a s → Complete read b t → (rest : List Text) → pair read make (s ++ t ++ rest) ≡ found (make a b) rest
unfolding pair and_then
pair_complete read make a b s t h k rest = rw (append_assoc s t rest, h (t ++ rest), k rest) refl

-- the tokens of `P`
spelled_token : {A : Type 0} (spelled : Text → Option A) (w : Text) (ts : List Text) (next : A → List Text → Found) (a : A) → spelled w ≡ Some a
    → on_token spelled (w ∷ ts) next ≡ next a ts
unfolding on_token
spelled_token spelled w ts next a e = rw (e, on_token) refl

path_heads : (path_head_of (bytes "U") ≡ untils) × (path_head_of (bytes "X") ≡ nexts) × (path_head_of (bytes "V") ≡ betweens)
unfolding computing
path_heads = (refl, refl, refl)

headed_path : (read : Reader) (r : Comparison) (p : ℕ) (w : Text) (head : PathHead) (ts : List Text) → path_head_of w ≡ head
    → path read r p (w ∷ ts) ≡ path_behind read r p head ts
unfolding path
headed_path read r p w head ts e = rw e refl

until_complete : (read : Reader) (a b : Formula) (s t : List Text) (sign threshold hours : Text) (r : Comparison) (v u : ℕ)
    → comparison_of sign ≡ Some r → number_of threshold ≡ Some v → hundredths_of hours ≡ Some u
    → Complete read a s → Complete read b t → (rest : List Text)
    → state read (bytes "P") chances (sign ∷ threshold ∷ bytes "U" ∷ hours ∷ (s ++ t ++ rest))
    ≡ found (chance r v (until u a b)) rest
unfolding state path_behind
until_complete read a b s t sign threshold hours r v u e i j h k rest =
    spelled_token comparison_of sign _ _ r e ∙ spelled_token number_of threshold _ _ v i ∙ headed_path read r v (bytes "U") untils _ path_heads.0
    ∙ spelled_token hundredths_of hours _ _ u j ∙ pair_complete read (λ a b. chance r v (until u a b)) a b s t h k rest

next_complete : (read : Reader) (a : Formula) (s : List Text) (sign threshold : Text) (r : Comparison) (v : ℕ)
    → comparison_of sign ≡ Some r → number_of threshold ≡ Some v → Complete read a s → (rest : List Text)
    → state read (bytes "P") chances (sign ∷ threshold ∷ bytes "X" ∷ (s ++ rest)) ≡ found (chance r v (next_move a)) rest
unfolding state path_behind
next_complete read a s sign threshold r v e i h rest =
    spelled_token comparison_of sign _ _ r e ∙ spelled_token number_of threshold _ _ v i ∙ headed_path read r v (bytes "X") nexts _ path_heads.1
    ∙ single_complete read (λ a. chance r v (next_move a)) a s h rest

between_complete : (read : Reader) (a b : Formula) (s t : List Text) (sign threshold earlier later : Text) (r : Comparison) (v u x : ℕ)
    → comparison_of sign ≡ Some r → number_of threshold ≡ Some v → hundredths_of earlier ≡ Some u → hundredths_of later ≡ Some x
    → Complete read a s → Complete read b t → (rest : List Text)
    → state read (bytes "P") chances (sign ∷ threshold ∷ bytes "V" ∷ earlier ∷ later ∷ (s ++ t ++ rest))
    ≡ found (chance r v (between u x a b)) rest
unfolding state path_behind
between_complete read a b s t sign threshold earlier later r v u x e i j m h k rest =
    spelled_token comparison_of sign _ _ r e ∙ spelled_token number_of threshold _ _ v i ∙ headed_path read r v (bytes "V") betweens _ path_heads.2
    ∙ spelled_token hundredths_of earlier _ _ u j ∙ spelled_token hundredths_of later _ _ x m
    ∙ pair_complete read (λ a b. chance r v (between u x a b)) a b s t h k rest

not_complete : (read : Reader) (a : Formula) (s rest : List Text) → Complete read a s → state read (bytes "!") bang (s ++ rest) ≡ found (negated a) rest
unfolding state
not_complete read a s rest h = single_complete read negated a s h rest

both_complete : (read : Reader) (a b : Formula) (s t rest : List Text) → Complete read a s → Complete read b t
    → state read (bytes "&") ampersand (s ++ t ++ rest) ≡ found (both a b) rest
unfolding state
both_complete read a b s t rest h k = pair_complete read both a b s t h k rest

name_complete : (read : Reader) (w : Text) (rest : List Text) → is_word w ≡ true → same w (bytes "tt") ≡ false
    → state read w (head_of w) rest ≡ found (label w) rest
unfolding state head_of
name_complete read w rest h i = rw (i, h) refl

fixed_heads : (head_of (bytes "tt") ≡ truth) × (head_of (bytes "!") ≡ bang) × (head_of (bytes "&") ≡ ampersand) × (head_of (bytes "P") ≡ chances)
unfolding computing
fixed_heads = (refl, refl, refl, refl)

truth_complete : (read : Reader) (rest : List Text) → state read (bytes "tt") truth rest ≡ found always rest
unfolding state
truth_complete read rest = refl

pub read_complete : {f : Formula} {s : List Text} → Spells f s → (k : ℕ) → length s ≤ k → Complete (read_state k) f s
unfolding read_state
read_complete spells_truth zero l rest = absurd (omega arith)
read_complete spells_truth (suc k) l rest = rw fixed_heads.0 (truth_complete (read_state k) rest)
read_complete (spells_name w h i) zero l rest = absurd (omega arith)
read_complete (spells_name w h i) (suc k) l rest = name_complete (read_state k) w rest h i
read_complete (spells_not p) zero l rest = absurd (omega arith)
read_complete (spells_not {a = a} {s = s} p) (suc k) l rest =
    rw fixed_heads.1 (not_complete (read_state k) a s rest (λ x. read_complete p k (omega arith) x))
read_complete (spells_both p q) zero l rest = absurd (omega arith)
read_complete (spells_both {a = a} {b = b} {s = s} {t = t} p q) (suc k) l rest =
    rw fixed_heads.2
    (both_complete (read_state k) a b s t rest (λ x. read_complete p k (omega (arith, length-append s t)) x)
    (λ x. read_complete q k (omega (arith, length-append s t)) x))
read_complete (spells_until sign threshold hours r v u e i j p q) zero l rest = absurd (omega arith)
read_complete (spells_until {a = a} {b = b} {s = s} {t = t} sign threshold hours r v u e i j p q) (suc k) l rest =
    rw fixed_heads.3
    (until_complete (read_state k) a b s t sign threshold hours r v u e i j (λ x. read_complete p k (omega (arith, length-append s t)) x)
    (λ x. read_complete q k (omega (arith, length-append s t)) x) rest)
read_complete (spells_next sign threshold r v e i p) zero l rest = absurd (omega arith)
read_complete (spells_next {a = a} {s = s} sign threshold r v e i p) (suc k) l rest =
    rw fixed_heads.3 (next_complete (read_state k) a s sign threshold r v e i (λ x. read_complete p k (omega arith) x) rest)
read_complete (spells_between sign threshold earlier later r v u x e i j m p q) zero l rest = absurd (omega arith)
read_complete (spells_between {a = a} {b = b} {s = s} {t = t} sign threshold earlier later r v u x e i j m p q) (suc k) l rest =
    rw fixed_heads.3
    (between_complete (read_state k) a b s t sign threshold earlier later r v u x e i j m
    (λ y. read_complete p k (omega (arith, length-append s t)) y) (λ y. read_complete q k (omega (arith, length-append s t)) y) rest)

-- so tokens are read as a formula exactly where they spell it, all of them
whole_found : (x : Found) (f : Formula) → whole x ≡ Some f → x ≡ found f []
unfolding whole
whole_found nothing f h = absurd (none-some f h)
whole_found (found a []) f h = ap (λ (y : Formula). found y []) (same_Some _ _ h)
whole_found (found a (w ∷ ts)) f h = absurd (none-some f h)

append_nil : (l : List Text) → l ++ [] ≡ l
append_nil [] = refl
append_nil (x ∷ l) = ap (λ (y : List Text). x ∷ y) (append_nil l)

pub read_if_spelled : (ts : List Text) (f : Formula) → Spells f ts → whole (read_state (length ts) ts) ≡ Some f
unfolding whole
read_if_spelled ts f h =
    let e : read_state (length ts) (ts ++ []) ≡ found f [] = read_complete h (length ts) (omega arith) [] in
    rw (rw (append_nil ts) at e) refl

pub spelled_if_read : (ts : List Text) (f : Formula) → whole (read_state (length ts) ts) ≡ Some f → Spells f ts
spelled_if_read ts f h =
    let x = read_sound (length ts) ts f [] (whole_found _ f h) in
    rw (x.split ∙ append_nil x.tokens) x.spells
