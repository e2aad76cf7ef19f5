-- `span_of` as std counts it. Assumes nothing.
use Rattle.std.specs.Prelude.{◌≡◌, refl, ℕ, suc, ◌+◌, Bool, true, false, not, cond, [], ◌∷◌, nat_eq}
use Rattle.std.proofs.Common.{◌∙◌, arith}
use Rattle.std.specs.List.{position_or_len}
use Rattle.csl.specs.Text.{Text}
use Rattle.texts.specs.Span.{span_of}

module _ (mark : ℕ) where
  span_or_len : (t : Text) → position_or_len (λ b. nat_eq b mark) t ≡ span_of mark t
  unfolding span_of
  span_or_len [] = refl
  span_or_len (b ∷ t) = go (nat_eq b mark) (span_or_len t)
    where
      go : (p : Bool) → position_or_len (λ c. nat_eq c mark) t ≡ span_of mark t
          → cond (not p) (1 + position_or_len (λ c. nat_eq c mark) t) 0 ≡ cond p 0 (suc (span_of mark t))
      go true ih = refl
      go false ih = omega arith

  pub span_counted : (t : Text) (n : ℕ) → n ≡ position_or_len (λ b. nat_eq b mark) t → n ≡ span_of mark t
  span_counted t n h = h ∙ span_or_len t
