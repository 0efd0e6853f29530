-- Where comments end.
use Rattle.std.proofs.Common.{◌≡◌, ◌≢◌, ℕ, List, [], ◌∷◌, ◌++◌, length, ap, ◌∙◌, arith}
use Rattle.dt_lang.specs.Blanks.{HasNoEnd, EndsComment}

pub no_end_nil : HasNoEnd []
no_end_nil [] back e = cc
no_end_nil (x ∷ front) back e = cc

no_end_more : (x : ℕ) (rest : List ℕ) → ((back : List ℕ) → x ∷ rest ≢ 42 ∷ 47 ∷ back) → HasNoEnd rest
    → HasNoEnd (x ∷ rest)
no_end_more x rest n h [] back e = n back e
no_end_more x rest n h (y ∷ front) back e = h front back (cc)

-- one byte more in front, where no end begins
pub record Before (text rest : List ℕ) : Type 0 where
  pub ends : (behind : List ℕ) → EndsComment rest behind → EndsComment text behind
  pub endless : HasNoEnd rest → HasNoEnd text

pub before_all : (text : List ℕ) → Before text text
before_all text = record { ends = λ behind h. h; endless = λ h. h }

pub before_more : (x : ℕ) (rest : List ℕ) → ((back : List ℕ) → x ∷ rest ≢ 42 ∷ 47 ∷ back) → Before (x ∷ rest) rest
before_more x rest n = record {
  ends = λ behind h. record {
    inside = x ∷ h.inside;
    cut = ap (λ (r : List ℕ). x ∷ r) h.cut;
    first = no_end_more x h.inside (λ back e. n (back ++ (42 ∷ 47 ∷ behind))
        (ap (λ (r : List ℕ). x ∷ r) h.cut ∙ ap (λ (r : List ℕ). r ++ (42 ∷ 47 ∷ behind)) e)) h.first;
  };
  endless = λ h. no_end_more x rest n h;
}

pub before_next : (text unread : List ℕ) (x : ℕ) (rest : List ℕ) → Before text unread → unread ≡ x ∷ rest
    → ((back : List ℕ) → unread ≢ 42 ∷ 47 ∷ back) → Before text rest
before_next text unread x rest b e n =
    let m = before_more x rest (λ back k. n back (e ∙ k)) in
    record {
      ends = λ behind h. b.ends behind (rw e (m.ends behind h));
      endless = λ h. b.endless (rw e (m.endless h));
    }

pub ends_here : (unread rest : List ℕ) → unread ≡ 42 ∷ 47 ∷ rest → EndsComment unread rest
ends_here unread rest e = record { inside = []; cut = e; first = no_end_nil }

-- nothing is left
no_end_empty : (unread : List ℕ) → length unread ≡ 0 → HasNoEnd unread
no_end_empty [] e = no_end_nil
no_end_empty (x ∷ xs) e = absurd (omega arith)

pub nothing_left : (text unread : List ℕ) → Before text unread → length unread ≡ 0 → HasNoEnd text
nothing_left text unread b e = b.endless (no_end_empty unread e)
