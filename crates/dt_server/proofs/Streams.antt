-- What a source gave and a sink took, one move after another.
use Rattle.std.proofs.Common.{ℕ, ◌-◌, List, [], ◌++◌, Option, Some, None}
use Rattle.std.proofs.Common.{sym, ap, ◌∙◌, append_assoc, refl}
use Rattle.std.proofs.lemmas.List.{append-nil}
use Rattle.std.specs.Io.KnownBytes.{Appends, Consumes, Keeps}

pub appends_none : (held : Option (List ℕ)) → Appends held held []
appends_none None = tt
appends_none (Some xs) = sym (append-nil xs)

pub appends_more : (old middle new : Option (List ℕ)) (xs ys : List ℕ) → Appends old middle xs → Appends middle new ys
    → Appends old new (xs ++ ys)
appends_more None middle new xs ys h k = tt
appends_more (Some os) None new xs ys h k = absurd h
appends_more (Some os) (Some ms) None xs ys h k = absurd k
appends_more (Some os) (Some ms) (Some ns) xs ys h k = k ∙ ap (λ l. l ++ ys) h ∙ append_assoc os xs ys

pub appends_kept : (old middle new : Option (List ℕ)) (xs : List ℕ) → Appends old middle xs → Keeps middle new → Appends old new xs
appends_kept None middle new xs h k = tt
appends_kept (Some os) None new xs h k = absurd h
appends_kept (Some os) (Some ms) None xs h k = absurd k
appends_kept (Some os) (Some ms) (Some ns) xs h k = k ∙ h

pub consumes_none : (held : Option (List ℕ)) → Consumes held held []
consumes_none None = tt
consumes_none (Some xs) = refl

pub consumes_more : (old middle new : Option (List ℕ)) (xs ys : List ℕ) → Consumes old middle xs → Consumes middle new ys
    → Consumes old new (xs ++ ys)
consumes_more None middle new xs ys h k = tt
consumes_more (Some os) None new xs ys h k = absurd h
consumes_more (Some os) (Some ms) None xs ys h k = absurd k
consumes_more (Some os) (Some ms) (Some ns) xs ys h k = h ∙ ap (λ l. xs ++ l) k ∙ sym (append_assoc xs ys ns)
