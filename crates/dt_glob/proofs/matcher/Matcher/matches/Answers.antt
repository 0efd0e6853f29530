-- The lowest place says whether the pattern matches what is read of the text.
use Rattle.std.proofs.Common.{◌≡◌, ℕ, List, [], ◌++◌, ◌∷◌, ◌∙◌, sym, ap, append_assoc, rules}
use Rattle.dt_glob.specs.Ready.{IsMadeReady}
use Rattle.dt_glob.proofs.ReadyLemmas.{stepped, byte_of_text, matched_by_low, failed_by_none}
use Rattle.dt_glob.proofs.TestLemmas.{Decides-is_match}
use Rattle.dt_glob.proofs.TokenLemmas.{no_bytes}
use Rattle.dt_glob.proofs.matcher.Matcher.matches.Goals as goal

text_is : (text left front back : List ℕ) (byte : ℕ) → text ≡ left ++ back → left ≡ front ++ byte ∷ []
    → text ≡ front ++ byte ∷ back
text_is text left front back byte e f =
    e ∙ ap (λ (s : List ℕ). s ++ back) f ∙ append_assoc front (byte ∷ []) back

pub loop-byte-preserved : goal.loop-byte-preserved
loop-byte-preserved c =
    let inv = c.loop-byte.invariant in
    let byte = c.in-Some.byte.now in
    let whole : c.args.text.now ≡ c.in-Some.front.now ++ byte ∷ inv.0 =
    text_is c.args.text.now c.loop-byte.left.now c.in-Some.front.now inv.0 byte inv.1 c.in-Some.ensures.cases.0 in
    let ready : IsMadeReady c.args.self.now c.self.inside.takers c.self.inside.stars c.self.inside.end =
    rw c.self.view_is at c.self.invariant in (
      byte ∷ inv.0,
      whole,
      rw c.from.ensures
          (stepped c.args.self.now c.self.inside.takers c.self.inside.stars c.self.inside.end c.loop-byte.places
          byte inv.0 ready (byte_of_text c.args.text.now c.in-Some.front.now inv.0 byte whole (λ i. search (rules, c.type_inv.text i))) inv.2),
    )

pub returns-then-places-eq0-clause-test : goal.returns-then-places-eq0-clause-test
returns-then-places-eq0-clause-test c =
    let inv = c.loop-byte.invariant in
    let byte = c.in-Some.byte.now in
    let whole : c.args.text.now ≡ c.in-Some.front.now ++ byte ∷ inv.0 =
    text_is c.args.text.now c.loop-byte.left.now c.in-Some.front.now inv.0 byte inv.1 c.in-Some.ensures.cases.0 in
    let ready : IsMadeReady c.args.self.now c.self.inside.takers c.self.inside.stars c.self.inside.end =
    rw c.self.view_is at c.self.invariant in
    let next = stepped c.args.self.now c.self.inside.takers c.self.inside.stars c.self.inside.end c.loop-byte.places
    byte inv.0 ready (byte_of_text c.args.text.now c.in-Some.front.now inv.0 byte whole (λ i. search (rules, c.type_inv.text i))) inv.2 in
    rw whole
    (failed_by_none c.args.self.now c.in-Some.front.now (byte ∷ inv.0)
    (sym (rw c.from.ensures at c.if-places-eq0.true) ∙ next))

pub returns-then-places-eq0-clause-matches : goal.returns-then-places-eq0-clause-matches
returns-then-places-eq0-clause-matches c =
    rw (returns-then-places-eq0-clause-test c) (Decides-is_match c.args.self.now c.args.text.now)

pub returns-clause-test : goal.returns-clause-test
returns-clause-test c =
    let inv = c.loop-byte.invariant in
    let text_is : c.args.text.now ≡ inv.0 =
    inv.1 ∙ ap (λ (s : List ℕ). s ++ inv.0) (no_bytes c.loop-byte.left.now c.in_default.ensures.cases) in
    rw text_is (matched_by_low c.args.self.now inv.0 c.loop-byte.places inv.2)

pub returns-clause-matches : goal.returns-clause-matches
returns-clause-matches c =
    rw (returns-clause-test c) (Decides-is_match c.args.self.now c.args.text.now)
