-- One item more, a star or one that takes a byte.
use Rattle.std.proofs.Common.{◌≡◌, ap, ◌∙◌, ◌∷◌, arith, rules}
use Rattle.std.proofs.lemmas.List.{get_or-replicate}
use Rattle.dt_glob.specs.PatternItem.{PatternItem, Star}
use Rattle.dt_glob.proofs.ReadyLemmas.{ready_first, ready_star, ready_taker, ready_whole, place_fits, takers_fit}
use Rattle.dt_glob.proofs.TokenLemmas.{token_no_star, spells_none}
use Rattle.dt_glob.proofs.matcher.Matcher.of.Goals as goal

pub loop-token-init : goal.loop-token-init
loop-token-init c =
    ready_first c.args.pattern.now c.text-unread.result.now _ c.text-unread.ensures.spells c.text-unread.ensures.few
    (λ byte k. get_or-replicate 256 byte 0 0 k)

pub add_taker-requires : goal.add_taker-requires
add_taker-requires c =
    let h = c.loop-token.invariant in
    let r = c.in-Some.ensures.some h.tail h.spells in
    record {
      token = (r.item, r.is_token);
      room = takers_fit c.args.pattern.now c.loop-token.unread.now c.loop-token.takers c.loop-token.stars
          c.loop-token.place h (omega (arith, c.in-Some.ensures.shorter));
    }

pub overflow_mul-place : goal.overflow_mul-place
overflow_mul-place c =
    let fits = place_fits c.args.pattern.now c.loop-token.unread.now c.loop-token.takers c.loop-token.stars
    c.loop-token.place c.loop-token.invariant (omega (arith, c.in-Some.ensures.shorter)) in
    search rules

pub loop-token-preserved-in-Star : goal.loop-token-preserved-in-Star
loop-token-preserved-in-Star c =
    let h = c.loop-token.invariant in
    let r = c.in-Some.ensures.some h.tail h.spells in
    let star : r.item ≡ Star = rw c.in-Star.is at r.is_token in
    ready_star c.args.pattern.now c.loop-token.unread.now c.loop-token.takers c.loop-token.stars c.loop-token.place h
    r.tail c.in-Some.behind.now (r.items_are ∙ ap (λ (x : PatternItem). x ∷ r.tail) star) r.spells
    c.in-Some.ensures.shorter

pub loop-token-preserved : goal.loop-token-preserved
loop-token-preserved c =
    let h = c.loop-token.invariant in
    let r = c.in-Some.ensures.some h.tail h.spells in
    ready_taker c.args.pattern.now c.loop-token.unread.now c.loop-token.takers c.loop-token.stars c.loop-token.place h
    r.item r.tail c.in-Some.behind.now c.add_taker.new.takers r.items_are
    (token_no_star c.in-Some.token r.item r.is_token c.in_default-token.not-Star) r.spells c.in-Some.ensures.shorter
    (c.add_taker.ensures r.item r.is_token)

pub invariant_of-result : goal.invariant_of-result
invariant_of-result c =
    let h = c.loop-token.invariant in
    ready_whole c.args.pattern.now c.loop-token.unread.now c.loop-token.takers c.loop-token.stars c.loop-token.place h
    (spells_none h.tail (rw c.in_default.ensures.none at h.spells))
