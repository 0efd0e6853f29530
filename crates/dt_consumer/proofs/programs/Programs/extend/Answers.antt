-- What is known of all clauses is what was known of the old ones, and then what is known of the new ones; and each ECB has the place of one.
use Rattle.std.proofs.Common.{◌≡◌, ℕ, ◌+◌, List, [], ◌++◌, length, sym, ap, ◌∙◌, subst, length-append, arith}
use Rattle.std.specs.List.{All}
use Rattle.std.specs.Vec.{vec_len}
use Rattle.std.proofs.lemmas.List.{map-append}
use Rattle.std.proofs.lemmas.List.Elements.{All-append}
use Rattle.dt_ecb.specs.declared.parts.Ecb.{Ecb}
use Rattle.dt_consumer.specs.Placing.{IsPlaced}
use Rattle.dt_program.specs.declared.clause.Clause.{Clause}
use Rattle.dt_consumer.specs.Recording.{outline_of, outlines_of}
use Rattle.dt_consumer.specs.declared.outline.Outline.{Outline}
use Rattle.dt_consumer.proofs.programs.Programs.extend.Goals as goal

known_of_all : (empty outlines first all : List Outline) (none old mid end news : List Clause)
    → empty ≡ [] → first ≡ empty ++ outlines → all ≡ first ++ outlines_of news → outlines ≡ outlines_of old
    → none ≡ [] → mid ≡ none ++ old → end ≡ mid ++ news → all ≡ outlines_of end
known_of_all empty outlines first all none old mid end news no_outlines before after known no_clauses moved added =
    after
    ∙ ap (λ xs. xs ++ outlines_of news) (before ∙ ap (λ xs. xs ++ outlines) no_outlines ∙ known)
    ∙ sym (ap outlines_of (added ∙ ap (λ xs. xs ++ news) (moved ∙ ap (λ xs. xs ++ old) no_clauses))
    ∙ map-append outline_of old news)

pub invariant_of-self-clause-known : goal.invariant_of-self-clause-known
invariant_of-self-clause-known c =
    known_of_all c.args.room.outlines.items c.args.self.now.outlines.items c.move_into.new.room.items
    c.add_outlines.new.outlines.items c.args.room.clauses.items c.args.self.now.clauses.items c.move_into-2.new.room.items
    c.move_into-3.new.room.items c.args.clauses.items c.args.room.no_outlines c.move_into.ensures.items
    (c.add_outlines.ensures.items ∙ ap (λ xs. c.move_into.new.room.items ++ outlines_of xs) c.deref.ensures.value)
    c.args.self.now.known c.args.room.no_clauses c.move_into-2.ensures.items c.move_into-3.ensures.items

placed_of_all : (empty old mid new all : List Ecb) (few more many : ℕ) → empty ≡ [] → mid ≡ empty ++ old → all ≡ mid ++ new
    → many ≡ few + more → All (IsPlaced few) old → All (IsPlaced (few + more)) new → All (IsPlaced many) all
placed_of_all empty old mid new all few more many none before after count placed placed_new =
    subst (All (IsPlaced many)) (sym (after ∙ ap (λ xs. xs ++ new) (before ∙ ap (λ xs. xs ++ old) none)))
    (All-append (IsPlaced many) old new (λ k d within. omega (arith, placed k d within, count))
    (λ k d within. omega (arith, placed_new k d within, count)))

pub invariant_of-self-clause-placed : goal.invariant_of-self-clause-placed
invariant_of-self-clause-placed c =
    let old : List Clause = c.args.self.now.clauses.items in
    let end : c.move_into-3.new.room.items ≡ old ++ c.args.clauses.items =
    c.move_into-3.ensures.items
    ∙ ap (λ xs. xs ++ c.args.clauses.items) (c.move_into-2.ensures.items ∙ ap (λ xs. xs ++ old) c.args.room.no_clauses) in
    placed_of_all c.args.room.ecbs.items c.args.self.now.ecbs.items c.move_into-4.new.room.items c.args.ecbs.items
    c.move_into-5.new.room.items (vec_len c.args.self.now.clauses) (vec_len c.args.clauses)
    (vec_len c.move_into-3.new.room) c.args.room.no_ecbs c.move_into-4.ensures.items c.move_into-5.ensures.items
    (omega (arith, ap length end, length-append old c.args.clauses.items)) c.args.self.now.placed c.requires.placed
