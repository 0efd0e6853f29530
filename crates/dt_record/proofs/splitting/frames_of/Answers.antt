-- What the proof of `frames_of` is told at its goals.
use Rattle.std.proofs.Common.{ℕ, ◌++◌, List, ap, sym, subst, ◌∙◌, arith, rules}
use Rattle.std.specs.List.{flat_map, AllByRecursion}
use Rattle.byteorder.specs.Endian.{big_bytes}
use Rattle.dt_record.specs.Split.{IsFrame}
use Rattle.dt_record.proofs.Bytes.{AreBytes, bytes_back, back_bytes, front_bytes, all-more, pieces-more, pieces-whole}
use Rattle.dt_record.proofs.splitting.frames_of.Goals as goal

pub split_at-requires : goal.split_at-requires
split_at-requires c = let long = c.loop-i.invariant.long in let more = c.loop-i-test.true in omega arith

pub loop-i-preserved : goal.loop-i-preserved
loop-i-preserved c =
    let whole = c.split_at.ensures.by_index.0 in
    let front = c.split_at.result.0.now in
    let back = c.split_at.result.1.now in
    let are : AreBytes (front ++ back) = subst AreBytes whole c.loop-i.invariant.are in
    record {
      many = search rules;
      each = subst (AllByRecursion IsFrame) (sym {A = List ℕ} c.in_ok-push.ensures.items)
          (all-more IsFrame c.loop-i.frames.items c.read_u64.result c.loop-i.invariant.each c.read_u64.type_inv);
      are = back_bytes front back are;
      long = let cut = c.split_at.ensures.back_len in let long = c.loop-i.invariant.long in omega arith;
      same = ap (λ l. flat_map (big_bytes 8) l ++ back) c.in_ok-push.ensures.items
          ∙ pieces-more (big_bytes 8) c.loop-i.frames.items c.read_u64.result front back c.loop-i.rest.now
          c.args.bytes.now
          c.loop-i.invariant.same whole
          (ap (big_bytes 8) c.read_u64.ensures
          ∙ bytes_back 8 front c.split_at.ensures.front_len (front_bytes front back are));
    }

pub returns-clause-same : goal.returns-clause-same
returns-clause-same c =
    let long = c.loop-i.invariant.long in
    let end = c.loop-i-test.false in
    pieces-whole (big_bytes 8) c.loop-i.frames.items c.loop-i.rest.now c.args.bytes.now (omega arith)
    c.loop-i.invariant.same
