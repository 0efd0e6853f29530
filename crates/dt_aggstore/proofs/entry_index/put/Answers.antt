-- A new entry goes last.
use Rattle.std.proofs.Common.{◌∙◌}
use Rattle.dt_aggstore.proofs.Indexing.{put_last, at_ok}
use Rattle.dt_aggstore.proofs.entry_index.put.Goals as goal

pub unwrap-requires : goal.unwrap-requires
unwrap-requires c = c.insert.ensures.succeeds c.requires.room

pub returns-clause-entries : goal.returns-clause-entries
returns-clause-entries c =
    at_ok c.insert.result c.unwrap.result c.unwrap.ensures c.insert.ensures.entries
    ∙ put_last c.args.index.now c.args.name c.args.place c.requires.new
