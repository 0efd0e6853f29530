-- The seen view has the life of the view.
use Rattle.dt_proto.specs.laws.Views.{life-seen_view, alone_seen, alone_of_seen}
use Rattle.dt_proto.proofs.laws.seen_alike.Goals as goal

pub returns : goal.returns
returns c = record {
  life = life-seen_view;
  alone = λ account registry view answers. (
    alone_seen account registry view answers,
    alone_of_seen account registry view answers,
  );
}
