-- The life of a view is computed as the relation says.
use Rattle.std.proofs.Common.{subst, sym}
use Rattle.dt_proto.specs.Alone.{IsLifeOf}
use Rattle.dt_proto.specs.laws.Views.{is_life, one_life}
use Rattle.dt_proto.proofs.laws.tests_agree.Goals as goal

pub returns : goal.returns
returns c = λ account registry view life. (
  one_life account registry view life,
  λ is. subst (IsLifeOf account registry view) (sym is) (is_life account registry view),
)
