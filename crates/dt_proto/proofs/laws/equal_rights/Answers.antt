-- Two accounts of equal rights are answered the same.
use Rattle.std.proofs.Common.{sym}
use Rattle.dt_proto.specs.laws.Accounts.{same_seen_view, same_alone}
use Rattle.dt_proto.proofs.laws.equal_rights.Goals as goal

pub returns : goal.returns
returns c = record {
  seen = λ a b registry view uid privs. same_seen_view a b uid privs registry view;
  alone = λ a b registry view answers uid privs. (
    same_alone a b uid privs registry view answers,
    same_alone b a (sym uid) (sym privs) registry view answers,
  );
}
