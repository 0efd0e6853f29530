-- What the lines with no field but `cmd` ask for, by JSON.
use Rattle.std.proofs.Common.{◌≡◌, ◌∙◌, Ok, ap, codes, refl, rules}
use Rattle.std.specs.Str.{chars, is_utf8}
use Rattle.serde_json.proofs.OnLiterals.{serde_json_on_literals}
use Rattle.dt_proto.specs.Line.{requested, to_status, to_go, to_stop, to_close}
use Rattle.dt_proto.proofs.line.fixed_command.Goals as goal

status_line : requested (codes "{\"cmd\":\"status\"}") ≡ Ok to_status
unfolding serde_json_on_literals is_utf8 chars
status_line = refl

go_line : requested (codes "{\"cmd\":\"go\"}") ≡ Ok to_go
unfolding serde_json_on_literals is_utf8 chars
go_line = refl

stop_line : requested (codes "{\"cmd\":\"stop\"}") ≡ Ok to_stop
unfolding serde_json_on_literals is_utf8 chars
stop_line = refl

close_line : requested (codes "{\"cmd\":\"close\"}") ≡ Ok to_close
unfolding serde_json_on_literals is_utf8 chars
close_line = refl

pub returns-then-eq : goal.returns-then-eq
returns-then-eq c =
    let same : c.args.line.now ≡ codes "{\"cmd\":\"status\"}" = search rules in
    ap requested same ∙ status_line

pub returns-then-eq-2 : goal.returns-then-eq-2
returns-then-eq-2 c =
    let same : c.args.line.now ≡ codes "{\"cmd\":\"go\"}" = search rules in
    ap requested same ∙ go_line

pub returns-then-eq-3 : goal.returns-then-eq-3
returns-then-eq-3 c =
    let same : c.args.line.now ≡ codes "{\"cmd\":\"stop\"}" = search rules in
    ap requested same ∙ stop_line

pub returns-then-eq-4 : goal.returns-then-eq-4
returns-then-eq-4 c =
    let same : c.args.line.now ≡ codes "{\"cmd\":\"close\"}" = search rules in
    ap requested same ∙ close_line
