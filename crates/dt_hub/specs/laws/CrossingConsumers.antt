-- A clause and a consumer may go to another thread. The kit finds this by itself of each type but those that have an expression in them, which holds
-- expressions: of these it is shown here, part by part.
use denote.Param.Send.{IsSend, struct_send, enum_send, recorded_send, sendable}
use denote.Struct.Declared.{shape}
use denote.Enum.Declared as enum
use Rattle.std.proofs.Crossing as std
use Rattle.dt_names.proofs.short_text.ShortText.TheSendSync as short_text
use Rattle.dt_names.proofs.name.Name.TheSendSync as name
use Rattle.dt_cred.proofs.account.Account.TheSendSync as account
use Rattle.dt_aggfn.proofs.levels.Bounds.TheSendSync as bounds
use Rattle.dt_expr.specs.contracts.expr.Expr as expr
use Rattle.dt_expr.proofs.expr.Expr.TheLaws.TheKnot as knot
use Rattle.dt_expr.proofs.text.Text.TheSendSync as text
use Rattle.dt_program.specs.contracts.clause.Argument as argument
use Rattle.dt_program.specs.contracts.clause.Call as call
use Rattle.dt_program.specs.contracts.clause.AggregationUse as aggregation_use
use Rattle.dt_program.specs.contracts.clause.Statement as statement
use Rattle.dt_program.specs.contracts.clause.Clause as clause
use Rattle.dt_program.proofs.clause.Frames.TheSendSync as frames
use Rattle.dt_program.proofs.description.Description.TheSendSync as description
use Rattle.dt_ecb.specs.contracts.parts.Ecb as ecb
use Rattle.dt_ecb.proofs.parts.Ecb.TheSendSync as ecbs
use Rattle.dt_ecb.proofs.shapes.Shapes.TheSendSync as shapes
use Rattle.dt_life.proofs.options.Options.TheSendSync as options
use Rattle.dt_consumer.proofs.tracing.Tracing.TheSendSync as tracing
use Rattle.dt_consumer.proofs.outline.Outline.TheSendSync as outlines
use Rattle.dt_consumer.specs.contracts.outline.Outline as outline
use Rattle.dt_consumer.specs.contracts.programs.Programs as programs
use Rattle.dt_consumer.specs.contracts.consumer.Consumer as consumer

expr_field : IsSend (expr.the_field).row
expr_field = search (knot.crosses, std.crosses, sendable) depth 60

pub expr_send : IsSend expr.the_row
expr_send = search (knot.crosses, std.crosses, sendable) depth 60

argument_field : IsSend (argument.the_field).row
argument_field = enum_send (enum.shape argument.the_type) ((expr_field, tt), ((text.the_field_send, tt), tt))

argument_send : IsSend argument.the_row
argument_send = recorded_send (argument.the_field).row _ _ argument.the_type.to_one argument_field

-- `count`, and the six functions of an expression
call_field : IsSend (call.the_field).row
call_field = enum_send (enum.shape call.the_type)
    (tt, ((expr_field, tt), ((expr_field, tt), ((expr_field, tt), ((expr_field, tt), ((expr_field, tt), ((expr_field, (bounds.the_field_send, tt)), tt)))))))

aggregation_use_field : IsSend (aggregation_use.the_field).row
aggregation_use_field = struct_send (shape aggregation_use.the_type) (short_text.the_send, (std.Vec-send argument.the_row argument_send, (call_field, tt)))

statement_field : IsSend (statement.the_field).row
statement_field = enum_send (enum.shape statement.the_type) (
  (argument_field, tt),
  (
    (frames.the_field_send, tt),
    (
      (frames.the_field_send, tt),
      (
        (expr_field, tt),
        (
          (aggregation_use_field, tt),
          ((name.the_send, (expr_field, tt)), ((name.the_send, tt), ((expr_field, tt), ((expr_field, tt), ((expr_field, tt), tt))))),
        ),
      ),
    ),
  ),
)

statement_send : IsSend statement.the_row
statement_send = recorded_send (statement.the_field).row _ _ statement.the_type.to_one statement_field

clause_field : IsSend (clause.the_field).row
clause_field = struct_send (shape clause.the_type)
    (std.Vec-send statement.the_row statement_send, (search (expr_send, sendable), (std.Vec-send _ description.the_send, tt)))

pub clause_send : IsSend clause.the_row
clause_send = recorded_send (clause.the_field).row _ _ clause.the_type.to_one clause_field

programs_field : IsSend (programs.the_field).row
programs_field = struct_send (shape programs.the_type)
    (std.Vec-send ecb.the_row ecbs.the_send, (shapes.the_field_send, (std.Vec-send outline.the_row outlines.the_send, (std.Vec-send clause.the_row clause_send, tt))))

-- a consumer, as a part of another type
pub consumer_field : IsSend (consumer.the_field).row
consumer_field = struct_send (shape consumer.the_type)
    (search (tracing.the_send, sendable), (account.the_field_send, (programs_field, (options.the_field_send, (search sendable, (search sendable, tt))))))

pub consumer_send : IsSend consumer.the_row
consumer_send = recorded_send (consumer.the_field).row _ _ consumer.the_type.to_one consumer_field
