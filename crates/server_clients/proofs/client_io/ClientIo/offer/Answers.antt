use Rattle.std.proofs.Common.{inr, refl, subst}
use Rattle.policy_core.specs.declared.call.Call.{Call}
use Rattle.server_backend.specs.BackendEvent.{Receives}
use Rattle.server_backend.specs.declared.request.Request.{Request}
use Rattle.token_conf.specs.TokenFile.{callers_of}
use Rattle.wire_http.specs.Connection.{buffered_of, left_of}
use Rattle.server_clients.proofs.Events.{is_request, offered}
use Rattle.server_clients.proofs.client_io.ClientIo.offer.Goals as goal

pub receive-requires : goal.receive-requires
receive-requires g c =
    let request : Request = record { call = c.call.result; method = c.parts-parts.result.method; path = c.parts-parts.result.path; body = c.parts-parts.result.body } in
    record {
      made = is_request request (callers_of c.args.context.tokens.now) (left_of c.args.self.now.connection) (buffered_of c.args.self.now.connection) c.args.next c.requires.front
          c.call.ensures c.parts-parts.ensures.method c.parts-parts.ensures.path c.parts-parts.ensures.body;
    }

pub returns-in-Ok : goal.returns-in-Ok
returns-in-Ok g c =
    offered g.B.Backend c.args.context.explaining c.args.moment c.args.next c.args.backend.now c.receive.new.self _ _ c.in-Ok.received c.put.result
    (subst (λ (v : Call). g.B.Backend.steps c.args.backend.now (Receives c.args.moment v c.in-Ok.received) c.receive.new.self) c.call.ensures c.in-Ok.ensures) c.put.ensures

pub returns-in-Err : goal.returns-in-Err
returns-in-Err g c = inr (c.in-Err.ensures, refl)
