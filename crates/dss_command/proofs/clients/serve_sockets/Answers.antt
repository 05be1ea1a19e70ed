use Rattle.std.proofs.Common.{◌∙◌, ap}
use Rattle.std.specs.Prelude.{is_some}
use Rattle.service_calls.specs.Held.{space_of}
use Rattle.dss_command.specs.Service.{setup_in}
use Rattle.dss_command.proofs.Served.{serves_clients}
use Rattle.dss_command.proofs.Setups.{operated_as}
use Rattle.dss_command.proofs.clients.serve_sockets.Goals as goal

pub returns-clause-served : goal.returns-clause-served
returns-clause-served g c =
    serves_clients g.S.Space g.S.GroupCommit _ g.M.Moments g.T.TokenSource c.calls_of_clients_are_one_list.ensures c.rounds_are_settled.ensures
    (setup_in c.args.given) c.args.given.keep c.new-service.result c.args.space _ c.new-backend.result c.serve-served.new.backend _ c.args.watch c.args.moments.now c.serve-served.new.moments _ _
    c.new-backend.ensures (record {
      space_is = c.new-service.ensures.space;
      salt_is = c.new-service.ensures.salt ∙ c.requires.salt;
      goes = c.new-service.ensures.goes;
    }) (c.into_space.ensures ∙ ap space_of c.into_service.ensures)
    (operated_as _ g.M.Moments g.T.TokenSource c.args.given.explaining c.args.given.tokens.now _ (is_some c.args.given.operated) (is_some c.args.given.limits.count) _ c.args.watch _ _ _ _ _ _ c.requires.operated c.serve-served.ensures.clients)
