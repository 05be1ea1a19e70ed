use Rattle.admin_http.proofs.Airspaces.{refused}
use Rattle.admin_http.proofs.airspace.airspace_answer.Goals as goal

pub returns-in_default : goal.returns-in_default
returns-in_default c = refused (λ text. text.items) c.whole-in_default.result c.args.shown c.in-Ok.shown c.in-Ok.is c.whole-in_default.ensures
