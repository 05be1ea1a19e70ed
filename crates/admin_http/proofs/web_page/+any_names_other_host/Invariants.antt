use Rattle.std.proofs.Common.{length}
use Rattle.admin_http.proofs.web_page.+any_names_other_host.Given as goal

abbrev pub decreases-any_names_other_host : goal.decreases-any_names_other_host
decreases-any_names_other_host l = length l.fields.now
