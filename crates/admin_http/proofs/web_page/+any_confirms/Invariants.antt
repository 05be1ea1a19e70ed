use Rattle.std.proofs.Common.{length}
use Rattle.admin_http.proofs.web_page.+any_confirms.Given as goal

abbrev pub decreases-any_confirms : goal.decreases-any_confirms
decreases-any_confirms l = length l.fields.now
