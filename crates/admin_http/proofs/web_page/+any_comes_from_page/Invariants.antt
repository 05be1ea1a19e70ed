use Rattle.std.proofs.Common.{length}
use Rattle.admin_http.proofs.web_page.+any_comes_from_page.Given as goal

abbrev pub decreases-any_comes_from_page : goal.decreases-any_comes_from_page
decreases-any_comes_from_page l = length l.fields.now
