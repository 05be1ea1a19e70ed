-- The text of a response of the admin port.
use Rattle.std.specs.Prelude.{◌≡◌, ℕ, List, [], ◌++◌, Option, Some, None, codes, length}
use Rattle.admin_http.specs.declared.admin_route.AdminRoute.{AdminRoute}
use Rattle.admin_http.specs.declared.admin_route.AdminRoute.TheVariants as page
use Rattle.admin_http.specs.declared.admin_route.AdminRequest.{AdminRequest}
use Rattle.admin_http.specs.declared.admin_route.AdminRequest.TheVariants.{Does, Refuses, Unknown}
use Rattle.admin_http.specs.declared.admin_route.Health.{Health}
use Rattle.admin_http.specs.declared.admin_route.Health.TheVariants as state
use Rattle.admin_http.specs.declared.backup.BackupResult.{BackupResult}
use Rattle.admin_http.specs.declared.web_page.Forbidden.{Forbidden}
use Rattle.admin_http.specs.AdminRequest.{method_of, status_of}
use Rattle.admin_http.specs.BackupResult as backups
use Rattle.admin_http.specs.WebPage as pages
use Rattle.wire_head.specs.Lines.{length_line, line, status_line}

-- The media type of a body: the one that Prometheus defines for metrics, and JSON for the airspace.
abbrev pub type_of : Option AdminRoute → List ℕ
type_of (Some page.Metrics) = codes "text/plain; version=0.0.4; charset=utf-8"
type_of (Some page.Health) = codes "text/plain; charset=utf-8"
type_of (Some page.Stop) = codes "text/plain; charset=utf-8"
type_of (Some page.Backup) = codes "text/plain; charset=utf-8"
type_of (Some page.File) = codes "text/plain; charset=utf-8"
type_of (Some page.Airspace) = codes "application/json"
type_of (Some page.ResumePurges) = codes "text/plain; charset=utf-8"
type_of None = codes "text/plain; charset=utf-8"

unfoldable pub type_line : List ℕ → List ℕ
type_line media = line (codes "Content-Type: " ++ media)

-- The header `Allow` with the method of an endpoint, if another method was rejected.
abbrev pub allow_line : Option AdminRoute → List ℕ
allow_line None = []
allow_line (Some p) = line (codes "Allow: " ++ method_of p)

-- The head of the response. The connection is closed after each response.
unfoldable pub front_of : (status : ℕ) → List ℕ → Option AdminRoute → (size : ℕ) → List ℕ
front_of status media refused size =
    status_line status
    ++ type_line media
    ++ length_line size
    ++ allow_line refused
    ++ line (codes "Connection: close")
    ++ line []

-- The complete response, with the length of its body.
abbrev pub text_of : (status : ℕ) → List ℕ → Option AdminRoute → (body : List ℕ) → List ℕ
text_of status media refused body = front_of status media refused (length body) ++ body

-- The body that gives the health of the service.
abbrev pub words_of : Health → List ℕ
words_of state.Serving = codes "serving\n"
words_of state.Degraded =
    codes "degraded: purges are held; check the clock, then POST /purge/resume\n"
words_of state.Failing = codes "failing: the last commit failed\n"
words_of state.Silent = codes "failing: the log of the pool does not answer; check etcd\n"
words_of state.Stopped = codes "stopped: the database failed; restart the service\n"
words_of state.Stopping = codes "stopping: a stop was requested\n"

-- Holds if this is the response to a request, given the health of the service.
abbrev pub Answers : AdminRequest → Health → (text : List ℕ) → Type 0
Answers (Does page.Health) health text =
    text ≡ text_of (status_of (Does page.Health) health) (type_of None) None (words_of health)
Answers (Does page.Metrics) health text =
    (body : List ℕ)
    × (text ≡ text_of (status_of (Does page.Metrics) health) (type_of (Some page.Metrics)) None body)
Answers (Does page.Stop) health text =
    text ≡ text_of (status_of (Does page.Stop) health) (type_of None) None (codes "stopping\n")
Answers (Does page.Backup) health text =
    text ≡ text_of (status_of (Does page.Backup) health) (type_of None) None (codes "no such path\n")
Answers (Does page.File) health text =
    text ≡ text_of (status_of (Does page.File) health) (type_of None) None (codes "no such path\n")
Answers (Does page.Airspace) health text =
    text ≡ text_of (status_of (Does page.Airspace) health) (type_of None) None (codes "no snapshot\n")
Answers (Does page.ResumePurges) health text =
    text ≡ text_of (status_of (Does page.ResumePurges) health) (type_of None) None (codes "resumed\n")
Answers (Refuses p) health text =
    (body : List ℕ) × (text ≡ text_of (status_of (Refuses p) health) (type_of None) (Some p) body)
Answers Unknown health text =
    (body : List ℕ) × (text ≡ text_of (status_of Unknown health) (type_of None) None body)

-- Holds if this is the response to a request for a backup, given its result.
abbrev pub AnswersBackup : BackupResult → (text : List ℕ) → Type 0
AnswersBackup backup text =
    text ≡ text_of (backups.status_of backup) (type_of None) None (backups.words_of backup)

-- Holds if this is the response to a forbidden request, given the reason.
abbrev pub AnswersForbidden : Forbidden → (text : List ℕ) → Type 0
AnswersForbidden why text = text ≡ text_of 403 (type_of None) None (pages.text_of why)
