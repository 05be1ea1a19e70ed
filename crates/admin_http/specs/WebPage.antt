-- Requests that a web page can send through a browser on the operator's machine.
use Rattle.std.specs.Prelude.{◌≡◌, ℕ, Bool, true, false, not, ◌&&◌, ◌||◌, List, take, map, codes}
use Rattle.std.specs.List.{list_any}
use Rattle.std.specs.Str.{bytes_eq}
use Rattle.std.specs.String.{string_bytes}
use Rattle.httparse.specs.Grammar.{RequestHead, ReadsRequest}
use Rattle.httparse.specs.Spans.{name_and_value}
use Rattle.wire_head.specs.Fields.{Fields, equals_ignoring_case}
use Rattle.admin_http.specs.declared.request.RequestParse.{RequestParse}
use Rattle.admin_http.specs.declared.request.RequestParse.TheVariants as parse
use Rattle.admin_http.specs.declared.web_page.Forbidden.{Forbidden}
use Rattle.admin_http.specs.declared.web_page.Forbidden.TheVariants as why
use Rattle.admin_http.specs.declared.web_page.OwnHosts.{OwnHosts}

-- Returns true if the value of a field Host names the admin port.
abbrev pub is_own_host : OwnHosts → List ℕ → Bool
is_own_host hosts value =
    bytes_eq value (string_bytes hosts.address)
    || (bytes_eq value (string_bytes hosts.ipv6) || bytes_eq value (string_bytes hosts.name))

-- Returns true if a field names another host.
abbrev pub names_other_host : OwnHosts → (List ℕ × List ℕ) → Bool
names_other_host hosts field =
    equals_ignoring_case (codes "host") field.0 && not (is_own_host hosts field.1)

-- Returns true if a field says that a web page sent the request. A browser sends Origin with each
-- POST, and Sec-Fetch-Site with each request.
abbrev pub comes_from_page : (List ℕ × List ℕ) → Bool
comes_from_page field =
    equals_ignoring_case (codes "origin") field.0
    || (equals_ignoring_case (codes "sec-fetch-site") field.0
    && not (bytes_eq field.1 (codes "none")) && not (bytes_eq field.1 (codes "same-origin")))

-- Returns true if a field is `X-Dss-Admin: 1`. No form of a page can send it.
abbrev pub confirms : (List ℕ × List ℕ) → Bool
confirms field =
    equals_ignoring_case (codes "x-dss-admin") field.0 && bytes_eq field.1 (codes "1")

-- Holds if a request with this method and these fields is allowed.
abbrev pub IsAllowed : OwnHosts → (method : List ℕ) → Fields → Type 0
IsAllowed hosts method fields =
    (list_any (names_other_host hosts) fields ≡ false)
    × (list_any comes_from_page fields ≡ false)
    × (method ≡ codes "POST" → list_any confirms fields ≡ true)

-- Holds if a request with this method and these fields is forbidden for this reason.
abbrev pub IsForbidden : OwnHosts → (method : List ℕ) → Fields → Forbidden → Type 0
IsForbidden hosts method fields why.Host = list_any (names_other_host hosts) fields ≡ true
IsForbidden hosts method fields why.Page = list_any comes_from_page fields ≡ true
IsForbidden hosts method fields why.Unconfirmed =
    (method ≡ codes "POST") × (list_any confirms fields ≡ false)

-- Holds if a parsed request has an allowed head.
abbrev pub HasAllowedHead : OwnHosts → (bytes : List ℕ) → RequestParse → Type 0
HasAllowedHead hosts bytes (parse.Request asked query) =
    (h : RequestHead) × (more : List ℕ) × ReadsRequest (take 8192 bytes) h more
    × IsAllowed hosts h.method (map name_and_value h.fields)
HasAllowedHead hosts bytes parse.Incomplete = Unit {0}
HasAllowedHead hosts bytes (parse.Forbidden reason) = Unit {0}
HasAllowedHead hosts bytes (parse.Invalid rule) = Unit {0}

-- The body of the response to a forbidden request.
abbrev pub text_of : Forbidden → List ℕ
text_of why.Host =
    codes "forbidden: the field Host must be 127.0.0.1, [::1] or localhost, with the port\n"
text_of why.Page = codes "forbidden: a web page sent the request\n"
text_of why.Unconfirmed = codes "forbidden: a POST requires the field X-Dss-Admin: 1\n"
