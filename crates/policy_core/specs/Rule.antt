-- The numbers, names and HTTP statuses of the rules.
use Rattle.std.specs.Prelude.{ℕ, List, codes}
use Rattle.policy_core.specs.declared.rule.Rule.{Rule}
use Rattle.policy_core.specs.declared.rule.Rule.TheVariants.{Route, Method, Token, Scope, Form, Area, Found, Fresh, Manager, Version, Role, Change, Ended, Key, Limit, Subscription, Depended}

abbrev pub number_of : Rule → ℕ
number_of Route = 1
number_of Method = 2
number_of Token = 3
number_of Scope = 4
number_of Form = 5
number_of Area = 6
number_of Found = 7
number_of Fresh = 8
number_of Manager = 9
number_of Version = 10
number_of Role = 11
number_of Change = 12
number_of Ended = 13
number_of Key = 14
number_of Limit = 15
number_of Subscription = 16
number_of Depended = 17

abbrev pub name_of : Rule → List ℕ
name_of Route = codes "ROUTE"
name_of Method = codes "METHOD"
name_of Token = codes "TOKEN"
name_of Scope = codes "SCOPE"
name_of Form = codes "FORM"
name_of Area = codes "AREA"
name_of Found = codes "FOUND"
name_of Fresh = codes "FRESH"
name_of Manager = codes "MANAGER"
name_of Version = codes "VERSION"
name_of Role = codes "ROLE"
name_of Change = codes "CHANGE"
name_of Ended = codes "ENDED"
name_of Key = codes "KEY"
name_of Limit = codes "LIMIT"
name_of Subscription = codes "SUBSCRIPTION"
name_of Depended = codes "DEPENDED"

-- The HTTP status of a denial by the rule.
abbrev pub status_of : Rule → ℕ
status_of Route = 404
status_of Method = 405
status_of Token = 401
status_of Scope = 403
status_of Form = 400
status_of Area = 413
status_of Found = 404
status_of Fresh = 409
status_of Manager = 403
status_of Version = 409
status_of Role = 403
status_of Change = 400
status_of Ended = 400
status_of Key = 409
status_of Limit = 503
status_of Subscription = 400
status_of Depended = 409
