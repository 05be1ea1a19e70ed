-- The endpoints of the service, and the methods that each of them allows.
use Rattle.std.specs.Prelude.{ℕ, List, [], ◌∷◌, ◌++◌, codes, if◌then◌else◌, Option, Some, None}
use Rattle.std.specs.Str.{bytes_eq}
use Rattle.entity_core.specs.declared.nature.Kind.{Kind}
use Rattle.entity_core.specs.declared.nature.Kind.TheVariants.{Intent, Constraint}
use Rattle.policy_core.specs.declared.call.OpKind.{OpKind}
use Rattle.policy_core.specs.declared.call.OpKind.TheVariants as kinds
use Rattle.wire_route.specs.declared.endpoint.Endpoint.{Endpoint}
use Rattle.wire_route.specs.declared.endpoint.Endpoint.TheVariants.{Query, Entity, EntityAtOvn, Availability, SubscriptionQuery, Subscription, SubscriptionAtVersion}

-- The prefix of the paths to references of a kind.
abbrev pub references_of : Kind → List ℕ
references_of Intent = codes "/dss/v1/operational_intent_references/"
references_of Constraint = codes "/dss/v1/constraint_references/"

-- The prefix of the paths to subscriptions.
abbrev pub subscriptions : List ℕ
subscriptions = codes "/dss/v1/subscriptions/"

-- The prefix of the paths of an endpoint.
abbrev pub front_of : Endpoint → List ℕ
front_of (Query kind) = references_of kind
front_of (Entity kind) = references_of kind
front_of (EntityAtOvn kind) = references_of kind
front_of Availability = codes "/dss/v1/uss_availability/"
front_of SubscriptionQuery = subscriptions
front_of Subscription = subscriptions
front_of SubscriptionAtVersion = subscriptions

-- The route of an endpoint, with its parameters in braces.
abbrev pub route_of : Endpoint → List ℕ
route_of (Query kind) = references_of kind ++ codes "query"
route_of (Entity kind) = references_of kind ++ codes "{entityid}"
route_of (EntityAtOvn kind) = references_of kind ++ codes "{entityid}/{ovn}"
route_of Availability = codes "/dss/v1/uss_availability/{uss_id}"
route_of SubscriptionQuery = subscriptions ++ codes "query"
route_of Subscription = subscriptions ++ codes "{subscriptionid}"
route_of SubscriptionAtVersion = subscriptions ++ codes "{subscriptionid}/{version}"

-- Methods by name, each with its kind of operation.
abbrev pub Methods : Type 0
Methods = List (List ℕ × OpKind)

-- The methods that an endpoint allows.
abbrev pub methods_of : Endpoint → Methods
methods_of (Query kind) = (codes "POST", kinds.Query kind) ∷ []
methods_of (Entity kind) = (codes "GET", kinds.Read kind) ∷ (codes "PUT", kinds.Create kind) ∷ []
methods_of (EntityAtOvn kind) = (codes "PUT", kinds.Update kind)
    ∷ (codes "DELETE", kinds.Delete kind) ∷ []
methods_of Availability = (codes "GET", kinds.ReadAvail) ∷ (codes "PUT", kinds.SetAvail) ∷ []
methods_of SubscriptionQuery = (codes "POST", kinds.QuerySub) ∷ []
methods_of Subscription = (codes "GET", kinds.ReadSub) ∷ (codes "PUT", kinds.CreateSub) ∷ []
methods_of SubscriptionAtVersion = (codes "PUT", kinds.UpdateSub)
    ∷ (codes "DELETE", kinds.DeleteSub) ∷ []

-- The kind of operation of a method. Names are compared with case.
abbrev pub kind_among : Methods → List ℕ → Option OpKind
kind_among [] method = None
kind_among ((name, kind) ∷ more) method =
    if bytes_eq method name then Some kind else kind_among more method

abbrev pub kind_at : Endpoint → List ℕ → Option OpKind
kind_at endpoint method = kind_among (methods_of endpoint) method

-- The names of methods in order, separated by commas.
abbrev pub names_of : Methods → List ℕ
names_of [] = []
names_of ((name, kind) ∷ []) = name
names_of ((name, kind) ∷ next ∷ more) = name ++ codes ", " ++ names_of (next ∷ more)

-- The value of the field Allow at an endpoint.
abbrev pub allow_of : Endpoint → List ℕ
allow_of endpoint = names_of (methods_of endpoint)
