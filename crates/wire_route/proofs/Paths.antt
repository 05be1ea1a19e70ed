-- Lemmas: every path of an endpoint is found, and it has one endpoint and one list of parameters.
use Rattle.std.proofs.Common.{◌≡◌, ℕ, suc, ◌<◌, ◌+◌, List, [], ◌∷◌, ◌++◌, length, Bool, true, false, cond, Option, Some, None, option_map, refl, sym, ap, subst, ◌∙◌, arith, ◌==◌, MatchOption, Bor}
use Rattle.std.proofs.Common.{take, drop}
use Rattle.std.proofs.lemmas.Bool.{and_parts, or_parts, eqb-true, false≢true}
use Rattle.std.specs.Prelude.{codes, not, ◌||◌}
use Rattle.std.specs.Str.Pattern.{FindsTextPrefix}
use Rattle.std.specs.List.{position_or_len, before_first, after_first}
use Rattle.matchit.proofs.OnLiterals.{matchit_on_literals}
use Rattle.matchit.proofs.LookupLemmas.{append-cancel}
use Rattle.matchit.proofs.RenameLemmas.{first-rename}
use Rattle.matchit.specs.Rows.{RowsOf}
use Rattle.matchit.specs.Router.{RouteOf, rename, map_key}
use Rattle.matchit.specs.Seek.{first}
use Rattle.matchit.specs.Seek as seek
use Rattle.entity_core.specs.declared.nature.Kind.{Kind}
use Rattle.entity_core.specs.declared.nature.Kind.TheVariants.{Intent, Constraint}
use Rattle.wire_body.specs.Body.{Words}
use Rattle.wire_route.specs.declared.endpoint.Endpoint.{Endpoint}
use Rattle.wire_route.specs.declared.endpoint.Endpoint.TheVariants.{Query, Entity, EntityAtOvn, Availability, SubscriptionQuery, Subscription, SubscriptionAtVersion}
use Rattle.wire_route.specs.Endpoint.{references_of, subscriptions, front_of}
use Rattle.wire_route.specs.Route.{has_slash, is_part, may_be_id, two_parameters, AreTwoWords, AreWordsOf, IsRoute, HasNoRoute}
use Rattle.wire_route.specs.Table.{table, with_route, named_endpoint}
use Rattle.wire_route.proofs.Seeks.{is_plain, steps, pass, seek-empty, leaf, single, two_parts, last_part}

-- ---- slashes

same_slash : (w : List ℕ) → seek.has_slash w ≡ has_slash w
same_slash [] = refl
same_slash (b ∷ w) = elim (b == 47) as (λ c. cond c true (seek.has_slash w) ≡ (c || has_slash w)) [ true ↦ refl | false ↦ same_slash w ]

no_slash : (w : List ℕ) → has_slash w ≡ false → seek.has_slash w ≡ false
no_slash w e = same_slash w ∙ e

slash_between : (a b : List ℕ) → has_slash (a ++ 47 ∷ b) ≡ true
slash_between [] b = refl
slash_between (x ∷ a) b = elim (x == 47) as (λ c. (c || has_slash (a ++ 47 ∷ b)) ≡ true) [ true ↦ refl | false ↦ slash_between a b ]

-- A text without a slash before its end has no slash.
pub lacks : (s : List ℕ) → position_or_len (λ b. b == 47) s ≡ length s → has_slash s ≡ false
lacks [] e = refl
lacks (x ∷ s) e = by (x == 47) refl e (lacks s)
  where
    by : (c : Bool) → (x == 47) ≡ c → cond (not c) (1 + position_or_len (λ b. b == 47) s) 0 ≡ suc (length s)
        → (position_or_len (λ b. b == 47) s ≡ length s → has_slash s ≡ false) → (c || has_slash s) ≡ false
    by true q e2 ih = absurd (omega (arith, e2))
    by false q e2 ih = ih (omega (arith, e2))

-- A text with a slash is split by its first slash.
pub around_slash : (s : List ℕ) → position_or_len (λ b. b == 47) s < length s
    → (s ≡ before_first (λ b. b == 47) s ++ 47 ∷ after_first (λ b. b == 47) s) × (has_slash (before_first (λ b. b == 47) s) ≡ false)
around_slash [] l = absurd (omega arith)
around_slash (x ∷ s) l = by (x == 47) refl l (around_slash s)
  where
    by : (c : Bool) → (x == 47) ≡ c → cond (not c) (1 + position_or_len (λ b. b == 47) s) 0 < suc (length s)
        → (position_or_len (λ b. b == 47) s < length s
        → (s ≡ before_first (λ b. b == 47) s ++ 47 ∷ after_first (λ b. b == 47) s) × (has_slash (before_first (λ b. b == 47) s) ≡ false))
        → let n : ℕ = cond (not c) (1 + position_or_len (λ b. b == 47) s) 0 in
        (x ∷ s ≡ take n (x ∷ s) ++ 47 ∷ drop (n + 1) (x ∷ s)) × (has_slash (take n (x ∷ s)) ≡ false)
    by true q m ih = let same : x ≡ 47 = eqb-true x 47 q in (ap (λ v. v ∷ s) same, refl)
    by false q m ih =
        let at : ℕ = position_or_len (λ b. b == 47) s in
        let e : 1 + at ≡ suc at = omega arith in
        let f : 1 + at + 1 ≡ suc (at + 1) = omega arith in
        let r = ih (omega (arith, m)) in
        rw (f, e, q) (ap (λ z. x ∷ z) r.0, r.1)

tail_lacks : (x : ℕ) (a : List ℕ) → has_slash (x ∷ a) ≡ false → has_slash a ≡ false
tail_lacks x a p = (or_parts (x == 47) (has_slash a) p).1

-- The split of a text by its first slash is unique.
pub one_split : (a b c d : List ℕ) → has_slash a ≡ false → has_slash c ≡ false → a ++ 47 ∷ b ≡ c ++ 47 ∷ d → (a ≡ c) × (b ≡ d)
one_split [] b [] d p q e = (refl, cc)
one_split [] b (y ∷ c) d p q e =
    let same : 47 ≡ y = cc in let bad : has_slash (47 ∷ c) ≡ false = subst (λ v. has_slash (v ∷ c) ≡ false) (sym same) q in absurd (false≢true (sym bad))
one_split (x ∷ a) b [] d p q e =
    let same : x ≡ 47 = cc in let bad : has_slash (47 ∷ a) ≡ false = subst (λ v. has_slash (v ∷ a) ≡ false) same p in absurd (false≢true (sym bad))
one_split (x ∷ a) b (y ∷ c) d p q e =
    let head : x ≡ y = cc in
    let tail : a ++ 47 ∷ b ≡ c ++ 47 ∷ d = cc in
    let rest = one_split a b c d (tail_lacks x a p) (tail_lacks y c q) tail in
    ((let same : a ≡ c = rest.0 in cc), rest.1)

-- ---- path segments

-- A segment is not empty and has no slash.
some_bytes : (w : List ℕ) → is_part w ≡ true → 0 < length w
some_bytes [] e = absurd (false≢true e)
some_bytes (b ∷ w) e = omega arith

part_lacks : (w : List ℕ) → is_part w ≡ true → has_slash w ≡ false
part_lacks w e = by (has_slash w) (and_parts _ _ e).1
  where
    by : (c : Bool) → not c ≡ true → c ≡ false
    by true x = absurd (false≢true x)
    by false x = refl

not_query : (w : List ℕ) → may_be_id w ≡ true → w ≡ codes "query" → ⊥
not_query w e same =
    let bad : may_be_id (codes "query") ≡ true = subst (λ (v : List ℕ). may_be_id v ≡ true) same e in false≢true bad

pub two_are : (rest id ovn : List ℕ) (words : Words) → rest ≡ id ++ 47 ∷ ovn → has_slash id ≡ false → (a : AreTwoWords rest words) → (a.id ≡ id) × (a.ovn ≡ ovn)
two_are rest id ovn words e p a =
    one_split a.id a.ovn id ovn (part_lacks a.id (and_parts _ _ a.names).0) p (sym a.splits ∙ e)

same_two : (rest : List ℕ) (v w : Words) → AreTwoWords rest v → AreTwoWords rest w → w ≡ v
same_two rest v w x y =
    let same = two_are rest x.id x.ovn w x.splits (part_lacks x.id (and_parts _ _ x.names).0) y in
    y.words_are ∙ ap (λ i. two_parameters i y.ovn) same.0 ∙ ap (two_parameters x.id) same.1 ∙ sym x.words_are

one_words : (endpoint : Endpoint) (rest : List ℕ) (v w : Words) → AreWordsOf endpoint rest v → AreWordsOf endpoint rest w → w ≡ v
one_words (Query kind) rest v w x y = y.1 ∙ sym x.1
one_words (Entity kind) rest v w x y = y.1 ∙ sym x.1
one_words (EntityAtOvn kind) rest v w x y = same_two rest v w x y
one_words Availability rest v w x y = y.1 ∙ sym x.1
one_words SubscriptionQuery rest v w x y = y.1 ∙ sym x.1
one_words Subscription rest v w x y = y.1 ∙ sym x.1
one_words SubscriptionAtVersion rest v w x y = same_two rest v w x y

-- ---- the table

places : RowsOf Endpoint
places = rename (λ (r : RouteOf Endpoint). r.value) table

mapped : (x : Option (RouteOf Endpoint)) → option_map (λ r. r.value) x ≡ map_key (λ r. r.value) x
mapped None = refl
mapped (Some r) = refl

named_is : (path : List ℕ) → named_endpoint path ≡ seek.seek 0 places path
unfolding places
named_is path = mapped (first table path) ∙ sym (first-rename (λ r. r.value) table path)

references_plain : (kind : Kind) → is_plain (references_of kind) places ≡ true
unfolding places matchit_on_literals table with_route
references_plain Intent = refl
references_plain Constraint = refl

references_steps : (kind : Kind) → steps (references_of kind) places ≡ leaf (Query kind) (EntityAtOvn kind) (Entity kind)
unfolding places matchit_on_literals table with_route
references_steps Intent = refl
references_steps Constraint = refl

availability_plain : is_plain (front_of Availability) places ≡ true
unfolding places matchit_on_literals table with_route
availability_plain = refl

availability_steps : steps (front_of Availability) places ≡ (256 ∷ [], Availability) ∷ []
unfolding places matchit_on_literals table with_route
availability_steps = refl

subscriptions_plain : is_plain subscriptions places ≡ true
unfolding places matchit_on_literals table with_route
subscriptions_plain = refl

subscriptions_steps : steps subscriptions places ≡ leaf SubscriptionQuery SubscriptionAtVersion Subscription
unfolding places matchit_on_literals table with_route
subscriptions_steps = refl

-- Holds if a prefix leads to the endpoint of a query, that of an id, and that of an id with a
-- segment after it.
record LeadsTo (front : List ℕ) (query id at : Endpoint) : Type 0 where
  plain : is_plain front places ≡ true
  rest_is : steps front places ≡ leaf query at id

references_lead : (kind : Kind) → LeadsTo (references_of kind) (Query kind) (Entity kind) (EntityAtOvn kind)
references_lead kind = record { plain = references_plain kind; rest_is = references_steps kind }

subscriptions_lead : LeadsTo subscriptions SubscriptionQuery Subscription SubscriptionAtVersion
subscriptions_lead = record { plain = subscriptions_plain; rest_is = subscriptions_steps }

-- The endpoint of a path with such a prefix follows from what is after the prefix.
named_after : (front : List ℕ) (query id at : Endpoint) → LeadsTo front query id at → (rest : List ℕ) → named_endpoint (front ++ rest) ≡ seek.seek 0 (leaf query at id) rest
named_after front query id at leads rest =
    named_is (front ++ rest) ∙ pass front places rest leads.plain ∙ ap (λ (rows : RowsOf Endpoint). seek.seek 0 rows rest) leads.rest_is

query_named : (query id at : Endpoint) → seek.seek 0 (leaf query at id) (codes "query") ≡ Some query
unfolding matchit_on_literals
query_named query id at = refl

query_found : (front : List ℕ) (query id at : Endpoint) → LeadsTo front query id at → (rest : List ℕ) → rest ≡ codes "query" → named_endpoint (front ++ rest) ≡ Some query
query_found front query id at leads rest e =
    ap (λ v. named_endpoint (front ++ v)) e ∙ named_after front query id at leads (codes "query") ∙ query_named query id at

id_found : (front : List ℕ) (query id at : Endpoint) → LeadsTo front query id at → (w : List ℕ) → may_be_id w ≡ true → named_endpoint (front ++ w) ≡ Some id
id_found front query id at leads [] e = absurd (false≢true e)
id_found front query id at leads (b ∷ w) e =
    named_after front query id at leads (b ∷ w)
    ∙ single query at id b w (no_slash (b ∷ w) (part_lacks (b ∷ w) (and_parts _ _ e).0)) (not_query (b ∷ w) e)

parts_found : (front : List ℕ) (query id at : Endpoint) → LeadsTo front query id at → (first second : List ℕ) → may_be_id first ≡ true → is_part second ≡ true
    → named_endpoint (front ++ (first ++ 47 ∷ second)) ≡ Some at
parts_found front query id at leads [] second e f = absurd (false≢true e)
parts_found front query id at leads (b ∷ first) [] e f = absurd (false≢true f)
parts_found front query id at leads (b ∷ first) (c ∷ second) e f =
    named_after front query id at leads (b ∷ first ++ 47 ∷ c ∷ second)
    ∙ two_parts query at id b first c second (no_slash (b ∷ first) (part_lacks (b ∷ first) (and_parts _ _ e).0))
    (no_slash (c ∷ second) (part_lacks (c ∷ second) f))

two_found : (front : List ℕ) (query id at : Endpoint) → LeadsTo front query id at → (rest : List ℕ) (words : Words) → AreTwoWords rest words → named_endpoint (front ++ rest) ≡ Some at
two_found front query id at leads rest words x =
    ap (λ v. named_endpoint (front ++ v)) x.splits ∙ parts_found front query id at leads x.id x.ovn x.names x.part

supplier_found : (w : List ℕ) → is_part w ≡ true → named_endpoint (front_of Availability ++ w) ≡ Some Availability
supplier_found [] e = absurd (false≢true e)
supplier_found (b ∷ w) e =
    named_is (front_of Availability ++ b ∷ w) ∙ pass (front_of Availability) places (b ∷ w) availability_plain
    ∙ ap (λ (rows : RowsOf Endpoint). seek.seek 0 rows (b ∷ w)) availability_steps ∙ last_part Availability b w (no_slash (b ∷ w) (part_lacks (b ∷ w) e))

-- The router finds every path of an endpoint.
at_rest : (endpoint : Endpoint) (rest : List ℕ) (words : Words) → AreWordsOf endpoint rest words → named_endpoint (front_of endpoint ++ rest) ≡ Some endpoint
at_rest (Query kind) rest words x = query_found (references_of kind) (Query kind) (Entity kind) (EntityAtOvn kind) (references_lead kind) rest x.0
at_rest (Entity kind) rest words x = id_found (references_of kind) (Query kind) (Entity kind) (EntityAtOvn kind) (references_lead kind) rest x.0
at_rest (EntityAtOvn kind) rest words x = two_found (references_of kind) (Query kind) (Entity kind) (EntityAtOvn kind) (references_lead kind) rest words x
at_rest Availability rest words x = supplier_found rest x.0
at_rest SubscriptionQuery rest words x = query_found subscriptions SubscriptionQuery Subscription SubscriptionAtVersion subscriptions_lead rest x.0
at_rest Subscription rest words x = id_found subscriptions SubscriptionQuery Subscription SubscriptionAtVersion subscriptions_lead rest x.0
at_rest SubscriptionAtVersion rest words x = two_found subscriptions SubscriptionQuery Subscription SubscriptionAtVersion subscriptions_lead rest words x

pub found : (path : List ℕ) (endpoint : Endpoint) (words : Words) → IsRoute path endpoint words → named_endpoint path ≡ Some endpoint
found path endpoint words (rest, e, x) = ap named_endpoint e ∙ at_rest endpoint rest words x

-- A path leads to one endpoint, and has one list of parameters there.
one_rest : (endpoint : Endpoint) (path a b : List ℕ) → path ≡ front_of endpoint ++ a → path ≡ front_of endpoint ++ b → b ≡ a
one_rest endpoint path a b x y = append-cancel (front_of endpoint) b a (sym y ∙ x)

pub one_route : (path : List ℕ) (p q : Endpoint) (v w : Words) → IsRoute path p v → IsRoute path q w → (q ≡ p) × (w ≡ v)
one_route path p q v w x y =
    let named : Some q ≡ Some p = sym (found path q w y) ∙ found path p v x in
    let endpoint : q ≡ p = cc in
    let at : IsRoute path p w = subst (λ (z : Endpoint). IsRoute path z w) endpoint y in
    let rest : at.0 ≡ x.0 = one_rest p path x.0 at.0 x.1 at.1 in
    let words : AreWordsOf p x.0 w = subst (λ (z : List ℕ). AreWordsOf p z w) rest at.2 in
    (endpoint, one_words p x.0 v w x.2 words)

-- ---- what the code finds

-- The text after a prefix that was stripped.
pub stripped : (front path rest : List ℕ) (n : ℕ) → FindsTextPrefix front path (Some n) → rest ≡ drop n path → path ≡ front ++ rest
stripped front path rest n (len, split, cut) e = split ∙ ap (λ v. front ++ v) (sym e)

pub halved : (s : List ℕ) (r : Option (Bor (List ℕ) × Bor (List ℕ)))
    → MatchOption r (position_or_len (λ b. b == 47) s ≡ length s)
    (λ x. (x.0.now ≡ before_first (λ b. b == 47) s) × (x.1.now ≡ after_first (λ b. b == 47) s) × (position_or_len (λ b. b == 47) s < length s))
    → MatchOption r (has_slash s ≡ false) (λ half. (s ≡ half.0.now ++ 47 ∷ half.1.now) × (has_slash half.0.now ≡ false))
halved s None h = lacks s h
halved s (Some x) h = let r = around_slash s h.2 in rw (h.0, h.1) r

pub not_halved : (rest : List ℕ) (words : Words) → has_slash rest ≡ false → AreTwoWords rest words → ⊥
not_halved rest words e a =
    let bad : has_slash rest ≡ true = ap has_slash a.splits ∙ slash_between a.id a.ovn in
    false≢true (sym e ∙ bad)

pub not_named : (rest id ovn : List ℕ) (words : Words) → rest ≡ id ++ 47 ∷ ovn → has_slash id ≡ false → may_be_id id ≡ false → AreTwoWords rest words → ⊥
not_named rest id ovn words e p n a =
    let same = two_are rest id ovn words e p a in
    let bad : may_be_id id ≡ true = subst (λ (z : List ℕ). may_be_id z ≡ true) same.0 a.names in
    false≢true (sym n ∙ bad)

pub not_part : (rest id ovn : List ℕ) (words : Words) → rest ≡ id ++ 47 ∷ ovn → has_slash id ≡ false → is_part ovn ≡ false → AreTwoWords rest words → ⊥
not_part rest id ovn words e p n a =
    let same = two_are rest id ovn words e p a in
    let bad : is_part ovn ≡ true = subst (λ (z : List ℕ). is_part z ≡ true) same.1 a.part in
    false≢true (sym n ∙ bad)

pub nowhere : (path : List ℕ) → named_endpoint path ≡ None → HasNoRoute path
nowhere path e endpoint words x = let bad : Some endpoint ≡ None = sym (found path endpoint words x) ∙ e in cc

-- If the router finds an endpoint, but the path is not one of its paths, the path has no route.
pub not_there : (path : List ℕ) (endpoint : Endpoint) → named_endpoint path ≡ Some endpoint → ((words : Words) → IsRoute path endpoint words → ⊥) → HasNoRoute path
not_there path endpoint e none other words x =
    let same : Some other ≡ Some endpoint = sym (found path other words x) ∙ e in
    let is : other ≡ endpoint = cc in
    none words (subst (λ (z : Endpoint). IsRoute path z words) is x)

pub wrong_front : (path : List ℕ) (endpoint : Endpoint) → named_endpoint path ≡ Some endpoint → ((rest : List ℕ) → path ≡ front_of endpoint ++ rest → ⊥) → HasNoRoute path
wrong_front path endpoint e none = not_there path endpoint e (λ words x. none x.0 x.1)

pub wrong_words : (path rest : List ℕ) (endpoint : Endpoint) → named_endpoint path ≡ Some endpoint → path ≡ front_of endpoint ++ rest
    → ((words : Words) → AreWordsOf endpoint rest words → ⊥) → HasNoRoute path
wrong_words path rest endpoint e split none =
    not_there path endpoint e (λ words x. none words (subst (λ (z : List ℕ). AreWordsOf endpoint z words) (one_rest endpoint path rest x.0 split x.1) x.2))

-- ---- samples

-- Neither an OVN nor a version may follow `query`.
named_past : named_endpoint (codes "/dss/v1/operational_intent_references/query/x") ≡ Some (EntityAtOvn Intent)
unfolding matchit_on_literals table with_route
named_past = refl

named_past_subscriptions : named_endpoint (codes "/dss/v1/subscriptions/query/x") ≡ Some SubscriptionAtVersion
unfolding matchit_on_literals table with_route
named_past_subscriptions = refl

no_words_past : (words : Words) → AreTwoWords (codes "query/x") words → ⊥
no_words_past words a = not_query a.id a.names (two_are (codes "query/x") (codes "query") (codes "x") words refl refl a).0

pub past_query : HasNoRoute (codes "/dss/v1/operational_intent_references/query/x")
past_query = wrong_words (codes "/dss/v1/operational_intent_references/query/x") (codes "query/x") (EntityAtOvn Intent) named_past refl no_words_past

pub past_subscription_query : HasNoRoute (codes "/dss/v1/subscriptions/query/x")
past_subscription_query = wrong_words (codes "/dss/v1/subscriptions/query/x") (codes "query/x") SubscriptionAtVersion named_past_subscriptions refl no_words_past

-- The two parameters of a path.
pub both : (id ovn : List ℕ) → may_be_id id ≡ true → is_part ovn ≡ true → AreTwoWords (id ++ 47 ∷ ovn) (two_parameters id ovn)
both id ovn e f = record { id = id; ovn = ovn; splits = refl; names = e; part = f; words_are = refl }

-- A path with a text with which no route begins has no route.
lost : (text rest : List ℕ) → is_plain text places ≡ true → steps text places ≡ [] → HasNoRoute (text ++ rest)
lost text rest plain none =
    nowhere (text ++ rest)
    (named_is (text ++ rest) ∙ pass text places rest plain ∙ ap (λ (rows : RowsOf Endpoint). seek.seek 0 rows rest) none ∙ seek-empty 0 rest)

pub other : HasNoRoute (codes "/dss/v1/reports/a")
unfolding places matchit_on_literals table with_route
other = lost (codes "/dss/v1/r") (codes "eports/a") refl refl

pub one_subscription : HasNoRoute (codes "/dss/v1/subscription/d1")
unfolding places matchit_on_literals table with_route
one_subscription = lost (codes "/dss/v1/subscription/") (codes "d1") refl refl

pub no_front : HasNoRoute (codes "dss/v1/uss_availability/a")
unfolding places matchit_on_literals table with_route
no_front = lost (codes "d") (codes "ss/v1/uss_availability/a") refl refl

ends_at : named_endpoint (codes "/dss/v1/operational_intent_references" ++ []) ≡ None
unfolding places matchit_on_literals table with_route
ends_at =
    named_is (codes "/dss/v1/operational_intent_references") ∙ pass (codes "/dss/v1/operational_intent_references") places [] refl
    ∙ refl

pub no_slash_there : HasNoRoute (codes "/dss/v1/operational_intent_references")
no_slash_there = nowhere (codes "/dss/v1/operational_intent_references") ends_at

-- The same holds after the prefix of references.
gap : (rest : List ℕ) → seek.seek 0 (leaf (Query Intent) (EntityAtOvn Intent) (Entity Intent)) rest ≡ None → HasNoRoute (references_of Intent ++ rest)
gap rest e = nowhere (references_of Intent ++ rest) (named_after (references_of Intent) (Query Intent) (Entity Intent) (EntityAtOvn Intent) (references_lead Intent) rest ∙ e)

pub no_ovn : HasNoRoute (codes "/dss/v1/operational_intent_references/a1/")
unfolding matchit_on_literals
no_ovn = gap (codes "a1/") refl

pub no_word : HasNoRoute (codes "/dss/v1/operational_intent_references/")
unfolding matchit_on_literals
no_word = gap [] refl

pub three_words : HasNoRoute (codes "/dss/v1/operational_intent_references/a1/o1/x")
unfolding matchit_on_literals
three_words = gap (codes "a1/o1/x") refl

-- The same holds after the prefix of subscriptions.
subscription_gap : (rest : List ℕ) → seek.seek 0 (leaf SubscriptionQuery SubscriptionAtVersion Subscription) rest ≡ None → HasNoRoute (subscriptions ++ rest)
subscription_gap rest e = nowhere (subscriptions ++ rest) (named_after subscriptions SubscriptionQuery Subscription SubscriptionAtVersion subscriptions_lead rest ∙ e)

pub no_version : HasNoRoute (codes "/dss/v1/subscriptions/d1/")
unfolding matchit_on_literals
no_version = subscription_gap (codes "d1/") refl

pub no_subscription : HasNoRoute (codes "/dss/v1/subscriptions/")
unfolding matchit_on_literals
no_subscription = subscription_gap [] refl

pub three_subscription_words : HasNoRoute (codes "/dss/v1/subscriptions/d1/o1/x")
unfolding matchit_on_literals
three_subscription_words = subscription_gap (codes "d1/o1/x") refl

-- The same holds after the prefix of USSs.
supplier_gap : (rest : List ℕ) → seek.seek 0 ((256 ∷ [], Availability) ∷ []) rest ≡ None → HasNoRoute (front_of Availability ++ rest)
supplier_gap rest e =
    nowhere (front_of Availability ++ rest)
    (named_is (front_of Availability ++ rest) ∙ pass (front_of Availability) places rest availability_plain
    ∙ ap (λ (rows : RowsOf Endpoint). seek.seek 0 rows rest) availability_steps ∙ e)

pub no_supplier : HasNoRoute (codes "/dss/v1/uss_availability/")
unfolding matchit_on_literals
no_supplier = supplier_gap [] refl

pub two_suppliers : HasNoRoute (codes "/dss/v1/uss_availability/a/b")
unfolding matchit_on_literals
two_suppliers = supplier_gap (codes "a/b") refl
