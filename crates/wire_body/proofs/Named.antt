-- Lemmas: a put is read only from its own members.
use Rattle.std.proofs.Common.{◌≡◌, ℕ, List, codes, refl, inl, inr}
use Rattle.serde_json.specs.Data.{Data}
use Rattle.entity_core.specs.declared.nature.Kind.{Kind}
use Rattle.entity_core.specs.declared.nature.Kind.TheVariants.{Intent, Constraint}
use Rattle.wire_body.specs.Laws.{IgnoresOthers, IgnoresOthersOfSubs}
use Rattle.wire_body.specs.Member.{member_of}
use Rattle.wire_body.specs.Naming.{naming_of}
use Rattle.wire_body.specs.Put.{put_of, nature_of, volumes_of, key_of, url_of}
use Rattle.wire_body.specs.SubPut.{sub_put_of, interest_of, flag_of, volume_of}

same_volumes : (d e : Data) → member_of (codes "extents") d ≡ member_of (codes "extents") e → volumes_of d ≡ volumes_of e
unfolding volumes_of
same_volumes d e same = rw same refl

same_url : (d e : Data) → member_of (codes "uss_base_url") d ≡ member_of (codes "uss_base_url") e → url_of d ≡ url_of e
unfolding url_of
same_url d e same = rw same refl

same_naming : (d e : Data) → member_of (codes "subscription_id") d ≡ member_of (codes "subscription_id") e → naming_of d ≡ naming_of e
unfolding naming_of
same_naming d e same = rw same refl

same_nature : (d e : Data) → member_of (codes "state") d ≡ member_of (codes "state") e → naming_of d ≡ naming_of e → nature_of Intent d ≡ nature_of Intent e
unfolding nature_of
same_nature d e state named = rw (state, named) refl

same_key : (d e : Data) → member_of (codes "key") d ≡ member_of (codes "key") e → key_of Intent d ≡ key_of Intent e
unfolding key_of
same_key d e same = rw same refl

no_nature : (d e : Data) → nature_of Constraint d ≡ nature_of Constraint e
unfolding nature_of
no_nature d e = refl

no_key : (d e : Data) → key_of Constraint d ≡ key_of Constraint e
unfolding key_of
no_key d e = refl

same_put : (kind : Kind) (d e : Data) → nature_of kind d ≡ nature_of kind e → volumes_of d ≡ volumes_of e → key_of kind d ≡ key_of kind e → url_of d ≡ url_of e → put_of kind d ≡ put_of kind e
unfolding put_of
same_put kind d e nature volumes key url = rw (nature, volumes, key, url) refl

pub ignores_others_lem : IgnoresOthers
ignores_others_lem Intent d e same =
    let named = same_naming d e (same (codes "subscription_id") (inr (inr (inr (inr refl))))) in
    same_put Intent d e (same_nature d e (same (codes "state") (inr (inr (inl refl)))) named) (same_volumes d e (same (codes "extents") (inl refl)))
    (same_key d e (same (codes "key") (inr (inr (inr (inl refl)))))) (same_url d e (same (codes "uss_base_url") (inr (inl refl))))
ignores_others_lem Constraint d e same =
    same_put Constraint d e (no_nature d e) (same_volumes d e (same (codes "extents") (inl refl))) (no_key d e) (same_url d e (same (codes "uss_base_url") (inr refl)))

-- ---- subscriptions

same_flag : (name : List ℕ) (d e : Data) → member_of name d ≡ member_of name e → flag_of name d ≡ flag_of name e
unfolding flag_of
same_flag name d e same = rw same refl

same_interest : (d e : Data) → flag_of (codes "notify_for_operational_intents") d ≡ flag_of (codes "notify_for_operational_intents") e
    → flag_of (codes "notify_for_constraints") d ≡ flag_of (codes "notify_for_constraints") e → interest_of d ≡ interest_of e
unfolding interest_of
same_interest d e intents constraints = rw (intents, constraints) refl

same_volume : (d e : Data) → member_of (codes "extents") d ≡ member_of (codes "extents") e → volume_of d ≡ volume_of e
unfolding volume_of
same_volume d e same = rw same refl

same_sub_put : (d e : Data) → interest_of d ≡ interest_of e → volume_of d ≡ volume_of e → url_of d ≡ url_of e → sub_put_of d ≡ sub_put_of e
unfolding sub_put_of
same_sub_put d e interest volume url = rw (interest, volume, url) refl

pub ignores_others_of_subs_lem : IgnoresOthersOfSubs
ignores_others_of_subs_lem d e same =
    let intents = same_flag (codes "notify_for_operational_intents") d e (same (codes "notify_for_operational_intents") (inr (inr (inl refl)))) in
    let constraints = same_flag (codes "notify_for_constraints") d e (same (codes "notify_for_constraints") (inr (inr (inr refl)))) in
    same_sub_put d e (same_interest d e intents constraints) (same_volume d e (same (codes "extents") (inl refl))) (same_url d e (same (codes "uss_base_url") (inr (inl refl))))
