-- Lemmas: the links of one more change, and what linked entries tell.
use Rattle.std.proofs.Common.{◌≡◌, ◌⊎◌, inl, inr, ℕ, zero, suc, ◌<◌, List, [], ◌∷◌, ◌++◌, length, take, Option, Some, None, refl, sym, ◌∙◌, ap, subst, arith, append_assoc}
use Rattle.std.proofs.lemmas.List.{append-nil, take_all}
use Rattle.std.specs.Prelude.{Contains}
use Rattle.pool_chain.specs.declared.link.Judgement.{Judgement}
use Rattle.pool_chain.specs.declared.link.Judgement.TheVariants.{Same, Differs, Old, Ahead}
use Rattle.pool_chain.specs.declared.link.Link.{Link as Linking}
use Rattle.pool_chain.specs.Chain.{AllFit, Collision}
use Rattle.pool_chain.specs.Item.{Item}
use Rattle.pool_chain.specs.Judged.{KeepsMore, KeptDecides, OwnLinkIsSame, SameLinkSameItems, judgement_in, judgement_of, link_of}
use Rattle.pool_chain.specs.Known.{Keeps, Known, kept_more}
use Rattle.pool_etcd.specs.declared.line_links.Verdict.{Verdict}
use Rattle.pool_etcd.specs.declared.log_value.LogEntry.{LogEntry}
use Rattle.pool_etcd.specs.declared.log_value.LogValue.{LogValue}
use Rattle.pool_etcd.specs.declared.log_value.LogValue.TheVariants.{Entry, Link, Fence, Suppliers, Other}
use Rattle.pool_etcd.specs.declared.watch_line.Change.{Change}
use Rattle.pool_etcd.specs.Admitted.{list_after}
use Rattle.pool_etcd.specs.Following.{HasValues, pool_after}
use Rattle.pool_etcd.specs.Linked.{LinkedEntriesShareChanges, entry_by, item_of, items_of, kept_after, linked, linked_in, unlinked, unlinked_in, verdicts, verdicts_in}

-- ---- one more change

pub kept_then : (k : Known) (cs : List Change) (c : Change) → kept_after k (cs ++ c ∷ []) ≡ kept_more (kept_after k cs) (item_of c)
kept_then k [] c = refl
kept_then k (d ∷ cs) c = kept_then (kept_more k (item_of d)) cs c

not_nil : (v : LogValue) (vs : List LogValue) → v ∷ vs ≡ [] → ⊥
not_nil v vs e = cc

pub linked_then : (k : Known) (cs : List Change) (vs : List LogValue) (c : Change) (v : LogValue) → HasValues cs vs
    → linked_in k (cs ++ c ∷ []) (vs ++ v ∷ []) ≡ linked_in k cs vs ++ linked (kept_after k cs) v ∷ []
linked_then k [] [] c v h = refl
linked_then k [] (w ∷ vs) c v h = absurd (not_nil w vs h)
linked_then k (d ∷ cs) [] c v h = absurd h
linked_then k (d ∷ cs) (w ∷ vs) c v h = ap (λ (us : List LogValue). linked k w ∷ us) (linked_then (kept_more k (item_of d)) cs vs c v h.1)

pub verdicts_then : (k : Known) (cs : List Change) (vs : List LogValue) (c : Change) (v : LogValue) → HasValues cs vs
    → verdicts_in k (cs ++ c ∷ []) (vs ++ v ∷ []) ≡ verdicts_in k cs vs ++ verdicts (kept_after k cs) v
verdicts_then k [] [] c v h = append-nil (verdicts k v)
verdicts_then k [] (w ∷ vs) c v h = absurd (not_nil w vs h)
verdicts_then k (d ∷ cs) [] c v h = absurd h
verdicts_then k (d ∷ cs) (w ∷ vs) c v h =
    ap (λ (us : List Verdict). verdicts k w ++ us) (verdicts_then (kept_more k (item_of d)) cs vs c v h.1)
    ∙ sym (append_assoc (verdicts k w) (verdicts_in (kept_more k (item_of d)) cs vs) (verdicts (kept_after (kept_more k (item_of d)) cs) v))

pub unlinked_then : (k : Known) (cs : List Change) (vs : List LogValue) (c : Change) (v : LogValue) → HasValues cs vs
    → unlinked_in k (cs ++ c ∷ []) (vs ++ v ∷ []) ≡ unlinked_in k cs vs ++ unlinked (kept_after k cs) v
unlinked_then k [] [] c v h = append-nil (unlinked k v)
unlinked_then k [] (w ∷ vs) c v h = absurd (not_nil w vs h)
unlinked_then k (d ∷ cs) [] c v h = absurd h
unlinked_then k (d ∷ cs) (w ∷ vs) c v h =
    ap (λ (us : List LogEntry). unlinked k w ++ us) (unlinked_then (kept_more k (item_of d)) cs vs c v h.1)
    ∙ sym (append_assoc (unlinked k w) (unlinked_in (kept_more k (item_of d)) cs vs) (unlinked (kept_after (kept_more k (item_of d)) cs) v))

-- ---- links change no settings and no supplier list

pool_entry : (j : Judgement) (e : LogEntry) (pool : Option ℕ) → pool_after pool (entry_by j e ∷ []) ≡ pool_after pool (Entry e ∷ [])
pool_entry Same e pool = refl
pool_entry (Differs own) e None = refl
pool_entry (Differs own) e (Some n) = refl
pool_entry Old e None = refl
pool_entry Old e (Some n) = refl
pool_entry Ahead e None = refl
pool_entry Ahead e (Some n) = refl

pub pool_linked : (k : Known) (v : LogValue) (pool : Option ℕ) → pool_after pool (linked k v ∷ []) ≡ pool_after pool (v ∷ [])
pool_linked k (Entry e) pool = pool_entry (judgement_in k e.link) e pool
pool_linked k (Link l) pool = refl
pool_linked k (Fence n) pool = refl
pool_linked k (Suppliers list) pool = refl
pool_linked k Other pool = refl

list_entry : (j : Judgement) (e : LogEntry) (list : List ℕ) (vs : List LogValue) → list_after list (entry_by j e ∷ vs) ≡ list_after list vs
list_entry Same e list vs = refl
list_entry (Differs own) e list vs = refl
list_entry Old e list vs = refl
list_entry Ahead e list vs = refl

pub one_list_linked : (k : Known) (v : LogValue) (list : List ℕ) → list_after list (linked k v ∷ []) ≡ list_after list (v ∷ [])
one_list_linked k (Entry e) list = list_entry (judgement_in k e.link) e list []
one_list_linked k (Link l) list = refl
one_list_linked k (Fence n) list = refl
one_list_linked k (Suppliers next) list = refl
one_list_linked k Other list = refl

pub list_linked : (k : Known) (cs : List Change) (vs : List LogValue) (list : List ℕ) → HasValues cs vs → list_after list (linked_in k cs vs) ≡ list_after list vs
list_linked k [] [] list h = refl
list_linked k [] (w ∷ vs) list h = absurd (not_nil w vs h)
list_linked k (d ∷ cs) [] list h = absurd h
list_linked k (d ∷ cs) (Entry e ∷ vs) list h =
    list_entry (judgement_in k e.link) e list (linked_in (kept_more k (item_of d)) cs vs) ∙ list_linked (kept_more k (item_of d)) cs vs list h.1
list_linked k (d ∷ cs) (Link l ∷ vs) list h = list_linked (kept_more k (item_of d)) cs vs list h.1
list_linked k (d ∷ cs) (Fence n ∷ vs) list h = list_linked (kept_more k (item_of d)) cs vs list h.1
list_linked k (d ∷ cs) (Suppliers next ∷ vs) list h = list_linked (kept_more k (item_of d)) cs vs next h.1
list_linked k (d ∷ cs) (Other ∷ vs) list h = list_linked (kept_more k (item_of d)) cs vs list h.1

-- ---- the entries that are linked

in_none : (v : LogValue) → Contains [] v → ⊥
in_none v among = let low : among.0 < 0 = among.1 in omega arith

in_more : (w : LogValue) (vs : List LogValue) (v : LogValue) → Contains (w ∷ vs) v → (w ≡ v) ⊎ Contains vs v
in_more w vs v (zero, low, is) = inl is
in_more w vs v (suc n, low, is) = inr (n, omega (arith, low), is)

-- An entry is linked only as itself, and its link is the same.
same_entry : (j : Judgement) (f e : LogEntry) → entry_by j f ≡ Entry e → (j ≡ Same) × (f ≡ e)
same_entry Same f e is = (refl, cc)
same_entry (Differs own) f e is = let h : ⊥ = cc in absurd h
same_entry Old f e is = let h : ⊥ = cc in absurd h
same_entry Ahead f e is = let h : ⊥ = cc in absurd h

same_linked : (k : Known) (v : LogValue) (e : LogEntry) → linked k v ≡ Entry e → judgement_in k e.link ≡ Same
same_linked k (Entry f) e is =
    let same = same_entry (judgement_in k f.link) f e is in
    ap (λ (x : LogEntry). judgement_in k x.link) (sym same.1) ∙ same.0
same_linked k (Link l) e is = let h : ⊥ = cc in absurd h
same_linked k (Fence n) e is = let h : ⊥ = cc in absurd h
same_linked k (Suppliers list) e is = let h : ⊥ = cc in absurd h
same_linked k Other e is = let h : ⊥ = cc in absurd h

-- The place of a linked entry.
record Place (items : List Item) (changes : List Change) (e : LogEntry) : Type 0 where
  before : List Change
  change : Change
  after : List Change
  split : changes ≡ before ++ change ∷ after
  same : judgement_of (items ++ items_of before) e.link ≡ Same

place_of : KeptDecides → KeepsMore → (k : Known) (items : List Item) (changes : List Change) (values : List LogValue) (e : LogEntry) → Keeps k items
    → Contains (linked_in k changes values) (Entry e) → Place items changes e
place_of decides more k items [] values e keeps among = absurd (in_none (Entry e) among)
place_of decides more k items (c ∷ cs) [] e keeps among = absurd (in_none (Entry e) among)
place_of decides more k items (c ∷ cs) (v ∷ vs) e keeps among =
    elim (in_more (linked k v) (linked_in (kept_more k (item_of c)) cs vs) (Entry e) among) [
      | inl is ↦ record {
        before = [];
        change = c;
        after = cs;
        split = refl;
        same = ap (λ (xs : List Item). judgement_of xs e.link) (append-nil items) ∙ sym (decides k items e.link keeps) ∙ same_linked k v e is;
      }
      | inr rest ↦
          let place = place_of decides more (kept_more k (item_of c)) (items ++ item_of c ∷ []) cs vs e (more k items (item_of c) keeps) rest in
          record {
            before = c ∷ place.before;
            change = place.change;
            after = place.after;
            split = ap (λ (ds : List Change). c ∷ ds) place.split;
            same = ap (λ (xs : List Item). judgement_of xs e.link) (sym (append_assoc items (item_of c ∷ []) (items_of place.before))) ∙ place.same;
          }
    ]

shares : SameLinkSameItems → OwnLinkIsSame → (mine theirs : List Item) (e : LogEntry) → judgement_of mine e.link ≡ Same → e.link ≡ link_of theirs → AllFit theirs → AllFit mine
    → (take (length theirs) mine ≡ theirs) ⊎ Collision
shares same_items own mine theirs e same link p q =
    let here : judgement_of mine (link_of theirs) ≡ Same = subst (λ (l : Linking). judgement_of mine l ≡ Same) link same in
    elim (same_items mine theirs (link_of theirs) q p here (own theirs)) [
      | inl is ↦ inl (is ∙ take_all (length theirs) theirs (omega arith))
      | inr collision ↦ inr collision
    ]

pub linked_entries_share_changes : KeptDecides → KeepsMore → SameLinkSameItems → OwnLinkIsSame → LinkedEntriesShareChanges
linked_entries_share_changes decides more same_items own k items changes values e keeps among =
    let place = place_of decides more k items changes values e keeps among in
    (place.before, place.change, place.after, place.split, λ theirs link p q. shares same_items own (items ++ items_of place.before) theirs e place.same link p q)
