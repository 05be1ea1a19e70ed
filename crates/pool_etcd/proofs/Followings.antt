-- Lemmas: the values of one more change.
use Rattle.std.proofs.Common.{◌≡◌, ℕ, ◌+◌, ◌<◌, List, [], ◌∷◌, ◌++◌, length, get_or, take, Bool, true, false, ◌||◌, ◌==◌, Option, Some, None, refl, sym, ◌∙◌, ap, subst}
use Rattle.std.proofs.lemmas.List.{append-nil, append_assoc, take_more}
use Rattle.std.proofs.lemmas.List.Folds.{list_any-append}
use Rattle.std.specs.Prelude.{unwrap_or}
use Rattle.std.specs.Option.{option_or}
use Rattle.pool_chain.specs.Known.{Known, joined, kept_behind, kept_more, link_in}
use Rattle.pool_etcd.specs.declared.following.Following.{Following}
use Rattle.pool_etcd.specs.declared.following.LineValues.{LineValues}
use Rattle.pool_etcd.specs.declared.line_links.LineLinks.{LineLinks}
use Rattle.pool_etcd.specs.declared.line_links.Verdict.{Verdict}
use Rattle.pool_etcd.specs.declared.log_value.LogEntry.{LogEntry}
use Rattle.pool_etcd.specs.declared.log_value.LogLink.{LogLink}
use Rattle.pool_etcd.specs.declared.log_value.LogValue.{LogValue}
use Rattle.pool_etcd.specs.declared.log_value.LogValue.TheVariants.{Entry, Link, Fence, Suppliers, Other}
use Rattle.pool_etcd.specs.declared.watch_line.Change.{Change}
use Rattle.pool_etcd.specs.Admitted.{entries_in, list_after, refused_in}
use Rattle.pool_etcd.specs.Following.{Adds, AddsChange, AddsLinks, Ascends, HasLine, HasRefusal, HasUnlinked, HasValue, HasValues, Refuses, Unlinks, chain_in, first_fence, last_revision, list_in, pool_after, revision_of}
use Rattle.pool_etcd.specs.LineLinks.{Judges, has_writer}
use Rattle.pool_etcd.specs.Linked.{item_of, kept_after, linked, linked_in, unlinked, unlinked_in, verdicts, verdicts_in}
use Rattle.pool_etcd.specs.Suppliers.{is_admitted}
use Rattle.pool_etcd.proofs.Admissions.{entries_of_both, entry_kept, entry_refused, has_writer_of_both, list_of_both, no_own, no_refusal, own_of, refusal_of}
use Rattle.pool_etcd.proofs.Linkings.{kept_then, linked_then, list_linked, one_list_linked, pool_linked, unlinked_then, verdicts_then}

-- A value that is no fence tells no settings.
same_pool_of_entry : (e : LogEntry) (pool : Option ℕ) → pool ≡ pool_after pool (Entry e ∷ [])
same_pool_of_entry e None = refl
same_pool_of_entry e (Some n) = refl

same_pool_of_list : (list : List ℕ) (pool : Option ℕ) → pool ≡ pool_after pool (Suppliers list ∷ [])
same_pool_of_list list None = refl
same_pool_of_list list (Some n) = refl

same_pool_of_link : (l : LogLink) (pool : Option ℕ) → pool ≡ pool_after pool (Link l ∷ [])
same_pool_of_link l None = refl
same_pool_of_link l (Some n) = refl

same_pool_of_other : (pool : Option ℕ) → pool ≡ pool_after pool (Other ∷ [])
same_pool_of_other None = refl
same_pool_of_other (Some n) = refl

values_then : (cs : List Change) (vs : List LogValue) (c : Change) (v : LogValue) → HasValues cs vs → HasValue c v → HasValues (cs ++ c ∷ []) (vs ++ v ∷ [])
values_then [] [] c v h g = (g, refl)
values_then [] (w ∷ vs) c v h g = let e : ⊥ = cc in absurd e
values_then (d ∷ cs) [] c v h g = absurd h
values_then (d ∷ cs) (w ∷ vs) c v h g = (h.0, values_then cs vs c v h.1 g)

-- The first fence among all values is the one among the first ones, or else the one among the others.
pub fence_of_both : (vs ws : List LogValue) → first_fence (vs ++ ws) ≡ pool_after (first_fence vs) ws
fence_of_both [] ws = refl
fence_of_both (Entry e ∷ vs) ws = fence_of_both vs ws
fence_of_both (Link l ∷ vs) ws = fence_of_both vs ws
fence_of_both (Fence n ∷ vs) ws = refl
fence_of_both (Suppliers list ∷ vs) ws = fence_of_both vs ws
fence_of_both (Other ∷ vs) ws = fence_of_both vs ws

same_list : (f : Following) (old new : LineValues) → new.suppliers ≡ old.suppliers → list_in f new ≡ list_in f old
same_list f old new e = ap (λ (o : Option (List ℕ)). unwrap_or o f.suppliers) e

or_false : (b : Bool) → b ≡ (b || false)
or_false true = refl
or_false false = refl

-- An admitted entry is added.
pub adds_entry : (f : Following) (e : LogEntry) (old new : LineValues) → is_admitted (list_in f old) e ≡ true → new.entries.items ≡ old.entries.items ++ e ∷ [] → new.fence ≡ old.fence
    → new.suppliers ≡ old.suppliers → new.is_refused ≡ old.is_refused → Adds f (Entry e) old new
adds_entry f e old new admitted entries fence suppliers refused =
    let kept = entry_kept (list_in f old) e admitted in record {
      entries = entries ∙ ap (λ (es : List LogEntry). old.entries.items ++ es) (sym kept.0);
      fence = fence ∙ same_pool_of_entry e old.fence;
      suppliers = same_list f old new suppliers;
      refused = refused ∙ or_false old.is_refused ∙ ap (λ (es : List LogEntry). old.is_refused || has_writer f.writer es) (sym kept.1);
    }

-- An entry that is not admitted is passed over, or recorded if it is an own one.
pub adds_refusal : (f : Following) (e : LogEntry) (old new : LineValues) → is_admitted (list_in f old) e ≡ false → new.entries.items ≡ old.entries.items → new.fence ≡ old.fence
    → new.suppliers ≡ old.suppliers → new.is_refused ≡ (old.is_refused || (e.writer == f.writer)) → Adds f (Entry e) old new
adds_refusal f e old new admitted entries fence suppliers refused =
    let kept = entry_refused (list_in f old) e admitted in
    let one : (e.writer == f.writer) ≡ has_writer f.writer (refused_in (list_in f old) (Entry e ∷ [])) =
    or_false (e.writer == f.writer) ∙ ap (has_writer f.writer) (sym kept.1) in record {
      entries = entries ∙ sym (append-nil old.entries.items) ∙ ap (λ (es : List LogEntry). old.entries.items ++ es) (sym kept.0);
      fence = fence ∙ same_pool_of_entry e old.fence;
      suppliers = same_list f old new suppliers;
      refused = refused ∙ ap (λ (b : Bool). old.is_refused || b) one;
    }

-- A fence adds its number, if it is the first one.
pub adds_fence : (f : Following) (agreed : ℕ) (old new : LineValues) → new.entries.items ≡ old.entries.items → new.fence ≡ pool_after old.fence (Fence agreed ∷ []) → new.suppliers ≡ old.suppliers
    → new.is_refused ≡ old.is_refused → Adds f (Fence agreed) old new
adds_fence f agreed old new entries fence suppliers refused = record {
  entries = entries ∙ sym (append-nil old.entries.items);
  fence = fence;
  suppliers = same_list f old new suppliers;
  refused = refused ∙ or_false old.is_refused;
}

-- A supplier list takes the place of the one before.
pub adds_list : (f : Following) (list : List ℕ) (old new : LineValues) → new.entries.items ≡ old.entries.items → new.fence ≡ old.fence → new.suppliers ≡ Some list → new.is_refused ≡ old.is_refused
    → Adds f (Suppliers list) old new
adds_list f list old new entries fence suppliers refused = record {
  entries = entries ∙ sym (append-nil old.entries.items);
  fence = fence ∙ same_pool_of_list list old.fence;
  suppliers = ap (λ (o : Option (List ℕ)). unwrap_or o f.suppliers) suppliers;
  refused = refused ∙ or_false old.is_refused;
}

-- Another value adds nothing.
pub adds_nothing : (f : Following) (line : LineValues) → Adds f Other line line
adds_nothing f line = record {
  entries = sym (append-nil line.entries.items);
  fence = same_pool_of_other line.fence;
  suppliers = refl;
  refused = or_false line.is_refused;
}

-- A link adds nothing.
pub adds_link : (f : Following) (l : LogLink) (line : LineValues) → Adds f (Link l) line line
adds_link f l line = record {
  entries = sym (append-nil line.entries.items);
  fence = same_pool_of_link l line.fence;
  suppliers = refl;
  refused = or_false line.is_refused;
}

ascends_then : (before : ℕ) (cs : List Change) (c : Change) → Ascends before cs → last_revision before cs < revision_of c → Ascends before (cs ++ c ∷ [])
ascends_then before [] c h low = (low, tt)
ascends_then before (d ∷ cs) c h low = (h.0, ascends_then (revision_of d) cs c h.1 low)

last_then : (before : ℕ) (cs : List Change) (c : Change) → last_revision before (cs ++ c ∷ []) ≡ revision_of c
last_then before [] c = refl
last_then before (d ∷ cs) c = last_then (revision_of d) cs c

-- One change: its value is read, its link is judged, it is added, and then the change.
pub adds_change : (f : Following) (c : Change) (v w : LogValue) (old : LineValues) (judged taken : LineLinks) (last : LineValues)
    → HasValue c v → w ≡ linked (chain_in f old) v → Judges f.chain f.writer v old.links judged
    → Adds f w (record old { links = judged }) last → last.links ≡ judged
    → taken.chain ≡ kept_more last.links.chain (item_of c) → taken.verdicts.items ≡ last.links.verdicts.items → taken.is_unlinked ≡ last.links.is_unlinked
    → AddsChange f c old (record last { links = taken })
adds_change f c v w old judged taken last given is judges adds same chain verdicts unlinked = record {
  value = v;
  given = given;
  added = record {
    entries = adds.entries ∙ ap (λ (x : LogValue). old.entries.items ++ entries_in (list_in f old) (x ∷ [])) is;
    fence = adds.fence ∙ ap (λ (x : LogValue). pool_after old.fence (x ∷ [])) is;
    suppliers = adds.suppliers ∙ ap (λ (x : LogValue). list_after (list_in f old) (x ∷ [])) is;
    refused = adds.refused ∙ ap (λ (x : LogValue). old.is_refused || has_writer f.writer (refused_in (list_in f old) (x ∷ []))) is;
  };
  links = record {
    verdicts = verdicts ∙ ap (λ (l : LineLinks). l.verdicts.items) same ∙ judges.verdicts;
    unlinked = unlinked ∙ ap (λ (l : LineLinks). l.is_unlinked) same ∙ judges.unlinked;
    chain = chain ∙ ap (λ (l : LineLinks). kept_more l.chain (item_of c)) same ∙ ap (λ (k : Known). kept_more k (item_of c)) judges.chain;
  };
}

-- The first changes, with their values.
pub record Reads (f : Following) (changes : List Change) (line : LineValues) (revision : ℕ) : Type 0 where
  pub has : HasLine f changes line
  pub ascends : Ascends f.revision changes
  pub last : revision ≡ last_revision f.revision changes

-- What the chain keeps behind one more change of a line.
chain_then : (f : Following) (old new : LineValues) (c : Change) → new.links.chain ≡ kept_more old.links.chain (item_of c) → chain_in f new ≡ kept_more (chain_in f old) (item_of c)
chain_then f old new c is =
    ap (λ (k : Known). joined f.chain k) is
    ∙ ap (λ (ds : List (List ℕ)). record (kept_more (chain_in f old) (item_of c)) { earlier = ds }) (sym (append_assoc f.chain.earlier old.links.chain.earlier (old.links.chain.digest ∷ [])))

-- One more change.
pub one_more : (f : Following) (xs : List Change) (i : ℕ) (c : Change) (old new : LineValues) (r next : ℕ)
    → i < length xs → c ≡ get_or xs i c → Reads f (take i xs) old r → AddsChange f c old new → next ≡ revision_of c → r < next
    → Reads f (take (i + 1) xs) new next
one_more f xs i c old new r next below is read adds at low =
    let cs = take i xs in
    let v = adds.value in
    let vs = read.has.values in
    let list = f.suppliers in
    let k = kept_after f.chain cs in
    let ls = linked_in f.chain cs vs in
    let here : linked (chain_in f old) v ≡ linked k v = ap (λ (j : Known). linked j v) read.has.chain in
    let both : linked_in f.chain (cs ++ c ∷ []) (vs ++ v ∷ []) ≡ ls ++ linked k v ∷ [] = linked_then f.chain cs vs c v read.has.given in
    let more : take (i + 1) xs ≡ cs ++ c ∷ [] = take_more xs i c below ∙ ap (λ (y : Change). cs ++ y ∷ []) (sym is) in
    let low_last : last_revision f.revision cs < revision_of c = subst (λ (q : ℕ). q < revision_of c) read.last (subst (λ (q : ℕ). r < q) at low) in
    subst (λ (ys : List Change). Reads f ys new next) (sym more) (record {
      has = record {
        values = vs ++ v ∷ [];
        given = values_then cs vs c v read.has.given adds.given;
        entries = adds.added.entries
            ∙ ap (λ (w : LogValue). old.entries.items ++ entries_in (list_in f old) (w ∷ [])) here
            ∙ ap (λ (es : List LogEntry). es ++ entries_in (list_in f old) (linked k v ∷ [])) read.has.entries
            ∙ ap (λ (l : List ℕ). entries_in list ls ++ entries_in l (linked k v ∷ [])) (read.has.suppliers ∙ sym (list_linked f.chain cs vs list read.has.given))
            ∙ sym (entries_of_both list ls (linked k v ∷ []))
            ∙ ap (λ (ws : List LogValue). entries_in list ws) (sym both);
        fence = adds.added.fence
            ∙ ap (λ (n : Option ℕ). pool_after n (linked (chain_in f old) v ∷ [])) read.has.fence
            ∙ pool_linked (chain_in f old) v (first_fence vs)
            ∙ sym (fence_of_both vs (v ∷ []));
        suppliers = adds.added.suppliers
            ∙ one_list_linked (chain_in f old) v (list_in f old)
            ∙ ap (λ (l : List ℕ). list_after l (v ∷ [])) read.has.suppliers
            ∙ sym (list_of_both list vs (v ∷ []));
        refused = adds.added.refused
            ∙ ap (λ (w : LogValue). old.is_refused || has_writer f.writer (refused_in (list_in f old) (w ∷ []))) here
            ∙ ap (λ (b : Bool). b || has_writer f.writer (refused_in (list_in f old) (linked k v ∷ []))) read.has.refused
            ∙ ap (λ (l : List ℕ). has_writer f.writer (refused_in list ls) || has_writer f.writer (refused_in l (linked k v ∷ []))) (read.has.suppliers ∙ sym (list_linked f.chain cs vs list read.has.given))
            ∙ sym (has_writer_of_both f.writer list ls (linked k v ∷ []))
            ∙ ap (λ (ws : List LogValue). has_writer f.writer (refused_in list ws)) (sym both);
        verdicts = adds.links.verdicts
            ∙ ap (λ (j : Known). old.links.verdicts.items ++ verdicts j v) read.has.chain
            ∙ ap (λ (us : List Verdict). us ++ verdicts k v) read.has.verdicts
            ∙ sym (verdicts_then f.chain cs vs c v read.has.given);
        unlinked = adds.links.unlinked
            ∙ ap (λ (j : Known). old.links.is_unlinked || has_writer f.writer (unlinked j v)) read.has.chain
            ∙ ap (λ (b : Bool). b || has_writer f.writer (unlinked k v)) read.has.unlinked
            ∙ sym (list_any-append _ (unlinked_in f.chain cs vs) (unlinked k v))
            ∙ ap (λ (es : List LogEntry). has_writer f.writer es) (sym (unlinked_then f.chain cs vs c v read.has.given));
        chain = chain_then f old new c adds.links.chain
            ∙ ap (λ (j : Known). kept_more j (item_of c)) read.has.chain
            ∙ sym (kept_then f.chain cs c);
      };
      ascends = ascends_then f.revision cs c read.ascends low_last;
      last = at ∙ sym (last_then f.revision cs c);
    })

-- No change.
pub none_read : (f : Following) (line : LineValues) → line.entries.items ≡ [] → line.fence ≡ None → line.suppliers ≡ None → line.is_refused ≡ false
    → line.links.verdicts.items ≡ [] → line.links.is_unlinked ≡ false → line.links.chain ≡ kept_behind (link_in f.chain) → Reads f [] line f.revision
none_read f line entries fence suppliers refused verdicts unlinked chain = record {
  has = record {
    values = [];
    given = refl;
    entries = entries;
    fence = fence;
    suppliers = ap (λ (o : Option (List ℕ)). unwrap_or o f.suppliers) suppliers;
    refused = refused;
    verdicts = verdicts;
    unlinked = unlinked;
    chain = ap (λ (k : Known). joined f.chain k) chain ∙ ap (λ (ds : List (List ℕ)). record f.chain { earlier = ds }) (append-nil f.chain.earlier);
  };
  ascends = tt;
  last = refl;
}

-- ---- a line that was read

-- The pool's settings that are known with a line.
pub known_pool : (f : Following) (changes : List Change) (line : LineValues) (has : HasLine f changes line) (known : Option ℕ) → known ≡ option_or f.pool line.fence → known ≡ pool_after f.pool has.values
known_pool f changes line has known is = is ∙ ap (λ (n : Option ℕ). option_or f.pool n) has.fence ∙ same_or f.pool has.values
  where
    same_or : (pool : Option ℕ) (values : List LogValue) → option_or pool (first_fence values) ≡ pool_after pool values
    same_or None values = refl
    same_or (Some n) values = refl

-- No entry of the own process is refused.
pub admitted_line : (f : Following) (changes : List Change) (line : LineValues) (has : HasLine f changes line) → line.is_refused ≡ false → HasRefusal f (linked_in f.chain changes has.values) → ⊥
admitted_line f changes line has is = no_refusal f (linked_in f.chain changes has.values) (sym has.refused ∙ is)

-- An entry of the own process is refused.
pub refused_line : (f : Following) (changes : List Change) (line : LineValues) (known : Option ℕ) → HasLine f changes line → line.is_refused ≡ true → known ≡ option_or f.pool line.fence
    → ((pool : ℕ) → known ≡ Some pool → pool ≡ f.settings) → Refuses f changes
refused_line f changes line known has is told agrees = record {
  values = has.values;
  given = has.given;
  refusal = refusal_of f (linked_in f.chain changes has.values) (sym has.refused ∙ is);
  agrees = λ pool e. agrees pool (known_pool f changes line has known told ∙ e);
}

-- No entry of the own process has a wrong link, or one has.
pub linked_line : (f : Following) (changes : List Change) (line : LineValues) (has : HasLine f changes line) → line.links.is_unlinked ≡ false → HasUnlinked f changes has.values → ⊥
linked_line f changes line has is = no_own f.writer (unlinked_in f.chain changes has.values) (sym has.unlinked ∙ is)

pub unlinked_line : (f : Following) (changes : List Change) (line : LineValues) (known : Option ℕ) → HasLine f changes line → line.links.is_unlinked ≡ true → known ≡ option_or f.pool line.fence
    → ((pool : ℕ) → known ≡ Some pool → pool ≡ f.settings) → Unlinks f changes
unlinked_line f changes line known has is told agrees = record {
  values = has.values;
  given = has.given;
  unlinked = own_of f.writer (unlinked_in f.chain changes has.values) (sym has.unlinked ∙ is);
  agrees = λ pool e. agrees pool (known_pool f changes line has known told ∙ e);
}
