-- Lemmas: the link of a value is judged.
use Rattle.std.proofs.Common.{◌≡◌, ℕ, ◌==◌, List, [], ◌∷◌, ◌++◌, Bool, true, false, ◌||◌, refl, sym, ◌∙◌, ap}
use Rattle.std.proofs.lemmas.List.{append-nil}
use Rattle.pool_chain.specs.declared.link.Judgement.{Judgement}
use Rattle.pool_chain.specs.declared.link.Judgement.TheVariants.{Same, Differs, Old, Ahead}
use Rattle.pool_chain.specs.Judged.{judgement_in}
use Rattle.pool_chain.specs.Known.{Known, joined}
use Rattle.pool_etcd.specs.declared.line_links.LineLinks.{LineLinks}
use Rattle.pool_etcd.specs.declared.line_links.Verdict.{Verdict}
use Rattle.pool_etcd.specs.declared.log_value.LogEntry.{LogEntry}
use Rattle.pool_etcd.specs.declared.log_value.LogLink.{LogLink}
use Rattle.pool_etcd.specs.declared.log_value.LogValue.{LogValue}
use Rattle.pool_etcd.specs.declared.log_value.LogValue.TheVariants.{Entry, Link, Fence, Suppliers, Other}
use Rattle.pool_etcd.specs.LineLinks.{Judges, has_writer}
use Rattle.pool_etcd.specs.Linked.{entry_by, linked, unlinked, unlinked_by, verdicts}

or_false : (b : Bool) → b ≡ (b || false)
or_false true = refl
or_false false = refl

other_entry : (j : Judgement) (e : LogEntry) → (j ≡ Same → ⊥) → Other ≡ entry_by j e
other_entry Same e not = absurd (not refl)
other_entry (Differs own) e not = refl
other_entry Old e not = refl
other_entry Ahead e not = refl

other_unlinked : (j : Judgement) (e : LogEntry) → (j ≡ Same → ⊥) → e ∷ [] ≡ unlinked_by j e
other_unlinked Same e not = absurd (not refl)
other_unlinked (Differs own) e not = refl
other_unlinked Old e not = refl
other_unlinked Ahead e not = refl

-- An entry whose link is the same is linked, and another one is not.
pub linked_same : (k : Known) (e : LogEntry) (j : Judgement) → j ≡ judgement_in k e.link → j ≡ Same → Entry e ≡ linked k (Entry e)
linked_same k e j is same = ap (λ (x : Judgement). entry_by x e) (sym same ∙ is)

pub linked_other : (k : Known) (e : LogEntry) (j : Judgement) → j ≡ judgement_in k e.link → (j ≡ Same → ⊥) → Other ≡ linked k (Entry e)
linked_other k e j is not = other_entry j e not ∙ ap (λ (x : Judgement). entry_by x e) is

entry_verdict : (k : Known) (e : LogEntry) (j : Judgement) (key : List ℕ) (verdict : Verdict) → j ≡ judgement_in k e.link → key ≡ e.key
    → verdict ≡ record { key = key; link = e.link; judgement = j; is_entry = true } → verdict ∷ [] ≡ verdicts k (Entry e)
entry_verdict k e j key verdict is same made =
    ap (λ (v : Verdict). v ∷ []) (made
    ∙ ap (λ (x : List ℕ). record { key = x; link = e.link; judgement = j; is_entry = true }) same
    ∙ ap (λ (x : Judgement). record { key = e.key; link = e.link; judgement = x; is_entry = true }) is)

link_verdict : (k : Known) (l : LogLink) (j : Judgement) (key : List ℕ) (verdict : Verdict) → j ≡ judgement_in k l.link → key ≡ l.key
    → verdict ≡ record { key = key; link = l.link; judgement = j; is_entry = false } → verdict ∷ [] ≡ verdicts k (Link l)
link_verdict k l j key verdict is same made =
    ap (λ (v : Verdict). v ∷ []) (made
    ∙ ap (λ (x : List ℕ). record { key = x; link = l.link; judgement = j; is_entry = false }) same
    ∙ ap (λ (x : Judgement). record { key = l.key; link = l.link; judgement = x; is_entry = false }) is)

pub judges_same : (k : Known) (writer : ℕ) (e : LogEntry) (j : Judgement) (key : List ℕ) (verdict : Verdict) (old new : LineLinks)
    → j ≡ judgement_in (joined k old.chain) e.link → j ≡ Same → key ≡ e.key → verdict ≡ record { key = key; link = e.link; judgement = j; is_entry = true }
    → new.verdicts.items ≡ old.verdicts.items ++ verdict ∷ [] → new.is_unlinked ≡ old.is_unlinked → new.chain ≡ old.chain → Judges k writer (Entry e) old new
judges_same k writer e j key verdict old new is same at made added kept chain = record {
  verdicts = added ∙ ap (λ (us : List Verdict). old.verdicts.items ++ us) (entry_verdict (joined k old.chain) e j key verdict is at made);
  unlinked = kept ∙ or_false old.is_unlinked ∙ ap (λ (x : Judgement). old.is_unlinked || has_writer writer (unlinked_by x e)) (sym same ∙ is);
  chain = chain;
}

pub judges_other : (k : Known) (writer : ℕ) (e : LogEntry) (j : Judgement) (key : List ℕ) (verdict : Verdict) (old new : LineLinks)
    → j ≡ judgement_in (joined k old.chain) e.link → (j ≡ Same → ⊥) → key ≡ e.key → verdict ≡ record { key = key; link = e.link; judgement = j; is_entry = true }
    → new.verdicts.items ≡ old.verdicts.items ++ verdict ∷ [] → new.is_unlinked ≡ (old.is_unlinked || (e.writer == writer)) → new.chain ≡ old.chain → Judges k writer (Entry e) old new
judges_other k writer e j key verdict old new is not at made added noted chain = record {
  verdicts = added ∙ ap (λ (us : List Verdict). old.verdicts.items ++ us) (entry_verdict (joined k old.chain) e j key verdict is at made);
  unlinked = noted
      ∙ ap (λ (b : Bool). old.is_unlinked || b) (or_false (e.writer == writer))
      ∙ ap (λ (es : List LogEntry). old.is_unlinked || has_writer writer es) (other_unlinked j e not ∙ ap (λ (x : Judgement). unlinked_by x e) is);
  chain = chain;
}

pub judges_link : (k : Known) (writer : ℕ) (l : LogLink) (j : Judgement) (key : List ℕ) (verdict : Verdict) (old new : LineLinks)
    → j ≡ judgement_in (joined k old.chain) l.link → key ≡ l.key → verdict ≡ record { key = key; link = l.link; judgement = j; is_entry = false }
    → new.verdicts.items ≡ old.verdicts.items ++ verdict ∷ [] → new.is_unlinked ≡ old.is_unlinked → new.chain ≡ old.chain → Judges k writer (Link l) old new
judges_link k writer l j key verdict old new is at made added kept chain = record {
  verdicts = added ∙ ap (λ (us : List Verdict). old.verdicts.items ++ us) (link_verdict (joined k old.chain) l j key verdict is at made);
  unlinked = kept ∙ or_false old.is_unlinked;
  chain = chain;
}
