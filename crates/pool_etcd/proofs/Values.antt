-- Lemmas: the value of a key is read in one way, and the first fence of many lines.
use Rattle.std.proofs.Common.{◌≡◌, ℕ, List, [], ◌∷◌, ◌++◌, Option, Some, None, refl, sym, ◌∙◌, ap, subst}
use Rattle.std.specs.Prelude.{flat_map}
use Rattle.pool_chain.specs.declared.link.Link.{Link as Linking}
use Rattle.pool_etcd.specs.declared.following.Following.{Following}
use Rattle.pool_etcd.specs.declared.log_value.LogEntry.{LogEntry}
use Rattle.pool_etcd.specs.declared.log_value.LogLink.{LogLink}
use Rattle.pool_etcd.specs.declared.log_value.LogValue.{LogValue}
use Rattle.pool_etcd.specs.declared.log_value.LogValue.TheVariants.{Entry, Link, Fence, Suppliers, Other}
use Rattle.pool_etcd.specs.declared.watch_line.Change.{Change}
use Rattle.pool_etcd.specs.declared.watch_line.Change.TheVariants.{Put, Deleted}
use Rattle.pool_etcd.specs.declared.counts.KeyCount.{KeyCount}
use Rattle.pool_etcd.specs.Counts.{AreNext, count_of}
use Rattle.pool_etcd.specs.Following.{Agrees, ChangesAreNext, FirstFenceDecides, KnownSettingsDecide, HasValue, HasValues, ReceivesLines, pool_after}
use Rattle.pool_etcd.specs.Value.{IsEntryAt, IsLinkAt, OneValue}
use Rattle.pool_etcd.specs.Writer.{writer_of}
use Rattle.pool_etcd.proofs.Countings.{next_lines}
use Rattle.pool_etcd.proofs.FirstLines.{fence_is_no_entry, link_is_no_entry, one_entry, one_fence}
use Rattle.pool_etcd.proofs.Followings.{fence_of_both}
use Rattle.pool_etcd.proofs.LinkTexts.{fence_is_no_link, one_value_link}

one_entry_at : (key value : List ℕ) (e f : LogEntry) → IsEntryAt key value e → IsEntryAt key value f → e ≡ f
one_entry_at key value e f a b =
    let same = one_entry value a.1.0 b.1.0 e.link f.link e.bytes f.bytes a.1.1 b.1.1 in
    let writer : e.writer ≡ f.writer = a.1.2 ∙ ap (λ (n : ℕ). writer_of key n) same.0 ∙ sym b.1.2 in
    let keys : e.key ≡ f.key = a.0 ∙ sym b.0 in
    let links : e.link ≡ f.link = same.1 in
    let bytes : e.bytes ≡ f.bytes = same.2 in
    ap (λ (w : ℕ). record e { writer = w }) writer
    ∙ ap (λ (k : List ℕ). record e { writer = f.writer; key = k }) keys
    ∙ ap (λ (l : Linking). record e { writer = f.writer; key = f.key; link = l }) links
    ∙ ap (λ (b : List ℕ). record f { bytes = b }) bytes

one_link_at : (key value : List ℕ) (l m : LogLink) → IsLinkAt key value l → IsLinkAt key value m → l ≡ m
one_link_at key value l m a b =
    let same = one_value_link value a.1.0 b.1.0 l.link m.link a.1.1 b.1.1 in
    let writer : l.writer ≡ m.writer = a.1.2 ∙ ap (λ (n : ℕ). writer_of key n) same.0 ∙ sym b.1.2 in
    let keys : l.key ≡ m.key = a.0 ∙ sym b.0 in
    let links : l.link ≡ m.link = same.1 in
    ap (λ (w : ℕ). record l { writer = w }) writer
    ∙ ap (λ (k : List ℕ). record l { writer = m.writer; key = k }) keys
    ∙ ap (λ (x : Linking). record m { link = x }) links

pub one_value : OneValue
one_value key value (Entry e) (Entry f) a b = ap (λ (x : LogEntry). Entry x) (one_entry_at key value e f a.1 b.1)
one_value key value (Entry e) (Link l) a b = absurd (link_is_no_entry value b.1.1.0 l.link b.1.1.1 a.1.1.0 e.link e.bytes a.1.1.1)
one_value key value (Entry e) (Fence n) a b = absurd (fence_is_no_entry value n b.1 a.1.1.0 e.link e.bytes a.1.1.1)
one_value key value (Entry e) (Suppliers l) a b = absurd (a.0 b.0)
one_value key value (Entry e) Other a b = absurd (b.1 a.1.1.0 e.link e.bytes a.1.1.1)
one_value key value (Link l) (Entry f) a b = absurd (link_is_no_entry value a.1.1.0 l.link a.1.1.1 b.1.1.0 f.link f.bytes b.1.1.1)
one_value key value (Link l) (Link m) a b = ap (λ (x : LogLink). Link x) (one_link_at key value l m a.1 b.1)
one_value key value (Link l) (Fence n) a b = absurd (fence_is_no_link value n b.1 a.1.1.0 l.link a.1.1.1)
one_value key value (Link l) (Suppliers m) a b = absurd (a.0 b.0)
one_value key value (Link l) Other a b = absurd (b.2 a.1.1.0 l.link a.1.1.1)
one_value key value (Fence m) (Entry f) a b = absurd (fence_is_no_entry value m a.1 b.1.1.0 f.link f.bytes b.1.1.1)
one_value key value (Fence m) (Link l) a b = absurd (fence_is_no_link value m a.1 b.1.1.0 l.link b.1.1.1)
one_value key value (Fence m) (Fence n) a b = ap (λ (x : ℕ). Fence x) (one_fence value m n a.1 b.1)
one_value key value (Fence m) (Suppliers l) a b = absurd (a.0 b.0)
one_value key value (Fence m) Other a b = absurd (b.3 m a.1)
one_value key value (Suppliers l) (Entry f) a b = absurd (b.0 a.0)
one_value key value (Suppliers l) (Link m) a b = absurd (b.0 a.0)
one_value key value (Suppliers l) (Fence n) a b = absurd (b.0 a.0)
one_value key value (Suppliers l) (Suppliers m) a b = ap (λ (x : List ℕ). Suppliers x) (a.1 ∙ sym b.1)
one_value key value (Suppliers l) Other a b = absurd (b.0 a.0)
one_value key value Other (Entry f) a b = absurd (a.1 b.1.1.0 f.link f.bytes b.1.1.1)
one_value key value Other (Link l) a b = absurd (a.2 b.1.1.0 l.link b.1.1.1)
one_value key value Other (Fence n) a b = absurd (a.3 n b.1)
one_value key value Other (Suppliers l) a b = absurd (a.0 b.0)
one_value key value Other Other a b = refl

value_unique : (c : Change) (v w : LogValue) → HasValue c v → HasValue c w → v ≡ w
value_unique (Put put) v w h g = one_value put.key put.stored.value v w h g
value_unique (Deleted deletion) v w h g = h ∙ sym g

values_unique : (cs : List Change) (vs ws : List LogValue) → HasValues cs vs → HasValues cs ws → vs ≡ ws
values_unique [] vs ws h g = h ∙ sym g
values_unique (c ∷ cs) [] ws h g = absurd h
values_unique (c ∷ cs) (v ∷ vs) [] h g = absurd g
values_unique (c ∷ cs) (v ∷ vs) (w ∷ ws) h g =
    let head : v ≡ w = value_unique c v w h.0 g.0 in
    let tail : vs ≡ ws = values_unique cs vs ws h.1 g.1 in
    cc

-- The values in the changes of two lines.
values_of_both : (cs ds : List Change) (vs : List LogValue) → HasValues (cs ++ ds) vs
    → (xs : List LogValue) × (ys : List LogValue) × (vs ≡ xs ++ ys) × HasValues cs xs × HasValues ds ys
values_of_both [] ds vs h = ([], vs, refl, refl, h)
values_of_both (c ∷ cs) ds [] h = absurd h
values_of_both (c ∷ cs) ds (v ∷ vs) h =
    let rest = values_of_both cs ds vs h.1 in
    (v ∷ rest.0, rest.1, ap (λ (us : List LogValue). v ∷ us) rest.2, (h.0, rest.3), rest.4)

pool_after_both : (pool : Option ℕ) (vs ws : List LogValue) → pool_after pool (vs ++ ws) ≡ pool_after (pool_after pool vs) ws
pool_after_both None vs ws = fence_of_both vs ws
pool_after_both (Some n) vs ws = refl

none_told : (pool : Option ℕ) → pool ≡ pool_after pool []
none_told None = refl
none_told (Some n) = refl

-- What is known of the pool after the lines.
record Knows (start end : Following) (values : List LogValue) : Type 0 where
  pool : end.pool ≡ pool_after start.pool values
  settings : end.settings ≡ start.settings
  agrees : Agrees end

agrees_still : (old new : Following) → new.pool ≡ old.pool → new.settings ≡ old.settings → Agrees old → Agrees new
agrees_still old new pool settings agrees n e = agrees n (sym pool ∙ e) ∙ sym settings

knows : (start end : Following) (lines : List (List Change)) (values : List LogValue) → Agrees start → ReceivesLines start lines end
    → HasValues (flat_map (λ line. line) lines) values → Knows start end values
knows start end [] values agrees takes given = record {
  pool = takes.pool ∙ none_told start.pool ∙ ap (λ (vs : List LogValue). pool_after start.pool vs) (sym given);
  settings = takes.settings;
  agrees = agrees_still start end takes.pool takes.settings agrees;
}
knows start end (line ∷ lines) values agrees run given =
    let before = run.0 in
    let after = run.1 in
    let takes = run.2 in
    let line_read = run.3 in
    let both = values_of_both line (flat_map (λ (it : List Change). it) lines) values given in
    let xs = both.0 in
    let ys = both.1 in
    let same : line_read.values ≡ xs = values_unique line line_read.values xs line_read.given both.3 in
    let rest = knows after end lines ys line_read.agrees run.4 both.4 in
    let first : after.pool ≡ pool_after start.pool xs =
    line_read.pool ∙ ap (λ (p : Option ℕ). pool_after p line_read.values) takes.pool ∙ ap (λ (vs : List LogValue). pool_after start.pool vs) same in
    record {
      pool = rest.pool ∙ ap (λ (p : Option ℕ). pool_after p ys) first ∙ sym (pool_after_both start.pool xs ys) ∙ ap (λ (vs : List LogValue). pool_after start.pool vs) (sym both.2);
      settings = rest.settings ∙ line_read.settings ∙ takes.settings;
      agrees = rest.agrees;
    }

pub first_fence_decides : FirstFenceDecides
first_fence_decides start end lines values agreed new run given first =
    let unknown : Agrees start = λ n e. let h : ⊥ = cc in absurd h in
    let all = knows start end lines values unknown run given in
    let told : end.pool ≡ Some agreed = all.pool ∙ ap (λ (p : Option ℕ). pool_after p values) new ∙ first in
    all.agrees agreed told ∙ all.settings

pub known_settings_decide : KnownSettingsDecide
known_settings_decide start end line lines other run =
    let before = run.0 in
    let after = run.1 in
    let takes = run.2 in
    let line_read = run.3 in
    let known : before.pool ≡ Some other.0 = takes.pool ∙ other.1 in
    let told : after.pool ≡ Some other.0 = line_read.pool ∙ ap (λ (p : Option ℕ). pool_after p line_read.values) known in
    other.2 (line_read.agrees other.0 told ∙ line_read.settings ∙ takes.settings)

pub changes_are_next : ChangesAreNext
changes_are_next start end [] run = tt
changes_are_next start end (line ∷ lines) run =
    let before = run.0 in
    let after = run.1 in
    let takes = run.2 in
    let line_read = run.3 in
    let rest = changes_are_next after end lines run.4 in
    let known = next_lines (count_of before.counts) (count_of after.counts) line (flat_map (λ (it : List Change). it) lines) line_read.next line_read.counts rest in
    subst (λ (ks : List KeyCount). AreNext (count_of ks) (line ++ flat_map (λ (it : List Change). it) lines)) takes.counts known
