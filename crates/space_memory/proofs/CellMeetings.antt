-- The volumes that an index finds near areas.
use Rattle.std.specs.Prelude.{◌≡◌, ℕ, ◌+◌, ◌*◌, ◌%◌, ◌^◌, ◌<◌, ◌≤◌, ◌⊎◌, List, Option, Some, None, unwrap_or, Result, Ok, Err, IfOk, refl}
use Rattle.std.proofs.Common.{arith, sym, subst, inl, inr}
use Rattle.std.proofs.lemmas.Nat.Bits.{bit_at-pow_same, bit_at-zero}
use Rattle.std.proofs.lemmas.Map.Entries.{place_from_lookup}
use Rattle.std.proofs.lemmas.Option.{get_or_from_slice_get, slice_get_within}
use Rattle.std.proofs.lemmas.Bool.{cases_lt}
use Rattle.std.specs.Int.{bit_at}
use Rattle.std.specs.List.{All, Any}
use Rattle.std.specs.BTreeMap.{BTreeMap, get, is_at}
use Rattle.std.specs.BTreeSet.{BTreeSet}
use Rattle.grid_core.specs.Cell.{Cell, Touch, lo_of, hi_of, parent_of}
use Rattle.grid_core.specs.Extent.{Region}
use Rattle.grid_core.proofs.IndexLaws.{found_by_index_lem}
use Rattle.space_memory.specs.CellIndex.{Holder, Mark, Grows, IsMarked, mark_of, position_of}
use Rattle.space_memory.specs.Near.{Pair, Part, Span, Gathers, GathersAll, HasAllSpans, HasBit, HasMeeting, HasSpansOf, IsStart, Widens, exact_of, pair_cmp, part_of, range_of}
use Rattle.space_memory.proofs.Bits.{pair_exact}
use Rattle.space_memory.proofs.CellSets.{equal_is}

pub marked_more : (h : Holder) (old new : BTreeSet Mark) → Grows old new → (i : ℕ) (c : Cell) → IsMarked old h i c → IsMarked new h i c
marked_more h old new g i c m = record { cell = m.cell; narrow = m.narrow; mark = g (mark_of h i c) m.mark }

pub spans_more : (old new : BTreeMap Span ℕ) → Widens old new → (bits : ℕ) (c : Cell) → HasSpansOf old bits c → HasSpansOf new bits c
spans_more old new w bits c a = record {
  cell = a.cell;
  range = λ b h. w (range_of c) b (a.range b h);
  ancestors = λ k l m b h. w (exact_of (parent_of c k)) b (a.ancestors k l m b h);
}

pub both : {X : Type 0} (P Q : X → Type 0) (xs : List X) → All P xs → Any Q xs → (x : X) × P x × Q x
both P Q xs a n = (n.1, subst P n.3 (a n.0 n.1 n.2), n.4)

-- ---- the entries of a map

-- A bit that is set under a key is in an entry of the map.
bit_there : (o : Option ℕ) (b : ℕ) → bit_at (unwrap_or o 0) b ≡ 1 → (n : ℕ) × (o ≡ Some n) × (bit_at n b ≡ 1)
bit_there None b h = let none : bit_at 0 b ≡ 0 = bit_at-zero b in absurd (omega arith)
bit_there (Some n) b h = (n, refl, h)

pub entry_of : (m : BTreeMap Pair ℕ) (P : Pair × ℕ → Type 0) → All P m.entries → (k : Pair) (b : ℕ) → HasBit m k b → (n : ℕ) × (bit_at n b ≡ 1) × P (k, n)
entry_of m P all k b h =
    let t = bit_there (get pair_cmp m k) b h in
    let p = place_from_lookup (is_at (pair_cmp k)) m.entries t.0 t.1 in
    let e : Pair × ℕ = (p.1, t.0) in
    let there : P e = subst P (get_or_from_slice_get m.entries p.0 e e p.2) (all p.0 e (slice_get_within m.entries p.0 e p.2)) in
    (t.0, t.2, subst (λ (q : Pair). P (q, t.0)) (sym (pair_exact k p.1 (equal_is (pair_cmp k p.1) p.3))) there)

-- If every entry of a map of spans is gathered, all spans are gathered.
pub gathered_all : (marks : BTreeSet Mark) (spans : BTreeMap Span ℕ) (near : BTreeMap Part ℕ) → All (λ e. Gathers marks e.0 e.1 near) spans.entries → GathersAll marks spans near
gathered_all marks spans near all = λ r b h q has low high.
    let e = entry_of spans (λ e. Gathers marks e.0 e.1 near) all r b h in
    e.2 q has low high b e.1

-- If the part of a span before an index position is covered, gathering the rest gathers the span.
pub gathered_rest : (marks : BTreeSet Mark) (span done : Span) (bits done_bits start : ℕ) (old new : BTreeMap Part ℕ) → IsStart span bits done done_bits start → Gathers marks done done_bits old → Widens old new
    → Gathers marks (start, span.1) bits new → Gathers marks span bits new
gathered_rest marks span done bits done_bits start old new is before w rest = λ q has low high b h. elim (cases_lt q.0 start) [
  | inl early ↦ let i = is q.0 low early in w (part_of q) b (before q has i.0 i.1 b (i.2 b h))
  | inr late ↦ rest q has late high b h
]

pub gathers_further : (marks : BTreeSet Mark) (near : BTreeMap Part ℕ) (e one other : Span × ℕ) → (e ≡ one) ⊎ (e ≡ other) → Gathers marks one.0 one.1 near → Gathers marks other.0 other.1 near → Gathers marks e.0 e.1 near
gathers_further marks near e one other is g h = elim is [
  | inl i ↦ subst (λ (x : Span × ℕ). Gathers marks x.0 x.1 near) (sym i) g
  | inr i ↦ subst (λ (x : Span × ℕ). Gathers marks x.0 x.1 near) (sym i) h
]

pub nothing_there : (marks : BTreeSet Mark) (near : BTreeMap Part ℕ) → Gathers marks (0, 0) 0 near
nothing_there marks near = λ q has low high b h. absurd (omega arith)

pub gathers_more : (marks : BTreeSet Mark) (old new : BTreeMap Part ℕ) → Widens old new → (e : Span × ℕ) → Gathers marks e.0 e.1 old → Gathers marks e.0 e.1 new
gathers_more marks old new w e g = λ q has low high b h. w (part_of q) b (g q has low high b h)

-- ---- a cell of a holder that touches a cell of an area

found_cell : (marks : BTreeSet Mark) (spans : BTreeMap Span ℕ) (near : BTreeMap Part ℕ) → GathersAll marks spans near → (e : Holder) (i : ℕ) (c d : Cell) (b : ℕ) → i < 32 → IsMarked marks e i c → HasSpansOf spans (2 ^ b) d → Touch c d → HasBit near (e.1, i) b
found_cell marks spans near g e i c d b small m a t =
    let part : part_of (mark_of e i c) ≡ (e.1, i) = λ j. (e.1, volume_at c i small j) in
    subst (λ (p : Part). HasBit near p b) part (elim ((found_by_index_lem d c a.cell m.cell).0 t) [
      | inl h ↦
          let low : lo_of d ≤ lo_of c = h.0 in
          let high : lo_of c ≤ hi_of d = h.1 in
          let narrow : hi_of c < 536870912 = m.narrow in
          let from : lo_of d * 17179869184 ≤ lo_of c * 17179869184 + hi_of c * 32 + i = omega arith in
          let to : lo_of c * 17179869184 + hi_of c * 32 + i < (hi_of d + 1) * 17179869184 = omega arith in
          g (range_of d) b (a.range b (bit_at-pow_same b)) (mark_of e i c) m.mark from to
      | inr h ↦
          let lo : lo_of c ≡ lo_of (parent_of d h.0) = h.3 in
          let hi : hi_of c ≡ hi_of (parent_of d h.0) = h.4 in
          let same : position_of c ≡ position_of (parent_of d h.0) = omega (arith, lo, hi) in
          let from : position_of (parent_of d h.0) ≤ position_of c + i = omega (arith, same) in
          let to : position_of c + i < position_of (parent_of d h.0) + 32 = omega (arith, same) in
          g (exact_of (parent_of d h.0)) b (a.ancestors h.0 h.1 h.2 b (bit_at-pow_same b)) (mark_of e i c) m.mark from to
    ])
  where
    volume_at : (c : Cell) (i : ℕ) → i < 32 → (position_of c + i) % 32 ≡ i
    volume_at c i l = omega arith

pub has_meeting : (marks : BTreeSet Mark) (spans : BTreeMap Span ℕ) (near : BTreeMap Part ℕ) (areas : List Region) → GathersAll marks spans near → HasAllSpans spans areas → HasMeeting marks areas near
has_meeting marks spans near areas g there = λ e i v small marked j a at meets.
    let own : All (HasSpansOf spans (2 ^ (j % 64))) a.cells = subst (λ (x : Region). All (HasSpansOf spans (2 ^ (j % 64))) x.cells) at.1 (there j a at.0) in
    let c = both (IsMarked marks e i) (λ x. Any (λ y. Touch x y) a.cells) v.cells marked meets.cells in
    let d = both (HasSpansOf spans (2 ^ (j % 64))) (λ y. Touch c.0 y) a.cells own c.2 in
    found_cell marks spans near g e i c.0 d.0 (j % 64) small c.1 d.1 d.2

pub near_answers : {E : Type 0} (r : Result (BTreeMap Part ℕ) E) (marks : BTreeSet Mark) (spans : BTreeMap Span ℕ) (areas : List Region) → IfOk r (λ near. GathersAll marks spans near) → HasAllSpans spans areas → IfOk r (λ near. HasMeeting marks areas near)
near_answers (Ok near) marks spans areas g there = has_meeting marks spans near areas g there
near_answers (Err x) marks spans areas g there = tt
