-- The ids that are selected from the candidates.
use Rattle.std.specs.Prelude.{◌≡◌, ℕ, ◌%◌, Bool, true, List, Option, Some}
use Rattle.std.proofs.Common.{sym, subst, inl, inr}
use Rattle.std.specs.Int.{bit_at}
use Rattle.std.specs.List.{All}
use Rattle.std.specs.Ordering.{nat_cmp}
use Rattle.std.specs.BTreeMap.{BTreeMap}
use Rattle.std.specs.BTreeSet.{BTreeSet, contains}
use Rattle.grid_core.specs.Extent.{Extent, Region, meets, region_of}
use Rattle.space_memory.specs.Found.{AddsAt, AllPassing, Judges, OnlyPassing}
use Rattle.space_memory.specs.Near.{IsAt, Part}
use Rattle.space_memory.proofs.CellMeetings.{entry_of}

module _ {X : Type 0} (look : ℕ → Option X) (volumes : X → List Extent) (test : ℕ × X → Bool) (areas : List Region) where
  -- Holds if an id is selected when its value passes the test and has this volume, which meets an
  -- area with one of these bits.
  abbrev pub Taken : BTreeSet ℕ → Part × ℕ → Type 0
  Taken ids e = (x : X) (v : Extent) (j : ℕ) (a : Region) → look e.0.0 ≡ Some x → test (e.0.0, x) ≡ true → IsAt (volumes x) e.0.1 v → IsAt areas j a
      → bit_at e.1 (j % 64) ≡ 1 → meets (region_of v) a ≡ true → contains nat_cmp ids e.0.0 ≡ true

  pub taken_more : (old new : BTreeSet ℕ) → ((q : ℕ) → contains nat_cmp old q ≡ true → contains nat_cmp new q ≡ true) → (e : Part × ℕ) → Taken old e → Taken new e
  taken_more old new more e t = λ x v j a l p at at_a b h. more e.0.0 (t x v j a l p at at_a b h)

  pub taken_here : (old new : BTreeSet ℕ) (part : Part) (bits : ℕ) (answer : Bool) → Judges look volumes test areas part bits answer → AddsAt answer part.0 old new → Taken new (part, bits)
  taken_here old new part bits answer judges adds = λ x v j a l p at at_a b h. adds.there (judges.whole x v j a l p at at_a b h)

  pub only_more : (old new : BTreeSet ℕ) (part : Part) (bits : ℕ) (answer : Bool) → Judges look volumes test areas part bits answer → AddsAt answer part.0 old new → OnlyPassing look test old → OnlyPassing look test new
  only_more old new part bits answer judges adds only = λ id x has at. elim (adds.only id has) [
    | inl was ↦ only id x was at
    | inr now ↦
        let same : id ≡ part.0 = now.1 in
        subst (λ (k : ℕ). test (k, x) ≡ true) (sym same) (judges.sound x (subst (λ (k : ℕ). look k ≡ Some x) same at) now.0)
  ]

  pub all_taken : (near : BTreeMap Part ℕ) (ids : BTreeSet ℕ) → All (Taken ids) near.entries → AllPassing look volumes test areas near ids
  all_taken near ids all = λ part x l p m.
      let e = entry_of near (Taken ids) all part (m.place % 64) m.bit in
      e.2 x m.volume m.place m.area l p m.volume_at m.area_at e.1 m.meeting
