-- Proofs about adding the availabilities of managers to entities, one after the other.
use Rattle.std.proofs.Common.{◌≡◌, List, [], ◌∷◌, ◌++◌, map, sym, ap, ◌∙◌, append_assoc, append-nil}
use Rattle.sqlite.specs.Effect.{Database}
use Rattle.entity_core.specs.declared.entity.Entity.{Entity}
use Rattle.entity_core.specs.Airspace.{Airspace}
use Rattle.space_core.specs.declared.met.Met.{Met}
use Rattle.space_core.specs.Met.{met_of}
use Rattle.space_sql_schema.specs.Spelling.{Spells}
use Rattle.space_sql_search.specs.Met.{AreWithAvailabilities, IsWithAvailability}

-- Holds if `met`, followed by the results for the remaining entities, is the result for all.
abbrev pub MakesAll : List Entity → List Met → List Entity → Database → Type 0
MakesAll all met left db = (a : Airspace) → Spells db a → met ++ map (met_of a) left ≡ map (met_of a) all

pub made_more : (all left rest : List Entity) (e : Entity) (met more : List Met) (x : Met) (db : Database) → left ≡ e ∷ rest → more ≡ met ++ x ∷ [] → MakesAll all met left db → IsWithAvailability e db x → MakesAll all more rest db
made_more all left rest e met more x db is pushed before one = λ a s.
    ap (λ (ys : List Met). ys ++ map (met_of a) rest) (pushed ∙ ap (λ (y : Met). met ++ y ∷ []) (one a s))
    ∙ (append_assoc met (met_of a e ∷ []) (map (met_of a) rest) ∙ (ap (λ (es : List Entity). met ++ map (met_of a) es) (sym is) ∙ before a s))

pub made_all : (all left : List Entity) (met : List Met) (db : Database) → left ≡ [] → MakesAll all met left db → AreWithAvailabilities all db met
made_all all left met db none before = λ a s. sym (append-nil met) ∙ (ap (λ (es : List Entity). met ++ map (met_of a) es) (sym none) ∙ before a s)
