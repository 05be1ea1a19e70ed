-- The operation that path parameters and a body give.
use Rattle.std.specs.Prelude.{◌≡◌, ℕ, List, [], length, codes, ◌&&◌, nat_le, Bool, if◌then◌else◌, Option, Some, None, is_none, option_map, option_and_then, unwrap_or, IsUtf8}
use Rattle.std.specs.Str.{bytes_eq}
use Rattle.serde_json.specs.Data.{Data}
use Rattle.serde_json.specs.Read.{read}
use Rattle.serde_json.specs.Find.{as_str}
use Rattle.grid_core.specs.Extent.{Region}
use Rattle.entity_core.specs.EntityId.{spelled}
use Rattle.entity_core.specs.IdTexts.{name_fault, ovn_fault}
use Rattle.entity_core.specs.declared.availability.Availability.{Availability}
use Rattle.entity_core.specs.declared.nature.Kind.{Kind}
use Rattle.policy_core.specs.declared.call.OpKind.{OpKind}
use Rattle.policy_core.specs.declared.call.OpKind.TheVariants as kinds
use Rattle.policy_core.specs.declared.call.Operation.{Operation}
use Rattle.policy_core.specs.declared.call.Operation.TheVariants.{Query, Read, Create, Update, Delete, ReadAvail, SetAvail, QuerySub, ReadSub, CreateSub, UpdateSub, DeleteSub}
use Rattle.wire_body.specs.declared.body.PathWords.{PathWords}
use Rattle.wire_body.specs.Availability.{availability_named}
use Rattle.wire_body.specs.Member.{◌>>=◌, without_fault, required, optional}
use Rattle.wire_body.specs.Naming.{unless_zero}
use Rattle.wire_body.specs.Put.{put_of}
use Rattle.wire_body.specs.SubPut.{sub_put_of}
use Rattle.wire_body.specs.Volume.{area_in}

-- ---- path parameters

-- The parameters of a path.
pub record Words : Type 0 where
  pub first : List ℕ
  pub second : Option (List ℕ)

abbrev pub words_of : PathWords → Words
words_of w = record { first = w.first.now; second = option_map (λ s. s.now) w.second }

-- The only parameter of a path, if there is no second one.
abbrev pub unless_second : List ℕ → Option (List ℕ) → Option (List ℕ)
unless_second first None = Some first
unless_second first (Some second) = None

abbrev pub only_parameter : Words → Option (List ℕ)
only_parameter words = unless_second words.first words.second

abbrev pub is_query : Words → Bool
is_query words = is_none words.second && bytes_eq words.first (codes "query")

-- The id that the only path parameter represents.
unfoldable pub id_named : Words → Option ℕ
id_named words = option_and_then spelled (only_parameter words)

-- The OVN in the second path parameter.
unfoldable pub ovn_named : Words → Option (List ℕ)
ovn_named words = option_and_then (λ s. without_fault (ovn_fault s) s) words.second

unfoldable pub uss_parameter : Words → Option (List ℕ)
uss_parameter words = option_and_then (λ s. without_fault (name_fault s) s) (only_parameter words)

-- ---- availabilities

abbrev pub availability_in : Data → Option Availability
availability_in d = option_and_then availability_named (as_str d)

unfoldable pub availability_of : Data → Option Availability
availability_of d = required availability_in (codes "availability") d

-- The text if it has at most 128 bytes. A missing text is empty.
abbrev pub short_text : List ℕ → Option (List ℕ)
short_text s = if nat_le (length s) 128 then Some s else None

abbrev pub short_text_in : Data → Option (List ℕ)
short_text_in d = option_and_then short_text (as_str d)

unfoldable pub old_version_of : Data → Option (List ℕ)
old_version_of d = option_map (λ version. unwrap_or version []) (optional short_text_in (codes "old_version") d)

-- ---- operations

-- The area of a query.
unfoldable pub query_area : Words → Data → Option Region
query_area words d =
    if is_query words then required area_in (codes "area_of_interest") d else None

unfoldable pub query_of : Kind → Words → Data → Option Operation
query_of kind words d = option_map (Query kind) (query_area words d)

unfoldable pub read_of : Kind → Words → Option Operation
read_of kind words = option_map (Read kind) (id_named words)

unfoldable pub create_of : Kind → Words → Data → Option Operation
create_of kind words d = do
  id ← id_named words
  put ← put_of kind d
  Some (Create id put)

unfoldable pub update_of : Kind → Words → Data → Option Operation
update_of kind words d = do
  id ← spelled words.first
  ovn ← ovn_named words
  put ← put_of kind d
  Some (Update id ovn put)

unfoldable pub delete_of : Kind → Words → Option Operation
delete_of kind words = do
  id ← spelled words.first
  ovn ← ovn_named words
  Some (Delete kind id ovn)

unfoldable pub availability_read_of : Words → Option Operation
availability_read_of words = option_map ReadAvail (uss_parameter words)

unfoldable pub setting_of : Words → Data → Option Operation
setting_of words d = do
  uss ← uss_parameter words
  availability ← availability_of d
  version ← old_version_of d
  Some (SetAvail uss version availability)

-- ---- operations on subscriptions

unfoldable pub sub_query_of : Words → Data → Option Operation
sub_query_of words d = option_map QuerySub (query_area words d)

unfoldable pub sub_read_of : Words → Option Operation
sub_read_of words = option_map ReadSub (id_named words)

-- No subscription has the zero id.
unfoldable pub sub_create_of : Words → Data → Option Operation
sub_create_of words d = do
  id ← option_and_then unless_zero (id_named words)
  put ← sub_put_of d
  Some (CreateSub id put)

unfoldable pub sub_update_of : Words → Data → Option Operation
sub_update_of words d = do
  id ← option_and_then unless_zero (spelled words.first)
  ovn ← ovn_named words
  put ← sub_put_of d
  Some (UpdateSub id ovn put)

unfoldable pub sub_delete_of : Words → Option Operation
sub_delete_of words = do
  id ← spelled words.first
  ovn ← ovn_named words
  Some (DeleteSub id ovn)

-- ---- bodies

-- Holds if the bytes are UTF-8, and JSON with this value.
abbrev pub IsJson : List ℕ → Data → Type 0
IsJson bytes d = IsUtf8 bytes × (read bytes ≡ Some d)

-- Holds if the bytes are JSON whose value is read as the operation.
abbrev pub Says : (Data → Option Operation) → List ℕ → Operation → Type 0
Says form bytes op = (d : Data) × IsJson bytes d × (form d ≡ Some op)

-- Holds if path parameters and a body give this operation of the kind. They give at most one. The
-- body of a read or a deletion is ignored.
abbrev pub IsBody : OpKind → Words → List ℕ → Operation → Type 0
IsBody (kinds.Query kind) words bytes op = Says (query_of kind words) bytes op
IsBody (kinds.Read kind) words bytes op = read_of kind words ≡ Some op
IsBody (kinds.Create kind) words bytes op = Says (create_of kind words) bytes op
IsBody (kinds.Update kind) words bytes op = Says (update_of kind words) bytes op
IsBody (kinds.Delete kind) words bytes op = delete_of kind words ≡ Some op
IsBody kinds.ReadAvail words bytes op = availability_read_of words ≡ Some op
IsBody kinds.SetAvail words bytes op = Says (setting_of words) bytes op
IsBody kinds.QuerySub words bytes op = Says (sub_query_of words) bytes op
IsBody kinds.ReadSub words bytes op = sub_read_of words ≡ Some op
IsBody kinds.CreateSub words bytes op = Says (sub_create_of words) bytes op
IsBody kinds.UpdateSub words bytes op = Says (sub_update_of words) bytes op
IsBody kinds.DeleteSub words bytes op = sub_delete_of words ≡ Some op
