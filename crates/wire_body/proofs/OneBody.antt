-- Lemmas: path parameters and a body give at most one operation of a kind.
use Rattle.std.proofs.Common.{◌≡◌, ℕ, List, Option, Some, subst}
use Rattle.serde_json.specs.Data.{Data}
use Rattle.serde_json.specs.Read.{read}
use Rattle.policy_core.specs.declared.call.OpKind.TheVariants as kinds
use Rattle.policy_core.specs.declared.call.Operation.{Operation}
use Rattle.wire_body.specs.Body.{Says, query_of, create_of, update_of, setting_of, sub_query_of, sub_create_of, sub_update_of}
use Rattle.wire_body.specs.Laws.{AsksForOne}

says_one : (form : Data → Option Operation) (bytes : List ℕ) (op other : Operation) → Says form bytes op → Says form bytes other → other ≡ op
says_one form bytes op other (d, json, x) (e, also, y) =
    let one : read bytes ≡ Some d = json.1 in
    let two : read bytes ≡ Some e = also.1 in
    let same : e ≡ d = cc in
    let at : form d ≡ Some other = subst (λ (v : Data). form v ≡ Some other) same y in
    cc

pub asks_for_one_lem : AsksForOne
asks_for_one_lem (kinds.Query kind) words bytes op other x y = says_one (query_of kind words) bytes op other x y
asks_for_one_lem (kinds.Read kind) words bytes op other x y = cc
asks_for_one_lem (kinds.Create kind) words bytes op other x y = says_one (create_of kind words) bytes op other x y
asks_for_one_lem (kinds.Update kind) words bytes op other x y = says_one (update_of kind words) bytes op other x y
asks_for_one_lem (kinds.Delete kind) words bytes op other x y = cc
asks_for_one_lem kinds.ReadAvail words bytes op other x y = cc
asks_for_one_lem kinds.SetAvail words bytes op other x y = says_one (setting_of words) bytes op other x y
asks_for_one_lem kinds.QuerySub words bytes op other x y = says_one (sub_query_of words) bytes op other x y
asks_for_one_lem kinds.ReadSub words bytes op other x y = cc
asks_for_one_lem kinds.CreateSub words bytes op other x y = says_one (sub_create_of words) bytes op other x y
asks_for_one_lem kinds.UpdateSub words bytes op other x y = says_one (sub_update_of words) bytes op other x y
asks_for_one_lem kinds.DeleteSub words bytes op other x y = cc
