-- Lemmas: calls that are read are those that are written, and the way back.
use Rattle.std.proofs.Common.{◌≡◌, ℕ, zero, suc, ◌+◌, ◌^◌, ◌<◌, ◌≤◌, Bool, true, false, cond, ltb, List, [], ◌∷◌, ◌++◌, length, take, drop, Result, Ok, Err, refl, sym, ap, subst, ◌∙◌, arith}
use Rattle.std.specs.Prelude.{decimal, IfOk, IsUtf8}
use Rattle.std.specs.Global.{Vec}
use Rattle.std.specs.List.{flat_map, AllByRecursion}
use Rattle.std.specs.Str.{bytes_eq}
use Rattle.std.proofs.lemmas.Bool.{ltb-false, le-ltb, cond-true, cond-false}
use Rattle.std.proofs.lemmas.Fmt.{decimal_nonempty}
use Rattle.std.proofs.lemmas.List.{append_assoc, take_at, drop_at, length-append, take-append-drop}
use Rattle.std.proofs.lemmas.Slice.Eq.{bytes_eq-Decides}
use Rattle.policy_core.specs.Scope.{Scopes}
use Rattle.pool_entry.specs.declared.batch_fault.Field.TheVariants as fields
use Rattle.pool_entry.specs.declared.batch_fault.BatchFault.{BatchFault}
use Rattle.pool_entry.specs.declared.batch_fault.BatchFault.TheVariants.{TooLong, Header, TooMany, Call}
use Rattle.pool_entry.specs.declared.batch_fault.ReadError.{ReadError}
use Rattle.pool_entry.specs.declared.pool_call.PoolCall.{PoolCall}
use Rattle.pool_entry.specs.declared.limits.TheConstants.{MAX_CALLS, MAX_BYTES}
use Rattle.pool_entry.specs.Spelling.{number_text, counted_text, scopes_text, call_text, header, batch_text, IsCall, SpellsBatch}
use Rattle.pool_entry.specs.Reading.{◌>>=◌, Gives, number_at, counted_at, scopes_at, uss_in, path_in, call_at, calls_at, batch_in}
use Rattle.pool_entry.proofs.Numbers.{bind_ok, ok_is, number_takes, number_again}
use Rattle.pool_entry.proofs.Fields.{counted_takes, counted_again, scopes_take, scopes_again, name_facts, uss_takes, uss_again, path_takes, path_again}

-- ---- one call

-- bytes that begin with a text, after which come those that begin with another one
joined : (a x b y c : List ℕ) → a ≡ x ++ b → b ≡ y ++ c → a ≡ (x ++ y) ++ c
joined a x b y c p q = p ∙ ap (λ (t : List ℕ). x ++ t) q ∙ sym (append_assoc x y c)

abbrev made : ℕ → List ℕ → Scopes → List ℕ → List ℕ → List ℕ × List ℕ → PoolCall × List ℕ
made moment uss scopes method path body = (record { moment = moment; caller = record { uss = uss; scopes = scopes }; method = method; path = path; body = body.0 }, body.1)

module _ (index : ℕ) where
  abbrev with_body : ℕ → List ℕ → Scopes → List ℕ → List ℕ → List ℕ → Result (PoolCall × List ℕ) BatchFault
  with_body moment uss scopes method path rest = counted_at (Call index fields.Body) 10 rest >>= λ body. Ok (made moment uss scopes method path body)

  abbrev with_path : ℕ → List ℕ → Scopes → List ℕ → List ℕ → Result (PoolCall × List ℕ) BatchFault
  with_path moment uss scopes method rest = counted_at (Call index fields.Path) 32 rest >>= λ target. path_in (Call index fields.Path) target.0 >>= λ path. with_body moment uss scopes method path target.1

  abbrev with_method : ℕ → List ℕ → Scopes → List ℕ → Result (PoolCall × List ℕ) BatchFault
  with_method moment uss scopes rest = counted_at (Call index fields.Method) 32 rest >>= λ method. with_path moment uss scopes method.0 method.1

  abbrev with_scopes : ℕ → List ℕ → List ℕ → Result (PoolCall × List ℕ) BatchFault
  with_scopes moment uss rest = scopes_at (Call index fields.Scopes) rest >>= λ scopes. with_method moment uss scopes.0 scopes.1

  abbrev with_uss : ℕ → List ℕ → Result (PoolCall × List ℕ) BatchFault
  with_uss moment rest = counted_at (Call index fields.Uss) 32 rest >>= λ name. uss_in (Call index fields.Uss) name.0 >>= λ uss. with_scopes moment uss name.1

-- what was read of the fields after the first ones
pub record TakesBody (rest : List ℕ) (moment : ℕ) (uss : List ℕ) (scopes : Scopes) (method path : List ℕ) (x : PoolCall × List ℕ) : Type 0 where
  pub is : x ≡ made moment uss scopes method path (x.0.body, x.1)
  pub parts : rest ≡ counted_text 10 x.0.body ++ x.1
  pub fits : length x.0.body < 2 ^ 64

with_body_takes : (index : ℕ) (moment : ℕ) (uss : List ℕ) (scopes : Scopes) (method path rest : List ℕ) (x : PoolCall × List ℕ) → with_body index moment uss scopes method path rest ≡ Ok x → TakesBody rest moment uss scopes method path x
with_body_takes index moment uss scopes method path rest x e =
    let b = bind_ok (counted_at (Call index fields.Body) 10 rest) (λ body. Ok (made moment uss scopes method path body)) x e in
    let t = counted_takes (Call index fields.Body) 10 rest b.0 b.1 in
    subst (λ y. TakesBody rest moment uss scopes method path y) (ok_is (made moment uss scopes method path b.0) x b.2)
    (record { is = refl; parts = t.0; fits = t.1 })

pub record TakesPath (rest : List ℕ) (moment : ℕ) (uss : List ℕ) (scopes : Scopes) (method : List ℕ) (x : PoolCall × List ℕ) : Type 0 where
  pub is : x ≡ made moment uss scopes method x.0.path (x.0.body, x.1)
  pub parts : rest ≡ (counted_text 32 x.0.path ++ counted_text 10 x.0.body) ++ x.1
  pub utf8 : IsUtf8 x.0.path
  pub path_fits : length x.0.path < 2 ^ 64
  pub body_fits : length x.0.body < 2 ^ 64

with_path_takes : (index : ℕ) (moment : ℕ) (uss : List ℕ) (scopes : Scopes) (method rest : List ℕ) (x : PoolCall × List ℕ) → with_path index moment uss scopes method rest ≡ Ok x → TakesPath rest moment uss scopes method x
with_path_takes index moment uss scopes method rest x e =
    let fault = Call index fields.Path in
    let b = bind_ok (counted_at fault 32 rest) (λ target. path_in fault target.0 >>= λ path. with_body index moment uss scopes method path target.1) x e in
    let p = bind_ok (path_in fault b.0.0) (λ path. with_body index moment uss scopes method path b.0.1) x b.2 in
    let t = counted_takes fault 32 rest b.0 b.1 in
    let q = path_takes fault b.0.0 p.0 p.1 in
    let body = with_body_takes index moment uss scopes method p.0 b.0.1 x p.2 in
    let path-is : p.0 ≡ x.0.path = sym (ap (λ (y : PoolCall × List ℕ). y.0.path) body.is) in
    let same : b.0.0 ≡ x.0.path = q.0 ∙ path-is in
    let first : rest ≡ counted_text 32 x.0.path ++ b.0.1 = t.0 ∙ ap (λ (v : List ℕ). counted_text 32 v ++ b.0.1) same in
    record {
      is = body.is ∙ ap (λ (v : List ℕ). made moment uss scopes method v (x.0.body, x.1)) path-is;
      parts = joined rest (counted_text 32 x.0.path) b.0.1 (counted_text 10 x.0.body) x.1 first body.parts;
      utf8 = subst IsUtf8 path-is q.1;
      path_fits = subst (λ (v : List ℕ). length v < 2 ^ 64) same t.1;
      body_fits = body.fits;
    }

call_takes : (index : ℕ) (bytes : List ℕ) (x : PoolCall × List ℕ) → call_at index bytes ≡ Ok x → (bytes ≡ call_text x.0 ++ x.1) × IsCall x.0
unfolding call_at
call_takes index bytes x e =
    let b1 = bind_ok (number_at (Call index fields.Moment) 32 bytes) (λ moment. with_uss index moment.0 moment.1) x e in
    let m = b1.0 in
    let b2 = bind_ok (counted_at (Call index fields.Uss) 32 m.1) (λ name. uss_in (Call index fields.Uss) name.0 >>= λ uss. with_scopes index m.0 uss name.1) x b1.2 in
    let b3 = bind_ok (uss_in (Call index fields.Uss) b2.0.0) (λ uss. with_scopes index m.0 uss b2.0.1) x b2.2 in
    let b4 = bind_ok (scopes_at (Call index fields.Scopes) b2.0.1) (λ scopes. with_method index m.0 b3.0 scopes.0 scopes.1) x b3.2 in
    let b5 = bind_ok (counted_at (Call index fields.Method) 32 b4.0.1) (λ method. with_path index m.0 b3.0 b4.0.0 method.0 method.1) x b4.2 in
    let t1 = number_takes (Call index fields.Moment) 32 bytes m b1.1 in
    let t2 = counted_takes (Call index fields.Uss) 32 m.1 b2.0 b2.1 in
    let u = uss_takes (Call index fields.Uss) b2.0.0 b3.0 b3.1 in
    let t3 = scopes_take (Call index fields.Scopes) b2.0.1 b4.0 b4.1 in
    let t4 = counted_takes (Call index fields.Method) 32 b4.0.1 b5.0 b5.1 in
    let p = with_path_takes index m.0 b3.0 b4.0.0 b5.0.0 b5.0.1 x b5.2 in
    let t2-uss : m.1 ≡ counted_text 32 b3.0 ++ b2.0.1 = t2.0 ∙ ap (λ (v : List ℕ). counted_text 32 v ++ b2.0.1) u.0 in
    let tail = counted_text 32 x.0.path ++ counted_text 10 x.0.body in
    let j4 = joined b4.0.1 (counted_text 32 b5.0.0) b5.0.1 tail x.1 t4.0 p.parts in
    let j3 = joined b2.0.1 (scopes_text b4.0.0) b4.0.1 (counted_text 32 b5.0.0 ++ tail) x.1 t3 j4 in
    let j2 = joined m.1 (counted_text 32 b3.0) b2.0.1 (scopes_text b4.0.0 ++ (counted_text 32 b5.0.0 ++ tail)) x.1 t2-uss j3 in
    let j1 = joined bytes (number_text 32 m.0) m.1 (counted_text 32 b3.0 ++ (scopes_text b4.0.0 ++ (counted_text 32 b5.0.0 ++ tail))) x.1 t1.0 j2 in
    let made-is : PoolCall × List ℕ = made m.0 b3.0 b4.0.0 b5.0.0 x.0.path (x.0.body, x.1) in
    let facts : (bytes ≡ call_text made-is.0 ++ made-is.1) × IsCall made-is.0 =
    (j1, record { moment = t1.1; uss = u.1; method = t4.1; path = p.utf8; path_len = p.path_fits; body = p.body_fits }) in
    let P : PoolCall × List ℕ → Type 0 = λ y. (bytes ≡ call_text y.0 ++ y.1) × IsCall y.0 in
    subst P (sym p.is) facts

six : (a b c d e f r : List ℕ) → (a ++ (b ++ (c ++ (d ++ (e ++ f))))) ++ r ≡ a ++ (b ++ (c ++ (d ++ (e ++ (f ++ r)))))
six a b c d e f r = simp append_assoc

call_again : (index : ℕ) (c : PoolCall) (rest : List ℕ) → IsCall c → call_at index (call_text c ++ rest) ≡ Ok (c, rest)
unfolding call_at
call_again index c rest fits =
    let body = counted_text 10 c.body ++ rest in
    let path = counted_text 32 c.path ++ body in
    let method = counted_text 32 c.method ++ path in
    let scopes = scopes_text c.caller.scopes ++ method in
    let uss = counted_text 32 c.caller.uss ++ scopes in
    let regrouped : call_text c ++ rest ≡ number_text 32 c.moment ++ uss =
    six (number_text 32 c.moment) (counted_text 32 c.caller.uss) (scopes_text c.caller.scopes) (counted_text 32 c.method) (counted_text 32 c.path) (counted_text 10 c.body) rest in
    let r1 = number_again (Call index fields.Moment) 32 c.moment uss (λ r. absurd (omega arith)) fits.moment in
    let r2 = counted_again (Call index fields.Uss) 32 c.caller.uss scopes (name_facts c.caller.uss fits.uss).0 in
    let r3 = uss_again (Call index fields.Uss) c.caller.uss fits.uss in
    let r4 = scopes_again (Call index fields.Scopes) c.caller.scopes method in
    let r5 = counted_again (Call index fields.Method) 32 c.method path fits.method in
    let r6 = counted_again (Call index fields.Path) 32 c.path body fits.path_len in
    let r7 = path_again (Call index fields.Path) c.path fits.path in
    let r8 = counted_again (Call index fields.Body) 10 c.body rest fits.body in
    let s8 : with_body index c.moment c.caller.uss c.caller.scopes c.method c.path body ≡ Ok (c, rest) = ap (λ (r : Result (List ℕ × List ℕ) BatchFault). r >>= λ b. Ok (made c.moment c.caller.uss c.caller.scopes c.method c.path b)) r8 in
    let s7 : (path_in (Call index fields.Path) c.path >>= λ p. with_body index c.moment c.caller.uss c.caller.scopes c.method p body) ≡ Ok (c, rest) = ap (λ (r : Result (List ℕ) BatchFault). r >>= λ p. with_body index c.moment c.caller.uss c.caller.scopes c.method p body) r7 ∙ s8 in
    let s6 : with_path index c.moment c.caller.uss c.caller.scopes c.method path ≡ Ok (c, rest) = ap (λ (r : Result (List ℕ × List ℕ) BatchFault). r >>= λ t. path_in (Call index fields.Path) t.0 >>= λ p. with_body index c.moment c.caller.uss c.caller.scopes c.method p t.1) r6 ∙ s7 in
    let s5 : with_method index c.moment c.caller.uss c.caller.scopes method ≡ Ok (c, rest) = ap (λ (r : Result (List ℕ × List ℕ) BatchFault). r >>= λ t. with_path index c.moment c.caller.uss c.caller.scopes t.0 t.1) r5 ∙ s6 in
    let s4 : with_scopes index c.moment c.caller.uss scopes ≡ Ok (c, rest) = ap (λ (r : Result (Scopes × List ℕ) BatchFault). r >>= λ t. with_method index c.moment c.caller.uss t.0 t.1) r4 ∙ s5 in
    let s3 : (uss_in (Call index fields.Uss) c.caller.uss >>= λ u. with_scopes index c.moment u scopes) ≡ Ok (c, rest) = ap (λ (r : Result (List ℕ) BatchFault). r >>= λ u. with_scopes index c.moment u scopes) r3 ∙ s4 in
    let s2 : with_uss index c.moment uss ≡ Ok (c, rest) = ap (λ (r : Result (List ℕ × List ℕ) BatchFault). r >>= λ t. uss_in (Call index fields.Uss) t.0 >>= λ u. with_scopes index c.moment u t.1) r2 ∙ s3 in
    let s1 : call_at index (number_text 32 c.moment ++ uss) ≡ Ok (c, rest) = ap (λ (r : Result (ℕ × List ℕ) BatchFault). r >>= λ t. with_uss index t.0 t.1) r1 ∙ s2 in
    ap (call_at index) regrouped ∙ s1

-- ---- the calls up to the end

pub step : (left index : ℕ) (bytes : List ℕ) → 0 < length bytes → calls_at (suc left) index bytes ≡ (call_at index bytes >>= λ first. calls_at left (index + 1) first.1 >>= λ others. Ok (first.0 ∷ others))
unfolding calls_at
step left index [] lt = absurd (omega arith)
step left index (b ∷ bytes) lt = refl

pub at_end : (left index : ℕ) → calls_at left index [] ≡ Ok []
unfolding calls_at
at_end zero index = refl
at_end (suc left) index = refl

pub too_many : (index : ℕ) (bytes : List ℕ) → 0 < length bytes → calls_at 0 index bytes ≡ Err TooMany
unfolding calls_at
too_many index [] lt = absurd (omega arith)
too_many index (b ∷ bytes) lt = refl

-- what was read of the calls
abbrev AreTaken : ℕ → List ℕ → List PoolCall → Type 0
AreTaken left bytes calls = (bytes ≡ flat_map call_text calls) × (length calls ≤ left) × AllByRecursion IsCall calls

calls_take : (left index : ℕ) (bytes : List ℕ) (calls : List PoolCall) → calls_at left index bytes ≡ Ok calls → AreTaken left bytes calls
unfolding calls_at
calls_take zero index [] calls e = subst (AreTaken 0 []) (ok_is [] calls e) (refl, omega arith, tt)
calls_take zero index (b ∷ bytes) calls e = absurd cc
calls_take (suc left) index [] calls e = subst (AreTaken (suc left) []) (ok_is [] calls e) (refl, omega arith, tt)
calls_take (suc left) index (b ∷ bytes) calls e =
    let whole = b ∷ bytes in
    let a = bind_ok (call_at index whole) (λ first. calls_at left (index + 1) first.1 >>= λ others. Ok (first.0 ∷ others)) calls e in
    let o = bind_ok (calls_at left (index + 1) a.0.1) (λ others. Ok (a.0.0 ∷ others)) calls a.2 in
    let first = call_takes index whole a.0 a.1 in
    let others = calls_take left (index + 1) a.0.1 o.0 o.1 in
    let both : whole ≡ flat_map call_text (a.0.0 ∷ o.0) = first.0 ∙ ap (λ (t : List ℕ). call_text a.0.0 ++ t) others.0 in
    subst (AreTaken (suc left) whole) (ok_is (a.0.0 ∷ o.0) calls o.2) (both, omega (arith, others.1), (first.1, others.2))

call_nonempty : (c : PoolCall) (rest : List ℕ) → IsCall c → 0 < length (call_text c ++ rest)
call_nonempty c rest fits =
    let tail = counted_text 32 c.caller.uss ++ (scopes_text c.caller.scopes ++ (counted_text 32 c.method ++ (counted_text 32 c.path ++ counted_text 10 c.body))) in
    omega (arith, length-append (call_text c) rest, length-append (number_text 32 c.moment) tail, length-append (decimal c.moment) (32 ∷ []), decimal_nonempty c.moment fits.moment)

calls_again : (left index : ℕ) (calls : List PoolCall) → length calls ≤ left → AllByRecursion IsCall calls → calls_at left index (flat_map call_text calls) ≡ Ok calls
calls_again left index [] le fits = at_end left index
calls_again zero index (c ∷ calls) le fits = absurd (omega arith)
calls_again (suc left) index (c ∷ calls) le fits =
    let rest = flat_map call_text calls in
    let one = step left index (call_text c ++ rest) (call_nonempty c rest fits.0) in
    let next : ℕ → PoolCall × List ℕ → Result (List PoolCall) BatchFault = λ i first. calls_at left (i + 1) first.1 >>= λ others. Ok (first.0 ∷ others) in
    one ∙ ap (λ (r : Result (PoolCall × List ℕ) BatchFault). r >>= next index) (call_again index c rest fits.0)
    ∙ ap (λ (r : Result (List PoolCall) BatchFault). r >>= λ others. Ok (c ∷ others)) (calls_again left (index + 1) calls (omega arith) fits.1)

-- ---- the bytes of an entry

then_ok : (b : Bool) (d : BatchFault) (r : Result (List PoolCall) BatchFault) (calls : List PoolCall) → cond b r (Err d) ≡ Ok calls → (b ≡ true) × (r ≡ Ok calls)
then_ok true d r calls e = (refl, e)
then_ok false d r calls e = absurd cc

else_ok : (b : Bool) (d : BatchFault) (r : Result (List PoolCall) BatchFault) (calls : List PoolCall) → cond b (Err d) r ≡ Ok calls → (b ≡ false) × (r ≡ Ok calls)
else_ok true d r calls e = absurd cc
else_ok false d r calls e = (refl, e)

pub batch_takes : (bytes : List ℕ) (calls : List PoolCall) → batch_in bytes ≡ Ok calls → SpellsBatch bytes calls
unfolding batch_in
batch_takes bytes calls e =
    let n = length header in
    let long = else_ok (ltb MAX_BYTES (length bytes)) TooLong _ calls e in
    let head = then_ok (bytes_eq (take n bytes) header) Header (calls_at MAX_CALLS 0 (drop n bytes)) calls long.1 in
    let small : length bytes ≤ MAX_BYTES = ltb-false _ _ long.0 in
    let front : take n bytes ≡ header = (bytes_eq-Decides (take n bytes) header).0 head.0 in
    let t = calls_take MAX_CALLS 0 (drop n bytes) calls head.1 in
    let is : bytes ≡ batch_text calls = sym (take-append-drop n bytes) ∙ ap (λ (v : List ℕ). v ++ drop n bytes) front ∙ ap (λ (v : List ℕ). header ++ v) t.0 in
    record { bytes_are = is; batch = record { count = t.1; size = subst (λ (v : List ℕ). length v ≤ MAX_BYTES) is small; fits = t.2 } }

pub batch_again : (bytes : List ℕ) (calls : List PoolCall) → SpellsBatch bytes calls → batch_in bytes ≡ Ok calls
unfolding batch_in
batch_again bytes calls s =
    let n = length header in
    let rest = flat_map call_text calls in
    let small : ltb MAX_BYTES (length (batch_text calls)) ≡ false = le-ltb _ _ s.batch.size in
    let front : take n (batch_text calls) ≡ header = take_at header rest n refl in
    let back : drop n (batch_text calls) ≡ rest = drop_at header rest n refl in
    let head : bytes_eq (take n (batch_text calls)) header ≡ true = (bytes_eq-Decides _ _).1 front in
    let read : calls_at MAX_CALLS 0 (drop n (batch_text calls)) ≡ Ok calls = ap (calls_at MAX_CALLS 0) back ∙ calls_again MAX_CALLS 0 calls s.batch.count s.batch.fits in
    ap batch_in s.bytes_are ∙ cond-false _ (Err TooLong) _ small ∙ cond-true _ _ (Err Header) head ∙ read

pub is_found : (bytes : List ℕ) (r : Result (Vec PoolCall) ReadError) → Gives (λ v. v.items) r (batch_in bytes) → IfOk r (λ v. SpellsBatch bytes v.items)
is_found bytes (Ok v) given = batch_takes bytes v.items given
is_found bytes (Err e) given = tt
