use Rattle.std.proofs.Common.{◌≡◌, ◌∙◌, sym, ap, subst, length, List, ℕ, arith}
use Rattle.std.specs.Prelude.{IsUtf8}
use Rattle.entity_core.specs.IdTexts.{name_fault}
use Rattle.pool_entry.proofs.Sizes.{one_call_fits_lem}
use Rattle.pool_instance.proofs.request.Request.written.Goals as goal

pub returns-clause-fits : goal.returns-clause-fits
returns-clause-fits c =
    let r = c.args.self.now in
    let uss : c.in_ok-clone.field-0 ≡ c.args.caller.now.uss = c.in_ok-clone.ensures in
    let path : c.in_ok-clone-2.field-0 ≡ r.path = c.in_ok-clone-2.ensures in
    let method : c.in_ok-copy.field-0 ≡ r.method = c.in_ok-copy.ensures ∙ c.as_slice.ensures in
    let body : c.in_ok-copy-2.field-0 ≡ r.body = c.in_ok-copy-2.ensures ∙ c.as_slice-2.ensures in
    let method_len = ap (λ (v : List ℕ). length v) method in
    let path_len = ap (λ (v : List ℕ). length v) path in
    let body_len = ap (λ (v : List ℕ). length v) body in
    one_call_fits_lem _
    (record {
      moment = c.ranges.now.fits;
      uss = ap (λ (v : List ℕ). name_fault v) uss ∙ c.text-name.ensures.reads;
      method = omega (arith, method_len, r.head);
      path = subst (λ (v : List ℕ). IsUtf8 v) (c.text-path.ensures ∙ sym path) c.text-path.utf8;
      path_len = omega (arith, path_len, r.head);
      body = omega (arith, body_len, r.size);
    })
    (omega (arith, method_len, path_len, r.head))
    (omega (arith, body_len, r.size))
