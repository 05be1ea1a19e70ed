use Rattle.std.proofs.Common.{◌∙◌, ap, inl, inr}
use Rattle.service_calls.specs.Held.{space_of}
use Rattle.wire_http.specs.Counted.{inner_of}
use Rattle.dss_command.proofs.stream.serve_stream_over.Goals as goal

pub returns-in-Ok-clause-served : goal.returns-in-Ok-clause-served
returns-in-Ok-clause-served g c = record {
  first = c.new-service.result;
  last = c.serve_at.new.service;
  served = c.in-Ok.field-0;
  starts = record {
    space_is = c.new-service.ensures.space;
    salt_is = c.new-service.ensures.salt ∙ c.requires;
    goes = c.new-service.ensures.goes;
  };
  serves = c.in-Ok.ensures.serves;
  ends = c.into_space.ensures;
}

pub returns-in-Err-clause-part : goal.returns-in-Err-clause-part
returns-in-Err-clause-part g c = elim c.in-Err.ensures.part [
  | inl none ↦ inl (none.0, c.into_space-in-Err.ensures ∙ ap space_of none.1 ∙ c.new-service.ensures.space, ap (λ w. g.W.Write.contents (inner_of w)) none.3)
  | inr some ↦ inr (
    c.new-service.result,
    c.serve_at.new.service,
    record {
      space_is = c.new-service.ensures.space;
      salt_is = c.new-service.ensures.salt ∙ c.requires;
      goes = c.new-service.ensures.goes;
    },
    some,
    c.into_space-in-Err.ensures,
  )
]
