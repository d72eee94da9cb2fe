use Rattle.std.proofs.Common.{◌∙◌, ap, get_or, length, subst, sym}
use Rattle.http_requests.specs.Fields.{IsFoundWithin, next, shown}
use Rattle.httparse.specs.Spans.{IsHeaderWithin, span_bytes}
use Rattle.httparse.specs.declared.spans.HeaderSpan.{HeaderSpan}
use Rattle.std.proofs.lemmas.List.Elements.{All-get_or}
use Rattle.http_requests.specs.declared.field.Found.{Found}
use Rattle.http_requests.proofs.Named.{has_none, has_value}
use Rattle.http_requests.proofs.field.value_of.Goals as goal
use Rattle.http_requests.proofs.field.value_of.Goals.{then-has_name, else-has_name}

blank : HeaderSpan
blank = record { name = record { start = 0; end = 0 }; value = record { start = 0; end = 0 } }

pub loop-header-preserved : goal.loop-header-preserved
unfolding blank
loop-header-preserved c =
    let bytes = c.args.bytes.now in
    let header = get_or c.args.headers.now c.loop-header.header-index blank in
    let is_within : IsHeaderWithin (length bytes) header = All-get_or (IsHeaderWithin (length bytes)) c.args.headers.now c.loop-header.header-index blank c.loop-header-test.true c.requires in
    elim c.if-has_name.branch [
      | then-has_name w ↦ (
        ap (shown bytes) w.found-is
            ∙ (w.and-found.ensures.shown bytes
            ∙ (ap (λ s. next s (span_bytes bytes header.value)) c.loop-header.invariant.0
            ∙ has_value bytes c.args.name.now c.args.headers.now c.loop-header.header-index blank c.loop-header-test.true (sym c.has_name.ensures ∙ w.if-has_name.true))),
        subst (λ (f : Found). IsFoundWithin (length bytes) f) (sym w.found-is) (w.and-found.ensures.within (length bytes) c.loop-header.invariant.1 is_within.1),
      )
      | else-has_name w ↦ (
        ap (shown bytes) w.found-is
            ∙ (c.loop-header.invariant.0
            ∙ has_none bytes c.args.name.now c.args.headers.now c.loop-header.header-index blank c.loop-header-test.true (sym c.has_name.ensures ∙ w.if-has_name.false)),
        subst (λ (f : Found). IsFoundWithin (length bytes) f) (sym w.found-is) c.loop-header.invariant.1,
      )
    ]
