use Rattle.std.proofs.Common.{◌≡◌, ℕ, List, [], ◌++◌, length, ap, subst, ◌∙◌, arith}
use Rattle.std.specs.Prelude.{unwrap_or, OnOk}
use Rattle.std.specs.Int.{w64, w128, to_be_bytes}
use Rattle.queue_name.specs.declared.message.Message.{Message}
use Rattle.spool_format.specs.Fields.{text_field}
use Rattle.spool_format.proofs.LengthLemmas.{short}
use Rattle.spool_format.proofs.PartLemmas.{put_together, appended}
use Rattle.spool_format.proofs.held.put_message.Goals as goal

pub put_text-requires : goal.put_text-requires
put_text-requires c =
    let is = c.as_str.ensures ∙ ap (λ (m : Message). m.sender) c.message.view_is in
    record { short = omega (arith, ap length is, (short c.args.message.now c.requires.proper).sender) }

pub put_text-requires-2 : goal.put_text-requires-2
put_text-requires-2 c =
    let is = c.as_str-2.ensures ∙ ap (λ (m : Message). m.recipient) c.message.view_is in
    record { short = omega (arith, ap length is, (short c.args.message.now c.requires.proper).recipient) }

pub put_text-requires-3 : goal.put_text-requires-3
put_text-requires-3 c =
    let is = c.or_empty.ensures ∙ ap (λ (m : Message). unwrap_or m.name.campaign []) c.message.view_is in
    record { short = omega (arith, ap length is, (short c.args.message.now c.requires.proper).campaign) }

pub put_text-requires-4 : goal.put_text-requires-4
put_text-requires-4 c =
    let is = c.or_empty-2.ensures ∙ ap (λ (m : Message). unwrap_or m.name.tenant []) c.message.view_is in
    record { short = omega (arith, ap length is, (short c.args.message.now c.requires.proper).tenant) }

pub returns : goal.returns
returns c =
    let m = c.args.message.now in
    let v = c.message.view_is in
    let whole = put_together m c.args.out.now.items _ _ _ _ _ _ _
    (c.to_be_bytes.ensures ∙ ap (λ (m : Message). to_be_bytes w128 m.id) v)
    (c.to_be_bytes-2.ensures ∙ ap (λ (m : Message). to_be_bytes w64 m.created) v)
    (ap text_field (c.as_str.ensures ∙ ap (λ (m : Message). m.sender) v))
    (ap text_field (c.as_str-2.ensures ∙ ap (λ (m : Message). m.recipient) v))
    (ap text_field (c.or_empty.ensures ∙ ap (λ (m : Message). unwrap_or m.name.campaign []) v))
    (ap text_field (c.or_empty-2.ensures ∙ ap (λ (m : Message). unwrap_or m.name.tenant []) v))
    (ap text_field (c.as_str-3.ensures ∙ ap (λ (m : Message). m.body) v)) in
    let s1 = c.in_ok-extend_from_slice.ensures.items in
    let s2 = appended _ _ _ _ c.in_ok-extend_from_slice-2.ensures.items s1 in
    let s3 = appended _ _ _ _ c.in_ok-put_text.ensures s2 in
    let s4 = appended _ _ _ _ c.in_ok-put_text-2.ensures s3 in
    let s5 = appended _ _ _ _ c.in_ok-put_text-3.ensures s4 in
    let s6 = appended _ _ _ _ c.in_ok-put_text-4.ensures s5 in
    subst (λ (xs : List ℕ). OnOk c.put_text-5.result (c.put_text-5.new.out.items ≡ xs))
    (ap (λ (xs : List ℕ). xs ++ text_field c.as_str-3.result.now) s6 ∙ whole) c.put_text-5.ensures
