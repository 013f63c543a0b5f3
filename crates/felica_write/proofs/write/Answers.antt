-- `felica_write::write` meets its contract, case by case.
-- Assumes nothing.
use Rattle.std.proofs.Common.{◌≡◌, sym, ◌∙◌, false, length, Ok, Err, is_ok, arith, rules}
use Rattle.std.proofs.lemmas.Grind.{common_steps}
use Rattle.felica_format.specs.declared.error.Reason.{Reason}
use Rattle.felica_layout.specs.Layout.{layout_meant}
use Rattle.felica_put.proofs.Laws.{puts_then}
use Rattle.felica_writable.specs.Handed.{handed_by}
use Rattle.felica_write.specs.Head.{Room, room_for}
use Rattle.felica_write.specs.Writing.{refusal}
use Rattle.felica_write.proofs.Outcome.{narrow, may_be_put, no_body, not_stored, all_stored}
use Rattle.felica_write.proofs.write.Goals as goal

pub returns-then-not-body_ok : goal.returns-then-not-body_ok
returns-then-not-body_ok c =
    let row = c.row_of-row in
    rw c.of_command.ensures
    (no_body (handed_by c.args.command) row.result.class (layout_meant row.result.layout) row.ensures c.args.out.now (sym c.body_ok.ensures ∙ c.if-not-body_ok.true))

pub body_size-size-requires : goal.body_size-size-requires
body_size-size-requires c =
    let h = handed_by c.args.command in
    let row = c.row_of-row in
    record {
      ready = may_be_put h _ (layout_meant row.result.layout) row.ensures (sym c.body_ok.ensures ∙ c.if-not-body_ok.false);
      few_fixed = (narrow h _ (layout_meant row.result.layout) row.ensures).ending;
    }

pub returns-in_err-map_err : goal.returns-in_err-map_err
returns-in_err-map_err c =
    let h = handed_by c.args.command in
    let row = c.row_of-row in
    let ok = sym c.body_ok.ensures ∙ c.if-not-body_ok.false in
    let tells : (g : Reason) → c.room_for.result ≡ Err g → c.from_residual.result ≡ refusal g c.args.command.code = λ g e. search rules in
    let fails : is_ok c.room_for.result ≡ false = search rules in
    not_stored h row.result.class (layout_meant row.result.layout) row.ensures ok _ c.body_size-size.ensures c.args.out.now _ (sym c.room_for.ensures) fails tells

pub put_body-requires : goal.put_body-requires
put_body-requires c =
    let h = handed_by c.args.command in
    let row = c.row_of-row in
    record {
      ready = may_be_put h _ (layout_meant row.result.layout) row.ensures (sym c.body_ok.ensures ∙ c.if-not-body_ok.false);
      few_fixed = (narrow h _ (layout_meant row.result.layout) row.ensures).ending;
    }

pub returns : goal.returns
returns c =
    let h = handed_by c.args.command in
    let row = c.row_of-row in
    let ok = sym c.body_ok.ensures ∙ c.if-not-body_ok.false in
    let fits : ◌≡◌ {A = Room} (room_for row.result.class c.body_size-size.result (length c.args.command.package.now) (length c.args.out.now)) (Ok tt) = search rules in
    let both = puts_then c.put_head.ensures c.put_body.ensures in
    all_stored h row.result.class (layout_meant row.result.layout) row.ensures ok _ c.body_size-size.ensures c.args.out.now fits _ _ (grind (arith, common_steps))
