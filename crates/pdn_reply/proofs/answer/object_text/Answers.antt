use Rattle.std.proofs.Common.{◌≡◌, ap, ◌∙◌, codes, false, rules, refl}
use Rattle.std.proofs.lemmas.Result.{IfOk-weaker}
use Rattle.serde_json.specs.Data.{object, number, unsigned, member, no_members}
use Rattle.serde_json.specs.View.{view}
use Rattle.serde_json.specs.Written.{has_float, compact_text}
use Rattle.serde_json.proofs.OnLiterals.{serde_json_on_literals}
use Rattle.pdn_reply.proofs.answer.object_text.Goals as goal

pub returns : goal.returns
unfolding serde_json_on_literals
returns c =
    let v = c.in_ok-json.json in
    let built : view v ≡ object (member (codes "columns") (view c.args.columns.now) (member (codes "rows") (view c.args.rows.now) (member (codes "ticket") (number (unsigned c.args.ticket)) no_members))) = search rules in
    let plain : has_float (view v) ≡ false = rw (built, c.requires.columns, c.requires.rows) refl in
    IfOk-weaker c.to_string.result _ _ (λ s h. h plain ∙ ap compact_text built) c.to_string.ensures.text
