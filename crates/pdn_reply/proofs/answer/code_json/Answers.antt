use Rattle.std.proofs.Common.{sym, subst}
use Rattle.std.specs.Str.{IsUtf8}
use Rattle.pdn_reply.proofs.CodeTexts.{code_is_text, reads_text}
use Rattle.pdn_reply.proofs.answer.code_json.Goals as goal

pub unwrap-text-requires : goal.unwrap-text-requires
unwrap-text-requires c =
    let text = subst IsUtf8 (sym c.deref.ensures.value) (code_is_text c.in_ok-text.text.items c.args.code c.in_ok-text.ensures.reads) in
    reads_text c.from_utf8.result _ (IsUtf8 c.deref.result.now) _ c.from_utf8.ensures.cases text
