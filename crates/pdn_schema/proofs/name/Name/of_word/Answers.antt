use Rattle.std.proofs.Common.{ap, sym, ◌∙◌, ◌++◌, ◌≡◌, ◌<◌, ◌∷◌, [], List, ℕ, get_or}
use Rattle.std.proofs.lemmas.List.{take_more}
use Rattle.std.specs.String.{string_bytes}
use Rattle.pdn_schema.proofs.NameLaws.{name_bytes_of, bytes_step}
use Rattle.pdn_schema.proofs.name.Name.of_word.Goals as goal

pub loop-b-init : goal.loop-b-init
loop-b-init c = record { so_far = c.new-text.ensures.bytes; rest = name_bytes_of c.args.word.now c.requires }

pub loop-b-preserved : goal.loop-b-preserved
loop-b-preserved c =
    let w = c.args.word.now in
    let i = c.loop-b.b-index in
    let s = bytes_step w i 0 c.loop-b-test.true c.loop-b.invariant.rest in
    let is : c.from.result ≡ get_or w i 0 = c.from.ensures in
    let small : c.from.result < 128 = rw is s.0 in
    record {
      so_far = c.in_ok-push.ensures.bytes ∙ ap (λ (t : List ℕ). string_bytes c.loop-b.text ++ t) (c.in_ok-push.ensures.ascii small ∙ ap (λ (n : ℕ). n ∷ []) is)
          ∙ ap (λ (t : List ℕ). t ++ get_or w i 0 ∷ []) c.loop-b.invariant.so_far ∙ sym (take_more w i 0 c.loop-b-test.true);
      rest = s.1;
    }
